use Rattle.std.proofs.Common.{◌≡◌, true, subst}
use Rattle.std.specs.Prelude.{IfSome, is_some}
use Rattle.pc_inline_builtins.specs.Written.{item_of}
use Rattle.pc_inline_builtins.proofs.CostLemmas.{builtin_adds, found_item, no_item}
use Rattle.pc_inline_builtins.proofs.RowLemmas.{made_row}
use Rattle.pc_inline_builtins.proofs.steps.step_builtin.Goals as goal

pub returns-in-Some-clause-steps : goal.returns-in-Some-clause-steps
returns-in-Some-clause-steps c i is =
    c.step_made.ensures.steps i
    (λ now. made_row _ _ now _ i (found_item _ _ _ i c.in-Some.is c.builtin_of.ensures.says is))

pub returns-in-None-clause-steps : goal.returns-in-None-clause-steps
returns-in-None-clause-steps c i is = absurd (no_item _ _ i c.in-None.is c.builtin_of.ensures.says is)

pub returns-in-Some-clause-adds : goal.returns-in-Some-clause-adds
returns-in-Some-clause-adds c =
    builtin_adds _ _ _ _ c.in-Some.is c.builtin_of.ensures.says
    (subst (λ o. IfSome o (λ b. is_some (item_of b) ≡ true)) c.in-Some.is c.builtin_of.ensures.named) _ _
    c.step_made.ensures.adds
