use Rattle.std.proofs.Common.{refl, ap}
use Rattle.pc_dfg.specs.declared.dfg.ComponentDfg.{ComponentDfg}
use Rattle.pc_dfg.specs.Lists as list
use Rattle.pc_inline_state.proofs.PushedLemmas.{list_refuses, pushed_keeps, trampoline_pushed, trampoline_then}
use Rattle.pc_inline_state.specs.Tables.{tables_of}
use Rattle.pc_inline_state.proofs.state.State.push_trampoline.Goals as goal

pub returns-in_err-number-clause-lacks : goal.returns-in_err-number-clause-lacks
returns-in_err-number-clause-lacks c =
    list_refuses _ _ c.push_trampoline.ensures.grows list.trampolines _ _ c.in_err-number.was
    c.push_trampoline.ensures.full.0 _ c.from_residual.ensures.1

pub returns-clause-keeps : goal.returns-clause-keeps
returns-clause-keeps c =
    pushed_keeps c.args.self.now c.push_trampoline.new.self c.push_trampoline.ensures.grows
    (ap (λ (g : ComponentDfg). g.imported_resources) c.push_trampoline.ensures.rest)
    (ap (λ (g : ComponentDfg). g.resources) c.push_trampoline.ensures.rest) _ c.push_core.ensures.keeps

pub returns-clause-adds : goal.returns-clause-adds
returns-clause-adds c =
    trampoline_then (tables_of c.args.self.now) c.push_trampoline.new.self _ c.push_trampoline.ensures.rest
    c.push_trampoline.ensures.put _ c.push_core.ensures.adds

pub returns-clause-is : goal.returns-clause-is
returns-clause-is c =
    trampoline_pushed _ _ _ _ c.push_core.ensures.key c.push_core.ensures.ok _ _ refl c.in_ok-number.ensures.held
