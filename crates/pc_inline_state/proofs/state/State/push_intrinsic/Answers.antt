use Rattle.std.proofs.Common.{refl, ap}
use Rattle.pc_dfg.specs.declared.dfg.ComponentDfg.{ComponentDfg}
use Rattle.pc_inline_state.proofs.PushedLemmas.{intrinsic_pushed, intrinsic_then, pushed_keeps}
use Rattle.pc_inline_state.specs.Tables.{tables_of}
use Rattle.pc_inline_state.proofs.state.State.push_intrinsic.Goals as goal

pub returns-clause-keeps : goal.returns-clause-keeps
returns-clause-keeps c =
    pushed_keeps c.args.self.now c.push_intrinsic-first.new.self c.push_intrinsic-first.ensures.grows
    (ap (λ (g : ComponentDfg). g.imported_resources) c.push_intrinsic-first.ensures.put)
    (ap (λ (g : ComponentDfg). g.resources) c.push_intrinsic-first.ensures.put) _ c.push_core.ensures.keeps

pub returns-clause-adds : goal.returns-clause-adds
returns-clause-adds c =
    intrinsic_then (tables_of c.args.self.now) c.push_intrinsic-first.new.self _ _ c.push_intrinsic-first.ensures.put _
    c.push_core.ensures.adds

pub returns-clause-is : goal.returns-clause-is
returns-clause-is c =
    intrinsic_pushed _ _ _ _ c.push_core.ensures.key c.push_core.ensures.ok _ _ refl c.push_intrinsic-first.ensures.held
