use Rattle.pc_inline_state.proofs.AddsPushLemmas.{closure_adds}
use Rattle.pc_inline_state.proofs.GrowthLemmas.{closures_grown, push_kept}
use Rattle.pc_inline_state.proofs.RefusedLemmas.{closures_lack}
use Rattle.pc_inline_state.specs.Tables.{tables_of}
use Rattle.pc_inline_state.proofs.state.State.push_closure.Goals as goal

pub returns-clause-keeps : goal.returns-clause-keeps
returns-clause-keeps c =
    closures_grown (tables_of c.args.self.now) _
    (push_kept c.append.result _ _ c.args.closure c.append.ensures.ok c.append.ensures.err)

pub returns-clause-adds : goal.returns-clause-adds
returns-clause-adds c =
    closure_adds (tables_of c.args.self.now) c.append.result _ c.args.closure c.append.ensures.ok c.append.ensures.err

pub returns-clause-lacks : goal.returns-clause-lacks
returns-clause-lacks c = closures_lack _ _ c.append.ensures.lacks
