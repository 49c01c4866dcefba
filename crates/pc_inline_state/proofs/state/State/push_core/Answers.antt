use Rattle.pc_inline_state.proofs.AddsPushLemmas.{core_adds}
use Rattle.pc_inline_state.proofs.GrowthLemmas.{cores_grown, push_kept}
use Rattle.pc_inline_state.proofs.RefusedLemmas.{cores_lack}
use Rattle.pc_inline_state.specs.Tables.{tables_of}
use Rattle.pc_inline_state.proofs.state.State.push_core.Goals as goal

pub returns-clause-keeps : goal.returns-clause-keeps
returns-clause-keeps c =
    cores_grown (tables_of c.args.self.now) _
    (push_kept c.append.result _ _ c.args.def c.append.ensures.ok c.append.ensures.err)

pub returns-clause-adds : goal.returns-clause-adds
returns-clause-adds c =
    core_adds (tables_of c.args.self.now) c.append.result _ c.args.def c.append.ensures.ok c.append.ensures.err

pub returns-clause-lacks : goal.returns-clause-lacks
returns-clause-lacks c = cores_lack _ _ c.append.ensures.lacks
