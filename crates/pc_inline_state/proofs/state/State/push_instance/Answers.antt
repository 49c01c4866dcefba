use Rattle.pc_inline_state.proofs.AddsPushLemmas.{instance_exports_adds}
use Rattle.pc_inline_state.proofs.GrowthLemmas.{instances_grown, push_kept}
use Rattle.pc_inline_state.proofs.RefusedLemmas.{instances_lack}
use Rattle.pc_inline_state.specs.Tables.{tables_of}
use Rattle.pc_inline_state.proofs.state.State.push_instance.Goals as goal

pub returns-clause-keeps : goal.returns-clause-keeps
returns-clause-keeps c =
    instances_grown (tables_of c.args.self.now) _
    (push_kept c.append.result _ _ c.shrink_to_fit.new.self c.append.ensures.ok c.append.ensures.err)

pub returns-clause-adds : goal.returns-clause-adds
returns-clause-adds c =
    instance_exports_adds (tables_of c.args.self.now) c.append.result _ c.shrink_to_fit.new.self c.append.ensures.ok
    c.append.ensures.err

pub returns-clause-lacks : goal.returns-clause-lacks
returns-clause-lacks c = instances_lack _ _ c.append.ensures.lacks
