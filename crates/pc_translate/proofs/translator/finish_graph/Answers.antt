use Rattle.pc_translate.proofs.PlanningLemmas.{finish_refused, finished_still}
use Rattle.pc_translate.proofs.translator.finish_graph.Goals as goal

pub returns-clause-unchanged : goal.returns-clause-unchanged
returns-clause-unchanged c = c.finish.ensures.unchanged c.requires.held

pub returns-clause-plan : goal.returns-clause-plan
returns-clause-plan c =
    finished_still _ _ _ _ (c.finish.ensures.unchanged c.requires.held) c.finish.result c.finish.ensures.plan
    c.map_err.result c.map_err.ensures.cases

pub returns-clause-refused : goal.returns-clause-refused
returns-clause-refused c =
    finish_refused _ _ _ _ (c.finish.ensures.unchanged c.requires.held) c.requires.held c.types_are_distinct.ensures
    c.finish.result c.finish.ensures.full c.map_err.result c.map_err.ensures.cases
