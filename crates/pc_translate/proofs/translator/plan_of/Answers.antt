use Rattle.pc_translate.proofs.PassingLemmas.{passed_err}
use Rattle.pc_translate.proofs.PlanningLemmas.{fault_plans, stands_for, still_gains, still_keeps, still_plans}
use Rattle.pc_translate.proofs.PlanningLemmas.{taken_sound}
use Rattle.pc_translate.specs.Planning.{Plans}
use Rattle.pc_translate.proofs.translator.plan_of.Goals as goal

pub returns-in_err-graph-clause-plan : goal.returns-in_err-graph-clause-plan
returns-in_err-graph-clause-plan c = λ body stands.
    passed_err _ _ (λ r. Plans c.args.table.now c.args.program.modules c.args.tunables.now.max_component_instances
    c.args.counted body c.args.types.now c.graph_of.new.types r) c.from_residual.ensures.1
    (fault_plans _ _ _ _ _ _ _ _ (c.in_err-graph.ensures.graph body stands))

pub plan_of_graph-requires-clause-modules : goal.plan_of_graph-requires-clause-modules
plan_of_graph-requires-clause-modules c =
    taken_sound c.args.table.now _ _ c.modules_of.ensures c.requires.modules

pub plan_of_graph-requires-clause-stands : goal.plan_of_graph-requires-clause-stands
plan_of_graph-requires-clause-stands c =
    let s = c.requires.stands in
    stands_for _ _ _ _ s.0 _ _ _ (c.in_ok-graph.ensures.graph s.0 s.1) _ c.modules_of.ensures

pub returns-clause-plan : goal.returns-clause-plan
returns-clause-plan c = λ body stands.
    still_plans _ _ _ _ body _ _ _ (c.in_ok-graph.ensures.graph body stands) _ c.modules_of.ensures _
    c.plan_of_graph.ensures.unchanged c.requires.begins c.plan_of_graph.result c.plan_of_graph.ensures.plans

pub returns-clause-keeps : goal.returns-clause-keeps
returns-clause-keeps c = still_keeps _ _ _ c.plan_of_graph.ensures.unchanged c.in_ok-graph.ensures.keeps

pub returns-clause-adds : goal.returns-clause-adds
returns-clause-adds c = still_gains _ _ _ _ _ c.plan_of_graph.ensures.unchanged c.in_ok-graph.ensures.adds
