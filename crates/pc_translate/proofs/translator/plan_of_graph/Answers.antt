use Rattle.std.proofs.Common.{refl}
use Rattle.pc_types.specs.declared.error.Error.TheVariants as error
use Rattle.pc_translate.proofs.PassingLemmas.{passed_err}
use Rattle.pc_translate.proofs.PlanningLemmas.{finish_plans, finish_stops, grouped_graph, groups_stops, no_memory_stops}
use Rattle.pc_translate.specs.Planning.{PlansGraph}
use Rattle.pc_translate.proofs.translator.plan_of_graph.Goals as goal

pub returns-in_err-modules-clause-plans : goal.returns-in_err-modules-clause-plans
returns-in_err-modules-clause-plans c = λ r stands.
    passed_err _ error.NoMemory (λ x. PlansGraph c.args.table.now c.args.records r c.args.types.now c.args.graph x)
    c.from_residual.ensures.1 (no_memory_stops _ _ _ _ r stands error.NoMemory refl)

pub group_adapters-requires : goal.group_adapters-requires
group_adapters-requires c =
    let s = c.requires.stands in record { stands = (c.args.table.now, c.args.records, s.0, s.1) }

pub returns-in_err-group_adapters-clause-plans : goal.returns-in_err-group_adapters-clause-plans
returns-in_err-group_adapters-clause-plans c = λ r stands.
    passed_err _ _ (λ x. PlansGraph c.args.table.now c.args.records r c.args.types.now c.args.graph x)
    c.from_residual-in_err-group_adapters.ensures.1
    (groups_stops _ _ _ _ r stands _ _ _
    (c.in_err-group_adapters.ensures.groups _ _ r stands c.in_ok-modules.ensures))

pub finish_with_facts-requires-clause-grouped : goal.finish_with_facts-requires-clause-grouped
finish_with_facts-requires-clause-grouped c =
    let s = c.requires.stands in
    grouped_graph _ _ _ _ s.0 s.1 _ _ _
    (c.in_ok-group_adapters.ensures.groups _ _ s.0 s.1 c.in_ok-modules.ensures) c.requires.modules

pub returns-in_err-plan-clause-plans : goal.returns-in_err-plan-clause-plans
returns-in_err-plan-clause-plans c = λ r stands.
    passed_err _ _ (λ x. PlansGraph c.args.table.now c.args.records r c.args.types.now c.args.graph x)
    c.from_residual-in_err-plan.ensures.1
    (finish_stops _ _ _ _ r stands _ _ _
    (c.in_ok-group_adapters.ensures.groups _ _ r stands c.in_ok-modules.ensures) _ c.in_err-plan.ensures.refused)

pub returns-clause-plans : goal.returns-clause-plans
returns-clause-plans c = λ r stands.
    finish_plans _ _ _ _ r stands _ _ _
    (c.in_ok-group_adapters.ensures.groups _ _ r stands c.in_ok-modules.ensures) _ _ c.in_ok-plan.ensures.plan
    c.in_ok-plan.ensures.bare c.in_ok-plan.ensures.facts
