use Rattle.std.specs.Prelude.{IfErr}
use Rattle.pc_types.specs.declared.error.Error.TheVariants as error
use Rattle.pc_translate.proofs.FactsLemmas.{followed, grouped_defined, grouped_few, has_facts, mid_numbered, new_bare}
use Rattle.pc_translate.proofs.PlanningLemmas.{grouped_grouped, grouped_held, grouped_ordered, grouped_types}
use Rattle.pc_translate.proofs.PassingLemmas.{passed_err}
use Rattle.pc_translate.specs.Planning.{StopsFinish}
use Rattle.pc_translate.proofs.translator.finish_with_facts.Goals as goal

pub analyze_same_vmctx_imports-requires-clause-ordered : goal.analyze_same_vmctx_imports-requires-clause-ordered
analyze_same_vmctx_imports-requires-clause-ordered c = grouped_ordered _ _ _ _ c.requires.grouped

pub analyze_same_vmctx_imports-requires-clause-defined : goal.analyze_same_vmctx_imports-requires-clause-defined
analyze_same_vmctx_imports-requires-clause-defined c = grouped_defined _ _ _ _ c.requires.grouped

pub analyze_same_vmctx_imports-requires-clause-numbered : goal.analyze_same_vmctx_imports-requires-clause-numbered
analyze_same_vmctx_imports-requires-clause-numbered c = c.requires.grouped.partitioned.many

pub analyze_same_vmctx_imports-requires-clause-few : goal.analyze_same_vmctx_imports-requires-clause-few
analyze_same_vmctx_imports-requires-clause-few c = grouped_few _ _ _ _ c.requires.grouped

pub returns-in_err-analyze_same_vmctx_imports-clause-refused : goal.returns-in_err-analyze_same_vmctx_imports-clause-refused
returns-in_err-analyze_same_vmctx_imports-clause-refused c =
    passed_err _ error.NoMemory (λ r. IfErr r (StopsFinish c.args.graph)) c.from_residual.ensures.1 tt

pub finish_graph-requires-clause-ordered : goal.finish_graph-requires-clause-ordered
finish_graph-requires-clause-ordered c = grouped_ordered _ _ _ _ c.requires.grouped

pub finish_graph-requires-clause-grouped : goal.finish_graph-requires-clause-grouped
finish_graph-requires-clause-grouped c = grouped_grouped _ _ _ _ c.requires.grouped

pub finish_graph-requires-clause-are_modules : goal.finish_graph-requires-clause-are_modules
finish_graph-requires-clause-are_modules c = grouped_types _ _ _ _ c.requires.grouped

pub finish_graph-requires-clause-held : goal.finish_graph-requires-clause-held
finish_graph-requires-clause-held c = grouped_held _ _ _ _ c.requires.grouped

pub returns-in_err-plan-clause-refused : goal.returns-in_err-plan-clause-refused
returns-in_err-plan-clause-refused c =
    passed_err _ _ (λ r. IfErr r (StopsFinish c.args.graph)) c.from_residual-in_err-plan.ensures.1
    c.in_err-plan.ensures.refused

pub analyze_imports-requires-clause-numbered : goal.analyze_imports-requires-clause-numbered
analyze_imports-requires-clause-numbered c =
    mid_numbered _ _ _ _ c.requires.grouped _ c.analyze_same_vmctx_imports.ensures.kept

pub analyze_imports-requires-clause-followed : goal.analyze_imports-requires-clause-followed
analyze_imports-requires-clause-followed c =
    followed _ _ _ _ c.requires.grouped _ c.analyze_same_vmctx_imports.ensures.kept _ c.in_ok-plan.ensures.plan

pub returns-in_err-analyze_imports-clause-refused : goal.returns-in_err-analyze_imports-clause-refused
returns-in_err-analyze_imports-clause-refused c =
    passed_err _ error.NoMemory (λ r. IfErr r (StopsFinish c.args.graph))
    c.from_residual-in_err-analyze_imports.ensures.1 tt

pub returns-clause-unchanged : goal.returns-clause-unchanged
returns-clause-unchanged c = c.finish_graph.ensures.unchanged

pub returns-clause-plan : goal.returns-clause-plan
returns-clause-plan c = c.in_ok-plan.ensures.plan

pub returns-clause-bare : goal.returns-clause-bare
returns-clause-bare c =
    new_bare _ _ _ _ c.requires.grouped _ c.analyze_same_vmctx_imports.ensures.kept _ c.in_ok-plan.ensures.plan _
    c.analyze_imports.ensures.kept

pub returns-clause-facts : goal.returns-clause-facts
returns-clause-facts c =
    has_facts _ _ _ _ c.requires.grouped _ c.analyze_same_vmctx_imports.ensures.kept _ c.in_ok-plan.ensures.plan _
    c.analyze_imports.ensures.kept c.in_ok-analyze_same_vmctx_imports.ensures.recorded
    c.in_ok-analyze_imports.ensures.known
