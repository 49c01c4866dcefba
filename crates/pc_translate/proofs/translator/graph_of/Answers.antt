use Rattle.pc_types.specs.declared.error.Error.TheVariants as error
use Rattle.pc_translate.proofs.MarkedLemmas.{graph_read, marked_graph, no_graph, no_memory}
use Rattle.pc_translate.proofs.PassingLemmas.{passed_err}
use Rattle.pc_translate.specs.Planning.{HasGraph}
use Rattle.pc_translate.proofs.translator.graph_of.Goals as goal

pub returns-in_err-graph-clause-graph : goal.returns-in_err-graph-clause-graph
returns-in_err-graph-clause-graph c = λ body stands.
    passed_err _ _ (λ r. HasGraph c.args.table.now c.args.program.now.modules c.args.tunables.now.max_component_instances
    c.args.counted body c.args.types.now c.inline_run.new.types r) c.from_residual.ensures.1
    (no_graph _ _ _ _ _ _ _ _ (c.in_err-graph.ensures.inlines body stands))

pub mark_transparent-requires : goal.mark_transparent-requires
mark_transparent-requires c =
    let s = c.requires.stands in
    record { stands = graph_read _ _ _ _ s.0 _ _ (c.in_ok-graph.ensures.inlines s.0 s.1) }

pub returns-in_err-mark_transparent-clause-graph : goal.returns-in_err-mark_transparent-clause-graph
returns-in_err-mark_transparent-clause-graph c = λ body stands.
    passed_err _ error.NoMemory (λ r. HasGraph c.args.table.now c.args.program.now.modules
    c.args.tunables.now.max_component_instances c.args.counted body c.args.types.now c.inline_run.new.types r)
    c.from_residual-in_err-mark_transparent.ensures.1 (no_memory _ _ _ _ _ _ _)

pub returns-clause-graph : goal.returns-clause-graph
returns-clause-graph c = λ body stands.
    marked_graph _ _ c.in_ok-mark_transparent.ensures.marks _ _ _ _ body _ _
    (c.in_ok-graph.ensures.inlines body stands) (λ r s. c.in_ok-mark_transparent.ensures.tells _ _ r s)
    (c.in_ok-graph.ensures.few body stands) c.in_ok-graph.ensures.tables
