use Rattle.std.proofs.Common.{◌∙◌, ap}
use Rattle.pc_dfg_linearize.specs.Parts.{parts}
use Rattle.pc_dfg_linearize.proofs.OpenLemmas.{no_memory_parts, no_table_parts, opens_nothing}
use Rattle.pc_dfg_linearize.proofs.open.open_parts.Goals as goal

pub returns-in-Memory : goal.returns-in-Memory
returns-in-Memory c =
    let g = c.args.graph.now in
    opens_nothing g _ _ (ap (parts g) c.in-Memory.is ∙ no_memory_parts g c.in-Memory.field-0)

pub returns-in-Table : goal.returns-in-Table
returns-in-Table c =
    let g = c.args.graph.now in
    opens_nothing g _ _ (ap (parts g) c.in-Table.is ∙ no_table_parts g c.in-Table.field-0)
