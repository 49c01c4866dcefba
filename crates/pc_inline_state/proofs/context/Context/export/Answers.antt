use Rattle.std.proofs.Common.{List, sym, ap, ◌∙◌}
use Rattle.std.specs.Prelude.{option_and_then, slice_get}
use Rattle.pc_types.specs.declared.module_record.ModuleRecord.{ModuleRecord}
use Rattle.pc_types.specs.Record.{export_of}
use Rattle.pc_inline_state.specs.Bags.{entity_of_kind, export_item}
use Rattle.pc_inline_state.proofs.context.Context.export.Goals as goal

pub returns-in-Made : goal.returns-in-Made
returns-in-Made c = λ name is.
    c.entity_of_kind.ensures
    ∙ ap (option_and_then (entity_of_kind c.in-Made.instance c.args.kind)) (c.module_export-entity.ensures name is
    ∙ ap (λ (ms : List ModuleRecord). option_and_then (λ r. export_of r name) (slice_get ms c.in-Made.core_module.0))
    c.requires.modules)
    ∙ ap (export_item c.args.self.now.table.now c.args.self.now.modules c.args.kind c.args.number name)
    (sym c.in-Made.is)
