use Rattle.std.proofs.Common.{ap, ◌∙◌, []}
use Rattle.std.specs.Prelude.{slice_get}
use Rattle.pc_types.specs.Record.{imported_entity}
use Rattle.pc_types_record.proofs.Lists.{entity_here}
use Rattle.pc_types_record.proofs.record_index.RecordIndex.import_index.Goals as goal

pub returns : goal.returns
returns c =
    let place = c.args.position in
    c.item.ensures
    ∙ ap (λ es. slice_get es place) (c.as_slice.ensures ∙ c.self.invariant.imports.entities)
    ∙ entity_here [] c.self.inside.record.now.imports place
    ∙ ap (λ r. imported_entity r place) c.self.view_is
