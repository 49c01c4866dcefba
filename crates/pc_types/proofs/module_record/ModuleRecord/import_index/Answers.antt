use Rattle.std.proofs.Common.{refl, arith, ap, sym, ◌∙◌}
use Rattle.std.proofs.lemmas.Option.{slice_get_read}
use Rattle.pc_types.specs.Record.{kind_of}
use Rattle.pc_types.proofs.RecordLemmas.{imported_entity-at}
use Rattle.pc_types.proofs.module_record.ModuleRecord.import_index.Goals as goal

pub returns : goal.returns
returns c =
    let here = c.index-imports-position in
    let imports = c.as_slice-imports.result.now in
    imported_entity-at c.args.self.now c.args.position imports here.result c.kind-kind.result
    c.count_of_kind-number.result c.entity.result
    c.entity.ensures c.count_of_kind-number.ensures (c.kind-kind.ensures ∙ ap (λ i. kind_of i.2) (sym here.is))
    c.as_slice-imports.ensures
    (slice_get_read imports _ c.args.position here.result refl (omega arith) here.is)
