use Rattle.std.proofs.Common.{◌<◌, refl, subst, sym, ◌∙◌}
use Rattle.std.specs.Prelude.{length, slice_get}
use Rattle.std.proofs.lemmas.Option.{same_Some, slice_get_read}
use Rattle.pc_types.specs.declared.module_record.ModuleRecord.{ModuleRecord}
use Rattle.pc_analysis_imports.specs.Imports.{AreImports, always_given}
use Rattle.pc_analysis_imports.proofs.imports.imports_at.Goals as goal

pub imports_of-requires : goal.imports_of-requires
imports_of-requires c = record {
  numbered =
      subst (λ (r : ModuleRecord). length r.imports < 4294967295) (sym c.index-records-place.is)
      (c.requires.numbered c.args.place c.index-records-place.result c.requires.held);
}

pub returns : goal.returns
returns c r here =
    let x = c.index-records-place.result in
    let xs = c.args.records.now in
    let at = slice_get_read xs (length xs) c.args.place x refl c.requires.held c.index-records-place.is in
    subst (λ z. AreImports c.args.trampolines.now c.args.ambiguous.now z
    (always_given xs c.args.instances.now (slice_get c.args.ways.now c.args.place)) c.in_ok-imports.imports)
    (same_Some x r (sym at ∙ here))
    (subst (λ g. AreImports c.args.trampolines.now c.args.ambiguous.now x g c.in_ok-imports.imports)
    (c.as_slice-sources.ensures ∙ c.in_ok-given.ensures) c.in_ok-imports.ensures)
