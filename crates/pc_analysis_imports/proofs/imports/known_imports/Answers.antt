use Rattle.std.proofs.Common.{◌∷◌, [], ℕ, ap, arith, length, length-append}
use Rattle.std.specs.Prelude.{slice_get}
use Rattle.pc_entity.proofs.LookupLemmas.{found_at}
use Rattle.pc_types.specs.declared.module_record.ModuleRecord.{ModuleRecord}
use Rattle.pc_analysis_imports.specs.declared.imports.Imports.{Imports}
use Rattle.pc_analysis_imports.specs.Imports.{AreImports, always_given}
use Rattle.pc_analysis_imports.proofs.EachLemmas.{each_more}
use Rattle.pc_analysis_imports.proofs.imports.known_imports.Goals as goal

pub loop-place-preserved : goal.loop-place-preserved
loop-place-preserved c =
    let l = c.loop-place in
    let rs = c.args.records.now in
    let r = found_at rs l.place (omega (arith, c.loop-place-test.true)) in (
      omega (arith, ap length c.in_ok-push.ensures.items, length-append l.found.items (c.in_ok-imports.imports ∷ []), l.invariant.0),
      each_more (λ (m : ℕ) (x : ModuleRecord) (i : Imports). AreImports c.args.trampolines.now c.args.ambiguous.now x
          (always_given rs c.args.instances.now (slice_get c.args.ways.now m)) i) rs l.found.items _ r.0 _ l.place
          l.invariant.0 c.in_ok-push.ensures.items l.invariant.1 r.1 (c.in_ok-imports.ensures r.0 r.1),
    )
