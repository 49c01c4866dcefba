use Rattle.std.proofs.Common.{◌≡◌, ℕ, Some, length}
use Rattle.std.specs.Prelude.{slice_get}
use Rattle.pc_types.specs.declared.module_record.ModuleRecord.{ModuleRecord}
use Rattle.pc_analysis_imports.specs.declared.imports.Imports.{Imports}
use Rattle.pc_analysis_imports.specs.Imports.{AreImports, always_given}
use Rattle.pc_analysis_imports.proofs.imports.known_imports.Given as goal

abbrev pub invariant-loop-place : goal.invariant-loop-place
invariant-loop-place l =
    (length l.found.items ≡ l.place)
    × ((m : ℕ) (r : ModuleRecord) (i : Imports) → slice_get l.records m ≡ Some r → slice_get l.found.items m ≡ Some i
    → AreImports l.trampolines l.ambiguous r (always_given l.records l.instances (slice_get l.ways m)) i)
