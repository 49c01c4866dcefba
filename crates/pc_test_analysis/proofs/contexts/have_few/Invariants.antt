use Rattle.std.specs.Prelude.{◌≡◌, ◌<◌, ℕ, Some, length, slice_get}
use Rattle.pc_info.specs.declared.module.ModuleTranslation.{ModuleTranslation}
use Rattle.pc_test_analysis.proofs.contexts.have_few.Given as goal

abbrev pub invariant-loop-held : goal.invariant-loop-held
invariant-loop-held l =
    (m : ℕ) (x : ModuleTranslation) → m < l.held-index → slice_get l.modules m ≡ Some x
    → length x.«module».imports < 1000000
