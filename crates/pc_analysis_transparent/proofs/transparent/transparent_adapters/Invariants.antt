use Rattle.std.specs.Prelude.{ℕ}
use Rattle.pc_numbers.specs.declared.runtime.ResourceIndex.{ResourceIndex}
use Rattle.pc_types.specs.TypeTree.{Identity, TypeTree}
use Rattle.pc_analysis_transparent.specs.Opaque.{AreTyped}
use Rattle.pc_analysis_transparent.proofs.TransparentLemmas.{Told}
use Rattle.pc_analysis_transparent.proofs.transparent.transparent_adapters.Given as goal

abbrev pub invariant-loop-place : goal.invariant-loop-place
invariant-loop-place l =
    (who : ResourceIndex → Identity) (lift lower : ℕ → TypeTree) → AreTyped l.types who l.dfg lift lower
    → Told l.dfg lift lower l.transparent l.place
