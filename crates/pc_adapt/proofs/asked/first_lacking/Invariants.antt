use Rattle.std.specs.Prelude.{ℕ, ◌<◌}
use Rattle.pc_numbers.specs.declared.runtime.ResourceIndex.{ResourceIndex}
use Rattle.pc_types.specs.TypeTree.{Identity, TypeTree}
use Rattle.pc_adapt.specs.Asked.{AreTyped, HasOptions}
use Rattle.pc_adapt.proofs.asked.first_lacking.Given as goal

abbrev pub invariant-loop-place : goal.invariant-loop-place
invariant-loop-place l =
    (who : ResourceIndex → Identity) (lift lower : ℕ → TypeTree) → AreTyped l.types who l.graph lift lower
    → (b : ℕ) → b < l.place → HasOptions l.graph lift lower b
