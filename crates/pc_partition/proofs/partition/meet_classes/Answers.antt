-- What the pairs say is the meet.
use Rattle.std.proofs.Common.{◌≡◌, ℕ, List, Option}
use Rattle.std.specs.Prelude.{IfOk, Result, Ok, Err}
use Rattle.pc_partition.specs.declared.partition.SameVmctxPartition.{SameVmctxPartition}
use Rattle.pc_partition.specs.declared.partition.SameVmctxPartition.TheVariants as variant
use Rattle.pc_partition.specs.Least.{AreLeast}
use Rattle.pc_partition.specs.Pairs.{ArePairs}
use Rattle.pc_partition.specs.Partition.{IsMeet, IsOfKeys}
use Rattle.pc_partition.proofs.MeetLemmas.{meet_of_pairs}
use Rattle.pc_partition.proofs.partition.meet_classes.Goals as goal

module _ {E : Type 0} (a b x y : List ℕ) (items keys : List (Option (ℕ × ℕ))) where
  met : x ≡ a → y ≡ b → keys ≡ items → AreLeast a → AreLeast b → ArePairs x y items
      → (r : Result SameVmctxPartition E) → IfOk r (IsOfKeys keys)
      → IfOk r (IsMeet (variant.Known a) (variant.Known b))
  met first second same in_a in_b are (Ok p) told =
      meet_of_pairs a b in_a in_b keys (rw (← first, ← second, same) are) p told
  met first second same in_a in_b are (Err e) told = tt

pub returns : goal.returns
returns c =
    met _ _ _ _ _ _ c.as_slice.ensures.values c.as_slice-2.ensures.values c.as_slice-3.ensures.value
    c.as_slice.ensures.least c.as_slice-2.ensures.least c.in_ok-keys.ensures _ c.from_keys.ensures
