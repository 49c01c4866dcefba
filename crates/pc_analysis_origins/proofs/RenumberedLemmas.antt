-- Partitions of imports don't depend on how core instances are numbered.
use Rattle.std.proofs.Common.{ℕ, Bool, List, Option}
use Rattle.pc_spec_wiring.specs.Origin.{Core}
use Rattle.pc_spec_wiring.specs.Sharing.{AlwaysShare, ArePartitioned, Home}
use Rattle.pc_analysis_origins.specs.Renumbered.{AreRenumbered, HasAll}
use Rattle.pc_analysis_origins.proofs.CarriedLemmas.{share_there}
use Rattle.pc_analysis_origins.proofs.FlipLemmas.{Back, all_flip, has_flip}

module _ {E F : Type 0} (lh : E → Option Home) (rh : F → Option Home) (Is : ℕ → ℕ → Type 0) (xs : List (Core E))
    (ys : List (Core F)) (are : AreRenumbered lh rh Is xs ys) (m : ℕ) (has : HasAll lh rh Is xs ys m) where
  pub share_here : (f g : ℕ) → AlwaysShare rh ys m f g → AlwaysShare lh xs m f g
  share_here f g =
      share_there rh lh (Back lh rh Is) ys xs (all_flip lh rh Is xs ys are) m f g (has_flip lh rh Is xs ys m has)

  -- what partitions the imports of a module in one list does in the other
  pub partitioned_there : (b : Bool) (size : ℕ) (representative : ℕ → ℕ) → ArePartitioned lh xs b m size representative
      → ArePartitioned rh ys b m size representative
  partitioned_there b size representative is = record {
    together = λ f g below_f below_g apart.
        let both = is.together f g below_f below_g apart in (
          λ same.
              let shared = both.0 same in
              (shared.0, share_there lh rh Is xs ys are m f g has shared.1),
          λ shared. both.1 (shared.0, share_here f g shared.1),
        );
    own = is.own;
    least = is.least;
  }
