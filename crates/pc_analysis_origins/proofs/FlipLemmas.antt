-- What is the same under other numbers is so seen from the other list.
use Rattle.std.proofs.Common.{ℕ, List, [], ◌∷◌, Option, sym}
use Rattle.std.specs.List.{AllZip}
use Rattle.pc_spec_wiring.specs.Origin.{Core, Given, of_host, of_record}
use Rattle.pc_spec_wiring.specs.Sharing.{Home}
use Rattle.pc_analysis_origins.specs.Renumbered.{AreRenumbered, HasAll, SameCore, SameEnd, SameGiven}
use Rattle.pc_analysis_origins.specs.Renumbered.{both_homeless, both_of_component, same_end, same_item}

zip_flip : {A B : Type 0} (R : A → B → Type 0) (Q : B → A → Type 0) → ((x : A) (y : B) → R x y → Q y x) → (xs : List A)
    (ys : List B) → AllZip R xs ys → AllZip Q ys xs
zip_flip R Q flip [] [] zip = tt
zip_flip R Q flip [] (y ∷ ys) zip = absurd zip
zip_flip R Q flip (x ∷ xs) [] zip = absurd zip
zip_flip R Q flip (x ∷ xs) (y ∷ ys) zip = (flip x y zip.0, zip_flip R Q flip xs ys zip.1)

module _ {E F : Type 0} (lh : E → Option Home) (rh : F → Option Home) (Is : ℕ → ℕ → Type 0) where
  -- the numbers the other way
  abbrev pub Back : ℕ → ℕ → Type 0
  Back k n = Is n k

  end_flip : (x : E) (y : F) → SameEnd lh rh x y → SameEnd rh lh y x
  end_flip x y (both_homeless a b) = both_homeless b a
  end_flip x y (both_of_component a b) = both_of_component b a

  given_flip : (d : Given E) (e : Given F) → SameGiven lh rh Is d e → SameGiven rh lh Back e d
  given_flip d e (same_item is) = same_item is
  given_flip d e (same_end {x = x} {y = y} same) = same_end (end_flip x y same)

  core_flip : (c : Core E) (d : Core F) → SameCore lh rh Is c d → SameCore rh lh Back d c
  unfolding SameCore
  core_flip (of_record m r given) (of_record m' r' given') same =
      (sym same.0, sym same.1, zip_flip (SameGiven lh rh Is) (SameGiven rh lh Back) given_flip given given' same.2)
  core_flip (of_record m r given) of_host same = absurd same
  core_flip of_host (of_record m r given) same = absurd same
  core_flip of_host of_host same = tt

  pub all_flip : (xs : List (Core E)) (ys : List (Core F)) → AreRenumbered lh rh Is xs ys
      → AreRenumbered rh lh Back ys xs
  all_flip xs ys are = record {
    one_right = λ k n o a b. are.one_left n o k a b;
    one_left = λ k l n a b. are.one_right n k l a b;
    same = λ k n is.
        let s = are.same n k is in
        (s.1, s.0, s.3, s.2, core_flip s.0 s.1 s.4);
  }

  pub has_flip : (xs : List (Core E)) (ys : List (Core F)) (m : ℕ) → HasAll lh rh Is xs ys m
      → HasAll rh lh Back ys xs m
  has_flip xs ys m has = record { to_right = has.to_left; to_left = has.to_right }
