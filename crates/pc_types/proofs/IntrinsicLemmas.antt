-- A name that is looked for at one place after the other.
use Rattle.std.proofs.Common.{◌≡◌, ◌≢◌, ◌<◌, ◌+◌, ℕ, Bool, false, List, Some, Contains, length, refl, sym, ap, ◌∙◌, arith}
use Rattle.std.proofs.Common.{slice_get, true≢false}
use Rattle.std.specs.Str.{bytes_eq}
use Rattle.std.proofs.lemmas.Option.{same_Some, slice_get_read}
use Rattle.pc_entity.proofs.Naming.{bytes_eq-refl}

-- a number below the next is this one, or is below it
this_one : (k place : ℕ) → (k < place → ⊥) → k < place + 1 → place ≡ k
this_one k place not_before within = omega (arith, not_before, within)

module _ (names : List (List ℕ)) (name : List ℕ) where
  -- a name that isn't at this place, nor before it, isn't before the next
  pub not_before_next : (place : ℕ) (here : List ℕ) → slice_get names place ≡ Some here
      → (met : Bool) → met ≡ bytes_eq here name → met ≡ false
      → ((k : ℕ) → k < place → slice_get names k ≢ Some name)
      → (k : ℕ) → k < place + 1 → slice_get names k ≢ Some name
  not_before_next place here is met test differs before k within found =
      let same : place ≡ k = this_one k place (λ below. before k below found) within in
      let equal : here ≡ name = same_Some here name (sym is ∙ ap (slice_get names) same ∙ found) in
      true≢false (sym (bytes_eq-refl here) ∙ ap (bytes_eq here) equal ∙ sym test ∙ differs)

  -- one that is at no place isn't there
  pub not_there : ((k : ℕ) → k < length names → slice_get names k ≢ Some name) → Contains names name → ⊥
  not_there nowhere there =
      nowhere there.0 there.1 (slice_get_read names (length names) there.0 name refl there.1 (sym there.2))
