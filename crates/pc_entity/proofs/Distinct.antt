-- Lists in which no two items compare equal, seen through a function that tells unequal items apart.
use Rattle.std.proofs.Common.{◌≡◌, ℕ, ◌<◌, Bool, true, List, Option, None, Some, refl, sym, ap, ◌∙◌, true≢false, arith}
use Rattle.std.proofs.Common.{get_or, map}
use Rattle.std.specs.Prelude.{slice_get}
use Rattle.std.specs.Option.{option_map}
use Rattle.std.specs.List.{IsDistinct}
use Rattle.std.proofs.lemmas.Map.Keys.{apart_from_distinct}
use Rattle.std.proofs.lemmas.Option.{get_or_from_slice_get, slice_get_within, slice_get-map, none-some, same_Some}
use Rattle.pc_entity.specs.Lists.{AreDistinct}

-- two numbers are in order, one way or the other, or are the same
ordered : (i j : ℕ) → (i < j → ⊥) → (j < i → ⊥) → i ≡ j
ordered i j not_before not_after = omega (arith, not_before, not_after)

-- the item behind an image
pub behind : {A B : Type 0} (f : A → B) (xs : List A) (i : ℕ) (b : B) → slice_get (map f xs) i ≡ Some b
    → (x : A) × (slice_get xs i ≡ Some x) × (f x ≡ b)
behind {A} f xs i b h = by (slice_get xs i) refl
  where
    by : (o : Option A) → slice_get xs i ≡ o → (x : A) × (slice_get xs i ≡ Some x) × (f x ≡ b)
    by None e = absurd (none-some b (sym (slice_get-map f xs i ∙ ap (option_map f) e) ∙ h))
    by (Some x) e = (x, e, same_Some (f x) b (sym (slice_get-map f xs i ∙ ap (option_map f) e) ∙ h))

module _ {A B : Type 0} (eq : A → A → Bool) (f : A → B) (same : (x y : A) → f x ≡ f y → eq x y ≡ true)
    (xs : List A) (distinct : IsDistinct eq xs) where
  -- two items with the same image do not stand one before the other
  apart : (i j : ℕ) (x y : A) → slice_get xs i ≡ Some x → slice_get xs j ≡ Some y → f x ≡ f y → i < j → ⊥
  apart i j x y at_i at_j alike before =
      let differ = apart_from_distinct eq xs i j x distinct before (slice_get_within xs j y at_j) in
      let first : get_or xs i x ≡ x = get_or_from_slice_get xs i x x at_i in
      let second : get_or xs j x ≡ y = get_or_from_slice_get xs j y x at_j in
      let equal : eq x y ≡ true = same x y alike in
      true≢false (cc)

  -- no image stands at two places
  pub are_distinct : AreDistinct (map f xs)
  are_distinct i j b at_i at_j =
      let p = behind f xs i b at_i in
      let q = behind f xs j b at_j in
      ordered i j (apart i j p.0 q.0 p.1 q.1 (p.2 ∙ sym q.2)) (apart j i q.0 p.0 q.1 p.1 (q.2 ∙ sym p.2))

-- no item stands at two places, where each item equals itself
pub are_distinct_items : {A : Type 0} (eq : A → A → Bool) → ((x : A) → eq x x ≡ true) → (xs : List A)
    → IsDistinct eq xs → AreDistinct xs
are_distinct_items eq same xs distinct i j x at_i at_j =
    ordered i j
    (apart eq (λ y. y) (λ y z e. rw (← e) (same y)) xs distinct i j x x at_i at_j refl)
    (apart eq (λ y. y) (λ y z e. rw (← e) (same y)) xs distinct j i x x at_j at_i refl)
