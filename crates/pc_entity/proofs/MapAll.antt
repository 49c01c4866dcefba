-- The laws of `map_all`.
use Rattle.std.proofs.Common.{◌≡◌, ℕ, List, [], ◌∷◌, ◌++◌, length, map, zero, suc, Option, None, Some, refl, sym, ap}
use Rattle.std.proofs.Common.{◌∙◌}
use Rattle.std.specs.Prelude.{slice_get, option_and_then}
use Rattle.std.specs.Option.{option_map}
use Rattle.std.proofs.lemmas.Option.{none-some, same_Some}
use Rattle.pc_entity.specs.Lists.{map_all}

module _ {A B : Type 0} (f : A → Option B) where
  -- an answer for the first item and one for the rest are one for the whole
  pub map_all_cons : (x : A) (xs : List A) (y : B) (ys : List B)
      → f x ≡ Some y → map_all f xs ≡ Some ys → map_all f (x ∷ xs) ≡ Some (y ∷ ys)
  map_all_cons x xs y ys first rest = rw (first, rest) refl

  -- an answer for the whole has one for the first item and one for the rest
  pub map_all_uncons : (x : A) (xs : List A) (zs : List B) → map_all f (x ∷ xs) ≡ Some zs
      → (y : B) × (ys : List B) × (f x ≡ Some y) × (map_all f xs ≡ Some ys) × (zs ≡ y ∷ ys)
  map_all_uncons x xs zs h = by (f x) (map_all f xs) refl refl h
    where
      by : (first : Option B) (rest : Option (List B)) → f x ≡ first → map_all f xs ≡ rest
          → option_and_then (λ y. option_map (λ ys. y ∷ ys) rest) first ≡ Some zs
          → (y : B) × (ys : List B) × (f x ≡ Some y) × (map_all f xs ≡ Some ys) × (zs ≡ y ∷ ys)
      by None rest p q k = absurd (none-some zs k)
      by (Some y) None p q k = absurd (none-some zs k)
      by (Some y) (Some ys) p q k = (y, ys, p, q, sym (same_Some (y ∷ ys) zs k))

  -- the answers for two lists, joined, are the answer for the joined list
  pub map_all-append : (xs xs' : List A) (ys ys' : List B) → map_all f xs ≡ Some ys → map_all f xs' ≡ Some ys'
      → map_all f (xs ++ xs') ≡ Some (ys ++ ys')
  map_all-append [] xs' ys ys' h k = k ∙ ap (λ l. Some (l ++ ys')) (same_Some [] ys h)
  map_all-append (x ∷ xs) xs' ys ys' h k =
      let p = map_all_uncons x xs ys h in
      map_all_cons x (xs ++ xs') p.0 (p.1 ++ ys') p.2 (map_all-append xs xs' p.1 ys' p.3 k)
      ∙ ap (λ l. Some (l ++ ys')) (sym p.4)

  -- the answer for a list with one more item
  pub map_all-push : (xs : List A) (ys : List B) (x : A) (y : B) → map_all f xs ≡ Some ys → f x ≡ Some y
      → map_all f (xs ++ x ∷ []) ≡ Some (ys ++ y ∷ [])
  map_all-push xs ys x y h k = map_all-append xs (x ∷ []) ys (y ∷ []) h (map_all_cons x [] y [] k refl)

  -- an answer has one item for each item
  pub length-map_all : (xs : List A) (ys : List B) → map_all f xs ≡ Some ys → length ys ≡ length xs
  length-map_all [] ys h = ap length (sym (same_Some [] ys h))
  length-map_all (x ∷ xs) ys h =
      let p = map_all_uncons x xs ys h in
      ap length p.4 ∙ ap suc (length-map_all xs p.1 p.3)

  -- the answer at a place is f of the item there
  pub slice_get-map_all : (xs : List A) (ys : List B) (i : ℕ) (x : A) → map_all f xs ≡ Some ys
      → slice_get xs i ≡ Some x → f x ≡ slice_get ys i
  slice_get-map_all [] ys i x h at = absurd (none-some x at)
  slice_get-map_all (w ∷ xs) ys zero x h at =
      let p = map_all_uncons w xs ys h in
      ap f (sym (same_Some w x at)) ∙ p.2 ∙ ap (λ l. slice_get l 0) (sym p.4)
  slice_get-map_all (w ∷ xs) ys (suc i) x h at =
      let p = map_all_uncons w xs ys h in
      slice_get-map_all xs p.1 i x p.3 at ∙ ap (λ l. slice_get l (suc i)) (sym p.4)

  -- behind the answer at a place stands an item
  pub map_all-behind : (xs : List A) (ys : List B) (i : ℕ) (y : B) → map_all f xs ≡ Some ys
      → slice_get ys i ≡ Some y → (x : A) × (slice_get xs i ≡ Some x) × (f x ≡ Some y)
  map_all-behind [] ys i y h at = absurd (none-some y (ap (λ l. slice_get l i) (same_Some [] ys h) ∙ at))
  map_all-behind (x ∷ xs) ys zero y h at =
      let p = map_all_uncons x xs ys h in
      (x, refl, p.2 ∙ ap (λ l. slice_get l 0) (sym p.4) ∙ at)
  map_all-behind (x ∷ xs) ys (suc i) y h at =
      let p = map_all_uncons x xs ys h in
      map_all-behind xs p.1 i y p.3 (ap (λ l. slice_get l (suc i)) (sym p.4) ∙ at)

  -- where nothing is left out, the answer is the list of images
  pub map_all-map : (g : A → B) → ((x : A) → f x ≡ Some (g x)) → (xs : List A) → map_all f xs ≡ Some (map g xs)
  map_all-map g total [] = refl
  map_all-map g total (x ∷ xs) = map_all_cons x xs (g x) (map g xs) (total x) (map_all-map g total xs)

-- where g answers at least what f answers, its answer for a list is the same
pub map_all-more : {A B : Type 0} (f g : A → Option B) → ((x : A) (y : B) → f x ≡ Some y → g x ≡ Some y)
    → (xs : List A) (ys : List B) → map_all f xs ≡ Some ys → map_all g xs ≡ Some ys
map_all-more f g more [] ys h = h
map_all-more f g more (x ∷ xs) ys h =
    let p = map_all_uncons f x xs ys h in
    map_all_cons g x xs p.0 p.1 (more x p.0 p.2) (map_all-more f g more xs p.1 p.3) ∙ ap Some (sym p.4)
