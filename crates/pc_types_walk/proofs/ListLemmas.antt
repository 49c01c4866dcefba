-- Look-ups in lists, and lists that are zipped.
use Rattle.std.proofs.Common.{◌≡◌, ◌⊎◌, ◌≤◌, ◌+◌, ℕ, zero, suc, List, [], ◌∷◌, ◌++◌, length, drop, get_or, Some, None}
use Rattle.std.proofs.Common.{refl, sym, ◌∙◌, arith, inl, inr, reverse}
use Rattle.std.specs.Prelude.{slice_get}
use Rattle.std.specs.List.{AllZip}
use Rattle.std.proofs.lemmas.Option.{none-some, same_Some, slice_get-get_or, slice_get_within}
use Rattle.pc_entity.proofs.LookupLemmas.{left_here}

-- what stands at a place is the first of what is left there
pub drop_some : {A : Type 0} (xs : List A) (i : ℕ) (x : A) → slice_get xs i ≡ Some x
    → drop i xs ≡ x ∷ drop (i + 1) xs
drop_some xs i x at =
    let within = slice_get_within xs i x at in
    left_here xs i x within (same_Some x (get_or xs i x) (sym at ∙ slice_get-get_or xs i x within))

-- where nothing stands nothing is left
pub drop_none : {A : Type 0} (xs : List A) (i : ℕ) → slice_get xs i ≡ None → drop i xs ≡ []
drop_none [] zero at = refl
drop_none [] (suc i) at = refl
drop_none (y ∷ xs) zero at = absurd (none-some y (sym at))
drop_none (y ∷ xs) (suc i) at = drop_none xs i at

-- what stands in a list with one item more stood there, or is that item
pub append_found : {A : Type 0} (xs : List A) (y : A) (k : ℕ) (x : A) → slice_get (xs ++ y ∷ []) k ≡ Some x
    → (slice_get xs k ≡ Some x) ⊎ ((k ≡ length xs) × (y ≡ x))
append_found [] y zero x at = inr (refl, same_Some y x at)
append_found [] y (suc k) x at = absurd (none-some x at)
append_found (z ∷ xs) y zero x at = inl at
append_found (z ∷ xs) y (suc k) x at = elim (append_found xs y k x at)
    as (λ _. (slice_get (z ∷ xs) (suc k) ≡ Some x) ⊎ ((suc k ≡ length (z ∷ xs)) × (y ≡ x))) [
      | inl before ↦ inl before
      | inr last ↦ inr (omega (arith, last.0), last.1)
    ]

module _ {A B : Type 0} (R : A → B → Type 0) where
  -- what stands beside a list with a first item has one
  pub zip_cons : (x : A) (xs : List A) (ys : List B) → AllZip R (x ∷ xs) ys
      → (y : B) × (zs : List B) × (ys ≡ y ∷ zs) × R x y × AllZip R xs zs
  zip_cons x xs [] h = absurd h
  zip_cons x xs (y ∷ ys) h = (y, ys, refl, h.0, h.1)

  -- beside no items stand none
  pub zip_nil : (ys : List B) → AllZip R [] ys → ys ≡ []
  zip_nil [] h = refl
  zip_nil (y ∷ ys) h = absurd h

  -- one item more on both sides
  pub zip_push : (xs : List A) (ys : List B) (x : A) (y : B) → AllZip R xs ys → R x y
      → AllZip R (xs ++ x ∷ []) (ys ++ y ∷ [])
  zip_push [] [] x y h here = (here, tt)
  zip_push [] (z ∷ ys) x y h here = absurd h
  zip_push (z ∷ xs) [] x y h here = absurd h
  zip_push (z ∷ xs) (w ∷ ys) x y h here = (h.0, zip_push xs ys x y h.1 here)

  -- what follows of each pair
  pub zip_more : (S : A → B → Type 0) → ((x : A) (y : B) → R x y → S x y) → (xs : List A) (ys : List B)
      → AllZip R xs ys → AllZip S xs ys
  zip_more S more [] [] h = tt
  zip_more S more [] (y ∷ ys) h = absurd h
  zip_more S more (x ∷ xs) [] h = absurd h
  zip_more S more (x ∷ xs) (y ∷ ys) h = (more x y h.0, zip_more S more xs ys h.1)

-- a list of no length, from its end
pub none_left : {A : Type 0} (xs : List A) → length xs ≡ 0 → reverse xs ≡ []
none_left [] h = refl
none_left (x ∷ xs) h = absurd (omega (arith, h))

-- nothing stands past a list
pub past_none : {A : Type 0} (xs : List A) (n : ℕ) → length xs ≤ n → slice_get xs n ≡ None
past_none [] n past = refl
past_none (x ∷ xs) zero past = absurd (omega (arith, past))
past_none (x ∷ xs) (suc n) past = past_none xs n (omega (arith, past))
