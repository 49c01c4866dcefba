-- Lists: places of a list that is one longer, related lists, what a list counts.
use Rattle.std.proofs.Common.{◌≡◌, ◌+◌, ◌||◌, ◌⊎◌, inl, inr, ℕ, zero, suc, Bool, true, false, List, [], ◌∷◌, ◌++◌}
use Rattle.std.proofs.Common.{length, map, cond, Some, refl, sym, ap, ◌∙◌, true≢false}
use Rattle.std.specs.Prelude.{slice_get, count_by}
use Rattle.std.specs.List.{AllZip, list_any}
use Rattle.std.proofs.lemmas.List.Sums.{sum_by-cons}
use Rattle.std.proofs.lemmas.Option.{none-some, same_Some}

-- what stands in a list with one more item at the end: at its own place, or at the end
pub push_place : {A : Type 0} (xs : List A) (y : A) (k : ℕ) (x : A) → slice_get (xs ++ y ∷ []) k ≡ Some x
    → (slice_get xs k ≡ Some x) ⊎ ((k ≡ length xs) × (x ≡ y))
push_place [] y zero x at = inr (refl, sym (same_Some y x at))
push_place [] y (suc k) x at = absurd (none-some x at)
push_place (z ∷ xs) y zero x at = inl at
push_place (z ∷ xs) y (suc k) x at = elim (push_place xs y k x at) [
  | inl before ↦ inl before
  | inr end ↦ inr (ap suc end.0, end.1)
]

-- lists of which one is made of the other's partners
pub zip_mapped : {A B C : Type 0} (R : A → B → Type 0) (S : C → B → Type 0) (f : A → C)
    → ((x : A) (y : B) → R x y → S (f x) y) → (xs : List A) (ys : List B) → AllZip R xs ys → AllZip S (map f xs) ys
zip_mapped R S f each [] [] h = h
zip_mapped R S f each [] (y ∷ ys) h = h
zip_mapped R S f each (x ∷ xs) [] h = h
zip_mapped R S f each (x ∷ xs) (y ∷ ys) h = (each x y h.0, zip_mapped R S f each xs ys h.1)

-- related lists are as long
pub zip_length : {A B : Type 0} (R : A → B → Type 0) (xs : List A) (ys : List B) → AllZip R xs ys
    → length xs ≡ length ys
zip_length R [] [] h = refl
zip_length R [] (y ∷ ys) h = absurd h
zip_length R (x ∷ xs) [] h = absurd h
zip_length R (x ∷ xs) (y ∷ ys) h = ap suc (zip_length R xs ys h.1)

-- the partner of an item of the second list
pub zip_behind : {A B : Type 0} (R : A → B → Type 0) (xs : List A) (ys : List B) → AllZip R xs ys → (n : ℕ) (y : B)
    → slice_get ys n ≡ Some y → (x : A) × (slice_get xs n ≡ Some x) × R x y
zip_behind R [] [] h n y at = absurd (none-some y at)
zip_behind R [] (z ∷ ys) h n y at = absurd h
zip_behind R (x ∷ xs) [] h n y at = absurd h
zip_behind R (x ∷ xs) (z ∷ ys) h zero y at = (x, refl, rw (← same_Some z y at) h.0)
zip_behind R (x ∷ xs) (z ∷ ys) h (suc n) y at = zip_behind R xs ys h.1 n y at

-- where no item passes a test, none is counted by it
pub none_counted : {A : Type 0} (p : A → Bool) → (xs : List A) → list_any p xs ≡ false → count_by p xs ≡ 0
none_counted p [] none = refl
none_counted {A} p (x ∷ xs) none = by (p x) refl none (none_counted p xs)
  where
    by : (b : Bool) → p x ≡ b → (b || list_any p xs) ≡ false → (list_any p xs ≡ false → count_by p xs ≡ 0)
        → count_by p (x ∷ xs) ≡ 0
    by true is h rest = absurd (true≢false h)
    by false is h rest =
        let others = rest h in
        sum_by-cons (λ (y : A). cond (p y) 1 0) x xs ∙ (λ i. cond (is i) 1 0 + others i)
