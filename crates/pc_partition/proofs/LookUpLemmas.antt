-- Look-ups in lists.
use Rattle.std.proofs.Common.{◌≡◌, ◌<◌, ◌≤◌, ◌+◌, ◌⊎◌, ℕ, zero, suc, List, [], ◌∷◌, ◌++◌, length, Option, Some, refl}
use Rattle.std.proofs.Common.{ap, inl, inr, arith, sym, ◌∙◌}
use Rattle.std.specs.Prelude.{slice_get}
use Rattle.std.proofs.lemmas.Option.{same_Some}
use Rattle.pc_entity.proofs.LookupLemmas.{found_at}

-- a number below the next one is below this one, or it
pub below_next : (j n : ℕ) → j < n + 1 → (j < n) ⊎ (j ≡ n)
below_next zero zero h = inr refl
below_next zero (suc n) h = inl (omega arith)
below_next (suc j) zero h = absurd (omega (arith, h))
below_next (suc j) (suc n) h = elim (below_next j n (omega (arith, h))) [
  | inl before ↦ inl (omega (arith, before))
  | inr same ↦ inr (ap suc same)
]

-- one number is up to another, or behind it
pub order : (n j : ℕ) → (n ≤ j) ⊎ (j < n)
order zero j = inl (omega arith)
order (suc n) zero = inr (omega arith)
order (suc n) (suc j) = elim (order n j) [
  | inl up ↦ inl (omega (arith, up))
  | inr behind ↦ inr (omega (arith, behind))
]

-- the key of a place
pub same_key : {K : Type 0} (keys : List (Option K)) (n : ℕ) (k l : K) → slice_get keys n ≡ Some (Some k)
    → slice_get keys n ≡ Some (Some l) → k ≡ l
same_key keys n k l p q = same_Some k l (same_Some (Some k) (Some l) (sym p ∙ q))

-- a place is held, or lies past the end
pub place_in : {A : Type 0} (xs : List A) (i : ℕ) → ((x : A) × (slice_get xs i ≡ Some x)) ⊎ (length xs ≤ i)
place_in xs i = elim (order (length xs) i) [
  | inl past ↦ inr past
  | inr before ↦ inl (found_at xs i before)
]

module _ {A : Type 0} where
  -- a look-up in a list with one more item finds an item of the list, or the last
  pub look_up-push : (xs : List A) (y : A) (p : ℕ) (x : A) → slice_get (xs ++ y ∷ []) p ≡ Some x
      → (slice_get xs p ≡ Some x) ⊎ ((p ≡ length xs) × (y ≡ x))
  look_up-push [] y zero x h = inr (refl, same_Some y x h)
  look_up-push [] y (suc p) x h = cc
  look_up-push (z ∷ xs) y zero x h = inl h
  look_up-push (z ∷ xs) y (suc p) x h = elim (look_up-push xs y p x h) [
    | inl before ↦ inl before
    | inr last ↦ inr (ap suc last.0, last.1)
  ]

  -- two lists of one length with the same look-ups are one list
  pub same_by_look_ups : (xs ys : List A) → length xs ≡ length ys
      → ((i : ℕ) (x y : A) → slice_get xs i ≡ Some x → slice_get ys i ≡ Some y → x ≡ y) → xs ≡ ys
  same_by_look_ups [] [] n same = refl
  same_by_look_ups [] (y ∷ ys) n same = absurd (omega (arith, n))
  same_by_look_ups (x ∷ xs) [] n same = absurd (omega (arith, n))
  same_by_look_ups (x ∷ xs) (y ∷ ys) n same =
      let first : x ≡ y = same zero x y refl refl in
      let rest : xs ≡ ys = same_by_look_ups xs ys (omega (arith, n)) (λ i a b p q. same (suc i) a b p q) in
      λ i. first i ∷ rest i
