-- Nodes in the order of their numbers.
use Rattle.std.proofs.Common.{◌≡◌, ◌⊎◌, ℕ, zero, suc, ◌+◌, ◌<◌, List, [], ◌∷◌, ◌++◌, length, slice_get, Some, refl, sym}
use Rattle.std.proofs.Common.{◌∙◌, ap, inl, inr, arith}
use Rattle.pc_numbers.specs.declared.module_entity.FuncIndex.{FuncIndex}

-- what is found in a list that has one item more
found_in : (xs : List FuncIndex) (x : FuncIndex) (i : ℕ) (n : FuncIndex) → slice_get (xs ++ x ∷ []) i ≡ Some n
    → (slice_get xs i ≡ Some n) ⊎ ((i ≡ length xs) × (n ≡ x))
found_in [] x zero n e = let same : x ≡ n = cc in inr (refl, sym same)
found_in [] x (suc i) n e = cc
found_in (y ∷ ys) x zero n e = inl e
found_in (y ∷ ys) x (suc i) n e = elim (found_in ys x i n e) [ inl old ↦ inl old | inr new ↦ inr (ap suc new.0, new.1) ]

-- one number more
pub numbers_more : (xs later : List FuncIndex) (k : ℕ) → length xs ≡ k
    → ((i : ℕ) (n : FuncIndex) → slice_get xs i ≡ Some n → (n.0 ≡ i) × (i < k))
    → later ≡ xs ++ record { 0 = k } ∷ []
    → (i : ℕ) (n : FuncIndex) → slice_get later i ≡ Some n → (n.0 ≡ i) × (i < k + 1)
numbers_more xs later k size before pushed i n found =
    elim (found_in xs (record { 0 = k }) i n (ap (λ ns. slice_get ns i) (sym pushed) ∙ found)) [
      | inl old ↦ (let is = before i n old in let below = is.1 in (is.0, omega arith))
      | inr new ↦ (let at = new.0 in (ap (λ m. m.0) new.1 ∙ sym size ∙ sym at, omega arith))
    ]
