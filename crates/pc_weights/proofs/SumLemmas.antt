-- Sums over what items become.
use Rattle.std.proofs.Common.{◌≡◌, ℕ, ◌+◌, ◌-◌, ◌≤◌, List, [], ◌∷◌, map, length, drop, refl, sym, ap, ◌∙◌, arith}
use Rattle.std.specs.Prelude.{sum_by}
use Rattle.std.proofs.lemmas.List.{drop_all}
use Rattle.std.proofs.lemmas.List.Sums.{sum_by-cons}

-- a sum over what items become
sum_by_map : {A B : Type 0} (f : B → ℕ) (g : A → B) (xs : List A)
    → sum_by f (map g xs) ≡ sum_by (λ (x : A). f (g x)) xs
sum_by_map f g [] = refl
sum_by_map f g (x ∷ xs) =
    sum_by-cons f (g x) (map g xs) ∙ ap (λ (n : ℕ). f (g x) + n) (sum_by_map f g xs)
    ∙ sym (sum_by-cons (λ y. f (g y)) x xs)

-- what is left of some room when each item has been gone through
pub left_at_end : {A B : Type 0} (f : B → ℕ) (g : A → B) (xs : List A) (i room left : ℕ) → length xs ≤ i
    → left - sum_by (λ (x : A). f (g x)) (drop i xs) ≡ room - sum_by (λ (x : A). f (g x)) xs
    → left ≡ room - sum_by f (map g xs)
left_at_end f g xs i room left all before =
    let none = ap (sum_by (λ x. f (g x))) (drop_all i xs all) in
    let same = sum_by_map f g xs in
    omega (arith, none, same, before)
