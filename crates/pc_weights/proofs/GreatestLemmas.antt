-- The greatest number of a list, as far as it has been gone through.
use Rattle.std.proofs.Common.{◌≡◌, ℕ, ◌+◌, ◌<◌, ◌≤◌, List, ◌∷◌, length, get_or, drop, sym, ap, ◌∙◌, arith}
use Rattle.std.specs.Prelude.{max}
use Rattle.std.proofs.lemmas.List.{drop_all, drop_more}
use Rattle.pc_spec_reading.specs.Total.{greatest}

-- what is left of a list from an item on
drop_next : {A : Type 0} (xs : List A) (i : ℕ) (x : A) → i < length xs → x ≡ get_or xs i x
    → drop i xs ≡ x ∷ drop (i + 1) xs
drop_next xs i x within is = drop_more xs i x within ∙ (λ j. sym is j ∷ drop (i + 1) xs)

-- one item further
pub greatest_further : {A : Type 0} (f : A → ℕ) (xs : List A) (i : ℕ) (x : A) (most n : ℕ) → i < length xs
    → x ≡ get_or xs i x → n ≡ max most (f x) → max most (greatest f (drop i xs)) ≡ greatest f xs
    → max n (greatest f (drop (i + 1) xs)) ≡ greatest f xs
greatest_further f xs i x most n within at is before =
    let next = ap (greatest f) (drop_next xs i x within at) in
    omega (arith, next, is, before)

-- at the end
pub greatest_whole : {A : Type 0} (f : A → ℕ) (xs : List A) (i most : ℕ) → length xs ≤ i
    → max most (greatest f (drop i xs)) ≡ greatest f xs → most ≡ greatest f xs
greatest_whole f xs i most all before =
    let none = ap (greatest f) (drop_all i xs all) in
    omega (arith, none, before)
