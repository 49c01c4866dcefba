-- Numbers that are cut where a total is full.
use Rattle.std.proofs.Common.{◌≡◌, ℕ, ◌+◌, List, [], ◌∷◌, map, Option, None, Some, refl, sym, ap, ◌∙◌, arith}
use Rattle.std.specs.Prelude.{slice_get, sum_by, unwrap_or}
use Rattle.std.specs.Option.{option_map}
use Rattle.std.proofs.lemmas.List.Sums.{sum_by-cons}
use Rattle.std.proofs.lemmas.Option.{slice_get-map}
use Rattle.pc_weights.specs.Capped.{capped}

-- cutting changes nothing where the sum is cut
pub capped_sum : (a b c d : ℕ) → capped a ≡ capped c → capped b ≡ capped d → capped (a + b) ≡ capped (c + d)
capped_sum a b c d p q = omega (arith, p, q)

-- nor in a sum over a list
pub capped_sum_by : {A : Type 0} (f g : A → ℕ) → ((x : A) → capped (f x) ≡ capped (g x)) → (xs : List A)
    → capped (sum_by f xs) ≡ capped (sum_by g xs)
capped_sum_by f g same [] = refl
capped_sum_by f g same (x ∷ xs) =
    ap capped (sum_by-cons f x xs)
    ∙ capped_sum (f x) (sum_by f xs) (g x) (sum_by g xs) (same x) (capped_sum_by f g same xs)
    ∙ ap capped (sym (sum_by-cons g x xs))

-- what is cut is cut once
pub capped_twice : (n : ℕ) → capped (capped n) ≡ capped n
capped_twice n = omega arith

-- a look-up that finds nothing finds 0, cut or not
pub capped_or : (o : Option ℕ) → unwrap_or (option_map capped o) 0 ≡ capped (unwrap_or o 0)
capped_or None = refl
capped_or (Some n) = refl

-- a look-up among numbers that are cut
pub capped_at : (ns : List ℕ) (n : ℕ)
    → unwrap_or (slice_get (map capped ns) n) 0 ≡ capped (unwrap_or (slice_get ns n) 0)
capped_at ns n = ap (λ (o : Option ℕ). unwrap_or o 0) (slice_get-map capped ns n) ∙ capped_or (slice_get ns n)
