-- Lengths of the fewest runs: they make up all numbers, and none is 0 for nothing.
use Rattle.std.proofs.Common.{◌≡◌, ◌<◌, ◌≤◌, ℕ, zero, suc, ◌+◌, List, [], ◌∷◌, ◌++◌, length, All, refl, sym, ap, subst}
use Rattle.std.proofs.Common.{◌∙◌, arith, length-append}
use Rattle.std.specs.List.{Contains, range_with_len}
use Rattle.std.proofs.lemmas.List.Elements.{All-cons}
use Rattle.std.proofs.lemmas.List.FromFn.{length-range_with_len, get_or-range_with_len}
use Rattle.pc_dfg.proofs.AllLemmas.{all_first, all_rest}
use Rattle.pc_spec_adapt.specs.Split.{IsFewest, IsGoodRun, IsGoodSplit}
use Rattle.pc_adapt_groups.specs.Lengths.{runs_from}
use Rattle.pc_adapt_groups.proofs.RunLemmas.{joined}
use Rattle.pc_adapt_partition.specs.Made.{sum_of}

-- runs have as many numbers as their lengths together
pub length_joined : (s : ℕ) (ls : List ℕ) → length (joined (runs_from s ls)) ≡ sum_of ls
length_joined s [] = refl
length_joined s (l ∷ ls) =
    omega (
      arith,
      length-append (range_with_len s l) (joined (runs_from (s + l) ls)),
      length-range_with_len s l,
      length_joined (s + l) ls,
    )

pub length_runs : (s : ℕ) (ls : List ℕ) → length (runs_from s ls) ≡ length ls
length_runs s [] = refl
length_runs s (l ∷ ls) = ap suc (length_runs (s + l) ls)

-- lengths without those that are 0
abbrev compress : List ℕ → List ℕ
compress [] = []
compress (zero ∷ ls) = compress ls
compress (suc l ∷ ls) = suc l ∷ compress ls

-- there are no more of these
compress_fewer : (ls : List ℕ) → length (compress ls) ≤ length ls
compress_fewer [] = omega arith
compress_fewer (zero ∷ ls) = let rest = compress_fewer ls in omega (arith, rest)
compress_fewer (suc l ∷ ls) = let rest = compress_fewer ls in omega (arith, rest)

-- each length is that of something
abbrev pub AllSome : List ℕ → Type 0
AllSome [] = Unit {0}
AllSome (l ∷ ls) = (0 < l) × AllSome ls

-- where there are as many, none is 0
all_some : (ls : List ℕ) → length ls ≤ length (compress ls) → AllSome ls
all_some [] few = tt
all_some (zero ∷ ls) few = absurd (omega (arith, few, compress_fewer ls))
all_some (suc l ∷ ls) few = (omega arith, all_some ls (omega (arith, few)))

compress_few : (ls : List ℕ) → length (compress ls) ≤ sum_of ls
compress_few [] = omega arith
compress_few (zero ∷ ls) = let rest = compress_few ls in omega (arith, rest)
compress_few (suc l ∷ ls) = let rest = compress_few ls in omega (arith, rest)

no_range : (s : ℕ) → range_with_len s 0 ≡ []
no_range s = none (range_with_len s 0) (length-range_with_len s 0)
  where
    none : (xs : List ℕ) → length xs ≡ 0 → xs ≡ []
    none [] is = refl
    none (x ∷ xs) is = absurd (omega (arith, is))

compress_joined : (s : ℕ) (ls : List ℕ) → joined (runs_from s (compress ls)) ≡ joined (runs_from s ls)
compress_joined s [] = refl
compress_joined s (zero ∷ ls) =
    let here : s ≡ s + 0 = omega arith in
    compress_joined s ls
    ∙ ap (λ k. joined (runs_from k ls)) here
    ∙ ap (λ xs. xs ++ joined (runs_from (s + 0) ls)) (sym (no_range s))
compress_joined s (suc l ∷ ls) =
    ap (λ xs. range_with_len s (suc l) ++ xs) (compress_joined (s + suc l) ls)

compress_all : (P : List ℕ → Type 0) (s : ℕ) (ls : List ℕ) → All P (runs_from s ls)
    → All P (runs_from s (compress ls))
compress_all P s [] all = all
compress_all P s (zero ∷ ls) all =
    let here : s + 0 ≡ s = omega arith in
    compress_all P s ls
    (subst (λ k. All P (runs_from k ls)) here (all_rest P (range_with_len s 0) (runs_from (s + 0) ls) all))
compress_all P s (suc l ∷ ls) all =
    let run = range_with_len s (suc l) in
    let rest = runs_from (s + suc l) ls in
    All-cons P run (runs_from (s + suc l) (compress ls)) (all_first P run rest all)
    (compress_all P (s + suc l) ls (all_rest P run rest all))

module _ (Needs : ℕ → ℕ → Type 0) (n : ℕ) (ls : List ℕ) (fewest : IsFewest Needs n (runs_from 0 ls)) where
  -- the lengths make up all
  pub all_lengths : sum_of ls ≡ n
  all_lengths = sym (length_joined 0 ls) ∙ ap length fewest.split.all ∙ length-range_with_len 0 n

  compressed : IsGoodSplit Needs n (runs_from 0 (compress ls))
  compressed = record {
    all = compress_joined 0 ls ∙ fewest.split.all;
    good = compress_all (IsGoodRun Needs) 0 ls fewest.split.good;
  }

  least : length ls ≤ length (compress ls)
  least =
      let few = fewest.fewest (runs_from 0 (compress ls)) compressed in
      omega (arith, few, length_runs 0 ls, length_runs 0 (compress ls))

  -- no run is empty
  pub lengths_some : AllSome ls
  lengths_some = all_some ls least

  -- there are no more runs than numbers
  pub few_lengths : length ls ≤ n
  few_lengths = omega (arith, least, compress_few ls, all_lengths)

-- a number is in the run that begins there
pub in_range : (s l k : ℕ) → k < l → Contains (range_with_len s l) (s + k)
in_range s l k below =
    (k, omega (arith, below, length-range_with_len s l), get_or-range_with_len s l k (s + k) below)
