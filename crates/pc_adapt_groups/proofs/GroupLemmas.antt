-- The split that closes a run only where it has to has the fewest runs.
use Rattle.std.proofs.Common.{◌≡◌, ◌<◌, ◌≤◌, ◌⊎◌, inl, inr, ℕ, zero, suc, ◌+◌, ◌-◌, List, [], ◌∷◌, ◌++◌, length}
use Rattle.std.proofs.Common.{get_or, refl, sym, ap, subst, ◌∙◌, arith, length-append}
use Rattle.std.specs.Prelude.{Some, slice_get}
use Rattle.std.specs.List.{Contains, range_with_len}
use Rattle.std.proofs.lemmas.Bool.{cases_lt}
use Rattle.std.proofs.lemmas.List.{take_all}
use Rattle.std.proofs.lemmas.List.Elements.{All-contains}
use Rattle.std.proofs.lemmas.List.FromFn.{length-range_with_len, get_or-range_with_len}
use Rattle.pc_adapt_groups.specs.Lengths.{runs_from, end_of, Reaches, StaysBelow, AllStay}
use Rattle.pc_spec_adapt.specs.Split.{IsGoodRun, IsGoodSplit, IsFewest}
use Rattle.pc_adapt_groups.proofs.RunLemmas.{joined, ends, Counts, found, joined_runs, good_runs}
use Rattle.pc_adapt_groups.proofs.RunLemmas.{stay_more, end_more, as_many}

-- the first r runs of each good split of n numbers end at this start or before
abbrev pub Least : List ℕ → (n start r : ℕ) → Type 0
Least needed n start r =
    (others : List (List ℕ)) → IsGoodSplit (Reaches needed) n others → start < n → ends others r ≤ start

-- numbers up to i are split, the last run from `start` on being open
pub record Grouped (needed : List ℕ) (i start : ℕ) (ls : List ℕ) : Type 0 where
  pub within : start ≤ i
  pub before : 0 < i → start < i
  pub few : length ls ≤ start
  pub end : end_of 0 ls ≡ start
  pub stay : AllStay needed 0 ls
  pub open_run : StaysBelow needed start i
  pub least : Least needed (length needed) start (length ls)

-- a split counts
counts : (n : ℕ) (runs : List (List ℕ)) → joined runs ≡ range_with_len 0 n → Counts 0 (joined runs)
counts n runs all k below =
    let few : k < n = omega (arith, below, ap length all, length-range_with_len 0 n) in
    ap (λ xs. get_or xs k 0) all ∙ get_or-range_with_len 0 n k 0 few

-- a number that reaches into the run in progress ends that run, also in each other good split
pub least_step : (needed : List ℕ) (n start a m r : ℕ) → Least needed n start r → slice_get needed a ≡ Some m
    → start < m → m ≤ a → Least needed n a (suc r)
least_step needed n start a zero r least at past lower others good below = absurd (omega (arith, past))
least_step needed n start a (suc b) r least at past lower others good below =
    elim (cases_lt a (ends others (suc r))) [
      | inl early ↦
          let before = least others good (omega (arith, past, lower, below)) in
          let run = found 0 others r (counts n others good.all) (omega (arith, before, past, lower, early)) in
          let a_in : Contains run.0 a =
          subst (Contains run.0) (omega arith) (run.2 a (omega (arith, before, past, lower)) early) in
          let b_in : Contains run.0 b =
          subst (Contains run.0) (omega arith)
          (run.2 b (omega (arith, before, past)) (omega (arith, lower, early))) in
          absurd (All-contains (IsGoodRun (Reaches needed)) others run.0 good.good run.1 a b a_in b_in
          (suc b, at, omega arith))
      | inr late ↦ late
    ]

-- no good split has fewer runs than those that are closed and the one in progress
pub least_end : (needed : List ℕ) (n start r : ℕ) → Least needed n start r → start < n → (others : List (List ℕ))
    → IsGoodSplit (Reaches needed) n others → suc r ≤ length others
least_end needed n start r least below others good =
    elim (cases_lt r (length others)) [
      | inl more ↦ omega (arith, more)
      | inr all ↦
          let whole : ends others r ≡ length (joined others) = ap (λ xs. length (joined xs)) (take_all r others all) in
          let many : length (joined others) ≡ n = ap length good.all ∙ length-range_with_len 0 n in
          let early = least others good below in
          absurd (omega (arith, whole, many, early, below))
    ]

-- in the beginning nothing is split
pub grouped_start : (needed : List ℕ) → Grouped needed 0 0 []
grouped_start needed = record {
  within = omega arith;
  before = λ h. h;
  few = omega arith;
  end = refl;
  stay = tt;
  open_run = λ k m least most at. absurd (omega (arith, most));
  least = λ others good below. omega arith;
}

-- a number that needs none of the run in progress joins it
pub grouped_more : (needed : List ℕ) (i start : ℕ) (ls : List ℕ) (m : ℕ) → Grouped needed i start ls
    → slice_get needed i ≡ Some m → m ≤ start → Grouped needed (i + 1) start ls
grouped_more needed i start ls m old at few = record {
  within = omega (arith, old.within);
  before = λ h. omega (arith, old.within);
  few = old.few;
  end = old.end;
  stay = old.stay;
  open_run = λ k n least most is.
      elim (cases_lt k i) [
        | inl early ↦ old.open_run k n least early is
        | inr late ↦
            let here : k ≡ i = omega (arith, late, most) in
            let same : n ≡ m = same_at k here n is in
            omega (arith, few, same)
      ];
  least = old.least;
}
  where
    same_at : (k : ℕ) → k ≡ i → (n : ℕ) → slice_get needed k ≡ Some n → n ≡ m
    same_at k here n is = same_some (sym is ∙ ap (slice_get needed) here ∙ at)
      where
        same_some : Some n ≡ Some m → n ≡ m
        same_some e = grind (arith, e)

-- one that needs one of it begins the next run
pub grouped_closed : (needed : List ℕ) (i start : ℕ) (ls : List ℕ) (m : ℕ) → Grouped needed i start ls
    → slice_get needed i ≡ Some m → start < m → m ≤ i → Grouped needed (i + 1) i (ls ++ (i - start) ∷ [])
grouped_closed needed i start ls m old at past lower = record {
  within = omega arith;
  before = λ h. omega arith;
  few = omega (arith, length-append ls ((i - start) ∷ []), old.few, past, lower);
  end = end_more 0 ls (i - start) ∙ omega (arith, old.end, past, lower);
  stay = stay_more needed 0 ls (i - start) i old.stay (subst (λ s. StaysBelow needed s i) (sym old.end) old.open_run)
      (omega (arith, old.end, past, lower));
  open_run = λ k n least most is.
      let here : k ≡ i = omega (arith, least, most) in
      let same : n ≡ m = same_at k here n is in
      omega (arith, lower, same);
  least = λ others good below.
      let step = least_step needed (length needed) start i m (length ls) old.least at past lower others good below in
      let more : suc (length ls) ≡ length (ls ++ (i - start) ∷ []) =
      omega (arith, length-append ls ((i - start) ∷ [])) in
      subst (λ r. ends others r ≤ i) more step;
}
  where
    same_at : (k : ℕ) → k ≡ i → (n : ℕ) → slice_get needed k ≡ Some n → n ≡ m
    same_at k here n is = same_some (sym is ∙ ap (slice_get needed) here ∙ at)
      where
        same_some : Some n ≡ Some m → n ≡ m
        same_some e = grind (arith, e)

-- in the end the run in progress is closed too
pub grouped_end : (needed : List ℕ) (start : ℕ) (ls : List ℕ) → Grouped needed (length needed) start ls
    → start < length needed
    → IsFewest (Reaches needed) (length needed) (runs_from 0 (ls ++ (length needed - start) ∷ []))
grouped_end needed start ls all below =
    let n = length needed in
    let l = n - start in
    let more = ls ++ l ∷ [] in
    let ended : end_of 0 ls + l ≡ n = omega (arith, all.end, below) in
    record {
      split = record {
        all = joined_runs 0 more n (omega (arith, end_more 0 ls l, ended));
        good = good_runs needed 0 more
            (stay_more needed 0 ls l n all.stay (subst (λ s. StaysBelow needed s n) (sym all.end) all.open_run) ended);
      };
      fewest = λ others good.
          let least = least_end needed n start (length ls) all.least below others good in
          omega (arith, least, as_many 0 more, length-append ls (l ∷ []));
    }

-- where there is no number there is no run
pub grouped_none : (needed : List ℕ) (start : ℕ) (ls : List ℕ) → Grouped needed (length needed) start ls
    → length needed ≤ start → IsFewest (Reaches needed) (length needed) (runs_from 0 ls)
grouped_none needed start ls all past =
    let none : length needed ≡ 0 = empty (cases_lt 0 (length needed)) in
    record {
      split = record {
        all = joined_runs 0 ls (length needed) (omega (arith, all.end, all.within, past));
        good = good_runs needed 0 ls all.stay;
      };
      fewest = λ others good. omega (arith, as_many 0 ls, all.few, all.within, none);
    }
  where
    empty : (0 < length needed) ⊎ (length needed ≤ 0) → length needed ≡ 0
    empty (inl some) = let early = all.before some in absurd (omega (arith, early, past))
    empty (inr few) = omega (arith, few)
