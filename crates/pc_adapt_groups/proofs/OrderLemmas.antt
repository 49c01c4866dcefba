-- Runs of consecutive numbers are in order: what stands in an earlier run is less.
use Rattle.std.proofs.Common.{◌≡◌, ◌<◌, ◌≤◌, inl, inr, ℕ, zero, suc, ◌+◌, ◌-◌, List, [], ◌∷◌, ◌++◌, length}
use Rattle.std.proofs.Common.{take, get_or, refl, sym, ap, subst, ◌∙◌, arith, length-append}
use Rattle.std.specs.Prelude.{Some, None, slice_get}
use Rattle.std.specs.List.{Contains, range_with_len}
use Rattle.std.proofs.lemmas.Bool.{cases_lt}
use Rattle.std.proofs.lemmas.Option.{get_or_from_slice_get, same_Some, slice_get-get_or, slice_get_within}
use Rattle.std.proofs.lemmas.List.Elements.{All-contains, Contains-get_or}
use Rattle.std.proofs.lemmas.List.FromFn.{length-range_with_len, get_or-range_with_len}
use Rattle.pc_spec_adapt.specs.Split.{HasAt, IsGoodRun, IsGoodSplit}
use Rattle.pc_adapt_groups.proofs.RunLemmas.{joined, ends, Counts, counts_left, counts_right}

-- what stands in numbers that count up from s
counted : (s : ℕ) (xs : List ℕ) (x : ℕ) → Counts s xs → Contains xs x → (s ≤ x) × (x < s + length xs)
counted s xs x c (k, below, is) =
    let at : s + k ≡ x = sym (c k below) ∙ read xs k below is in
    (omega (arith, at), omega (arith, at, below))
  where
    read : (ys : List ℕ) (j : ℕ) → j < length ys → get_or ys j x ≡ x → get_or ys j 0 ≡ x
    read ys j few e = same_read ys j few ∙ e
      where
        same_read : (zs : List ℕ) (i : ℕ) → i < length zs → get_or zs i 0 ≡ get_or zs i x
        same_read [] i none = absurd (omega (arith, none))
        same_read (z ∷ zs) zero some = refl
        same_read (z ∷ zs) (suc i) some = same_read zs i (omega (arith, some))

-- a number of run r lies between the ends of that run
pub between : (s : ℕ) (runs : List (List ℕ)) (r : ℕ) (run : List ℕ) (x : ℕ) → Counts s (joined runs)
    → slice_get runs r ≡ Some run → Contains run x → (s + ends runs r ≤ x) × (x < s + ends runs (suc r))
between s [] r run x c at in_run = absurd (never (sym at))
  where
    never : Some run ≡ None → ⊥
    never e = grind (arith, e)
between s (first ∷ runs) zero run x c at in_run =
    let same : run ≡ first = same_Some run first (sym at) in
    let here = counted s first x (counts_left s first (joined runs) c) (subst (λ r. Contains r x) same in_run) in
    let front : length (first ++ []) ≡ length first = length-append first [] ∙ omega arith in
    (omega (arith, here.0), omega (arith, here.1, front))
between s (first ∷ runs) (suc r) run x c at in_run =
    let rest = between (s + length first) runs r run x (counts_right s first (joined runs) c) at in_run in
    let here = length-append first (joined (take r runs)) in
    let there = length-append first (joined (take (suc r) runs)) in
    (omega (arith, rest.0, here), omega (arith, rest.1, there))

-- later runs end later
pub ends_grow : (runs : List (List ℕ)) (i j : ℕ) → i ≤ j → ends runs i ≤ ends runs j
ends_grow [] zero zero few = omega arith
ends_grow [] zero (suc j) few = omega arith
ends_grow [] (suc i) zero few = omega arith
ends_grow [] (suc i) (suc j) few = omega arith
ends_grow (run ∷ runs) zero j few = omega arith
ends_grow (run ∷ runs) (suc i) zero few = absurd (omega (arith, few))
ends_grow (run ∷ runs) (suc i) (suc j) few =
    let rest = ends_grow runs i j (omega (arith, few)) in
    omega (arith, rest, length-append run (joined (take i runs)), length-append run (joined (take j runs)))

-- a split counts from 0
pub split_counts : (n : ℕ) (runs : List (List ℕ)) → joined runs ≡ range_with_len 0 n → Counts 0 (joined runs)
split_counts n runs all k below =
    let few : k < n = omega (arith, below, ap length all, length-range_with_len 0 n) in
    ap (λ xs. get_or xs k 0) all ∙ get_or-range_with_len 0 n k 0 few

-- what stands at a place is in the list, and what is in the list stands at a place
pub found_contained : {A : Type 0} (xs : List A) (i : ℕ) (x : A) → slice_get xs i ≡ Some x → Contains xs x
found_contained xs i x at = (i, slice_get_within xs i x at, get_or_from_slice_get xs i x x at)

pub contained_at : {A : Type 0} (xs : List A) (x : A) → Contains xs x → (i : ℕ) × (slice_get xs i ≡ Some x)
contained_at xs x (k, below, is) = (k, slice_get-get_or xs k x below ∙ ap Some is)

-- the run of a number has all numbers between its ends
found_at_place : (s : ℕ) (runs : List (List ℕ)) (r : ℕ) (run : List ℕ) → Counts s (joined runs)
    → slice_get runs r ≡ Some run → ends runs r < ends runs (suc r)
    → (a : ℕ) → ends runs r ≤ a → a < ends runs (suc r) → Contains run (s + a)
found_at_place s [] r run c at some a least most = absurd (never (sym at))
  where
    never : Some run ≡ None → ⊥
    never e = grind (arith, e)
found_at_place s (first ∷ runs) zero run c at some a least most =
    let same : run ≡ first = same_Some run first (sym at) in
    let front : length (first ++ []) ≡ length first = length-append first [] ∙ omega arith in
    let few : a < length first = omega (arith, front, most) in
    let one : get_or first a 0 ≡ s + a = counts_left s first (joined runs) c a few in
    subst (λ r. Contains r (s + a)) (sym same) (subst (Contains first) one (Contains-get_or first a 0 few))
found_at_place s (first ∷ runs) (suc r) run c at some a least most =
    let here = length-append first (joined (take r runs)) in
    let there = length-append first (joined (take (suc r) runs)) in
    let e : s + length first + (a - length first) ≡ s + a = omega (arith, least, here) in
    subst (Contains run) e
    (found_at_place (s + length first) runs r run (counts_right s first (joined runs) c) at
    (omega (arith, some, here, there)) (a - length first) (omega (arith, least, here))
    (omega (arith, least, most, here, there)))

module _ (Needs : ℕ → ℕ → Type 0) (n : ℕ) (runs : List (List ℕ)) (good : IsGoodSplit Needs n runs) where
  -- what isn't greater is in no later run
  pub in_order : (i j a b : ℕ) → HasAt runs i a → HasAt runs j b → a ≤ b → i ≤ j
  in_order i j a b (r, at_r, in_r) (s, at_s, in_s) most =
      let c = split_counts n runs good.all in
      let here = between 0 runs i r a c at_r in_r in
      let there = between 0 runs j s b c at_s in_s in
      elim (cases_lt j i) [
        | inl early ↦
            let grown = ends_grow runs (suc j) i (omega (arith, early)) in
            absurd (omega (arith, here.0, there.1, grown, most))
        | inr late ↦ late
      ]

  -- none of a run needs one of the same run
  pub not_within : (i a b : ℕ) → HasAt runs i a → HasAt runs i b → Needs a b → ⊥
  not_within i a b (r, at_r, in_r) (s, at_s, in_s) needs =
      let same : s ≡ r = same_Some s r (sym at_s ∙ at_r) in
      All-contains (IsGoodRun Needs) runs r good.good (found_contained runs i r at_r) a b in_r
      (subst (λ t. Contains t b) same in_s) needs

  -- what lies between two of a run is of that run
  pub no_gap : (run : List ℕ) → Contains runs run → (a b c : ℕ) → Contains run a → Contains run b → b ≤ c → c ≤ a
      → Contains run c
  no_gap run inside a b c in_a in_b least most =
      let at = contained_at runs run inside in
      let r = at.0 in
      let counts = split_counts n runs good.all in
      let of_a = between 0 runs r run a counts at.1 in_a in
      let of_b = between 0 runs r run b counts at.1 in_b in
      let there = found_at_place 0 runs r run counts at.1 (omega (arith, of_a.0, of_a.1)) in
      subst (Contains run) (omega arith)
      (there c (omega (arith, of_b.0, least)) (omega (arith, of_a.1, most)))
