-- Runs of consecutive numbers: what stands in them, and where they end.
use Rattle.std.proofs.Common.{◌≡◌, ◌<◌, ◌≤◌, ℕ, zero, suc, ◌+◌, ◌-◌, List, [], ◌∷◌, ◌++◌, length}
use Rattle.std.proofs.Common.{take, get_or, All, refl, sym, ap, subst, ◌∙◌, arith, length-append}
use Rattle.std.specs.List.{Contains, flat_map, range_with_len}
use Rattle.std.proofs.lemmas.List.{get_or-append-add, get_or_append_left}
use Rattle.std.proofs.lemmas.List.Elements.{All-nil, All-cons, Contains-get_or}
use Rattle.std.proofs.lemmas.List.FromFn.{length-range_with_len, get_or-range_with_len}
use Rattle.pc_adapt_groups.specs.Lengths.{runs_from, end_of, Reaches, StaysBelow, AllStay}
use Rattle.pc_spec_adapt.specs.Split.{IsGoodRun}

-- the numbers of runs, in order
abbrev pub joined : List (List ℕ) → List ℕ
joined runs = flat_map (λ run. run) runs

-- how many numbers stand in the first r runs
abbrev pub ends : List (List ℕ) → ℕ → ℕ
ends runs r = length (joined (take r runs))

-- numbers that count up from s
abbrev pub Counts : ℕ → List ℕ → Type 0
Counts s xs = (k : ℕ) → k < length xs → get_or xs k 0 ≡ s + k

pub counts_left : (s : ℕ) (xs ys : List ℕ) → Counts s (xs ++ ys) → Counts s xs
counts_left s xs ys c k below =
    sym (get_or_append_left xs ys 0 k below) ∙ c k (omega (arith, length-append xs ys, below))

pub counts_right : (s : ℕ) (xs ys : List ℕ) → Counts s (xs ++ ys) → Counts (s + length xs) ys
counts_right s xs ys c k below =
    let place : length xs + k < length (xs ++ ys) = omega (arith, length-append xs ys, below) in
    let same : s + (length xs + k) ≡ s + length xs + k = omega arith in
    sym (get_or-append-add xs ys k 0) ∙ c (length xs + k) place ∙ same

-- a number at its place
holds : (s : ℕ) (xs : List ℕ) (k : ℕ) → Counts s xs → k < length xs → Contains xs (s + k)
holds s xs k c below = subst (Contains xs) (c k below) (Contains-get_or xs k 0 below)

-- what is in one of the runs behind the first one
later : (run : List ℕ) (runs : List (List ℕ)) (x : List ℕ) → Contains runs x → Contains (run ∷ runs) x
later run runs x (k, below, is) = (suc k, omega (arith, below), is)

-- the run of number r, where it isn't empty, has all numbers between its ends
pub found : (s : ℕ) (runs : List (List ℕ)) (r : ℕ) → Counts s (joined runs) → ends runs r < ends runs (suc r)
    → (run : List ℕ) × Contains runs run
    × ((a : ℕ) → ends runs r ≤ a → a < ends runs (suc r) → Contains run (s + a))
found s [] zero c some = absurd (omega (arith, some))
found s [] (suc r) c some = absurd (omega (arith, some))
found s (run ∷ runs) zero c some =
    let front : length (run ++ []) ≡ length run = length-append run [] ∙ (omega arith) in (
      run,
      (0, omega arith, refl),
      λ a least most.
          holds s run a (counts_left s run (joined runs) c) (omega (arith, front, most)),
    )
found s (run ∷ runs) (suc r) c some =
    let here = length-append run (joined (take r runs)) in
    let there = length-append run (joined (take (suc r) runs)) in
    let rest = found (s + length run) runs r (counts_right s run (joined runs) c)
    (omega (arith, some, here, there)) in (
      rest.0,
      later run runs rest.0 rest.1,
      λ a least most.
          let e : s + length run + (a - length run) ≡ s + a = omega (arith, least, here) in
          subst (Contains rest.0) e
          (rest.2 (a - length run) (omega (arith, least, here)) (omega (arith, least, most, here, there))),
    )

-- runs by their lengths hold the numbers up to their end
pub range_joined : (s l k t n : ℕ) → s + l ≡ t → l + k ≡ n
    → range_with_len s l ++ range_with_len t k ≡ range_with_len s n
range_joined s zero k t n e f =
    let start : t ≡ s = omega (arith, e) in
    let all : k ≡ n = omega (arith, f) in
    (λ i. range_with_len (start i) (all i))
range_joined s (suc l) k t n e f =
    let all : suc (l + k) ≡ n = omega (arith, f) in
    ap (λ xs. s ∷ xs) (range_joined (s + 1) l k t (l + k) (omega (arith, e)) refl) ∙ ap (range_with_len s) all

pub joined_runs : (s : ℕ) (ls : List ℕ) (n : ℕ) → s + n ≡ end_of s ls → joined (runs_from s ls) ≡ range_with_len s n
joined_runs s [] n e = let none : 0 ≡ n = omega (arith, e) in ap (range_with_len s) none
joined_runs s (l ∷ ls) n e =
    let past = end_past (s + l) ls in
    let rest = joined_runs (s + l) ls (n - l) (omega (arith, e, past)) in
    ap (λ xs. range_with_len s l ++ xs) rest ∙ range_joined s l (n - l) (s + l) n refl (omega (arith, e, past))
  where
    end_past : (s : ℕ) (ls : List ℕ) → s ≤ end_of s ls
    end_past s [] = omega arith
    end_past s (l ∷ ls) = let more = end_past (s + l) ls in omega (arith, more)

-- what stands in such a run
pub within : (s l x : ℕ) → Contains (range_with_len s l) x → (s ≤ x) × (x < s + l)
within s l x (k, below, is) =
    let few : k < l = omega (arith, below, length-range_with_len s l) in
    let at : s + k ≡ x = sym (get_or-range_with_len s l k x few) ∙ is in
    (omega (arith, at), omega (arith, at, few))

-- where no number of a run is past its start, the runs are good
pub good_runs : (needed : List ℕ) (s : ℕ) (ls : List ℕ) → AllStay needed s ls
    → All (IsGoodRun (Reaches needed)) (runs_from s ls)
good_runs needed s [] stay = All-nil (IsGoodRun (Reaches needed))
good_runs needed s (l ∷ ls) stay =
    All-cons (IsGoodRun (Reaches needed)) (range_with_len s l) (runs_from (s + l) ls)
    (λ a b in_a in_b needs.
    let of_a = within s l a in_a in
    let of_b = within s l b in_b in
    let most = stay.0 a needs.0 of_a.0 of_a.1 needs.1 in
    omega (arith, most, of_b.0, needs.2))
    (good_runs needed (s + l) ls stay.1)

-- one run more
pub stay_more : (needed : List ℕ) (s : ℕ) (ls : List ℕ) (l e : ℕ) → AllStay needed s ls
    → StaysBelow needed (end_of s ls) e → end_of s ls + l ≡ e → AllStay needed s (ls ++ l ∷ [])
stay_more needed s [] l e stay last is = (subst (StaysBelow needed s) (sym is) last, tt)
stay_more needed s (m ∷ ls) l e stay last is = (stay.0, stay_more needed (s + m) ls l e stay.1 last is)

pub end_more : (s : ℕ) (ls : List ℕ) (l : ℕ) → end_of s (ls ++ l ∷ []) ≡ end_of s ls + l
end_more s [] l = refl
end_more s (m ∷ ls) l = end_more (s + m) ls l

pub as_many : (s : ℕ) (ls : List ℕ) → length (runs_from s ls) ≡ length ls
as_many s [] = refl
as_many s (l ∷ ls) = let rest = as_many (s + l) ls in omega (arith, rest)
