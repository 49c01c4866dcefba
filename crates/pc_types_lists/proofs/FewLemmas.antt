-- How few types are added: by several steps together, of core signatures, and where a list then had no place.
use Rattle.std.proofs.Common.{◌≡◌, ◌≤◌, ◌<◌, ◌+◌, ◌*◌, ◌⊎◌, ◌++◌, ◌∷◌, ◌∙◌, ℕ, zero, suc, List, [], length, Contains}
use Rattle.std.proofs.Common.{Some, refl, sym, ap, subst, arith, inl, inr}
use Rattle.std.specs.Prelude.{slice_get}
use Rattle.std.proofs.lemmas.List.{length-append}
use Rattle.std.proofs.lemmas.Option.{same_Some, slice_get-get_or, slice_get_within}
use Rattle.pc_entity.proofs.Growing.{slice_get-append}
use Rattle.pc_entity.proofs.LookupLemmas.{found_at}
use Rattle.pc_types.specs.declared.parsed.CoreFuncSig.{CoreFuncSig}
use Rattle.pc_types.specs.declared.parsed.TypeTable.{TypeTable}
use Rattle.pc_types.specs.declared.types.TypeKind.{TypeKind}
use Rattle.pc_types.specs.declared.types.TypeKind.TheVariants as kind
use Rattle.pc_types_lists.specs.Adds.{AddsTypes, HasNoPlaceFor}
use Rattle.pc_types_lists.specs.Interned.{IsPut}
use Rattle.pc_types_lists.specs.Types.{HasNumber, IsBuilder, IsFull, Resources, Types, held}
use Rattle.pc_types_lists.proofs.AddedLemmas.{below_or}

-- A relation that leaves out one place and its number.
module _ (R : ℕ → ℕ → Type 0) (one : (i j c : ℕ) → R i c → R j c → i ≡ j) (l n : ℕ) (last : R n l) where
  -- the numbers above the one that is left out move down by one
  abbrev Skips : ℕ → ℕ → Type 0
  Skips i c = ((c < l) × R i c) ⊎ ((l ≤ c) × R i (suc c))

  -- no number is that of two places
  skips_one : (i j c : ℕ) → Skips i c → Skips j c → i ≡ j
  skips_one i j c (inl h) (inl k) = one i j c h.1 k.1
  skips_one i j c (inl h) (inr k) = absurd (omega (arith, h.0, k.0))
  skips_one i j c (inr h) (inl k) = absurd (omega (arith, h.0, k.0))
  skips_one i j c (inr h) (inr k) = one i j (suc c) h.1 k.1

  -- a place in front of the one that is left out still has a number
  skips_has : (m i : ℕ) → l < suc m → i < n → (c : ℕ) → c < suc m → R i c → (d : ℕ) × (d < m) × Skips i d
  skips_has m i top below c within has = elim (below_or c l) as (λ _. (d : ℕ) × (d < m) × Skips i d) [
    | inl under ↦ (c, omega (arith, under, top), inl (under, has))
    | inr over ↦ above c within has over
  ]
    where
      above : (c : ℕ) → c < suc m → R i c → l ≤ c → (d : ℕ) × (d < m) × Skips i d
      above zero within has over =
          let same : zero ≡ l = omega (arith, over) in
          absurd (omega (arith, below, one i n l (subst (R i) same has) last))
      above (suc d) within has over = elim (below_or d l) as (λ _. (d : ℕ) × (d < m) × Skips i d) [
        | inl under ↦ (
            let same : suc d ≡ l = omega (arith, under, over) in
            absurd (omega (arith, below, one i n l (subst (R i) same has) last)))
        | inr there ↦ (d, omega (arith, within), inr (there, has))
      ]

-- where each of n places has a number below m, and no two have one number, there are at most m places
pub at_most : (m n : ℕ) (R : ℕ → ℕ → Type 0) → ((i : ℕ) → i < n → (c : ℕ) × (c < m) × R i c)
    → ((i j c : ℕ) → R i c → R j c → i ≡ j) → n ≤ m
at_most m zero R has one = omega arith
at_most zero (suc n) R has one = let last = has n (omega arith) in absurd (omega (arith, last.1))
at_most (suc m) (suc n) R has one =
    let last = has n (omega arith) in
    let rest : n ≤ m = at_most m n (Skips R one last.0 n last.2)
    (λ i below.
    let here = has i (omega (arith, below)) in
    skips_has R one last.0 n last.2 m i last.1 below here.0 here.1 here.2) (skips_one R one last.0 n last.2) in
    omega (arith, rest)

module _ (old m : ℕ) (R : ℕ → ℕ → Type 0) (one : (i j c : ℕ) → R i c → R j c → i ≡ j) where
  -- the places in front count themselves
  abbrev Counts : ℕ → ℕ → Type 0
  Counts i c = ((c < old) × (i ≡ c)) ⊎ ((d : ℕ) × (c ≡ old + d) × R i d)

  -- no number is that of two places
  counts_one : (i j c : ℕ) → Counts i c → Counts j c → i ≡ j
  counts_one i j c (inl h) (inl k) = h.1 ∙ sym k.1
  counts_one i j c (inl h) (inr k) = absurd (omega (arith, h.0, k.1))
  counts_one i j c (inr h) (inl k) = absurd (omega (arith, h.1, k.0))
  counts_one i j c (inr h) (inr k) =
      let same : k.0 ≡ h.0 = omega (arith, h.1, k.1) in
      one i j h.0 h.2 (subst (R j) same k.2)

  -- the same of the places from `old` on
  pub at_most_from : (new : ℕ) → ((i : ℕ) → old ≤ i → i < new → (c : ℕ) × (c < m) × R i c) → new ≤ old + m
  at_most_from new has = at_most (old + m) new Counts counts counts_one
    where
      counts : (i : ℕ) → i < new → (c : ℕ) × (c < old + m) × Counts i c
      counts i below = elim (below_or i old) as (λ _. (c : ℕ) × (c < old + m) × Counts i c) [
        | inl early ↦ (i, omega (arith, early), inl (early, refl))
        | inr late ↦ (
            let x = has i late below in (old + x.0, omega (arith, x.1), inr (x.0, refl, x.2)))
      ]

-- a list into which a type was put has at most one more
pub put_length : {V : Type 0} (old new : List V) (value : V) → IsPut old new value → length new ≤ length old + 1
put_length old new value put = elim put as (λ _. length new ≤ length old + 1) [
  | inl same ↦ omega (arith, ap length same)
  | inr more ↦ omega (arith, ap length more.0 ∙ length-append old (value ∷ []))
]

module _ (t : TypeTable) where
  -- what changes nothing adds no type
  pub few_none : (w : ℕ) (a b : Types) → b ≡ a → AddsTypes t w a b
  few_none w a b same = subst (AddsTypes t w a) (sym same)
      (record { few = λ k counted. omega arith; signatures = λ s has. inl has })

  -- a looser bound
  pub few_more : (w v : ℕ) (a b : Types) → w ≤ v → AddsTypes t w a b → AddsTypes t v a b
  few_more w v a b more adds = record {
    few = λ k counted. omega (arith, more, adds.few k counted);
    signatures = adds.signatures;
  }

  -- two steps together
  pub few_both : (w v : ℕ) (a b c : Types) → AddsTypes t w a b → AddsTypes t v b c → AddsTypes t (w + v) a c
  few_both w v a b c first second = record {
    few = λ k counted. omega (arith, first.few k counted, second.few k counted);
    signatures = λ s has. elim (second.signatures s has) as (λ _. HasNumber a.signatures s ⊎ Contains t.core_funcs s) [
      | inl before ↦ first.signatures s before
      | inr named ↦ inr named
    ];
  }

-- resources are in no list of types
held_aside : (b : Types) (r : Resources) (k : TypeKind) → held (record b { resources = r }) k ≡ held b k
held_aside b r kind.Func = refl
held_aside b r kind.Tuple = refl
held_aside b r kind.Record = refl
held_aside b r kind.Variant = refl
held_aside b r kind.List = refl
held_aside b r kind.Option = refl
held_aside b r kind.Result = refl
held_aside b r kind.Flags = refl
held_aside b r kind.Enum = refl
held_aside b r kind.ResourceTable = refl
held_aside b r kind.FutureTable = refl
held_aside b r kind.StreamTable = refl
held_aside b r kind.ErrorContextTable = refl
held_aside b r kind.Instance = refl
held_aside b r kind.Component = refl
held_aside b r kind.Module = refl
held_aside b r kind.Signature = refl

-- so it doesn't matter which are known
pub few_aside : (t : TypeTable) (w : ℕ) (a b : Types) (r s : Resources) → AddsTypes t w a b
    → AddsTypes t w (record a { resources = r }) (record b { resources = s })
few_aside t w a b r s adds = record {
  few = λ k counted. omega (arith, adds.few k counted, held_aside a r k, held_aside b s k);
  signatures = adds.signatures;
}

-- an item of a second list stands behind the first
behind : {A : Type 0} (xs ys : List A) (j k : ℕ) (x : A) → k ≡ length xs + j → slice_get ys j ≡ Some x
    → slice_get (xs ++ ys) k ≡ Some x
behind [] ys j k x is at = let same : j ≡ k = omega (arith, is) in subst (λ m. slice_get ys m ≡ Some x) same at
behind (y ∷ xs) ys j zero x is at = absurd (omega (arith, is))
behind (y ∷ xs) ys j (suc k) x is at = behind xs ys j k x (omega (arith, is)) at

module _ (t : TypeTable) (w : ℕ) (old new : Types) (is : IsBuilder new) (adds : AddsTypes t w old new) where
  -- the signatures that were held, and those of the table
  abbrev before : List CoreFuncSig
  before = old.signatures ++ t.core_funcs

  -- number `i` has the signature that stands at a place of these
  abbrev Stands : ℕ → ℕ → Type 0
  Stands i c = (s : CoreFuncSig) × (slice_get new.signatures i ≡ Some s) × (slice_get before c ≡ Some s)

  -- a signature that was held, or that the table has, stands among these
  placed : (i : ℕ) (s : CoreFuncSig) → slice_get new.signatures i ≡ Some s
      → HasNumber old.signatures s ⊎ Contains t.core_funcs s → (c : ℕ) × (c < length before) × Stands i c
  placed i s at (inl n) =
      let there = slice_get-append old.signatures t.core_funcs n.0 s n.1 in
      (n.0, slice_get_within before n.0 s there, (s, at, there))
  placed i s at (inr n) =
      let found = slice_get-get_or t.core_funcs n.0 s n.1 ∙ ap Some n.2 in
      let there = behind old.signatures t.core_funcs n.0 (length old.signatures + n.0) s refl found in
      (length old.signatures + n.0, slice_get_within before (length old.signatures + n.0) s there, (s, at, there))

  -- so does each that is held
  stands : (i : ℕ) → i < length new.signatures → (c : ℕ) × (c < length before) × Stands i c
  stands i below = let s = found_at new.signatures i below in placed i s.0 s.1 (adds.signatures s.0 (i, s.1))

  -- and no two are one
  stands_one : (i j c : ℕ) → Stands i c → Stands j c → i ≡ j
  stands_one i j c h k = is.distinct kind.Signature i j h.0 h.1 (k.1 ∙ ap Some (same_Some k.0 h.0 (sym k.2 ∙ h.2)))

  -- there are as many core signatures more as the table has, at the most
  pub signatures_few : length new.signatures ≤ length old.signatures + length t.core_funcs
  signatures_few =
      let few : length new.signatures ≤ length before =
      at_most (length before) (length new.signatures) Stands stands stands_one in
      omega (arith, length-append old.signatures t.core_funcs, few)

  -- so each list has grown by few
  pub held_few : (k : TypeKind) → held new k ≤ held old k + (w + length t.core_funcs)
  held_few k = by k
    where
      by : (k : TypeKind) → held new k ≤ held old k + (w + length t.core_funcs)
      by kind.Signature = let few = signatures_few in omega (arith, few)
      by k = let few = adds.few k refl in omega (arith, few)

-- where a list is full, there is no place for what an entry may need
pub no_place_now : (t : TypeTable) (b : Types) → IsFull b → HasNoPlaceFor t b
no_place_now t b full = by full.0 full.1
  where
    by : (k : TypeKind) → held b k ≡ 4294967294 → HasNoPlaceFor t b
    by kind.Signature full = record { of_kind = kind.Signature; past = omega (arith, full) }
    by k full = record { of_kind = k; past = omega (arith, full) }

-- and where a list is full after few were added, there was none before
pub no_place_before : (t : TypeTable) (old new : Types) → IsBuilder new
    → AddsTypes t (3 * length t.types) old new → IsFull new → HasNoPlaceFor t old
no_place_before t old new is adds full = by full.0 full.1
  where
    by : (k : TypeKind) → held new k ≡ 4294967294 → HasNoPlaceFor t old
    by kind.Signature full =
        let few = signatures_few t (3 * length t.types) old new is adds in
        record { of_kind = kind.Signature; past = omega (arith, full, few) }
    by k full = let few = adds.few k refl in record { of_kind = k; past = omega (arith, full, few) }
