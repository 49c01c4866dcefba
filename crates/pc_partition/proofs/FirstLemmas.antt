-- The first places of keys while a list is gone through.
use Rattle.std.proofs.Common.{◌≡◌, ◌<◌, ◌≤◌, ◌+◌, ◌⊎◌, ℕ, Bool, true, cond, List, [], ◌∷◌, ◌++◌, Option}
use Rattle.std.proofs.Common.{None, Some, refl, ap, inl, inr, arith, sym, ◌∙◌, length-append}
use Rattle.std.specs.Prelude.{slice_get}
use Rattle.std.proofs.lemmas.Option.{none-some, same_Some}
use Rattle.pc_entity.proofs.Elements.{bool_cases}
use Rattle.pc_partition.specs.Least.{Share}
use Rattle.pc_partition.specs.Firsts.{AreFirsts, TellsLeast, TellsNext}
use Rattle.pc_partition.proofs.LookUpLemmas.{below_next, look_up-push, order, same_key}

module _ {K : Type 0} (keys : List (Option K)) (n : ℕ) (found : K → Option ℕ) (so_far : AreFirsts keys n found) where
  module _ (k : K) (here : slice_get keys n ≡ Some (Some k)) where
    -- a key that stood before keeps its first place
    module _ (m : ℕ) (held : found k ≡ Some m) where
      all_kept : (j : ℕ) (l : K) → j < n + 1 → slice_get keys j ≡ Some (Some l) → (d : ℕ) × (found l ≡ Some d)
      all_kept j l below at = elim (below_next j n below) [
        | inl before ↦ so_far.all j l before at
        | inr same ↦ (m, ap found (same_key keys n l k (rw (← same) at) here) ∙ held)
      ]

      least_kept : (j : ℕ) → Share keys n j → m ≤ j
      least_kept j (inl same) = let t = so_far.there k m held in omega (arith, t.0, same)
      least_kept j (inr s) =
          so_far.least k m j held (s.2 ∙ ap (λ l. Some (Some l)) (same_key keys n s.0 k s.1 here))

      pub old_key : TellsNext keys n found m
      old_key = record {
        firsts = record {
          there = λ l x p. let t = so_far.there l x p in (omega (arith, t.0), t.1);
          least = so_far.least;
          all = all_kept;
        };
        shares = inr (k, here, (so_far.there k m held).1);
        first = least_kept;
      }

    -- a key that is new has this place
    module _ (later : K → Option ℕ) (test : K → Bool) (exact : (q : K) → test q ≡ true → k ≡ q)
        (written : (q : K) → later q ≡ cond (test q) (Some n) (found q)) (new : later k ≡ Some n)
        (absent : found k ≡ None) where
      entry : (q : K) (m : ℕ) → later q ≡ Some m → ((k ≡ q) × (n ≡ m)) ⊎ (found q ≡ Some m)
      entry q m at = elim (bool_cases (test q)) [
        | inl hit ↦
            let is : cond (test q) (Some n) (found q) ≡ Some n = ap (λ b. cond b (Some n) (found q)) hit in
            inl (exact q hit, same_Some n m (sym is ∙ sym (written q) ∙ at))
        | inr miss ↦
            let is : cond (test q) (Some n) (found q) ≡ found q = ap (λ b. cond b (Some n) (found q)) miss in
            inr (sym is ∙ sym (written q) ∙ at)
      ]

      still : (q : K) (m : ℕ) → found q ≡ Some m → (d : ℕ) × (later q ≡ Some d)
      still q m at = elim (bool_cases (test q)) [
        | inl hit ↦ (n, written q ∙ ap (λ b. cond b (Some n) (found q)) hit)
        | inr miss ↦ (m, written q ∙ ap (λ b. cond b (Some n) (found q)) miss ∙ at)
      ]

      not_before : (j : ℕ) → slice_get keys j ≡ Some (Some k) → n ≤ j
      not_before j at = elim (order n j) [
        | inl from ↦ from
        | inr before ↦ let h = so_far.all j k before at in absurd (none-some h.0 (sym absent ∙ h.1))
      ]

      there_new : (q : K) (m : ℕ) → later q ≡ Some m → (m < n + 1) × (slice_get keys m ≡ Some (Some q))
      there_new q m at = elim (entry q m at) [
        | inl one ↦
            (omega (arith, one.1), ap (slice_get keys) (sym one.1) ∙ here ∙ ap (λ l. Some (Some l)) one.0)
        | inr old ↦ let t = so_far.there q m old in (omega (arith, t.0), t.1)
      ]

      least_new : (q : K) (m j : ℕ) → later q ≡ Some m → slice_get keys j ≡ Some (Some q) → m ≤ j
      least_new q m j at is = elim (entry q m at) [
        | inl one ↦
            let from = not_before j (is ∙ ap (λ l. Some (Some l)) (sym one.0)) in
            omega (arith, from, one.1)
        | inr old ↦ so_far.least q m j old is
      ]

      all_new : (j : ℕ) (l : K) → j < n + 1 → slice_get keys j ≡ Some (Some l) → (d : ℕ) × (later l ≡ Some d)
      all_new j l below at = elim (below_next j n below) [
        | inl before ↦ let h = so_far.all j l before at in still l h.0 h.1
        | inr same ↦ (n, ap later (same_key keys n l k (rw (← same) at) here) ∙ new)
      ]

      least_here : (j : ℕ) → Share keys n j → n ≤ j
      least_here j (inl same) = omega (arith, same)
      least_here j (inr s) =
          not_before j (s.2 ∙ ap (λ l. Some (Some l)) (same_key keys n s.0 k s.1 here))

      pub new_key : TellsNext keys n later n
      new_key = record {
        firsts = record { there = there_new; least = least_new; all = all_new };
        shares = inl refl;
        first = least_here;
      }

  module _ (here : slice_get keys n ≡ Some None) where
    no_key_here : (l : K) → slice_get keys n ≡ Some (Some l) → ⊥
    no_key_here l at = none-some l (same_Some None (Some l) (sym here ∙ at))

    all_without : (j : ℕ) (l : K) → j < n + 1 → slice_get keys j ≡ Some (Some l) → (d : ℕ) × (found l ≡ Some d)
    all_without j l below at = elim (below_next j n below) [
      | inl before ↦ so_far.all j l before at
      | inr same ↦ absurd (no_key_here l (rw (← same) at))
    ]

    alone : (j : ℕ) → Share keys n j → n ≤ j
    alone j (inl same) = omega (arith, same)
    alone j (inr s) = absurd (no_key_here s.0 s.1)

    -- a place without a key is alone
    pub no_key : TellsNext keys n found n
    no_key = record {
      firsts = record {
        there = λ l x p. let t = so_far.there l x p in (omega (arith, t.0), t.1);
        least = so_far.least;
        all = all_without;
      };
      shares = inl refl;
      first = alone;
    }

-- one more least member
pub told_next : (share : ℕ → ℕ → Type 0) (n : ℕ) (least : List ℕ) (m : ℕ) → TellsLeast share n least → share n m
    → ((j : ℕ) → share n j → m ≤ j) → TellsLeast share (n + 1) (least ++ m ∷ [])
told_next share n least m told here first = record {
  size = length-append least (m ∷ []) ∙ ap (λ i. i + 1) told.size;
  shares = λ i x at. elim (look_up-push least m i x at) [
    | inl before ↦ told.shares i x before
    | inr last ↦ rw (last.0, told.size, ← last.1) here
  ];
  first = λ i j x at s. elim (look_up-push least m i x at) [
    | inl before ↦ told.first i j x before s
    | inr last ↦ rw (← last.1) (first j (rw (← told.size, ← last.0) s))
  ];
}
