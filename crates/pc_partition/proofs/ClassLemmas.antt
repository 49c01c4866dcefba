-- What lists of least numbers say.
use Rattle.std.proofs.Common.{◌≡◌, ◌<◌, ◌≤◌, ◌⊎◌, ℕ, List, length, Option, Some, refl, ap, inl, inr, arith, sym, ◌∙◌}
use Rattle.std.proofs.Common.{subst}
use Rattle.std.specs.Prelude.{slice_get, unwrap_or}
use Rattle.std.proofs.lemmas.Option.{slice_get_past, slice_get_within}
use Rattle.pc_entity.proofs.LookupLemmas.{found_at}
use Rattle.pc_partition.specs.declared.partition.SameVmctxPartition.TheVariants as variant
use Rattle.pc_partition.specs.Firsts.{TellsLeast}
use Rattle.pc_partition.specs.Least.{AreLeast, Share}
use Rattle.pc_partition.specs.Partition.{IsOfKeys, IsPartition, Together, representative}
use Rattle.pc_partition.proofs.LookUpLemmas.{place_in, same_key}

module _ (least : List ℕ) where
  -- what a place holds stands for it
  pub held : (i m : ℕ) → slice_get least i ≡ Some m → representative (variant.Known least) i ≡ m
  held i m at = ap (λ o. unwrap_or o i) at

  -- a number past the end stands for itself
  pub past : (i : ℕ) → length least ≤ i → representative (variant.Known least) i ≡ i
  past i from = ap (λ o. unwrap_or o i) (slice_get_past least i from)

  module _ (are : AreLeast least) where
    below_all : (f : ℕ) → representative (variant.Known least) f ≤ f
    below_all f = elim (place_in least f) [
      | inl p ↦
          let is = held f p.0 p.1 in
          let below = are.below f p.0 p.1 in
          omega (arith, is, below)
      | inr from ↦ let is = past f from in omega (arith, is)
    ]

    own_all : (f : ℕ) → representative (variant.Known least) (representative (variant.Known least) f)
        ≡ representative (variant.Known least) f
    own_all f = elim (place_in least f) [
      | inl p ↦
          ap (representative (variant.Known least)) (held f p.0 p.1)
          ∙ held p.0 p.0 (are.own f p.0 p.1)
          ∙ sym (held f p.0 p.1)
      | inr from ↦ ap (representative (variant.Known least)) (past f from)
    ]

    -- a list of least numbers is a partition
    pub list_is_partition : IsPartition (variant.Known least)
    list_is_partition = record { below = below_all; own = own_all }

    -- two numbers that are together are one, or the list has one entry for both
    pub one_or_class : (i j : ℕ) → Together (variant.Known least) i j
        → (i ≡ j) ⊎ ((m : ℕ) × (slice_get least i ≡ Some m) × (slice_get least j ≡ Some m))
    one_or_class i j same = elim (place_in least i) [
      | inl p ↦ elim (place_in least j) [
        | inl q ↦
            let e : q.0 ≡ p.0 = sym (held j q.0 q.1) ∙ sym same ∙ held i p.0 p.1 in
            inr (p.0, p.1, q.1 ∙ ap Some e)
        | inr from ↦
            let e : p.0 ≡ j = sym (held i p.0 p.1) ∙ same ∙ past j from in
            let below = are.below i p.0 p.1 in
            let within = slice_get_within least i p.0 p.1 in
            absurd (omega (arith, e, below, within, from))
      ]
      | inr from ↦ elim (place_in least j) [
        | inl q ↦
            let e : q.0 ≡ i = sym (held j q.0 q.1) ∙ sym same ∙ past i from in
            let below = are.below j q.0 q.1 in
            let within = slice_get_within least j q.0 q.1 in
            absurd (omega (arith, e, below, within, from))
        | inr behind ↦ inl (sym (past i from) ∙ same ∙ past j behind)
      ]
    ]

-- sharing a class is an equivalence, and no place past the end shares one with another
module _ {K : Type 0} (keys : List (Option K)) where
  share_sym : (i j : ℕ) → Share keys i j → Share keys j i
  share_sym i j (inl same) = inl (sym same)
  share_sym i j (inr s) = inr (s.0, s.2, s.1)

  share_trans : (i j l : ℕ) → Share keys i j → Share keys j l → Share keys i l
  share_trans i j l (inl same) q = rw same q
  share_trans i j l (inr s) (inl same) = rw (← same) (inr s)
  share_trans i j l (inr s) (inr t) =
      let same : t.0 ≡ s.0 = same_key keys j t.0 s.0 t.1 s.2 in
      inr (s.0, s.1, t.2 ∙ ap (λ k. Some (Some k)) same)

  share_past : (i j : ℕ) → length keys ≤ i → Share keys i j → i ≡ j
  share_past i j from (inl same) = same
  share_past i j from (inr s) =
      absurd (let w = slice_get_within keys i (Some s.0) s.1 in omega (arith, w, from))

  module _ (least : List ℕ) (told : TellsLeast (Share keys) (length keys) least) where
    own_place : (i m : ℕ) → slice_get least i ≡ Some m → slice_get least m ≡ Some m
    own_place i m at =
        let down : m ≤ i = told.first i i m at (inl refl) in
        let within = slice_get_within least i m at in
        let there = found_at least m (omega (arith, down, within)) in
        let shared = share_trans i m there.0 (told.shares i m at) (told.shares m there.0 there.1) in
        let up : m ≤ there.0 = told.first i there.0 m at shared in
        let low : there.0 ≤ m = told.first m m there.0 there.1 (inl refl) in
        let same : there.0 ≡ m = omega (arith, up, low) in
        there.1 ∙ ap Some same

    -- the least places of keys are least numbers
    pub least_of_keys : length keys < 4294967295 → AreLeast least
    least_of_keys few = record {
      few = let size = told.size in omega (arith, few, size);
      below = λ i m at. told.first i i m at (inl refl);
      own = own_place;
    }

    to_share : (i j : ℕ) → Together (variant.Known least) i j → Share keys i j
    to_share i j same = elim (place_in least i) [
      | inl p ↦ elim (place_in least j) [
        | inl q ↦
            let e : p.0 ≡ q.0 = sym (held least i p.0 p.1) ∙ same ∙ held least j q.0 q.1 in
            let first : Share keys i q.0 = subst (Share keys i) e (told.shares i p.0 p.1) in
            share_trans i q.0 j first (share_sym j q.0 (told.shares j q.0 q.1))
        | inr from ↦
            let e : p.0 ≡ j = sym (held least i p.0 p.1) ∙ same ∙ past least j from in
            subst (Share keys i) e (told.shares i p.0 p.1)
      ]
      | inr from ↦ elim (place_in least j) [
        | inl q ↦
            let e : q.0 ≡ i = sym (held least j q.0 q.1) ∙ sym same ∙ past least i from in
            share_sym j i (subst (Share keys j) e (told.shares j q.0 q.1))
        | inr behind ↦ inl (sym (past least i from) ∙ same ∙ past least j behind)
      ]
    ]

    to_together : (i j : ℕ) → Share keys i j → Together (variant.Known least) i j
    to_together i j s = elim (place_in least i) [
      | inl p ↦ elim (place_in least j) [
        | inl q ↦
            let ahead = share_trans i j q.0 s (told.shares j q.0 q.1) in
            let back = share_trans j i p.0 (share_sym i j s) (told.shares i p.0 p.1) in
            let up : p.0 ≤ q.0 = told.first i q.0 p.0 p.1 ahead in
            let down : q.0 ≤ p.0 = told.first j p.0 q.0 q.1 back in
            let e : p.0 ≡ q.0 = omega (arith, up, down) in
            held least i p.0 p.1 ∙ e ∙ sym (held least j q.0 q.1)
        | inr from ↦
            let size = told.size in
            let all : length keys ≤ j = omega (arith, from, size) in
            ap (representative (variant.Known least)) (sym (share_past j i all (share_sym i j s)))
      ]
      | inr from ↦
          let size = told.size in
          let all : length keys ≤ i = omega (arith, from, size) in
          ap (representative (variant.Known least)) (share_past i j all s)
    ]

    -- and they are what the keys say
    pub of_keys : AreLeast least → IsOfKeys keys (variant.Known least)
    of_keys are = record {
      is_partition = list_is_partition least are;
      size = ap Some told.size;
      together = λ i j. (to_share i j, to_together i j);
    }
