-- Which adapters are found transparent.
use Rattle.std.proofs.Common.{◌≡◌, ◌<◌, ◌≤◌, ◌+◌, ◌⊎◌, ℕ, Bool, true, false, ◌&&◌, ◌||◌, inl, inr, length, Some, refl}
use Rattle.std.proofs.Common.{sym, ap, subst}
use Rattle.std.proofs.Common.{◌∙◌, arith, true≢false}
use Rattle.std.specs.Prelude.{◌↔◌, not, slice_get}
use Rattle.std.proofs.lemmas.Bool.{cases_lt}
use Rattle.std.specs.Cmp.{eq_by_cmp_equiv, nat_cmp_total}
use Rattle.std.specs.Ordering.{eq_by_cmp, nat_cmp}
use Rattle.std.specs.FinSet as set
use Rattle.std.proofs.lemmas.Option.{same_Some, slice_get_within}
use Rattle.pc_numbers.specs.declared.runtime.ResourceIndex.{ResourceIndex}
use Rattle.pc_types.specs.TypeTree.{Identity, TypeTree}
use Rattle.pc_types_lists.specs.Types.{Types}
use Rattle.pc_parsed.specs.Mark.{of_type}
use Rattle.pc_spec_wiring.specs.FunctionTypes.{has_handle, is_async_type}
use Rattle.pc_entity.proofs.Elements.{and_true}
use Rattle.pc_dfg.specs.declared.adapter.Adapter.{Adapter}
use Rattle.pc_dfg.specs.declared.dfg.ComponentDfg.{ComponentDfg}
use Rattle.pc_analysis_transparent.specs.Opaque.{AreTyped, IsOpaqueIn, IsTransparentIn}
use Rattle.pc_analysis_transparent.specs.Opened.{keeps_out, opened, with_all}
use Rattle.pc_analysis_transparent.proofs.ContextLemmas.{either_way}
use Rattle.pc_analysis_transparent.proofs.OpenedLemmas.{opaque_if_opened, opened_if_opaque}
use Rattle.pc_analysis_transparent.proofs.SetLemmas.{listed_if_there, there_if_listed, tied_same}

not_true : (b : Bool) → not b ≡ true → b ≡ false
not_true true h = absurd (true≢false (sym h))
not_true false h = refl

none_of : (a b : Bool) → (a || b) ≡ false → (a ≡ false) × (b ≡ false)
none_of true b h = absurd (true≢false h)
none_of false b h = (refl, h)

module _ (g : ComponentDfg) (lift lower : ℕ → TypeTree) where
  module _ (b : Types) (who : ResourceIndex → Identity) (typed : AreTyped b who g lift lower)
      (s : set.FinSet nat_cmp) (all : s ≡ with_all set.empty (opened g b)) where
    -- an adapter that passes the test is transparent
    pub kept : (k : ℕ) (x : Adapter) → slice_get g.adapters k ≡ Some x → keeps_out s (lift k) (lower k) x ≡ true
        → IsTransparentIn g lift lower k
    unfolding keeps_out
    kept k x at passes =
        let la = is_async_type (of_type (lift k)) in
        let lh = has_handle (of_type (lift k)) in
        let ua = is_async_type (of_type (lower k)) in
        let uh = has_handle (of_type (lower k)) in
        let lo = x.lift_options.async_ in
        let uo = x.lower_options.async_ in
        let inside = set.contains s x.lift_options.instance.0 in
        let first = and_true (((not la && not lh) && (not ua && not uh)) && not (lo || uo)) (not inside) passes in
        let second = and_true ((not la && not lh) && (not ua && not uh)) (not (lo || uo)) first.0 in
        let third = and_true (not la && not lh) (not ua && not uh) second.0 in
        let of_lift = and_true (not la) (not lh) third.0 in
        let of_lower = and_true (not ua) (not uh) third.1 in
        let sync = none_of lo uo (not_true (lo || uo) second.1) in
        record {
          adapter = x;
          there = at;
          lifts_sync = not_true la of_lift.0;
          lowers_sync = not_true ua of_lower.0;
          lift_sync = sync.0;
          lower_sync = sync.1;
          lift_plain = not_true lh of_lift.1;
          lower_plain = not_true uh of_lower.1;
          lifter = λ opaque.
              let n = x.lift_options.instance.0 in
              let there = there_if_listed (opened g b) n (opened_if_opaque g lift b who lower typed n opaque) in
              true≢false (sym (ap (λ t. set.contains t n) all ∙ there) ∙ not_true inside first.1);
        }

    -- a transparent adapter passes the test
    pub passes : (k : ℕ) (x : Adapter) → slice_get g.adapters k ≡ Some x → IsTransparentIn g lift lower k
        → keeps_out s (lift k) (lower k) x ≡ true
    unfolding keeps_out
    passes k x at t =
        ap (keeps_out s (lift k) (lower k)) (same_Some x t.adapter (sym at ∙ t.there))
        ∙ (λ i.
        (((not (t.lifts_sync i) && not (t.lift_plain i)) && (not (t.lowers_sync i) && not (t.lower_plain i)))
        && not (t.lift_sync i || t.lower_sync i)) && not (out i))
      where
        n : ℕ
        n = t.adapter.lift_options.instance.0

        out : set.contains s n ≡ false
        out = elim (either_way (set.contains s n)) [
          | inl there ↦
              absurd (t.lifter (opaque_if_opened g lift b who lower typed n
              (listed_if_there (opened g b) n (sym (ap (λ t. set.contains t n) all) ∙ there))))
          | inr none ↦ none
        ]

  -- a set has the transparent adapters below a number, and no others
  abbrev pub Told : set.FinSet nat_cmp → ℕ → Type 0
  Told s n = (k : ℕ) → (set.contains s k ≡ true) ↔ ((k < n) × IsTransparentIn g lift lower k)

  -- at the beginning
  pub told_none : Told set.empty 0
  told_none k =
      (λ there. absurd (true≢false (sym there ∙ set.contains-empty nat_cmp k)), λ h. absurd (omega (arith, h.0)))

  -- past one that is transparent
  pub told_more : (s : set.FinSet nat_cmp) (n : ℕ) → Told s n → IsTransparentIn g lift lower n
      → Told (set.insert s n) (n + 1)
  told_more s n told here k = (into, back)
    where
      into : set.contains (set.insert s n) k ≡ true → (k < n + 1) × IsTransparentIn g lift lower k
      into there =
          elim (cases (eq_by_cmp nat_cmp k n) (sym (set.contains-insert nat_cmp_total s n k) ∙ there)) [
            | inl same ↦
                let is : k ≡ n = tied_same k n same in
                (omega (arith, is), subst (IsTransparentIn g lift lower) (sym is) here)
            | inr old ↦ let was = (told k).0 old in (omega (arith, was.0), was.1)
          ]
        where
          cases : (a : Bool) → (a || set.contains s k) ≡ true → (a ≡ true) ⊎ (set.contains s k ≡ true)
          cases true h = inl refl
          cases false h = inr h

      back : (k < n + 1) × IsTransparentIn g lift lower k → set.contains (set.insert s n) k ≡ true
      back h =
          set.contains-insert nat_cmp_total s n k
          ∙ elim (below k n h.0) [
            | inl lower ↦ right (eq_by_cmp nat_cmp k n) (set.contains s k) ((told k).1 (lower, h.1))
            | inr same ↦
                ap (λ m. eq_by_cmp nat_cmp k m || set.contains s k) (sym same)
                ∙ ap (λ c. c || set.contains s k) ((eq_by_cmp_equiv nat_cmp_total).refl k)
          ]
        where
          right : (a c : Bool) → c ≡ true → (a || c) ≡ true
          right true c h = refl
          right false c h = h

          below : (k n : ℕ) → k < n + 1 → (k < n) ⊎ (k ≡ n)
          below k n h = elim (cases_lt k n) [ inl few ↦ inl few | inr many ↦ inr (omega (arith, h, many)) ]

  -- past one that isn't
  pub told_same : (s : set.FinSet nat_cmp) (n : ℕ) → Told s n → ¬ (IsTransparentIn g lift lower n) → Told s (n + 1)
  told_same s n told not_here k =
      (λ there. let was = (told k).0 there in (omega (arith, was.0), was.1), λ h. (told k).1 (below h.0 h.1, h.1))
    where
      below : k < n + 1 → IsTransparentIn g lift lower k → k < n
      below few here = elim (cases_lt k n) [
        | inl less ↦ less
        | inr many ↦
            let same : k ≡ n = omega (arith, few, many) in
            absurd (not_here (subst (IsTransparentIn g lift lower) same here))
      ]

  -- in the end
  pub told_all : (s : set.FinSet nat_cmp) (n : ℕ) → Told s n → length g.adapters ≤ n → (k : ℕ)
      → (set.contains s k ≡ true) ↔ IsTransparentIn g lift lower k
  told_all s n told many k = (
    λ there. ((told k).0 there).1,
    λ here. (told k).1 (omega (arith, many, slice_get_within g.adapters k here.adapter here.there), here),
  )
