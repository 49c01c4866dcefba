-- Side effects in order: how many core instances are made before one, and which adapters are used up to there.
use Rattle.std.proofs.Common.{◌≡◌, ◌<◌, ◌≤◌, ◌⊎◌, inl, inr, ℕ, zero, suc, ◌+◌, max, List, [], ◌∷◌, ◌++◌, length}
use Rattle.std.proofs.Common.{take, refl, sym, ap, subst, ◌∙◌, arith, length-append}
use Rattle.std.specs.Prelude.{Option, None, Some, slice_get}
use Rattle.std.specs.List.{cons_option}
use Rattle.std.proofs.lemmas.Bool.{cases_lt}
use Rattle.std.proofs.lemmas.List.{take_more}
use Rattle.std.proofs.lemmas.List.Elements.{filter_map-append}
use Rattle.std.proofs.lemmas.Option.{get_or_from_slice_get, slice_get_within}
use Rattle.pc_dfg.specs.declared.dfg.ComponentDfg.{ComponentDfg}
use Rattle.pc_dfg.specs.declared.instance.SideEffect.{SideEffect}
use Rattle.pc_dfg.specs.declared.instance.SideEffect.TheVariants as effect
use Rattle.pc_adapt_groups.specs.declared.reach.Reach.{Reach}
use Rattle.pc_dfg.specs.Names.{an_adapter, if_any, in_effect, OneNames}
use Rattle.pc_dfg.specs.declared.ids.InstanceId.{InstanceId}
use Rattle.pc_numbers.specs.declared.runtime.RuntimeComponentInstanceIndex.{RuntimeComponentInstanceIndex}
use Rattle.pc_adapt_groups.specs.Needed.{noted}
use Rattle.pc_dfg.specs.Ordered.{made_before, made_by, made_in}
use Rattle.pc_adapt_groups.specs.Reaches.{IsTop, IsReach, IsUsedBefore, IsUsedUpTo, AreUses}
use Rattle.pc_adapt_groups.proofs.TopLemmas.{top_either, top_none, top_same}

same_some : {A : Type 0} {a b : A} → Some a ≡ Some b → a ≡ b
same_some e = grind (arith, e)

module _ (g : ComponentDfg) where
  pub made_next : (i : ℕ) (e : SideEffect) → slice_get g.side_effects i ≡ Some e
      → made_before g (i + 1) ≡ made_before g i + length (if_any (made_by e))
  made_next i e at =
      let es = g.side_effects in
      let more : take (i + 1) es ≡ take i es ++ e ∷ [] =
      take_more es i e (slice_get_within es i e at)
      ∙ ap (λ x. take i es ++ x ∷ []) (get_or_from_slice_get es i e e at) in
      ap (λ l. length (made_in l)) more ∙ ap length (filter_map-append made_by (take i es) (e ∷ []))
      ∙ length-append (made_in (take i es)) (made_in (e ∷ [])) ∙ ap (λ n. made_before g i + n) (by (made_by e))
    where
      by : (o : Option ℕ) → length (cons_option o []) ≡ length (if_any o)
      by None = refl
      by (Some y) = refl

  pub made_grow : (i j : ℕ) → i ≤ j → made_before g i ≤ made_before g j
  made_grow i j few = grow g.side_effects i j few
    where
      grow : (es : List SideEffect) (i j : ℕ) → i ≤ j → length (made_in (take i es)) ≤ length (made_in (take j es))
      grow [] zero zero few = omega arith
      grow [] zero (suc j) few = omega arith
      grow [] (suc i) zero few = omega arith
      grow [] (suc i) (suc j) few = omega arith
      grow (e ∷ es) zero j few = omega arith
      grow (e ∷ es) (suc i) zero few = absurd (omega (arith, few))
      grow (e ∷ es) (suc i) (suc j) few = by e (grow es i j (omega (arith, few)))
        where
          by : (e : SideEffect) → length (made_in (take i es)) ≤ length (made_in (take j es))
              → length (made_in (take (suc i) (e ∷ es))) ≤ length (made_in (take (suc j) (e ∷ es)))
          by (effect.Instance k c) rest = omega (arith, rest)
          by (effect.Resource k) rest = rest

  -- before the first side effect no adapter is used
  pub used_none : IsTop (IsUsedBefore g 0) 0
  used_none = top_none (IsUsedBefore g 0) (λ b used. omega (arith, used.2))

  -- one side effect more
  pub used_more : (i m k : ℕ) (e : SideEffect) (r : Reach) → IsTop (IsUsedBefore g i) m
      → slice_get g.side_effects i ≡ Some e → IsReach g (in_effect g e) r → k ≡ max m r.adapters
      → IsTop (IsUsedBefore g (i + 1)) k
  used_more i m k e r used at reach is = subst (IsTop (IsUsedBefore g (i + 1))) (sym is)
      (top_same (λ b. IsUsedBefore g i b ⊎ OneNames g (in_effect g e) (an_adapter b)) (IsUsedBefore g (i + 1))
      (max m r.adapters) there back
      (top_either (IsUsedBefore g i) (λ b. OneNames g (in_effect g e) (an_adapter b)) m r.adapters used reach.adapters))
    where
      there : (b : ℕ) → IsUsedBefore g i b ⊎ OneNames g (in_effect g e) (an_adapter b) → IsUsedBefore g (i + 1) b
      there b (inl (j, f, below, at_j, one)) = (j, f, omega (arith, below), at_j, one)
      there b (inr one) = (i, e, omega arith, at, one)

      back : (b : ℕ) → IsUsedBefore g (i + 1) b → IsUsedBefore g i b ⊎ OneNames g (in_effect g e) (an_adapter b)
      back b (j, f, below, at_j, one) = elim (cases_lt j i) [
        | inl early ↦ inl (j, f, early, at_j, one)
        | inr late ↦
            let same : j ≡ i = omega (arith, late, below) in
            let it : f ≡ e = same_some (sym at_j ∙ ap (slice_get g.side_effects) same ∙ at) in
            inr (subst (λ x. OneNames g (in_effect g x) (an_adapter b)) it one)
      ]

  -- one core instance more: what is used up to its making
  uses_instance : (i m : ℕ) (k : InstanceId) (c : RuntimeComponentInstanceIndex) (us : List ℕ) → AreUses g us
      → length us ≡ made_before g i → slice_get g.side_effects i ≡ Some (effect.Instance k c)
      → IsTop (IsUsedBefore g (i + 1)) m
      → AreUses g (us ++ m ∷ [])
  uses_instance i m k c us uses many at top n l found =
      elim (cases_lt n (length us)) [
        | inl old ↦ uses n l (sym (get_left us m n old) ∙ found)
        | inr new ↦
            let within = slice_get_within (us ++ m ∷ []) n l found in
            let last : n ≡ length us = omega (arith, new, within, length-append us (m ∷ [])) in
            let value : m ≡ l = same_some (sym (get_last us m) ∙ ap (slice_get (us ++ m ∷ [])) (sym last) ∙ found) in
            subst (IsTop (IsUsedUpTo g n)) value
            (top_same (IsUsedBefore g (i + 1)) (IsUsedUpTo g n) m (there (last ∙ many)) (back (last ∙ many)) top)
      ]
    where
      get_left : (xs : List ℕ) (y p : ℕ) → p < length xs → slice_get (xs ++ y ∷ []) p ≡ slice_get xs p
      get_left [] y p none = absurd (omega (arith, none))
      get_left (x ∷ xs) y zero some = refl
      get_left (x ∷ xs) y (suc p) some = get_left xs y p (omega (arith, some))

      get_last : (xs : List ℕ) (y : ℕ) → slice_get (xs ++ y ∷ []) (length xs) ≡ Some y
      get_last [] y = refl
      get_last (x ∷ xs) y = get_last xs y

      next : made_before g (i + 1) ≡ made_before g i + 1
      next = made_next i (effect.Instance k c) at

      there : n ≡ made_before g i → (b : ℕ) → IsUsedBefore g (i + 1) b → IsUsedUpTo g n b
      there is b (j, f, below, at_j, one) =
          let early = made_grow j i (omega (arith, below)) in (j, f, at_j, omega (arith, early, is), one)

      back : n ≡ made_before g i → (b : ℕ) → IsUsedUpTo g n b → IsUsedBefore g (i + 1) b
      back is b (j, f, at_j, early, one) = elim (cases_lt j (i + 1)) [
        | inl before ↦ (j, f, before, at_j, one)
        | inr late ↦
            let grown = made_grow (i + 1) j late in
            absurd (omega (arith, grown, next, early, is))
      ]

  -- what is noted at a side effect
  pub uses_noted : (i m : ℕ) (e : SideEffect) (us : List ℕ) → AreUses g us → length us ≡ made_before g i
      → slice_get g.side_effects i ≡ Some e → IsTop (IsUsedBefore g (i + 1)) m
      → AreUses g (us ++ noted e m) × (length (us ++ noted e m) ≡ made_before g (i + 1))
  uses_noted i m (effect.Instance k c) us uses many at top = (
    uses_instance i m k c us uses many at top,
    length-append us (m ∷ []) ∙ omega (arith, many, made_next i (effect.Instance k c) at),
  )
  uses_noted i m (effect.Resource k) us uses many at top = (
    λ n l found. uses n l (sym (ap (λ xs. slice_get xs n) (none us)) ∙ found),
    ap length (none us) ∙ omega (arith, many, made_next i (effect.Resource k) at),
  )
    where
      none : (xs : List ℕ) → xs ++ [] ≡ xs
      none [] = refl
      none (x ∷ xs) = ap (λ ys. x ∷ ys) (none xs)
