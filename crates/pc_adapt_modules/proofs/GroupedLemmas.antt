-- Modules of the runs of a good split are grouped: what a module depends on stands before its first use.
use Rattle.std.proofs.Common.{◌≡◌, ◌<◌, ◌≤◌, inl, inr, ℕ, List, length, take, sym, ap, subst, ◌∙◌, arith}
use Rattle.std.specs.Prelude.{Some, slice_get}
use Rattle.std.proofs.lemmas.Bool.{cases_lt}
use Rattle.pc_dfg.specs.declared.core_def.CoreDef.{CoreDef}
use Rattle.pc_dfg.specs.declared.dfg.ComponentDfg.{ComponentDfg}
use Rattle.pc_dfg.specs.declared.instance.SideEffect.{SideEffect}
use Rattle.pc_dfg.specs.declared.instance.SideEffect.TheVariants as effect
use Rattle.pc_dfg.specs.Names.{an_adapter, an_instance, each_of, in_effect, in_instance, in_resource, OneNames}
use Rattle.pc_dfg.specs.Ordered.{IsOrdered, made_before, made_in}
use Rattle.pc_dfg_linearize.specs.Grouped.{HasArguments, IsGrouped, IsIn}
use Rattle.pc_spec_adapt.specs.Split.{HasAt, IsGoodSplit}
use Rattle.pc_adapt_groups.specs.Needs.{Needs, named, awaited}
use Rattle.pc_adapt_groups.proofs.NeedLemmas.{needs_lower}
use Rattle.pc_adapt_groups.proofs.OrderLemmas.{in_order, not_within}
use Rattle.pc_adapt_groups.proofs.StepLemmas.{effect_held}
use Rattle.pc_adapt_modules.specs.Modules.{AreModules}
use Rattle.pc_adapt_modules.proofs.BackLemmas.{one_back}

module _ (g h : ComponentDfg) (runs : List (List ℕ)) (o : IsOrdered g) (are : AreModules g h runs)
    (good : IsGoodSplit (Needs g) (length g.adapters) runs) where
  effect_same : (f : SideEffect) → in_effect h f ≡ in_effect g f
  unfolding in_effect
  effect_same (effect.Instance k c) = ap (λ xs. each_of in_instance (slice_get xs k.0)) are.instances
  effect_same (effect.Resource k) = ap (λ xs. each_of in_resource (slice_get xs k.0)) are.resources

  -- a side effect named before what it names now
  effect_back : (i a : ℕ) (e : SideEffect) → slice_get h.side_effects i ≡ Some e
      → OneNames h (in_effect h e) (an_adapter a)
      → (slice_get g.side_effects i ≡ Some e) × OneNames g (in_effect g e) (an_adapter a)
  effect_back i a e at one =
      let before : slice_get g.side_effects i ≡ Some e = ap (λ es. slice_get es i) (sym are.effects) ∙ at in (
        before,
        one_back g h are.grows o.held (in_effect g e) (an_adapter a) (effect_held g o.held e)
            (subst (λ ds. OneNames h ds (an_adapter a)) (effect_same e) one),
      )

  same_before : (i : ℕ) → made_before h i ≡ made_before g i
  same_before i = ap (λ es. length (made_in (take i es))) are.effects

  -- the run of an adapter that is in a module
  place_of : (a k : ℕ) → IsIn h a k → HasAt runs k a
  place_of a k (p, at, is) = subst (λ j. HasAt runs j a) is (are.places a p at)

  -- a module names adapters of modules before it alone
  lower : (m k a : ℕ) (args : List CoreDef) → HasArguments h m args → OneNames h args (an_adapter a) → IsIn h a k
      → k < m
  lower m k a args at names placed =
      let by = are.arguments m args (an_adapter a) at names in
      let c = by.0 in
      let needs : Needs g c a = named by.3 by.4 in
      let less = needs_lower g o c a needs in
      let place = place_of a k placed in
      let most = in_order (Needs g) (length g.adapters) runs good k m a c place by.2 (omega (arith, less)) in
      elim (cases_lt k m) [
        | inl early ↦ early
        | inr late ↦
            let same : k ≡ m = omega (arith, most, late) in
            absurd (not_within (Needs g) (length g.adapters) runs good m c a by.2
            (subst (λ j. HasAt runs j a) same place) needs)
      ]

  -- where a side effect names an adapter, each module up to that one's names only core instances that were made before
  before : (i a k m n : ℕ) (e : SideEffect) (args : List CoreDef) → slice_get h.side_effects i ≡ Some e
      → OneNames h (in_effect h e) (an_adapter a) → IsIn h a k → m ≤ k → HasArguments h m args
      → OneNames h args (an_instance n) → n < made_before h i
  before i a k m n e args at uses placed few there names =
      let by = are.arguments m args (an_instance n) there names in
      let c = by.0 in
      let back = effect_back i a e at uses in
      let place = place_of a k placed in
      let same = same_before i in
      elim (cases_lt n (made_before g i)) [
        | inl early ↦ omega (arith, early, same)
        | inr late ↦
            elim (cases_lt a c) [
              | inl after ↦
                  let needs : Needs g c a = awaited i n by.3 by.4 back.0 late back.1 in
                  let most = in_order (Needs g) (length g.adapters) runs good k m a c place by.2
                  (omega (arith, after)) in
                  let one : k ≡ m = omega (arith, most, few) in
                  absurd (not_within (Needs g) (length g.adapters) runs good m c a by.2
                  (subst (λ j. HasAt runs j a) one place) needs)
              | inr upto ↦
                  let early = o.grouped i a c n e by.1 back.0 back.1 upto by.3 by.4 in
                  omega (arith, early, same)
            ]
      ]

  pub grouped : IsGrouped h
  grouped = record { all = are.all ∙ sym (ap length are.adapters); lower = lower; before = before }
