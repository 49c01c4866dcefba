-- An adapter of a graph needs what it needs in the log that the graph stands for.
use Rattle.std.proofs.Common.{◌≡◌, ℕ, zero, suc, List, [], ◌∷◌, length, take, Some, None, refl, ap}
use Rattle.std.proofs.Common.{subst, ◌∙◌, arith}
use Rattle.std.specs.Prelude.{slice_get, Contains}
use Rattle.std.specs.List.{AllZip}
use Rattle.std.proofs.lemmas.List.Elements.{All-weaker}
use Rattle.std.proofs.lemmas.Option.{same_Some, slice_get_within}
use Rattle.pc_entity.proofs.LookupLemmas.{found_at}
use Rattle.pc_spec_plan.specs.CoreValue.{CoreValue}
use Rattle.pc_spec_plan.specs.Log.{Entry, instances_of, trace}
use Rattle.pc_trampoline.specs.declared.part.Mark.{Mark}
use Rattle.pc_dfg.specs.declared.adapter.Adapter.{Adapter}
use Rattle.pc_dfg.specs.declared.core_def.CoreDef.TheVariants as def
use Rattle.pc_dfg.specs.declared.core_def.CoreDef.{CoreDef}
use Rattle.pc_dfg.specs.declared.dfg.ComponentDfg.{ComponentDfg}
use Rattle.pc_dfg.specs.declared.ids.AdapterId.{AdapterId}
use Rattle.pc_dfg.specs.declared.instance.SideEffect.{SideEffect}
use Rattle.pc_dfg.specs.Effects.{EffectsMean, MeansEffect, means_made, means_declared}
use Rattle.pc_dfg.specs.Means.{Means}
use Rattle.pc_dfg.specs.Names.{Thing, an_instance, an_adapter, in_adapter, in_effect, OneNames}
use Rattle.pc_dfg.specs.Ordered.{made_before, made_in}
use Rattle.pc_dfg.proofs.UniqueLemmas.{means_unique}
use Rattle.pc_spec_adapt.specs.Named as named
use Rattle.pc_spec_adapt.specs.Named.{Named}
use Rattle.pc_spec_adapt.specs.Needs as value
use Rattle.pc_spec_adapt.specs.Needs.{adapters_of}
use Rattle.pc_spec_adapt.specs.Split.{IsGoodRun, IsFewest}
use Rattle.pc_adapt_groups.specs.Needs as graph
use Rattle.pc_adapt_names.specs.Made.{HasMade}
use Rattle.pc_adapt_names.specs.Same.{Stands, stands_instance, stands_adapter, SameNames}
use Rattle.pc_adapt_names.proofs.SameLemmas.{adapter_same, adapter_there, effect_names}

-- a core instance by its number
abbrev numbered : ℕ → Named Mark
numbered n = named.an_instance n

-- what stands at a place of one list, and of the other
zip_at : {A B : Type 0} (R : A → B → Type 0) (xs : List A) (ys : List B) (i : ℕ) (x : A) → AllZip R xs ys
    → slice_get xs i ≡ Some x → (y : B) × (slice_get ys i ≡ Some y) × R x y
zip_at R [] [] i x all at = absurd (never at)
  where
    never : None ≡ Some x → ⊥
    never e = grind (arith, e)
zip_at R [] (y ∷ ys) i x all at = absurd all
zip_at R (a ∷ xs) [] i x all at = absurd all
zip_at R (a ∷ xs) (y ∷ ys) zero x all at = (y, refl, subst (λ z. R z y) (same_Some a x at) all.0)
zip_at R (a ∷ xs) (y ∷ ys) (suc i) x all at = zip_at R xs ys i x all.1 at

zip_back : {A B : Type 0} (R : A → B → Type 0) (xs : List A) (ys : List B) (i : ℕ) (y : B) → AllZip R xs ys
    → slice_get ys i ≡ Some y → (x : A) × (slice_get xs i ≡ Some x) × R x y
zip_back R [] [] i y all at = absurd (never at)
  where
    never : None ≡ Some y → ⊥
    never e = grind (arith, e)
zip_back R [] (b ∷ ys) i y all at = absurd all
zip_back R (a ∷ xs) [] i y all at = absurd all
zip_back R (a ∷ xs) (b ∷ ys) zero y all at = (a, refl, subst (R a) (same_Some b y at) all.0)
zip_back R (a ∷ xs) (b ∷ ys) (suc i) y all at = zip_back R xs ys i y all.1 at

-- runs that are the fewest for one relation are so for another that says the same
pub fewest_alike : (P Q : ℕ → ℕ → Type 0) (n : ℕ) (runs : List (List ℕ)) → ((a b : ℕ) → P a b → Q a b)
    → ((a b : ℕ) → Q a b → P a b) → IsFewest P n runs → IsFewest Q n runs
fewest_alike P Q n runs there back least = record {
  split = record {
    all = least.split.all;
    good = All-weaker (IsGoodRun P) (IsGoodRun Q) (λ run good a b in_a in_b q. good a b in_a in_b (back a b q)) runs
        least.split.good;
  };
  fewest = λ others good. least.fewest others (record {
    all = good.all;
    good = All-weaker (IsGoodRun Q) (IsGoodRun P) (λ run fine a b in_a in_b p. fine a b in_a in_b (there a b p)) others
        good.good;
  });
}

module _ (g : ComponentDfg) where
  -- what stands for a number
  adapter_stands : {y : Thing} {n : Named Mark} → Stands g y n → (b : ℕ) → y ≡ an_adapter b
      → (w : CoreValue Mark) × (n ≡ named.an_adapter w) × Means g (def.Adapter (record { 0 = b })) w
  adapter_stands (stands_instance {n = m}) b e = absurd (other m e)
    where
      other : (m : ℕ) → an_instance m ≡ an_adapter b → ⊥
      other m e = grind (arith, e)
  adapter_stands (stands_adapter {a = a} {v = w} means) b e =
      (w, refl, subst (λ k. Means g (def.Adapter (record { 0 = k })) w) (number a.0 e) means)
    where
      number : (k : ℕ) → an_adapter k ≡ an_adapter b → k ≡ b
      number k e = grind (arith, e)

  instance_stands : {y : Thing} {n : Named Mark} → Stands g y n → (b : ℕ) → y ≡ an_instance b → n ≡ named.an_instance b
  instance_stands (stands_instance {n = m}) b e = ap named.an_instance (number m e)
    where
      number : (m : ℕ) → an_instance m ≡ an_instance b → m ≡ b
      number m e = grind (arith, e)
  instance_stands (stands_adapter {a = a} means) b e = absurd (other a.0 e)
    where
      other : (m : ℕ) → an_adapter m ≡ an_instance b → ⊥
      other m e = grind (arith, e)

  -- what a name is stood for by
  adapter_stood : {y : Thing} {n : Named Mark} → Stands g y n → (w : CoreValue Mark) → n ≡ named.an_adapter w
      → (a : AdapterId) × (y ≡ an_adapter a.0) × Means g (def.Adapter a) w
  adapter_stood (stands_instance {n = m}) w e = absurd (other m e)
    where
      other : (m : ℕ) → named.an_instance m ≡ named.an_adapter w → ⊥
      other m e = grind (arith, e)
  adapter_stood (stands_adapter {a = a} {v = v} means) w e = (a, refl, subst (Means g (def.Adapter a)) (same v e) means)
    where
      same : (v : CoreValue Mark) → named.an_adapter v ≡ named.an_adapter w → v ≡ w
      same v e = grind (arith, e)

  instance_stood : {y : Thing} {n : Named Mark} → Stands g y n → (b : ℕ) → n ≡ named.an_instance b → y ≡ an_instance b
  instance_stood (stands_instance {n = m}) b e = ap an_instance (number m e)
    where
      number : (m : ℕ) → numbered m ≡ numbered b → m ≡ b
      number m e = grind (arith, e)
  instance_stood (stands_adapter {v = v} means) b e = absurd (other v e)
    where
      other : (v : CoreValue Mark) → named.an_adapter v ≡ named.an_instance b → ⊥
      other v e = grind (arith, e)

  -- as many core instances are made before each place
  made_alike : (es : List SideEffect) (ts : List (Entry Mark)) → AllZip (MeansEffect g) es ts → (i : ℕ)
      → length (made_in (take i es)) ≡ length (instances_of (take i ts))
  made_alike [] [] all zero = refl
  made_alike [] [] all (suc i) = refl
  made_alike [] (t ∷ ts) all i = absurd all
  made_alike (e ∷ es) [] all i = absurd all
  made_alike (e ∷ es) (t ∷ ts) all zero = refl
  made_alike (e ∷ es) (t ∷ ts) all (suc i) = more all.0 (made_alike es ts all.1 i)
    where
      more : {f : SideEffect} {u : Entry Mark} → MeansEffect g f u
          → length (made_in (take i es)) ≡ length (instances_of (take i ts))
          → length (made_in (f ∷ take i es)) ≡ length (instances_of (u ∷ take i ts))
      more (means_made at a) same = ap suc same
      more (means_declared at a) same = same

module _ (g : ComponentDfg) (l : List (Entry Mark)) (made : HasMade g l) where
  -- an adapter of the graph is one of the log
  value_at : (a : ℕ) (x : Adapter) → slice_get g.adapters a ≡ Some x
      → (v : CoreValue Mark) × (slice_get (adapters_of l) a ≡ Some v) × Means g (def.Adapter (record { 0 = a })) v
  value_at a x at =
      let below = slice_get_within g.adapters a x at in
      let found = found_at (adapters_of l) a (omega (arith, below, made.many)) in
      (found.0, found.1, made.values a found.0 found.1)

  -- one that has this value
  value_of : (b : ℕ) (w : CoreValue Mark) → Means g (def.Adapter (record { 0 = b })) w
      → slice_get (adapters_of l) b ≡ Some w
  value_of b w means =
      let x = adapter_there g (record { 0 = b }) means in
      let v = value_at b x.0 x.1 in
      v.1 ∙ ap Some (means_unique g v.2 means)

  before_alike : (i : ℕ) → made_before g i ≡ value.made_before l i
  unfolding EffectsMean
  before_alike i = made_alike g g.side_effects (trace l) made.effects i

  entry_at : (i : ℕ) (e : SideEffect) → slice_get g.side_effects i ≡ Some e
      → (t : Entry Mark) × (slice_get (trace l) i ≡ Some t) × MeansEffect g e t
  unfolding EffectsMean
  entry_at i e at = zip_at (MeansEffect g) g.side_effects (trace l) i e made.effects at

  effect_at : (i : ℕ) (t : Entry Mark) → slice_get (trace l) i ≡ Some t
      → (e : SideEffect) × (slice_get g.side_effects i ≡ Some e) × MeansEffect g e t
  unfolding EffectsMean
  effect_at i t at = zip_back (MeansEffect g) g.side_effects (trace l) i t made.effects at

  -- an adapter that definitions name is named by what they stand for
  names_it : (ds : List CoreDef) (ns : List (Named Mark)) (b : ℕ) → SameNames g ds ns → OneNames g ds (an_adapter b)
      → (w : CoreValue Mark) × (slice_get (adapters_of l) b ≡ Some w) × Contains ns (named.an_adapter w)
  names_it ds ns b same one =
      let n = same.there (an_adapter b) one in
      let w = adapter_stands g n.2 b refl in
      (w.0, value_of b w.0 w.2, subst (Contains ns) w.1 n.1)

  -- and the other way round
  named_by_it : (ds : List CoreDef) (ns : List (Named Mark)) (b : ℕ) (w : CoreValue Mark) → SameNames g ds ns
      → slice_get (adapters_of l) b ≡ Some w → Contains ns (named.an_adapter w) → OneNames g ds (an_adapter b)
  named_by_it ds ns b w same at inside =
      let y = same.back (named.an_adapter w) inside in
      let a = adapter_stood g y.2 w refl in
      let it = made.one a.0 (record { 0 = b }) w a.2 (made.values b w at) in
      subst (OneNames g ds) (a.1 ∙ ap (λ (k : AdapterId). an_adapter k.0) it) y.1

  there : (a b : ℕ) → graph.Needs g a b → value.Needs l a b
  there a b (graph.named {x = x} at one) =
      let v = value_at a x at in
      let same = adapter_same g (record { 0 = a }) x v.0 at v.2 in
      let w = names_it (in_adapter x) (named.in_adapter v.0) b same one in
      value.named v.1 w.1 w.2
  there a b (graph.awaited i n {x = x} {e = e} at one at_e late uses) =
      let v = value_at a x at in
      let same = adapter_same g (record { 0 = a }) x v.0 at v.2 in
      let m = same.there (an_instance n) one in
      let is = instance_stands g m.2 n refl in
      let t = entry_at i e at_e in
      let w = names_it (in_effect g e) (named.in_entry t.0) b (effect_names g t.2) uses in
      let before = before_alike i in
      value.awaited i n v.1 w.1 (subst (Contains (named.in_adapter v.0)) is m.1) t.1 (omega (arith, before, late)) w.2

  back : (a b : ℕ) → value.Needs l a b → graph.Needs g a b
  back a b (value.named {v = v} {w = w} at_v at_w inside) =
      let means = made.values a v at_v in
      let x = adapter_there g (record { 0 = a }) means in
      let same = adapter_same g (record { 0 = a }) x.0 v x.1 means in
      graph.named x.1 (named_by_it (in_adapter x.0) (named.in_adapter v) b w same at_w inside)
  back a b (value.awaited i n {v = v} {w = w} {e = t} at_v at_w inside at_t late uses) =
      let means = made.values a v at_v in
      let x = adapter_there g (record { 0 = a }) means in
      let same = adapter_same g (record { 0 = a }) x.0 v x.1 means in
      let y = same.back (named.an_instance n) inside in
      let is = instance_stood g y.2 n refl in
      let e = effect_at i t at_t in
      let before = before_alike i in
      graph.awaited i n x.1 (subst (OneNames g (in_adapter x.0)) is y.1) e.1 (omega (arith, before, late))
      (named_by_it (in_effect g e.0) (named.in_entry t) b w (effect_names g e.2) at_w uses)

  pub fewest_of_log : (runs : List (List ℕ)) → IsFewest (graph.Needs g) (length g.adapters) runs
      → IsFewest (value.Needs l) (length (adapters_of l)) runs
  fewest_of_log runs least =
      subst (λ n. IsFewest (value.Needs l) n runs) made.many
      (fewest_alike (graph.Needs g) (value.Needs l) (length g.adapters) runs there back least)
