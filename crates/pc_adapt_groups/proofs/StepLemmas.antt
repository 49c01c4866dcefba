-- One step of each loop, and what holds at its end.
use Rattle.std.proofs.Common.{◌≡◌, ◌<◌, ◌≤◌, inl, inr, ℕ, zero, suc, ◌+◌, max, List, [], ◌∷◌, ◌++◌, length}
use Rattle.std.proofs.Common.{get_or, refl, sym, ap, subst, ◌∙◌, arith, length-append}
use Rattle.std.specs.Prelude.{Option, None, Some, slice_get, All, Contains}
use Rattle.std.specs.List.{range_with_len}
use Rattle.std.proofs.lemmas.Bool.{cases_lt}
use Rattle.std.proofs.lemmas.List.Elements.{All-nil, All-weaker, Contains-append_left}
use Rattle.std.proofs.lemmas.List.Elements.{Contains-append_right}
use Rattle.std.proofs.lemmas.Option.{slice_get-get_or, slice_get_within}
use Rattle.pc_dfg.specs.declared.core_def.CoreDef.{CoreDef}
use Rattle.pc_dfg.specs.declared.core_def.CoreDef.TheVariants as def
use Rattle.pc_dfg.specs.declared.dfg.ComponentDfg.{ComponentDfg}
use Rattle.pc_dfg.specs.declared.instance.SideEffect.{SideEffect}
use Rattle.pc_dfg.specs.declared.instance.SideEffect.TheVariants as effect
use Rattle.pc_dfg.specs.Held.{IsHeld, AreHeld, HoldsEntry, HeldInstance}
use Rattle.pc_dfg.specs.Lists as list
use Rattle.pc_dfg.specs.Names.{an_instance, in_adapter, in_effect, in_instance, in_resource, in_trampoline}
use Rattle.pc_dfg.specs.Names.{each_of}
use Rattle.pc_dfg.specs.Numbers.{SignedTrampoline, trampoline_entry}
use Rattle.pc_dfg.specs.Ordered.{IsBelow, IsOrdered, made_before}
use Rattle.pc_dfg.specs.declared.adapter.Adapter.{Adapter}
use Rattle.pc_dfg.specs.declared.instance.Instance.{Instance}
use Rattle.pc_dfg.specs.declared.instance.Instance.TheVariants as source
use Rattle.pc_adapt_groups.specs.declared.reach.Reach.{Reach}
use Rattle.pc_adapt_groups.specs.Needed.{noted}
use Rattle.pc_adapt_groups.specs.Reaches.{AreReaches, AreUses, Gives, IsReach, IsTop, IsUsedBefore}
use Rattle.pc_adapt_groups.proofs.RunLemmas.{joined, within}
use Rattle.pc_adapt_groups.proofs.NameLemmas.{one_there}
use Rattle.pc_adapt_groups.proofs.TopLemmas.{reach_through}
use Rattle.pc_adapt_groups.proofs.UseLemmas.{used_more, uses_noted}

same_some : {A : Type 0} {a b : A} → Some a ≡ Some b → a ≡ b
same_some e = grind (arith, e)

-- what is looked up behind the end of a list with one more
get_left : {A : Type 0} (xs : List A) (y : A) (p : ℕ) → p < length xs → slice_get (xs ++ y ∷ []) p ≡ slice_get xs p
get_left [] y p none = absurd (omega (arith, none))
get_left (x ∷ xs) y zero some = refl
get_left (x ∷ xs) y (suc p) some = get_left xs y p (omega (arith, some))

get_last : {A : Type 0} (xs : List A) (y : A) → slice_get (xs ++ y ∷ []) (length xs) ≡ Some y
get_last [] y = refl
get_last (x ∷ xs) y = get_last xs y

-- what holds of each place holds of one more
pub places_more : {A : Type 0} (P : ℕ → A → Type 0) (xs : List A) (y : A) (k : ℕ)
    → ((n : ℕ) (x : A) → slice_get xs n ≡ Some x → P n x) → length xs ≡ k → P k y
    → (n : ℕ) (x : A) → slice_get (xs ++ y ∷ []) n ≡ Some x → P n x
places_more {A} P xs y k all many here n x at =
    elim (cases_lt n (length xs)) [
      | inl old ↦ all n x (sym (get_left xs y n old) ∙ at)
      | inr new ↦
          let few = slice_get_within (xs ++ y ∷ []) n x at in
          let last : n ≡ length xs = omega (arith, new, few, length-append xs (y ∷ [])) in
          let value : y ≡ x = same_some (sym (get_last xs y) ∙ ap (slice_get (xs ++ y ∷ [])) (sym last) ∙ at) in
          subst (P n) value (subst (λ j. P j y) (sym (last ∙ many)) here)
    ]

module _ (g : ComponentDfg) where
  -- one trampoline more
  pub reaches_more : (rs : List Reach) (r : Reach) (k : ℕ) (x : SignedTrampoline) → AreReaches g rs → length rs ≡ k
      → slice_get g.trampolines k ≡ Some x → All (IsBelow k) (in_trampoline g (trampoline_entry x))
      → Gives rs (in_trampoline g (trampoline_entry x)) r → AreReaches g (rs ++ r ∷ [])
  unfolding Gives
  reaches_more rs r k x all many at below gives =
      let ds = in_trampoline g (trampoline_entry x) in
      let here : IsReach g ds r = gives g all (subst (λ n. All (IsBelow n) ds) (sym many) below) in
      places_more (λ t s. IsReach g (def.Trampoline (record { 0 = t }) ∷ []) s) rs r k all many
      (reach_through g (record { 0 = k }) x r at here)

  -- one trampoline more, as it is read
  pub reaches_step : IsOrdered g → (rs ss vs : List Reach) (xs : List SignedTrampoline) (k : ℕ) (d : SignedTrampoline)
      (r : Reach) → xs ≡ g.trampolines → k < length xs → ss ≡ rs → AreReaches g rs → length rs ≡ k
      → Gives ss (in_trampoline g (trampoline_entry (get_or xs k d))) r → vs ≡ rs ++ r ∷ []
      → AreReaches g vs × (length vs ≡ k + 1)
  reaches_step o rs ss vs xs k d r same below read all many gives is =
      let x = get_or xs k d in
      let at : slice_get g.trampolines k ≡ Some x =
      sym (ap (λ ys. slice_get ys k) same) ∙ slice_get-get_or xs k d below in
      let more = reaches_more rs r k x all many at (o.trampolines k x at)
      (subst (λ ys. Gives ys (in_trampoline g (trampoline_entry x)) r) read gives) in
      (subst (AreReaches g) (sym is) more, ap length is ∙ length-append rs (r ∷ []) ∙ omega (arith, many))

  -- one side effect more
  pub effects_more : (us vs : List ℕ) (i used m : ℕ) (e : SideEffect) (r : Reach) → IsTop (IsUsedBefore g i) used
      → AreUses g us → length us ≡ made_before g i → slice_get g.side_effects i ≡ Some e
      → IsReach g (in_effect g e) r → m ≡ max used r.adapters → vs ≡ us ++ noted e m
      → IsTop (IsUsedBefore g (i + 1)) m × AreUses g vs × (length vs ≡ made_before g (i + 1))
  effects_more us vs i used m e r top uses many at reach is more =
      let next = used_more g i used m e r top at reach is in
      let noted = uses_noted g i m e us uses many at next in
      (next, subst (AreUses g) (sym more) noted.0, ap length more ∙ noted.1)

  -- a held definition is below the number of all trampolines
  below_held : (d : CoreDef) → IsHeld g d → IsBelow (length g.trampolines) d
  unfolding IsHeld IsBelow
  below_held (def.Export e) held = tt
  below_held (def.InstanceFlags c) held = tt
  below_held (def.Trampoline t) held = held
  below_held (def.UnsafeIntrinsic s i) held = tt
  below_held (def.Adapter a) held = tt

  -- what held definitions name, where it is known of all trampolines
  gives_held : (rs : List Reach) (ds : List CoreDef) (r : Reach) → AreReaches g rs → length rs ≡ length g.trampolines
      → All (IsHeld g) ds → Gives rs ds r → IsReach g ds r
  unfolding Gives
  gives_held rs ds r known all held gives =
      gives g known (subst (λ n. All (IsBelow n) ds) (sym all)
      (All-weaker (IsHeld g) (IsBelow (length g.trampolines)) below_held ds held))

  -- the definitions in an adapter are held
  pub adapter_held : AreHeld g → (a : ℕ) (x : Adapter) → slice_get g.adapters a ≡ Some x → All (IsHeld g) (in_adapter x)
  unfolding HoldsEntry
  adapter_held held a x at = (held list.adapters a x at).defs

  -- what an adapter names
  pub adapter_reach : IsOrdered g → (rs : List Reach) (a : ℕ) (x : Adapter) (r : Reach) → AreReaches g rs
      → length rs ≡ length g.trampolines → slice_get g.adapters a ≡ Some x → Gives rs (in_adapter x) r
      → IsReach g (in_adapter x) r
  adapter_reach o rs a x r known all at gives =
      gives_held rs (in_adapter x) r known all (adapter_held o.held a x at) gives

  -- the arguments of a core instance are held
  instance_held : (x : Instance) → HeldInstance g x → All (IsHeld g) (in_instance x)
  unfolding HeldInstance in_instance
  instance_held (source.Static m args) held = held
  instance_held (source.Import r args) held = held.1

  -- the definitions in what is made of what is there are held
  each_held : {A : Type 0} (f : A → List CoreDef) (o : Option A) → ((x : A) → o ≡ Some x → All (IsHeld g) (f x))
      → All (IsHeld g) (each_of f o)
  each_held f None each = All-nil (IsHeld g)
  each_held f (Some x) each = each x refl

  -- the definitions in a side effect are held
  pub effect_held : AreHeld g → (e : SideEffect) → All (IsHeld g) (in_effect g e)
  unfolding in_effect HoldsEntry
  effect_held held (effect.Instance i c) =
      each_held in_instance (slice_get g.instances i.0) (λ x at. instance_held x (held list.instances i.0 x at))
  effect_held held (effect.Resource n) =
      each_held in_resource (slice_get g.resources n.0) (λ x at. (held list.resources n.0 x at).destructor)

  -- what a side effect names
  pub effect_reach : IsOrdered g → (rs : List Reach) (e : SideEffect) (r : Reach) → AreReaches g rs
      → length rs ≡ length g.trampolines → Gives rs (in_effect g e) r → IsReach g (in_effect g e) r
  effect_reach o rs e r known all gives = gives_held rs (in_effect g e) r known all (effect_held o.held e) gives

  -- a core instance that held definitions name is there
  pub instances_there : IsOrdered g → (ds : List CoreDef) (r : Reach) → All (IsHeld g) ds → IsReach g ds r
      → r.instances ≤ length g.instances
  instances_there o ds r held reach = by r.instances refl
    where
      by : (m : ℕ) → r.instances ≡ m → r.instances ≤ length g.instances
      by zero e = omega (arith, e)
      by (suc n) e =
          let below = one_there g o.held ds (an_instance n) held (reach.instances.there n e) in omega (arith, e, below)

-- what stands in a run stands in all of them
contained_joined : (runs : List (List ℕ)) (run : List ℕ) (a : ℕ) → Contains runs run → Contains run a
    → Contains (joined runs) a
contained_joined [] run a (k, below, is) in_run = absurd (omega (arith, below))
contained_joined (first ∷ runs) run a (zero, below, is) in_run =
    Contains-append_left first (joined runs) a (subst (λ r. Contains r a) (sym is) in_run)
contained_joined (first ∷ runs) run a (suc k, below, is) in_run =
    Contains-append_right first (joined runs) a
    (contained_joined runs run a (k, omega (arith, below), is) in_run)

pub run_below : (n : ℕ) (runs : List (List ℕ)) → joined runs ≡ range_with_len 0 n → (run : List ℕ) (a : ℕ)
    → Contains runs run → Contains run a → a < n
run_below n runs all run a inside in_run =
    let here = within 0 n a (subst (λ xs. Contains xs a) all (contained_joined runs run a inside in_run)) in
    omega (arith, here.1)
