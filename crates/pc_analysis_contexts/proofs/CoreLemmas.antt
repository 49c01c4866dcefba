-- The core instances of a graph: an instance is given items of earlier ones, and a module of adapters items of
-- instances.
use Rattle.std.proofs.Common.{◌≡◌, ◌<◌, ◌+◌, ℕ, zero, suc, List, [], ◌∷◌, ◌++◌, length, map, take, Option, None}
use Rattle.std.proofs.Common.{Some, refl, sym, ap, subst, ◌∙◌, arith, length-append}
use Rattle.std.specs.Prelude.{slice_get, option_map, Contains}
use Rattle.std.specs.List.{filter_map, cons_option}
use Rattle.std.proofs.lemmas.List.{length-map}
use Rattle.std.proofs.lemmas.Option.{get_or_from_slice_get, none-some, same_Some, slice_get-map, slice_get_within}
use Rattle.pc_entity.proofs.Growing.{slice_get-append}
use Rattle.pc_entity.proofs.LookupLemmas.{found_at}
use Rattle.pc_numbers.specs.declared.component_entity.StaticModuleIndex.{StaticModuleIndex}
use Rattle.pc_numbers.specs.declared.entity_index.EntityIndex.{EntityIndex}
use Rattle.pc_types.specs.declared.module_record.ModuleRecord.{ModuleRecord}
use Rattle.pc_dfg.specs.declared.core_def.CoreDef.{CoreDef}
use Rattle.pc_dfg.specs.declared.core_def.CoreDef.TheVariants as def
use Rattle.pc_dfg.specs.declared.core_def.CoreExport.{CoreExport}
use Rattle.pc_dfg.specs.declared.dfg.ComponentDfg.{ComponentDfg}
use Rattle.pc_dfg.specs.declared.instance.Instance.{Instance}
use Rattle.pc_dfg.specs.declared.instance.Instance.TheVariants as source
use Rattle.pc_dfg.specs.declared.instance.SideEffect.{SideEffect}
use Rattle.pc_dfg.specs.declared.instance.SideEffect.TheVariants as effect
use Rattle.pc_dfg.specs.Held.{AreHeld, HoldsEntry, IsHeld}
use Rattle.pc_dfg.specs.Lists as list
use Rattle.pc_dfg.specs.Names.{an_instance, each_of, in_effect, in_instance, names_instance, OneNames}
use Rattle.pc_dfg.specs.Ordered.{IsOrdered, made_before, made_by, made_in}
use Rattle.pc_analysis_contexts.specs.Cores.{graph_cores, instance_core, module_core}
use Rattle.pc_analysis_contexts.specs.Homes.{NamesBelow}

-- a list behind another one is found behind its length
get_behind : {A : Type 0} (xs ys : List A) (i : ℕ) → slice_get (xs ++ ys) (length xs + i) ≡ slice_get ys i
get_behind {A} [] ys i =
    let e : length {A = A} [] + i ≡ i = omega arith in
    ap (slice_get ys) e
get_behind (x ∷ xs) ys i =
    let e : length (x ∷ xs) + i ≡ suc (length xs + i) = omega arith in
    ap (slice_get (x ∷ (xs ++ ys))) e ∙ get_behind xs ys i

module _ (g : ComponentDfg) (records : List ModuleRecord) where
  -- how many there are
  pub cores_count : length (graph_cores g records) ≡ length g.instances + length g.adapter_modules
  unfolding graph_cores
  cores_count =
      length-append (map (instance_core g records) g.instances) (map (module_core g records) g.adapter_modules)
      ∙ ap (λ k. k + length (map (module_core g records) g.adapter_modules))
      (length-map g.instances (instance_core g records))
      ∙ ap (λ k. length g.instances + k) (length-map g.adapter_modules (module_core g records))

  -- an instance is found under its number
  pub instance_at : (n : ℕ) (x : Instance) → slice_get g.instances n ≡ Some x
      → slice_get (graph_cores g records) n ≡ Some (instance_core g records x)
  unfolding graph_cores
  instance_at n x at =
      slice_get-append (map (instance_core g records) g.instances) (map (module_core g records) g.adapter_modules) n _
      (slice_get-map (instance_core g records) g.instances n ∙ ap (option_map (instance_core g records)) at)

  -- and a module of adapters behind all instances
  pub module_at : (n : ℕ) (x : StaticModuleIndex × List CoreDef) → slice_get g.adapter_modules n ≡ Some x
      → slice_get (graph_cores g records) (length g.instances + n) ≡ Some (module_core g records x)
  unfolding graph_cores
  module_at n x at =
      ap (λ k. slice_get (graph_cores g records) (k + n)) (sym (length-map g.instances (instance_core g records)))
      ∙ get_behind (map (instance_core g records) g.instances) (map (module_core g records) g.adapter_modules) n
      ∙ slice_get-map (module_core g records) g.adapter_modules n
      ∙ ap (option_map (module_core g records)) at

-- what stands at a place of a filtered list was made of an item with so many before it
abbrev FilteredFrom : {A B : Type 0} (f : A → Option B) (xs : List A) (n : ℕ) (y : B) → Type 0
FilteredFrom {A} f xs n y =
    (i : ℕ) × (x : A) × (slice_get xs i ≡ Some x) × (f x ≡ Some y) × (length (filter_map f (take i xs)) ≡ n)

filtered_from : {A B : Type 0} (f : A → Option B) (xs : List A) (n : ℕ) (y : B) → slice_get (filter_map f xs) n ≡ Some y
    → FilteredFrom f xs n y
filtered_from f [] n y at = absurd (none-some y at)
filtered_from {A} {B} f (x ∷ xs) n y at = by (λ k here. filtered_from f xs k y here) (f x) refl n at
  where
    by : ((k : ℕ) → slice_get (filter_map f xs) k ≡ Some y → FilteredFrom f xs k y) → (o : Option B) → f x ≡ o
        → (n : ℕ) → slice_get (cons_option o (filter_map f xs)) n ≡ Some y → FilteredFrom f (x ∷ xs) n y
    by deeper None is n here =
        let d = deeper n here in
        (suc d.0, d.1, d.2, d.3, ap (λ o. length (cons_option o (filter_map f (take d.0 xs)))) is ∙ d.4)
    by deeper (Some z) is zero here = (zero, x, refl, is ∙ here, refl)
    by deeper (Some z) is (suc n) here =
        let d = deeper n here in
        (suc d.0, d.1, d.2, d.3, ap (λ o. length (cons_option o (filter_map f (take d.0 xs)))) is ∙ ap suc d.4)

-- an item of a list is in it
contains_at : {A : Type 0} (xs : List A) (i : ℕ) (x : A) → slice_get xs i ≡ Some x → Contains xs x
contains_at xs i x at = (i, slice_get_within xs i x at, get_or_from_slice_get xs i x x at)

-- definitions that are no items of instances from the nth on
abbrev pub AreBelow : ℕ → List CoreDef → Type 0
AreBelow n args = (i : ℕ) (d : CoreDef) → slice_get args i ≡ Some d → NamesBelow n d

-- what the side effect that makes an instance names is what the instance is given
names_given : (g : ComponentDfg) (n : ℕ) (m : StaticModuleIndex) (args : List CoreDef) (k : SideEffect)
    → slice_get g.instances n ≡ Some (source.Static m args) → made_by k ≡ Some n → in_effect g k ≡ args
unfolding in_effect in_instance
names_given g n m args (effect.Instance k c) at is =
    ap (λ j. each_of in_instance (slice_get g.instances j)) (same_Some _ _ is) ∙ ap (each_of in_instance) at
names_given g n m args (effect.Resource k) at is = absurd (none-some n is)

-- an item that is among definitions makes them name its instance
one_names : (g : ComponentDfg) (ds : List CoreDef) (e : CoreExport EntityIndex) → Contains ds (def.Export e)
    → OneNames g ds (an_instance e.instance.0)
unfolding OneNames
one_names g ds e in_ds = (def.Export e, in_ds, names_instance)

-- an item of an instance that is held is one of an instance that is there
held_below : (g : ComponentDfg) (d : CoreDef) → IsHeld g d → NamesBelow (length g.instances) d
unfolding IsHeld
held_below g (def.Export e) h = h
held_below g (def.InstanceFlags c) h = tt
held_below g (def.Trampoline t) h = tt
held_below g (def.UnsafeIntrinsic s x) h = tt
held_below g (def.Adapter a) h = tt

-- what a module of adapters is given is held
held_at : (g : ComponentDfg) → AreHeld g → (n : ℕ) (x : StaticModuleIndex × List CoreDef)
    → slice_get g.adapter_modules n ≡ Some x → (i : ℕ) (d : CoreDef) → slice_get x.1 i ≡ Some d → IsHeld g d
unfolding HoldsEntry
held_at g all n x at i d here =
    subst (IsHeld g) (get_or_from_slice_get x.1 i d d here)
    (all list.adapter_modules n x at i d (slice_get_within x.1 i d here))

module _ (g : ComponentDfg) (ordered : IsOrdered g) where
  -- what a side effect that makes an instance names is below the instance
  effect_below : (n j i : ℕ) (args : List CoreDef) (k : SideEffect) → slice_get g.side_effects j ≡ Some k
      → in_effect g k ≡ args → made_before g j ≡ n → (d : CoreDef) → slice_get args i ≡ Some d → NamesBelow n d
  effect_below n j i args k found is many (def.Export e) here =
      let in_args : Contains args (def.Export e) = contains_at args i (def.Export e) here in
      let named : e.instance.0 < made_before g j =
      ordered.earlier j e.instance.0 k found
      (one_names g (in_effect g k) e (subst (λ xs. Contains xs (def.Export e)) (sym is) in_args)) in
      subst (λ x. e.instance.0 < x) many named
  effect_below n j i args k found is many (def.InstanceFlags c) here = tt
  effect_below n j i args k found is many (def.Trampoline t) here = tt
  effect_below n j i args k found is many (def.UnsafeIntrinsic s x) here = tt
  effect_below n j i args k found is many (def.Adapter a) here = tt

  -- an instance is given items of earlier ones
  pub earlier : (n : ℕ) (m : StaticModuleIndex) (args : List CoreDef)
      → slice_get g.instances n ≡ Some (source.Static m args) → AreBelow n args
  earlier n m args at i d here =
      let counted = ordered.instances in
      let within : n < length g.instances = slice_get_within g.instances n (source.Static m args) at in
      let there = found_at (made_in g.side_effects) n (omega (arith, counted.all, within)) in
      let is : there.0 ≡ n = counted.each n there.0 there.1 in
      let made = filtered_from made_by g.side_effects n n (there.1 ∙ ap Some is) in
      effect_below n made.0 i args made.1 made.2 (names_given g n m args made.1 at made.3) made.4 d here

  -- a module of adapters is given items of instances that are there
  pub held : (n : ℕ) (x : StaticModuleIndex × List CoreDef) → slice_get g.adapter_modules n ≡ Some x
      → AreBelow (length g.instances) x.1
  held n x at i d here = held_below g d (held_at g ordered.held n x at i d here)
