-- A graph to whose lists entries were added keeps its order, where the new entries name what was there.
use Rattle.std.proofs.Common.{◌≡◌, ◌<◌, ◌≤◌, ℕ, zero, suc, List, [], ◌∷◌, ◌++◌, length, take, All, Some, refl, ap, sym}
use Rattle.std.proofs.Common.{subst, ◌∙◌, inl, inr, ◌⊎◌, arith}
use Rattle.std.specs.Prelude.{slice_get}
use Rattle.std.specs.List.{filter_map}
use Rattle.std.proofs.lemmas.List.{take-append-le}
use Rattle.std.proofs.lemmas.Option.{none-some, same_Some, slice_get_within}
use Rattle.pc_entity.proofs.LookupLemmas.{found_at}
use Rattle.pc_numbers.specs.declared.module_entity.ModuleInternedTypeIndex.{ModuleInternedTypeIndex}
use Rattle.pc_dfg.specs.declared.adapter.Adapter.{Adapter}
use Rattle.pc_dfg.specs.declared.core_def.CoreDef.{CoreDef}
use Rattle.pc_dfg.specs.declared.core_def.CoreDef.TheVariants as def
use Rattle.pc_dfg.specs.declared.dfg.ComponentDfg.{ComponentDfg}
use Rattle.pc_dfg.specs.declared.instance.Instance.{Instance}
use Rattle.pc_dfg.specs.declared.instance.Instance.TheVariants as source
use Rattle.pc_dfg.specs.declared.instance.SideEffect.{SideEffect}
use Rattle.pc_dfg.specs.declared.instance.SideEffect.TheVariants as effect
use Rattle.pc_dfg.specs.Grows.{Extends, Grows, HasIntrinsic}
use Rattle.pc_dfg.specs.Held.{IsHeld, HeldInstance, HeldEffect, HoldsEntry, AreHeld}
use Rattle.pc_dfg.specs.Lists as list
use Rattle.pc_dfg.specs.Lists.{ListName, EntryOf, entries_of}
use Rattle.pc_dfg.specs.Names.{each_of, in_adapter, in_instance, in_resource, in_effect, in_trampoline, OneNames}
use Rattle.pc_dfg.specs.Names.{an_instance, an_adapter}
use Rattle.pc_dfg.specs.Numbers.{SignedTrampoline, trampoline_entry}
use Rattle.pc_dfg.specs.Ordered.{CountTo, IsBelow, IsOrdered, made_in, made_before, declared_by}
use Rattle.pc_dfg.proofs.AllLemmas.{all_more}
use Rattle.pc_dfg.proofs.GrowLemmas.{unchanged, appended, kept}
use Rattle.pc_dfg.proofs.HeldLemmas.{entry_stays}
use Rattle.pc_dfg.proofs.NameLemmas.{trampoline_held, trampoline_same, one_back, one_there}

module _ {A : Type 0} where
  -- an entry of a list with one more is one of the list, or that one
  pub get_appended : (xs : List A) (x : A) (n : ℕ) (y : A) → slice_get (xs ++ x ∷ []) n ≡ Some y
      → (slice_get xs n ≡ Some y) ⊎ ((length xs ≡ n) × (x ≡ y))
  get_appended [] x zero y h = inr (refl, same_Some x y h)
  get_appended [] x (suc n) y h = absurd (none-some y h)
  get_appended (z ∷ zs) x zero y h = inl h
  get_appended (z ∷ zs) x (suc n) y h =
      elim (get_appended zs x n y h) as (λ _. (slice_get zs n ≡ Some y) ⊎ ((suc (length zs) ≡ suc n) × (x ≡ y))) [
        | inl old ↦ inl old
        | inr new ↦ inr (ap suc new.0, new.1)
      ]

  -- a list has more at its end, of which a fact holds
  pub record Adds (P : ℕ → A → Type 0) (xs ys : List A) : Type 0 where
    pub extends : Extends xs ys
    pub entries : (n : ℕ) (x : A) → slice_get ys n ≡ Some x
        → (slice_get xs n ≡ Some x) ⊎ ((length xs ≤ n) × P n x)

  -- it may have nothing more
  pub nothing : {P : ℕ → A → Type 0} {xs : List A} → Adds P xs xs
  nothing = record { extends = unchanged; entries = λ n x at. inl at }

  -- or one entry more
  pub one_more : (P : ℕ → A → Type 0) (xs ys : List A) (x : A) → ys ≡ xs ++ x ∷ [] → P (length xs) x → Adds P xs ys
  one_more P xs ys x is p = record {
    extends = appended x is;
    entries = λ n y at. elim (get_appended xs x n y (subst (λ l. slice_get l n
        ≡ Some y) is at)) as (λ _. (slice_get xs n ≡ Some y) ⊎ ((length xs ≤ n) × P n y)) [
          | inl old ↦ inl old
          | inr new ↦ inr (omega (arith, new.0), subst (λ m. P m y) new.0 (subst (P (length xs)) new.1 p))
        ];
  }

  -- or one entry more, if it changed
  pub one_changed : (P : ℕ → A → Type 0) (xs ys : List A) (x : A) → (ys ≡ xs) ⊎ (ys ≡ xs ++ x ∷ []) → P (length xs) x
      → Adds P xs ys
  one_changed P xs ys x change p = elim change as (λ _. Adds P xs ys) [
    | inl same ↦ subst (Adds P xs) (sym same) nothing
    | inr more ↦ one_more P xs ys x more p
  ]

-- in which of two graphs the new entries of a list are held: side effects name what comes with them
abbrev pub base : (g h : ComponentDfg) → ListName → ComponentDfg
base g h list.side_effects = h
base g h l = g

-- a fact for each list, of the nth entry
abbrev pub EntryFact : Type 1
EntryFact = (l : ListName) → ℕ → EntryOf l → Type 0

-- each list of the second graph is that of the first with entries at its end of which a fact holds
abbrev pub AllAdd : EntryFact → (g h : ComponentDfg) → Type 0
AllAdd P g h = (l : ListName) → Adds {A = EntryOf l} (P l) (entries_of g l) (entries_of h l)

-- new entries are held
abbrev pub NewHeld : (g h : ComponentDfg) → EntryFact
NewHeld g h l = HoldsEntry (base g h l) l

-- the second graph has the lists of the first with held entries at their ends, and the signatures of the first
pub record Added (g h : ComponentDfg) : Type 0 where
  pub lists : AllAdd (NewHeld g h) g h
  pub component_instances : g.num_runtime_component_instances ≤ h.num_runtime_component_instances
  pub signatures : (place : ℕ) (s : ModuleInternedTypeIndex) → HasIntrinsic g place s → HasIntrinsic h place s

-- such a graph has grown
pub added_grows : (g h : ComponentDfg) → Added g h → Grows g h
added_grows g h added = record {
  lists = λ l. (added.lists l).extends;
  component_instances = added.component_instances;
  signatures = added.signatures;
}

-- a new side effect names what was there, and follows all instances that were made
pub record NewEffect (g h : ComponentDfg) (i : ℕ) (e : SideEffect) : Type 0 where
  pub defs : All (IsHeld g) (in_effect h e)
  pub after : length g.instances ≤ made_before h i

-- the definitions in a held core instance
pub instance_defs : (g : ComponentDfg) (x : Instance) → HeldInstance g x → All (IsHeld g) (in_instance x)
unfolding HeldInstance in_instance
instance_defs g (source.Static m args) here = here
instance_defs g (source.Import r args) here = here.1

module _ (g h : ComponentDfg) (added : Added g h) where
  from_base : (l : ListName) (n : ℕ) (x : EntryOf l) → HoldsEntry (base g h l) l n x → HoldsEntry h l n x
  from_base list.side_effects n x here = here
  from_base l n x here = entry_stays g h (added_grows g h added) l n x here

  -- each number is still held
  pub added_held : AreHeld g → AreHeld h
  added_held held l n x at = elim ((added.lists l).entries n x at) as (λ _. HoldsEntry h l n x) [
    | inl old ↦ entry_stays g h (added_grows g h added) l n x (held l n x old)
    | inr new ↦ from_base l n x new.1
  ]

  module _ (o : IsOrdered g) where
    below : (k : ℕ) → length g.trampolines ≤ k → (d : CoreDef) → IsHeld g d → IsBelow k d
    unfolding IsHeld IsBelow
    below k past (def.Export e) here = tt
    below k past (def.InstanceFlags c) here = tt
    below k past (def.Trampoline t) here = omega (arith, past, here)
    below k past (def.UnsafeIntrinsic s i) here = tt
    below k past (def.Adapter a) here = tt

    trampolines_kept : (k : ℕ) (x : SignedTrampoline) → slice_get h.trampolines k ≡ Some x
        → All (IsBelow k) (in_trampoline h (trampoline_entry x))
    unfolding HoldsEntry
    trampolines_kept k x at =
        let e = trampoline_entry x in
        let grows = added_grows g h added in
        elim ((added.lists list.trampolines).entries k x at) as (λ _. All (IsBelow k) (in_trampoline h e)) [
          | inl old ↦ subst (All (IsBelow k))
              (sym (trampoline_same g h grows o.held e (o.held list.trampolines k x old))) (o.trampolines k x old)
          | inr new ↦ subst (All (IsBelow k)) (sym (trampoline_same g h grows o.held e new.1))
              (all_more (IsHeld g) (IsBelow k) (below k new.0) (in_trampoline g e) (trampoline_held g o.held e new.1))
        ]

    adapter_defs : (a : ℕ) (x : Adapter) → slice_get h.adapters a ≡ Some x → All (IsHeld g) (in_adapter x)
    unfolding HoldsEntry
    adapter_defs a x at = elim ((added.lists list.adapters).entries a x at) as (λ _. All (IsHeld g) (in_adapter x)) [
      | inl old ↦ (o.held list.adapters a x old).defs
      | inr new ↦ new.1.defs
    ]

    adapters_kept : (a b : ℕ) (x : Adapter) → slice_get h.adapters a ≡ Some x
        → OneNames h (in_adapter x) (an_adapter b) → b < a
    adapters_kept a b x at one =
        let defs = adapter_defs a x at in
        let back = one_back g h (added_grows g h added) o.held (in_adapter x) (an_adapter b) defs one in
        elim ((added.lists list.adapters).entries a x at) as (λ _. b < a) [
          | inl old ↦ o.adapters a b x old back
          | inr new ↦
              let there : b < length g.adapters = one_there g o.held (in_adapter x) (an_adapter b) defs back in
              omega (arith, new.0, there)
        ]

    effect_same : (e : SideEffect) → HeldEffect g e → in_effect h e ≡ in_effect g e
    unfolding HeldEffect in_effect
    effect_same (effect.Instance i c) here =
        let found = found_at g.instances i.0 here.0 in
        ap (each_of in_instance)
        (kept g h (added_grows g h added) list.instances i.0 found.0 found.1 ∙ sym found.1)
    effect_same (effect.Resource n) here =
        let found = found_at g.resources n.0 here in
        ap (each_of in_resource)
        (kept g h (added_grows g h added) list.resources n.0 found.0 found.1 ∙ sym found.1)

    effect_defs : (e : SideEffect) → HeldEffect g e → All (IsHeld g) (in_effect g e)
    unfolding HeldEffect in_effect HoldsEntry
    effect_defs (effect.Instance i c) here =
        let found = found_at g.instances i.0 here.0 in
        subst (λ x. All (IsHeld g) (each_of in_instance x)) (sym found.1)
        (instance_defs g found.0 (o.held list.instances i.0 found.0 found.1))
    effect_defs (effect.Resource n) here =
        let found = found_at g.resources n.0 here in
        subst (λ x. All (IsHeld g) (each_of in_resource x)) (sym found.1)
        (o.held list.resources n.0 found.0 found.1).destructor

    made_same : (i : ℕ) (e : SideEffect) → slice_get g.side_effects i ≡ Some e → made_before h i ≡ made_before g i
    made_same i e at =
        let more = (added.lists list.side_effects).extends in
        let short = slice_get_within g.side_effects i e at in
        let front = ap (take i) more.is ∙ take-append-le i g.side_effects more.more (omega (arith, short)) in
        ap (λ es. length (made_in es)) front

    module _ (new : (i : ℕ) (e : SideEffect) → slice_get h.side_effects i ≡ Some e → length g.side_effects ≤ i
        → NewEffect g h i e) where
      earlier_kept : (i n : ℕ) (e : SideEffect) → slice_get h.side_effects i ≡ Some e
          → OneNames h (in_effect h e) (an_instance n) → n < made_before h i
      unfolding HoldsEntry
      earlier_kept i n e at one =
          let grows = added_grows g h added in
          elim ((added.lists list.side_effects).entries i e at) as (λ _. n < made_before h i) [
            | inl old ↦
                let here = o.held list.side_effects i e old in
                let before = subst (λ ds. OneNames h ds (an_instance n)) (effect_same e here) one in
                let back = one_back g h grows o.held (in_effect g e) (an_instance n) (effect_defs e here) before in
                omega (arith, o.earlier i n e old back, made_same i e old)
            | inr past ↦
                let it = new i e at past.0 in
                let back = one_back g h grows o.held (in_effect h e) (an_instance n) it.defs one in
                let there : n < length g.instances =
                one_there g o.held (in_effect h e) (an_instance n) it.defs back in
                omega (arith, there, it.after)
          ]

      held_before : (b : ℕ) (x : Adapter) → slice_get h.adapters b ≡ Some x → b < length g.adapters
          → slice_get g.adapters b ≡ Some x
      held_before b x at short = elim ((added.lists list.adapters).entries b x at)
          as (λ _. slice_get g.adapters b ≡ Some x) [
            | inl old ↦ old
            | inr past ↦ absurd (omega (arith, past.0, short))
          ]

      grouped_kept : (i a b n : ℕ) (e : SideEffect) (x : Adapter) → slice_get h.side_effects i ≡ Some e
          → OneNames h (in_effect h e) (an_adapter a) → b ≤ a → slice_get h.adapters b ≡ Some x
          → OneNames h (in_adapter x) (an_instance n) → n < made_before h i
      unfolding HoldsEntry
      grouped_kept i a b n e x at one up_to is inner =
          let grows = added_grows g h added in
          let defs = adapter_defs b x is in
          let within = one_back g h grows o.held (in_adapter x) (an_instance n) defs inner in
          elim ((added.lists list.side_effects).entries i e at) as (λ _. n < made_before h i) [
            | inl old ↦
                let here = o.held list.side_effects i e old in
                let before = subst (λ ds. OneNames h ds (an_adapter a)) (effect_same e here) one in
                let back = one_back g h grows o.held (in_effect g e) (an_adapter a) (effect_defs e here) before in
                let there : a < length g.adapters =
                one_there g o.held (in_effect g e) (an_adapter a) (effect_defs e here) back in
                let was = held_before b x is (omega (arith, there, up_to)) in
                omega (arith, o.grouped i a b n e x old back up_to was within, made_same i e old)
            | inr past ↦
                let there : n < length g.instances =
                one_there g o.held (in_adapter x) (an_instance n) defs within in
                omega (arith, there, (new i e at past.0).after)
          ]

      -- the order is kept, where the side effects make all core instances and declare all resources
      pub added_ordered : CountTo (length h.instances) (made_in h.side_effects)
          → CountTo (length h.resources) (filter_map declared_by h.side_effects) → IsOrdered h
      added_ordered instances resources = record {
        held = added_held o.held;
        instances = instances;
        resources = resources;
        trampolines = trampolines_kept;
        adapters = adapters_kept;
        earlier = earlier_kept;
        grouped = grouped_kept;
      }
