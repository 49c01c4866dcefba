-- What a side effect or an export names is ready to be made, with all that it leads to.
use Rattle.std.proofs.Common.{◌≡◌, ◌<◌, ◌≤◌, ℕ, List, [], ◌∷◌, length, All, Contains, Some, refl, sym, subst, arith}
use Rattle.std.specs.Prelude.{slice_get, slice_index_or}
use Rattle.std.specs.List.{flat_map}
use Rattle.std.proofs.lemmas.List.Elements.{All-nil, All-weaker, All-contains, All-contains_itself, Contains-get_or}
use Rattle.std.proofs.lemmas.Option.{slice_get_within}
use Rattle.pc_entity.proofs.LookupLemmas.{found_at}
use Rattle.pc_dfg.specs.declared.ids.AdapterModuleId.{AdapterModuleId}
use Rattle.pc_dfg.specs.declared.ids.OptionsId.{OptionsId}
use Rattle.pc_numbers.specs.declared.component_entity.StaticModuleIndex.{StaticModuleIndex}
use Rattle.pc_numbers.specs.declared.entity_index.EntityIndex.{EntityIndex}
use Rattle.pc_numbers.specs.declared.runtime.TrampolineIndex.{TrampolineIndex}
use Rattle.pc_types.specs.declared.type_index.TypeFuncIndex.{TypeFuncIndex}
use Rattle.pc_spec_plan.specs.PlanView as plan
use Rattle.pc_dfg.specs.declared.core_def.CoreDef.{CoreDef}
use Rattle.pc_dfg.specs.declared.core_def.CoreDef.TheVariants as def
use Rattle.pc_dfg.specs.declared.dfg.ComponentDfg.{ComponentDfg}
use Rattle.pc_dfg.specs.declared.export.Export.TheVariants as export
use Rattle.pc_dfg.specs.declared.instance.Instance.{Instance}
use Rattle.pc_dfg.specs.declared.instance.Instance.TheVariants as source
use Rattle.pc_dfg.specs.declared.instance.SideEffect.{SideEffect}
use Rattle.pc_dfg.specs.declared.instance.SideEffect.TheVariants as effect
use Rattle.pc_dfg.specs.declared.options.CanonicalOptions.{CanonicalOptions}
use Rattle.pc_dfg.specs.Held.{IsHeld, HeldExport, HeldInstance, HeldEffect, HoldsEntry}
use Rattle.pc_dfg.specs.Lists as list
use Rattle.pc_dfg.specs.Names as names
use Rattle.pc_dfg.specs.Names.{an_instance, an_adapter, if_any, each_of, in_instance, in_resource, in_effect, Names}
use Rattle.pc_dfg.specs.Names.{names_instance, names_adapter, names_through, OneNames, Thing}
use Rattle.pc_dfg.specs.Numbers.{SignedTrampoline, options_entry, trampoline_entry, slots_of}
use Rattle.pc_dfg.specs.Ordered.{IsOrdered, made_before}
use Rattle.pc_dfg_linearize.specs.declared.id.Id.{Id}
use Rattle.pc_dfg_linearize.specs.declared.id.Id.TheVariants as id
use Rattle.pc_dfg_linearize.specs.Grouped.{HasArguments, IsIn, IsGrouped}
use Rattle.pc_dfg_linearize.specs.Parts.{slot_id, options_id, in_def, in_entry, in_trampoline, parts}
use Rattle.pc_dfg_linearize.specs.Ready.{CanClose, IsLowering, IsReady, IsReadyDef, Leads, LowersImport, here, through}
use Rattle.pc_dfg_linearize.specs.Wired.{Occurs, in_a_module, in_a_slot, in_an_effect, in_an_export}
use Rattle.pc_dfg_linearize.proofs.HeldLemmas.{entry_held, names_there}
use Rattle.pc_dfg_linearize.proofs.PartLemmas.{all_one, all_each, all_made, entry_parts, trampoline_parts}

module _ (g : ComponentDfg) (ordered : IsOrdered g) (grouped : IsGrouped g) (made : ℕ) where
  -- the core instances that a definition names were made, and so were those that are named by the modules up to those
  -- of its adapters
  pub record NamesMade (d : CoreDef) : Type 0 where
    pub instances : (n : ℕ) → Names g d (an_instance n) → n < made
    pub modules : (a k m n : ℕ) (args : List CoreDef) → Names g d (an_adapter a) → IsIn g a k → m ≤ k
        → HasArguments g m args → OneNames g args (an_instance n) → n < made

  -- the definition in a slot is such a one
  SlotMade : plan.SlotKind → ℕ → Type 0
  SlotMade k n = (d : CoreDef) × (slice_get (slots_of g k) n ≡ Some d) × NamesMade d

  -- the definitions that an id names are such ones
  Made : Id → Type 0
  Made (id.Memory n) = SlotMade plan.memory n.0
  Made (id.Table n) = SlotMade plan.table n.0
  Made (id.Realloc n) = SlotMade plan.realloc n.0
  Made (id.Callback n) = SlotMade plan.callback n.0
  Made (id.PostReturn n) = SlotMade plan.post_return n.0
  Made (id.Options o) =
      (x : CanonicalOptions) × (slice_get g.options o.0 ≡ Some x) × All NamesMade (names.in_entry g (options_entry x))
  Made (id.Lowering t) = LowersImport (slice_get g.trampolines t.0)
  Made (id.Trampoline t) =
      (x : SignedTrampoline) × (slice_get g.trampolines t.0 ≡ Some x)
      × All NamesMade (names.in_trampoline g (trampoline_entry x))
  Made (id.Intrinsic s i) = Occurs g (def.UnsafeIntrinsic s i)
  Made (id.AdapterModule m) =
      (x : StaticModuleIndex × List CoreDef) × (slice_get g.adapter_modules m.0 ≡ Some x) × All NamesMade x.1

  -- a held definition that names what was made is ready
  ready_def : (d : CoreDef) → IsHeld g d → NamesMade d → IsReadyDef g made d
  unfolding IsHeld IsReadyDef
  ready_def (def.Export e) held fact = fact.instances e.instance.0 names_instance
  ready_def (def.InstanceFlags c) held fact = held
  ready_def (def.Trampoline t) held fact = held
  ready_def (def.UnsafeIntrinsic s i) held fact = tt
  ready_def (def.Adapter a) held fact = omega (arith, held, grouped.all)

  -- an id that names what was made can be closed
  slot_can : (k : plan.SlotKind) (n : ℕ) → SlotMade k n
      → (d : CoreDef) × (slice_get (slots_of g k) n ≡ Some d) × IsReadyDef g made d
  unfolding SlotMade HoldsEntry
  slot_can k n slot = (slot.0, slot.1, ready_def slot.0 (ordered.held (list.slots k) n slot.0 slot.1) slot.2)

  can_close : (x : Id) → Made x → CanClose g made x
  unfolding Made CanClose HoldsEntry
  can_close (id.Memory n) is = slot_can plan.memory n.0 is
  can_close (id.Table n) is = slot_can plan.table n.0 is
  can_close (id.Realloc n) is = slot_can plan.realloc n.0 is
  can_close (id.Callback n) is = slot_can plan.callback n.0 is
  can_close (id.PostReturn n) is = slot_can plan.post_return n.0 is
  can_close (id.Options o) is = slice_get_within g.options o.0 is.0 is.1
  can_close (id.Lowering t) is = is
  can_close (id.Trampoline t) is = slice_get_within g.trampolines t.0 is.0 is.1
  can_close (id.Intrinsic s i) is = is
  can_close (id.AdapterModule m) is =
      let held = ordered.held list.adapter_modules m.0 is.0 is.1 in
      (is.0, is.1, λ k d within. ready_def (slice_index_or is.0.1 k d) (held k d within) (is.2 k d within))

  -- what an id that names what was made depends on names what was made
  trampoline_made : (t : TrampolineIndex) → t.0 < length g.trampolines → NamesMade (def.Trampoline t)
      → Made (id.Trampoline t)
  unfolding Made
  trampoline_made t held fact =
      let found = found_at g.trampolines t.0 held in
      let ds = names.in_trampoline g (trampoline_entry found.0) in
      let one : (d : CoreDef) → Contains ds d → NamesMade d =
      λ d inside. record {
        instances = λ n named. fact.instances n (names_through found.1 inside named);
        modules = λ a k m n args named. fact.modules a k m n args (names_through found.1 inside named);
      } in
      (found.0, found.1, All-weaker (Contains ds) NamesMade one ds (All-contains_itself ds))

  module_made : (a : ℕ) (p : AdapterModuleId × EntityIndex) → slice_get g.adapter_partitionings a ≡ Some p
      → (named : (m n : ℕ) (args : List CoreDef) → m ≤ p.0.0 → HasArguments g m args
      → OneNames g args (an_instance n) → n < made) → Made (id.AdapterModule p.0)
  unfolding Made HoldsEntry OneNames
  module_made a p at named =
      let found = found_at g.adapter_modules p.0.0 (ordered.held list.adapter_partitionings a p at) in
      let has : HasArguments g p.0.0 found.0.1 = (found.0, found.1, refl) in
      let one : (d : CoreDef) → Contains found.0.1 d → NamesMade d =
      λ d inside. record {
        instances = λ n fact. named p.0.0 n found.0.1 (omega arith) has (d, inside, fact);
        modules = λ b k m n args fact is below.
            let lower = grouped.lower p.0.0 k b found.0.1 has (d, inside, fact) is in
            named m n args (omega (arith, lower, below));
      } in
      (found.0, found.1, All-weaker (Contains found.0.1) NamesMade one found.0.1 (All-contains_itself found.0.1))

  def_made : (d : CoreDef) → Occurs g d → IsHeld g d → NamesMade d → All Made (in_def g d)
  unfolding IsHeld Made
  def_made (def.Export e) occurs held fact = All-nil Made
  def_made (def.InstanceFlags c) occurs held fact = All-nil Made
  def_made (def.Trampoline t) occurs held fact = all_one Made (id.Trampoline t) (trampoline_made t held fact)
  def_made (def.UnsafeIntrinsic s i) occurs held fact = all_one Made (id.Intrinsic s i) occurs
  def_made (def.Adapter a) occurs held fact =
      all_each Made (λ p. id.AdapterModule p.0 ∷ []) (slice_get g.adapter_partitionings a.0)
      (λ p at. all_one Made (id.AdapterModule p.0)
      (module_made a.0 p at (λ m n args below. fact.modules a.0 p.0.0 m n args names_adapter (p, at, refl) below)))

  in_slot_made : (k : plan.SlotKind) (n : ℕ) → SlotMade k n
      → All Made (each_of (in_def g) (slice_get (slots_of g k) n))
  unfolding SlotMade HoldsEntry
  in_slot_made k n slot =
      subst (λ o. All Made (each_of (in_def g) o)) (sym slot.1)
      (def_made slot.0 (in_a_slot k n slot.1) (ordered.held (list.slots k) n slot.0 slot.1) slot.2)

  slot_made : (k : plan.SlotKind) (n : ℕ) (d : CoreDef) → slice_get (slots_of g k) n ≡ Some d → NamesMade d
      → Made (slot_id k n)
  unfolding Made SlotMade
  slot_made plan.memory n d at fact = (d, at, fact)
  slot_made plan.table n d at fact = (d, at, fact)
  slot_made plan.realloc n d at fact = (d, at, fact)
  slot_made plan.callback n d at fact = (d, at, fact)
  slot_made plan.post_return n d at fact = (d, at, fact)

  options_made : (o : ℕ) (x : CanonicalOptions) → slice_get g.options o ≡ Some x
      → All NamesMade (names.in_entry g (options_entry x)) → Made (options_id o)
  unfolding Made
  options_made o x at all = (x, at, all)

  parts_made : (x : Id) → Made x → All Made (parts g x)
  unfolding Made parts HoldsEntry
  parts_made (id.Memory n) is = in_slot_made plan.memory n.0 is
  parts_made (id.Table n) is = in_slot_made plan.table n.0 is
  parts_made (id.Realloc n) is = in_slot_made plan.realloc n.0 is
  parts_made (id.Callback n) is = in_slot_made plan.callback n.0 is
  parts_made (id.PostReturn n) is = in_slot_made plan.post_return n.0 is
  parts_made (id.Options o) is =
      subst (λ y. All Made (each_of (λ x. in_entry (options_entry x)) y)) (sym is.1)
      (entry_parts g ordered.held NamesMade Made slot_made (options_entry is.0)
      (ordered.held list.options o.0 is.0 is.1) is.2)
  parts_made (id.Lowering t) is = All-nil Made
  parts_made (id.Trampoline t) is =
      let lowers : IsLowering (trampoline_entry is.0) → Made (id.Lowering t) =
      λ here. subst LowersImport (sym is.1) here in
      subst (λ y. All Made (each_of (λ x. in_trampoline t (trampoline_entry x)) y)) (sym is.1)
      (trampoline_parts g ordered.held NamesMade Made slot_made options_made t (trampoline_entry is.0) lowers
      (ordered.held list.trampolines t.0 is.0 is.1) is.2)
  parts_made (id.Intrinsic s i) is = All-nil Made
  parts_made (id.AdapterModule m) is =
      let held = ordered.held list.adapter_modules m.0 is.0 is.1 in
      let both = λ (d : CoreDef). Occurs g d × IsHeld g d × NamesMade d in
      subst (λ y. All Made (each_of (λ x. flat_map (in_def g) x.1) y)) (sym is.1)
      (all_made Made both (in_def g) (λ d here. def_made d here.0 here.1 here.2) is.0.1
      (λ k d within.
      (in_a_module m.0 is.0 is.1 (Contains-get_or is.0.1 k d within), held k d within, is.2 k d within)))

  -- an id that names what was made is ready
  led_made : {x y : Id} → Leads g x y → Made x → Made y
  led_made here is = is
  led_made (through {x = x} {y = y} inside leads) is =
      led_made leads (All-contains Made (parts g x) y (parts_made x is) inside)

  id_ready : (x : Id) → Made x → IsReady g made x
  id_ready x is y leads = can_close y (led_made leads is)

  -- a held definition that names what was made is ready, and so is what it depends on
  abbrev pub ReadyWithParts : CoreDef → Type 0
  ReadyWithParts d = IsReadyDef g made d × ((x : Id) → Contains (in_def g d) x → IsReady g made x)

  pub ready : (d : CoreDef) → Occurs g d → IsHeld g d → NamesMade d → ReadyWithParts d
  ready d occurs held fact = (
    ready_def d held fact,
    λ x inside. id_ready x (All-contains Made (in_def g d) x (def_made d occurs held fact) inside),
  )

  -- options whose definitions name what was made are ready
  pub options_ready : (o : OptionsId) (x : CanonicalOptions) → slice_get g.options o.0 ≡ Some x
      → All NamesMade (names.in_entry g (options_entry x)) → IsReady g made (id.Options o)
  options_ready o x at all = id_ready (id.Options o) (options_made o.0 x at all)

module _ (g : ComponentDfg) (ordered : IsOrdered g) where
  module _ (grouped : IsGrouped g) where
    -- once all core instances are made, a held definition names what was made
    all_made_now : (d : CoreDef) → IsHeld g d → NamesMade g ordered grouped (length g.instances) d
    unfolding HoldsEntry OneNames
    all_made_now d held = record {
      instances = λ n named. names_there g ordered.held named held;
      modules = λ a k m n args named is below has one.
          let all = subst (All (IsHeld g)) has.2 (ordered.held list.adapter_modules m has.0 has.1) in
          names_there g ordered.held one.2 (All-contains (IsHeld g) args one.0 all one.1);
    }

    instance_held : (x : Instance) → HeldInstance g x → All (IsHeld g) (in_instance x)
    unfolding HeldInstance in_instance
    instance_held (source.Static m args) held = held
    instance_held (source.Import r args) held = held.1

    effect_held : (e : SideEffect) → HeldEffect g e → All (IsHeld g) (in_effect g e)
    unfolding HeldEffect in_effect HoldsEntry
    effect_held (effect.Instance i c) held =
        all_each (IsHeld g) in_instance (slice_get g.instances i.0)
        (λ x at. instance_held x (ordered.held list.instances i.0 x at))
    effect_held (effect.Resource n) held =
        all_each (IsHeld g) in_resource (slice_get g.resources n.0)
        (λ x at. (ordered.held list.resources n.0 x at).destructor)

    -- what a side effect names is ready before it is done
    pub effect_ready : (i : ℕ) (e : SideEffect) (d : CoreDef) → slice_get g.side_effects i ≡ Some e
        → Contains (in_effect g e) d → ReadyWithParts g ordered grouped (made_before g i) d
    unfolding HoldsEntry OneNames
    effect_ready i e d at inside =
        let all = effect_held e (ordered.held list.side_effects i e at) in
        let held = All-contains (IsHeld g) (in_effect g e) d all inside in
        ready g ordered grouped (made_before g i) d (in_an_effect i e at inside) held (record {
          instances = λ n named. ordered.earlier i n e at (d, inside, named);
          modules = λ a k m n args named. grouped.before i a k m n e args at (d, inside, named);
        })

    -- what an export names is ready when all core instances are made
    pub export_ready : (n : ℕ) (ty : TypeFuncIndex) (d : CoreDef) (o : OptionsId)
        → slice_get g.export_items n ≡ Some (export.LiftedFunction ty d o)
        → ReadyWithParts g ordered grouped (length g.instances) d × IsReady g (length g.instances) (id.Options o)
    unfolding HoldsEntry HeldExport
    export_ready n ty d o at =
        let held = ordered.held list.export_items n (export.LiftedFunction ty d o) at in
        let found = found_at g.options o.0 held.1 in
        let entry = options_entry found.0 in (
          ready g ordered grouped (length g.instances) d (in_an_export n ty o at) held.0 (all_made_now d held.0),
          options_ready g ordered grouped (length g.instances) o found.0 found.1
              (All-weaker (IsHeld g) (NamesMade g ordered grouped (length g.instances)) all_made_now
              (names.in_entry g entry)
              (entry_held g ordered.held entry)),
        )
