-- No two slots of a kind are filled with one definition.
use Rattle.std.proofs.Common.{◌≡◌, ℕ, true, [], Option, None, Some, refl, sym}
use Rattle.std.proofs.Common.{Bool, false, true≢false, ap, subst, ◌∙◌, arith, option_map}
use Rattle.std.specs.Prelude.{slice_get, unwrap_or}
use Rattle.std.proofs.lemmas.List.Elements.{All-head}
use Rattle.std.proofs.lemmas.Option.{same_Some}
use Rattle.pc_entity.proofs.LookupLemmas.{found_at}
use Rattle.pc_dfg.specs.declared.ids.AdapterModuleId.{AdapterModuleId}
use Rattle.pc_numbers.specs.declared.entity_index.EntityIndex.{EntityIndex}
use Rattle.pc_numbers.specs.declared.runtime.RuntimeInstanceIndex.{RuntimeInstanceIndex}
use Rattle.pc_types.specs.IntrinsicType.{intrinsic_place}
use Rattle.pc_spec_plan.specs.CoreValue.{ExportedItem, by_index, by_name}
use Rattle.pc_spec_plan.specs.Counts.{fills}
use Rattle.pc_spec_plan.specs.PlanView as plan
use Rattle.pc_info.specs.Definitions.{def_view, item_view}
use Rattle.pc_dfg.specs.declared.core_def.CoreDef.{CoreDef}
use Rattle.pc_dfg.specs.declared.core_def.CoreDef.TheVariants as def
use Rattle.pc_dfg.specs.declared.dfg.ComponentDfg.{ComponentDfg}
use Rattle.pc_dfg.specs.Numbers.{slots_of}
use Rattle.pc_dfg.specs.Told.{AreInterned}
use Rattle.pc_dfg_linearize.specs.declared.id.Id.TheVariants as id
use Rattle.pc_dfg_linearize.specs.declared.state.Finish.{Finish}
use Rattle.pc_info.specs.Slots.{FillsWith}
use Rattle.pc_dfg_finish.specs.Apart.{TellsSlots}
use Rattle.pc_dfg_linearize.specs.Converted.{adapter_def, def_in}
use Rattle.pc_dfg_linearize.specs.Numbers.{number_at}
use Rattle.pc_dfg_linearize.specs.Once.{Fills, Origin, number_in_run, of_instance, of_module}
use Rattle.pc_dfg_linearize.specs.Parts.{HasNumber, number_of, slot_numbers}
use Rattle.pc_dfg_linearize.specs.Plan.{steps_view}
use Rattle.pc_dfg_linearize.specs.Ready.{IsReadyDef}
use Rattle.pc_info.specs.Slots.{AtMostOne}
use Rattle.pc_dfg_linearize.specs.Sound.{IsSound}
use Rattle.pc_dfg_linearize.specs.Steps.{IsConvertible}
use Rattle.pc_dfg_linearize.proofs.DefLemmas.{numbered_module}
use Rattle.pc_dfg_finish.proofs.DistinctLemmas.{distinct_slots, item_tells}
use Rattle.pc_dfg_linearize.proofs.FillLemmas.{in_run}
use Rattle.pc_dfg_linearize.proofs.NoteLemmas as noted
use Rattle.pc_dfg_finish.proofs.SealedLemmas.{contained_at, counted_early, fills_it, one_place}
use Rattle.pc_dfg_linearize.proofs.SoundLemmas.{later_refl}

-- what a definition is, by the numbers of the graph: an adapter is an item of the instance of its module
data Shape : Type 0 where
  an_item : Origin → ExportedItem → Shape
  flags : ℕ → Shape
  a_trampoline : ℕ → Shape
  an_intrinsic : ℕ → Shape

-- an adapter by its place
adapter_shape : Option (AdapterModuleId × EntityIndex) → Shape
adapter_shape (Some p) = an_item (of_module p.0.0) (by_index p.1)
adapter_shape None = flags 0

-- a definition that is an item of an instance is made from that item
shape_of : ComponentDfg → CoreDef → Shape
shape_of g (def.Export e) = an_item (of_instance e.instance.0) (item_view e.item)
shape_of g (def.InstanceFlags c) = flags c.0
shape_of g (def.Trampoline t) = a_trampoline t.0
shape_of g (def.UnsafeIntrinsic s i) = an_intrinsic (intrinsic_place i)
shape_of g (def.Adapter a) = adapter_shape (slice_get g.adapter_partitionings a.0)

-- a definition of the plan is of this shape
IsSeen : Finish → Shape → plan.Definition → Type 0
IsSeen f (an_item x i) d = (r : ℕ) × (number_in_run f x ≡ Some r) × (d ≡ plan.export r i)
IsSeen f (flags c) d = d ≡ plan.flags c
IsSeen f (a_trampoline t) d = (n : ℕ) × (number_at f.numbers.trampolines t ≡ Some n) × (d ≡ plan.trampoline n)
IsSeen f (an_intrinsic i) d = d ≡ plan.intrinsic i

-- with what a step fills a slot
abbrev filled_with : plan.Initializer → Option plan.Definition
filled_with (plan.extract k n d) = Some d
filled_with s = None

-- what a definition is, with nothing where it is of another kind
item_of : plan.Definition → Option (ℕ × ExportedItem)
item_of (plan.export r i) = Some (r, i)
item_of d = None

number_in : plan.Definition → ℕ
number_in (plan.export r i) = r
number_in (plan.flags c) = c
number_in (plan.trampoline n) = n
number_in (plan.intrinsic i) = i

-- the kind of a definition, and of a shape
kind_of : plan.Definition → ℕ
kind_of (plan.export r i) = 0
kind_of (plan.flags c) = 1
kind_of (plan.trampoline n) = 2
kind_of (plan.intrinsic i) = 3

abbrev shape_kind : Shape → ℕ
shape_kind (an_item x i) = 0
shape_kind (flags c) = 1
shape_kind (a_trampoline t) = 2
shape_kind (an_intrinsic i) = 3

seen_kind : (f : Finish) (s : Shape) (d : plan.Definition) → IsSeen f s d → kind_of d ≡ shape_kind s
unfolding IsSeen kind_of
seen_kind f (an_item x i) d a = ap kind_of a.2
seen_kind f (flags c) d a = ap kind_of a
seen_kind f (a_trampoline t) d a = ap kind_of a.2
seen_kind f (an_intrinsic i) d a = ap kind_of a

-- what an item's shape is made of
abbrev instance_in_shape : Shape → ℕ
instance_in_shape (an_item (of_instance k) i) = k
instance_in_shape (an_item (of_module m) i) = m
instance_in_shape s = 0

abbrev item_in_shape : Shape → Option ExportedItem
item_in_shape (an_item x i) = Some i
item_in_shape s = None

abbrev number_in_shape : Shape → ℕ
number_in_shape (flags c) = c
number_in_shape (a_trampoline t) = t
number_in_shape (an_intrinsic i) = i
number_in_shape s = 0

-- whether it is one of a module of adapters
abbrev is_of_module : Shape → Bool
is_of_module (an_item (of_module m) i) = true
is_of_module s = false

-- the function of an item by index
abbrev entity_of : ExportedItem → Option EntityIndex
entity_of (by_index e) = Some e
entity_of (by_name name) = None

-- adapters of one shape have one place
one_adapter_place : (p q : AdapterModuleId × EntityIndex) → adapter_shape (Some p) ≡ adapter_shape (Some q) → p ≡ q
unfolding adapter_shape
one_adapter_place p q same =
    let place = ap instance_in_shape same in
    let item = same_Some (by_index p.1) (by_index q.1) (ap item_in_shape same) in
    let func = same_Some p.1 q.1 (ap entity_of item) in
    λ i. (record { 0 = place i }, func i)

-- one definition of the plan has one shape
one_shape : (f : Finish) → Fills f → (s t : Shape) (d e : plan.Definition) → IsSeen f s d → IsSeen f t e → d ≡ e
    → s ≡ t
unfolding IsSeen item_of number_in
one_shape f fills (an_item x i) (an_item y j) d e a b same =
    let view : plan.export a.0 i ≡ plan.export b.0 j = sym a.2 ∙ same ∙ b.2 in
    let pair = same_Some (a.0, i) (b.0, j) (ap item_of view) in
    let number = ap (λ q. q.0) pair in
    let origin = fills.instances.once x y a.0 a.1 (b.1 ∙ ap (λ n. Some n) (sym number)) in
    let item = ap (λ q. q.1) pair in
    λ k. an_item (origin k) (item k)
one_shape f fills (flags c) (flags c') d e a b same = ap (λ n. flags n) (ap number_in (sym a ∙ same ∙ b))
one_shape f fills (a_trampoline t) (a_trampoline u) d e a b same =
    let number = ap number_in (sym a.2 ∙ same ∙ b.2) in
    ap (λ n. a_trampoline n) (fills.trampolines.once t u a.0 a.1 (b.1 ∙ ap (λ n. Some n) (sym number)))
one_shape f fills (an_intrinsic i) (an_intrinsic j) d e a b same =
    ap (λ n. an_intrinsic n) (ap number_in (sym a ∙ same ∙ b))
one_shape f fills s t d e a b same =
    let kinds : shape_kind s ≡ shape_kind t = sym (seen_kind f s d a) ∙ ap kind_of same ∙ seen_kind f t e b in
    absurd (omega (arith, kinds))

module _ (g : ComponentDfg) (h : Finish) (sound : IsSound g h) where
  -- the plan has a definition by its shape
  is_seen : (d : CoreDef) → IsConvertible g h d → IsSeen h (shape_of g d) (def_view (def_in g h d))
  unfolding IsSeen shape_of adapter_shape def_in IsReadyDef number_of
  is_seen (def.Export e) can =
      let found = found_at h.instances e.instance.0 can.ready in
      let number = ap (λ (o : Option RuntimeInstanceIndex). (unwrap_or o (record { 0 = 0 })).0) found.1 in
      (found.0.0, ap (option_map in_run) found.1, ap (λ n. plan.export n (item_view e.item)) number)
  is_seen (def.InstanceFlags c) can = refl
  is_seen (def.Trampoline t) can =
      let has = All-head (HasNumber h) (id.Trampoline t) [] can.numbered in
      (has.0, has.1, ap (λ n. plan.trampoline (unwrap_or n 0)) has.1)
  is_seen (def.UnsafeIntrinsic s i) can = refl
  is_seen (def.Adapter a) can =
      let found = found_at g.adapter_partitionings a.0 can.ready in
      let has = numbered_module g h a found.0 found.1 can.numbered in
      subst (λ o. IsSeen h (adapter_shape o) (def_view (adapter_def h o))) (sym found.1)
      (has.0, has.1, ap (λ n. plan.export (unwrap_or n 0) (by_index found.0.1)) has.1)

  -- a step that fills a slot does so with what stands there in the graph
  record IsFilled (k : plan.SlotKind) (n : ℕ) (d : plan.Definition) : Type 0 where
    entry : ℕ
    number : number_at (slot_numbers h k) entry ≡ Some n
    what : CoreDef
    at : slice_get (slots_of g k) entry ≡ Some what
    convertible : IsConvertible g h what
    is : d ≡ def_view (def_in g h what)

  is_filled : (k : plan.SlotKind) (n i : ℕ) (d : plan.Definition)
      → slice_get (steps_view h) i ≡ Some (plan.extract k n d) → IsFilled k n d
  is_filled k n i d at =
      let s = plan.extract k n d in
      let carried = sound.are_steps.carry i s at in
      let fewer = counted_early h h (later_refl h) (fills k) i s at (fills_it k) in
      let given = (sound.fills.slots k).given n (omega (arith, carried, fewer, sound.counts.slots k)) in
      let slot = sound.are_steps.slots k given.0 n given.1 in
      let t = plan.extract k n (def_view (def_in g h slot.what)) in
      let place = contained_at (steps_view h) t slot.step in
      let carried' = sound.are_steps.carry place.0 t place.1 in
      let one = one_place (fills k) (steps_view h) i place.0 s t at (fills_it k) place.1 (fills_it k)
      (sym carried ∙ carried') in
      let same = same_Some s t (sym at ∙ ap (slice_get (steps_view h)) one ∙ place.1) in
      record {
        entry = given.0;
        number = given.1;
        what = slot.what;
        at = slot.at;
        convertible = slot.convertible;
        is = same_Some d (def_view (def_in g h slot.what)) (ap filled_with same);
      }

  module _ (interned : AreInterned g) (tells : TellsSlots g) (k : plan.SlotKind) where
    -- definitions in slots of a kind are told by their shapes
    shapes_tell : (m n : ℕ) (d e : CoreDef) → slice_get (slots_of g k) m ≡ Some d → slice_get (slots_of g k) n ≡ Some e
        → IsConvertible g h d → IsConvertible g h e → shape_of g d ≡ shape_of g e → d ≡ e
    unfolding shape_of adapter_shape IsReadyDef
    shapes_tell m n (def.Adapter a) (def.Adapter b) at at' can can' same =
        let p = found_at g.adapter_partitionings a.0 can.ready in
        let q = found_at g.adapter_partitionings b.0 can'.ready in
        let view : adapter_shape (Some p.0) ≡ adapter_shape (Some q.0) =
        sym (ap adapter_shape p.1) ∙ same ∙ ap adapter_shape q.1 in
        let place = one_adapter_place p.0 q.0 view in
        let one = tells.adapters a.0 b.0 p.0 p.1 (q.1 ∙ ap (λ x. Some x) (sym place)) in
        ap (λ x. def.Adapter (record { 0 = x })) one
    shapes_tell m n (def.Adapter a) e at at' can can' same =
        let p = found_at g.adapter_partitionings a.0 can.ready in
        absurd (true≢false (ap is_of_module (sym (ap adapter_shape p.1) ∙ same)))
    shapes_tell m n d (def.Adapter b) at at' can can' same =
        let q = found_at g.adapter_partitionings b.0 can'.ready in
        absurd (true≢false (ap is_of_module (sym (ap adapter_shape q.1) ∙ sym same)))
    shapes_tell m n (def.Export x) (def.Export y) at at' can can' same =
        let instance = ap instance_in_shape same in
        let item = item_tells x.item y.item (same_Some _ _ (ap item_in_shape same)) in
        λ i. def.Export (record { instance = record { 0 = instance i }; item = item i })
    shapes_tell m n (def.InstanceFlags c) (def.InstanceFlags c') at at' can can' same =
        ap (λ x. def.InstanceFlags (record { 0 = x })) (ap number_in_shape same)
    shapes_tell m n (def.Trampoline t) (def.Trampoline u) at at' can can' same =
        ap (λ x. def.Trampoline (record { 0 = x })) (ap number_in_shape same)
    shapes_tell m n (def.UnsafeIntrinsic s i) (def.UnsafeIntrinsic t j) at at' can can' same =
        let one = noted.one_place i j (ap number_in_shape same) in
        let there = subst (λ x. slice_get (slots_of g k) m ≡ Some (def.UnsafeIntrinsic s x)) one at in
        let signature = tells.intrinsics k m n s t j there at' in
        λ x. def.UnsafeIntrinsic (signature x) (one x)
    shapes_tell m n d e at at' can can' same = absurd (cc same)

    -- so one definition is in one slot
    one_number : (m n : ℕ) (d : plan.Definition) → IsFilled k m d → IsFilled k n d → m ≡ n
    one_number m n d a b =
        let shape = one_shape h sound.fills (shape_of g a.what) (shape_of g b.what) (def_view (def_in g h a.what))
        (def_view (def_in g h b.what)) (is_seen a.what a.convertible) (is_seen b.what b.convertible) (sym a.is ∙ b.is)
        in
        let what = shapes_tell a.entry b.entry a.what b.what a.at b.at a.convertible b.convertible shape in
        let entry = distinct_slots g interned k a.entry b.entry a.what a.at (b.at ∙ ap (λ x. Some x) (sym what)) in
        same_Some m n (sym a.number ∙ ap (number_at (slot_numbers h k)) entry ∙ b.number)

    one_step : (i j m n : ℕ) (d : plan.Definition) → slice_get (steps_view h) i ≡ Some (plan.extract k m d)
        → slice_get (steps_view h) j ≡ Some (plan.extract k n d) → i ≡ j
    one_step i j m n d at at' =
        let s = plan.extract k m d in
        let t = plan.extract k n d in
        let number = one_number m n d (is_filled k m i d at) (is_filled k n j d at') in
        one_place (fills k) (steps_view h) i j s t at (fills_it k) at' (fills_it k)
        (sym (sound.are_steps.carry i s at) ∙ number ∙ sound.are_steps.carry j t at')

    -- and no two steps fill slots of the kind with it
    pub slots_apart : (d : plan.Definition) → AtMostOne (FillsWith k d) (steps_view h)
    slots_apart d i j (plan.extract l m e) (plan.extract l' n e') at at' is is' =
        one_step i j m n d (at ∙ (λ x. Some (plan.extract (is.0 x) m (is.1 x))))
        (at' ∙ (λ x. Some (plan.extract (is'.0 x) n (is'.1 x))))
    slots_apart d i j (plan.extract l m e) y at at' is is' = absurd is'
    slots_apart d i j x y at at' is is' = absurd is
