-- What is noted of slots, adapters and core items of host modules stays so while tables and graph grow, and as more is
-- noted.
use Rattle.std.proofs.Common.{◌≡◌, ◌⊎◌, inl, inr, ℕ, Bool, true, false, List, Option, None, Some, refl, sym, ap}
use Rattle.std.proofs.Common.{subst, ◌∙◌, true≢false}
use Rattle.std.specs.Prelude.{◌==◌, slice_get}
use Rattle.std.specs.Option.{option_map}
use Rattle.std.proofs.lemmas.Bool.Decides.{Decides-eqb}
use Rattle.std.proofs.lemmas.Option.{none-some, same_Some}
use Rattle.pc_entity.specs.Lists.{Kept}
use Rattle.pc_entity.specs.SecondaryMap.{Defaulted, value_at, with_value_at}
use Rattle.pc_entity.proofs.Defaults.{value_at-set_other, value_at-set_same}
use Rattle.pc_entity.proofs.Growing.{kept_refl}
use Rattle.pc_numbers.specs.declared.module_entity.MemoryIndex.{MemoryIndex}
use Rattle.pc_types.specs.declared.module_record.ModuleRecord.{ModuleRecord}
use Rattle.pc_types.specs.declared.parsed.TypeTable.{TypeTable}
use Rattle.pc_spec_plan.specs.PlanView as plan
use Rattle.pc_spec_reading.specs.Scope.{Moment}
use Rattle.pc_dfg.specs.declared.adapter.Adapter.{Adapter}
use Rattle.pc_dfg.specs.declared.adapter.AdapterOptions.{AdapterOptions}
use Rattle.pc_dfg.specs.declared.adapter.DataModel.{DataModel as SideModel}
use Rattle.pc_dfg.specs.declared.adapter.DataModel.TheVariants as side
use Rattle.pc_dfg.specs.declared.core_def.CoreDef.{CoreDef}
use Rattle.pc_dfg.specs.declared.core_def.CoreExport.{CoreExport}
use Rattle.pc_dfg.specs.declared.ids.AdapterId.{AdapterId}
use Rattle.pc_dfg.specs.declared.ids.CallbackId.{CallbackId}
use Rattle.pc_dfg.specs.declared.ids.MemoryId.{MemoryId}
use Rattle.pc_dfg.specs.declared.ids.PostReturnId.{PostReturnId}
use Rattle.pc_dfg.specs.declared.ids.ReallocId.{ReallocId}
use Rattle.pc_dfg.specs.declared.ids.TableId.{TableId}
use Rattle.pc_dfg.specs.Lists as list
use Rattle.pc_dfg.specs.Numbers.{memory_def}
use Rattle.pc_dfg.proofs.GrowLemmas.{kept}
use Rattle.pc_inline_state.specs.declared.adapters.AdapterKey.{AdapterKey}
use Rattle.pc_inline_state.specs.declared.definition.CoreId.{CoreId}
use Rattle.pc_inline_state.specs.declared.definition.DataModel.{DataModel}
use Rattle.pc_inline_state.specs.declared.definition.DataModel.TheVariants as model
use Rattle.pc_inline_state.specs.declared.definition.Options.{Options}
use Rattle.pc_inline_state.specs.declared.frame.Frame.{Frame}
use Rattle.pc_inline_state.specs.declared.entity_items.InstanceEntity.{InstanceEntity}
use Rattle.pc_inline_state.specs.declared.host_items.HostExport.{HostExport}
use Rattle.pc_inline_state.specs.declared.places.Places.{Places}
use Rattle.pc_inline_state.specs.declared.state.State.{State}
use Rattle.pc_inline_state.specs.Placed.{ArePlaced, HasAdapter, InSlot, IsEntityItem, IsHostItem, IsMadeOfKey}
use Rattle.pc_inline_state.specs.Places.{NotesAdapter, NotesEntity, NotesItem, NotesSlot, no_places, slot_at}
use Rattle.pc_inline_state.specs.Points.{IsSoundState, PointStands}
use Rattle.pc_inline_state.specs.Sides.{IsDefinition, IsMemory, IsModel, IsSide}
use Rattle.pc_inline_state.specs.Tables.{Keeps, Tables, tables_of}

module _ (t : TypeTable) (ms : List ModuleRecord) (a b : State) (cores : Kept a.cores b.cores)
    (modules : Kept a.runtime_instances.items b.runtime_instances.items) where
  definition_kept : (o : Option CoreId) (d : Option CoreDef) → IsDefinition t ms a o d → IsDefinition t ms b o d
  unfolding IsDefinition
  definition_kept None None is = tt
  definition_kept (Some id) (Some d) is = cores id.0 d is
  definition_kept None (Some d) is = absurd is
  definition_kept (Some id) None is = absurd is

  memory_kept : (o : Option CoreId) (x : Option (CoreExport MemoryIndex × Bool)) → IsMemory t ms a o x
      → IsMemory t ms b o x
  unfolding IsMemory
  memory_kept None None is = tt
  memory_kept (Some id) (Some x) is = (
    cores id.0 (memory_def x.0) is.0,
    record {
      instance_module = is.1.instance_module;
      made = modules x.0.instance.0 is.1.instance_module is.1.made;
      is = is.1.is;
    },
  )
  memory_kept None (Some x) is = absurd is
  memory_kept (Some id) None is = absurd is

  model_kept : (o : DataModel) (m : SideModel) → IsModel t ms a o m → IsModel t ms b o m
  unfolding IsModel
  model_kept model.Gc side.Gc is = tt
  model_kept (model.LinearMemory m r) (side.LinearMemory memory realloc) is =
      (memory_kept m memory is.0, definition_kept r realloc is.1)
  model_kept model.Gc (side.LinearMemory memory realloc) is = absurd is
  model_kept (model.LinearMemory m r) side.Gc is = absurd is

  side_kept : (o : Options) (x : AdapterOptions) → IsSide t ms a o x → IsSide t ms b o x
  side_kept o x s = record {
    component_instance = s.component_instance;
    encoding = s.encoding;
    is_async = s.is_async;
    signature = s.signature;
    callback = definition_kept o.callback x.callback s.callback;
    post_return = definition_kept o.post_return x.post_return s.post_return;
    model = model_kept o.data_model x.data_model s.model;
  }

  -- an adapter is made of what a key says when core items and core instances are more
  pub key_kept : (key : AdapterKey) (x : Adapter) → IsMadeOfKey t ms a key x → IsMadeOfKey t ms b key x
  key_kept key x made = record {
    lift_ty = made.lift_ty;
    lift = side_kept key.lift x.lift_options made.lift;
    lower_ty = made.lower_ty;
    lower = side_kept key.lower x.lower_options made.lower;
    func = cores key.func.0 x.func made.func;
  }

  -- a core item is what an instance of a host module exports when core items are more
  pub host_item_kept : (export : HostExport) (id : CoreId) → IsHostItem t ms a export id → IsHostItem t ms b export id
  host_item_kept export id item = record {
    name = item.name;
    entity = item.entity;
    there = item.there;
    held = cores id.0 _ item.held;
  }

-- a core item is in its slot when tables have grown
pub in_slot_kept : (a b : Tables) → Keeps a b → (k : plan.SlotKind) (id n : ℕ) → InSlot a k id n → InSlot b k id n
in_slot_kept a b keeps k id n s = record {
  definition = s.definition;
  held = keeps.cores id s.definition s.held;
  slotted = kept a.graph b.graph keeps.graph (list.slots k) n s.definition s.slotted;
}

-- what is noted stays so where nothing more is noted
pub placed_kept : (t : TypeTable) (ms : List ModuleRecord) (a b : State) → Keeps (tables_of a) (tables_of b)
    → Kept a.runtime_instances.items b.runtime_instances.items → b.places ≡ a.places → ArePlaced t ms a
    → ArePlaced t ms b
placed_kept t ms a b keeps modules same s = record {
  slots = λ k id n at. in_slot_kept (tables_of a) (tables_of b) keeps k id n
      (s.slots k id n (subst (λ (p : Places). slot_at p k id ≡ Some n) same at));
  adapters = λ i key n at.
      let old = s.adapters i key n (subst (λ (p : Places). slice_get p.adapters i ≡ Some (key, n)) same at) in
      record {
        adapter = old.adapter;
        held = kept a.graph b.graph keeps.graph list.adapters n.0 old.adapter old.held;
        made = key_kept t ms a b keeps.cores modules key old.adapter old.made;
      };
  entity_items = λ i e id at.
      keeps.cores id.0 _
      (s.entity_items i e id (subst (λ (p : Places). slice_get p.entity_items i ≡ Some (e, id)) same at));
  host_items = λ i export id at.
      host_item_kept t ms a b keeps.cores modules export id
      (s.host_items i export id (subst (λ (p : Places). slice_get p.host_items i ≡ Some (export, id)) same at));
}

-- nothing is noted at first
pub none_placed : (t : TypeTable) (ms : List ModuleRecord) (st : State) → st.places ≡ no_places → ArePlaced t ms st
unfolding slot_at
none_placed t ms st none = record {
  slots = λ k id n at. absurd (no_slot k id n (subst (λ (p : Places). slot_at p k id ≡ Some n) none at));
  adapters = λ i key n at.
      absurd (none-some _ (subst (λ (p : Places). slice_get p.adapters i ≡ Some (key, n)) none at));
  entity_items = λ i e id at.
      absurd (none-some _ (subst (λ (p : Places). slice_get p.entity_items i ≡ Some (e, id)) none at));
  host_items = λ i export id at.
      absurd (none-some _ (subst (λ (p : Places). slice_get p.host_items i ≡ Some (export, id)) none at));
}
  where
    no_slot : (k : plan.SlotKind) (id n : ℕ) → slot_at no_places k id ≡ Some n → ⊥
    no_slot plan.memory id n at = none-some n at
    no_slot plan.table id n at = none-some n at
    no_slot plan.realloc id n at = none-some n at
    no_slot plan.callback id n at = none-some n at
    no_slot plan.post_return id n at = none-some n at

-- what is noted is so where a slot more is, and a core item is in it
pub slot_placed : (t : TypeTable) (ms : List ModuleRecord) (st : State) (p : Places) (k : plan.SlotKind) (id n : ℕ)
    → NotesSlot k id n st.places p → InSlot (tables_of st) k id n → ArePlaced t ms st
    → ArePlaced t ms (record st { places = p })
slot_placed t ms st p k id n notes here s = record {
  slots = λ j q m at. elim (notes.slots j q m at) as (λ _. InSlot (tables_of st) j q m) [
    | inl old ↦ s.slots j q m old
    | inr new ↦ subst (λ l. InSlot (tables_of st) l q m) (sym new.0)
        (subst (λ i. InSlot (tables_of st) k i m) (sym new.1)
        (subst (λ i. InSlot (tables_of st) k id i) (sym new.2) here))
  ];
  adapters = λ i key a at.
      let old = s.adapters i key a
      (subst (λ (es : List (AdapterKey × AdapterId)). slice_get es i ≡ Some (key, a)) notes.adapters at) in
      record {
        adapter = old.adapter;
        held = old.held;
        made = key_kept t ms st (record st { places = p }) (kept_refl st.cores) (kept_refl st.runtime_instances.items)
            key old.adapter old.made;
      };
  entity_items = λ i e m at.
      s.entity_items i e m
      (subst (λ (es : List (InstanceEntity × CoreId)). slice_get es i ≡ Some (e, m)) notes.entity_items at);
  host_items = λ i export m at.
      host_item_kept t ms st (record st { places = p }) (kept_refl st.cores) (kept_refl st.runtime_instances.items)
      export m
      (s.host_items i export m
      (subst (λ (es : List (HostExport × CoreId)). slice_get es i ≡ Some (export, m)) notes.host_items at));
}

-- slots are as they were beside other adapters
other_adapters : (p : Places) (es : List (AdapterKey × AdapterId)) (k : plan.SlotKind) (id : ℕ)
    → slot_at (record p { adapters = es }) k id ≡ slot_at p k id
unfolding slot_at
other_adapters p es plan.memory id = refl
other_adapters p es plan.table id = refl
other_adapters p es plan.realloc id = refl
other_adapters p es plan.callback id = refl
other_adapters p es plan.post_return id = refl

-- what is noted is so where an adapter more is, and its key has it
pub adapter_placed : (t : TypeTable) (ms : List ModuleRecord) (st : State) (p : Places) (key : AdapterKey)
    (n : AdapterId) → NotesAdapter key n st.places p → HasAdapter t ms st key n → ArePlaced t ms st
    → ArePlaced t ms (record st { places = p })
adapter_placed t ms st p key n notes here s = record {
  slots = λ k id m at.
      s.slots k id m
      (sym (other_adapters st.places p.adapters k id) ∙ ap (λ (q : Places). slot_at q k id) (sym notes.slots) ∙ at);
  adapters = λ i other m at. elim (notes.adapters i (other, m) at)
      as (λ _. HasAdapter t ms (record st { places = p }) other m) [
        | inl old ↦ again other m (s.adapters i other m old)
        | inr new ↦ subst (λ (e : AdapterKey × AdapterId). HasAdapter t ms (record st { places = p }) e.0 e.1)
            (sym new) (again key n here)
      ];
  entity_items = λ i e id at.
      s.entity_items i e id (ap (λ (q : Places). slice_get q.entity_items i) (sym notes.slots) ∙ at);
  host_items = λ i export id at.
      host_item_kept t ms st (record st { places = p }) (kept_refl st.cores) (kept_refl st.runtime_instances.items)
      export id
      (s.host_items i export id (ap (λ (q : Places). slice_get q.host_items i) (sym notes.slots) ∙ at));
}
  where
    again : (k : AdapterKey) (m : AdapterId) → HasAdapter t ms st k m → HasAdapter t ms (record st { places = p }) k m
    again k m has = record {
      adapter = has.adapter;
      held = has.held;
      made = key_kept t ms st (record st { places = p }) (kept_refl st.cores) (kept_refl st.runtime_instances.items)
          k has.adapter has.made;
    }

-- slots are as they were beside other core items of host modules
other_items : (p : Places) (es : List (HostExport × CoreId)) (k : plan.SlotKind) (id : ℕ)
    → slot_at (record p { host_items = es }) k id ≡ slot_at p k id
unfolding slot_at
other_items p es plan.memory id = refl
other_items p es plan.table id = refl
other_items p es plan.realloc id = refl
other_items p es plan.callback id = refl
other_items p es plan.post_return id = refl

-- what is noted is so where an export of a host module more is, and its core item is that
pub item_placed : (t : TypeTable) (ms : List ModuleRecord) (st : State) (p : Places) (export : HostExport)
    (id : CoreId) → NotesItem export id st.places p → IsHostItem t ms st export id → ArePlaced t ms st
    → ArePlaced t ms (record st { places = p })
item_placed t ms st p export id notes here s = record {
  slots = λ k n m at.
      s.slots k n m
      (sym (other_items st.places p.host_items k n) ∙ ap (λ (q : Places). slot_at q k n) (sym notes.rest) ∙ at);
  adapters = λ i key n at.
      let old = s.adapters i key n (ap (λ (q : Places). slice_get q.adapters i) (sym notes.rest) ∙ at) in
      record {
        adapter = old.adapter;
        held = old.held;
        made = key_kept t ms st (record st { places = p }) (kept_refl st.cores) (kept_refl st.runtime_instances.items)
            key old.adapter old.made;
      };
  entity_items = λ i e m at.
      s.entity_items i e m (ap (λ (q : Places). slice_get q.entity_items i) (sym notes.rest) ∙ at);
  host_items = λ i other m at. elim (notes.host_items i (other, m) at)
      as (λ _. IsHostItem t ms (record st { places = p }) other m) [
        | inl old ↦ again other m (s.host_items i other m old)
        | inr new ↦ subst (λ (e : HostExport × CoreId). IsHostItem t ms (record st { places = p }) e.0 e.1)
            (sym new) (again export id here)
      ];
}
  where
    again : (e : HostExport) (m : CoreId) → IsHostItem t ms st e m → IsHostItem t ms (record st { places = p }) e m
    again =
        host_item_kept t ms st (record st { places = p }) (kept_refl st.cores) (kept_refl st.runtime_instances.items)

-- slots are as they were beside other core items of core instances
other_entities : (p : Places) (es : List (InstanceEntity × CoreId)) (k : plan.SlotKind) (id : ℕ)
    → slot_at (record p { entity_items = es }) k id ≡ slot_at p k id
unfolding slot_at
other_entities p es plan.memory id = refl
other_entities p es plan.table id = refl
other_entities p es plan.realloc id = refl
other_entities p es plan.callback id = refl
other_entities p es plan.post_return id = refl

-- what is noted is so where an entity of a core instance more is, and its core item is that
pub entity_placed : (t : TypeTable) (ms : List ModuleRecord) (st : State) (p : Places) (entity : InstanceEntity)
    (id : CoreId) → NotesEntity entity id st.places p → IsEntityItem st entity id → ArePlaced t ms st
    → ArePlaced t ms (record st { places = p })
entity_placed t ms st p entity id notes here s = record {
  slots = λ k n m at.
      s.slots k n m
      (sym (other_entities st.places p.entity_items k n) ∙ ap (λ (q : Places). slot_at q k n) (sym notes.rest) ∙ at);
  adapters = λ i key n at.
      let old = s.adapters i key n (ap (λ (q : Places). slice_get q.adapters i) (sym notes.rest) ∙ at) in
      record {
        adapter = old.adapter;
        held = old.held;
        made = key_kept t ms st (record st { places = p }) (kept_refl st.cores) (kept_refl st.runtime_instances.items)
            key old.adapter old.made;
      };
  entity_items = λ i e m at. elim (notes.entity_items i (e, m) at) as (λ _. IsEntityItem st e m) [
    | inl old ↦ s.entity_items i e m old
    | inr new ↦ subst (λ (x : InstanceEntity × CoreId). IsEntityItem st x.0 x.1) (sym new) here
  ];
  host_items = λ i export m at.
      host_item_kept t ms st (record st { places = p }) (kept_refl st.cores) (kept_refl st.runtime_instances.items)
      export m
      (s.host_items i export m (ap (λ (q : Places). slice_get q.host_items i) (sym notes.rest) ∙ at));
}

module _ (t : TypeTable) (ms : List ModuleRecord) (st : State) (p : Places)
    (placed : ArePlaced t ms st → ArePlaced t ms (record st { places = p })) where
  -- a sound state is sound with other notes that are so
  pub places_sound : IsSoundState t ms st → IsSoundState t ms (record st { places = p })
  places_sound s = record {
    ordered = s.ordered;
    items = s.items;
    plain = s.plain;
    used = s.used;
    numbers = s.numbers;
    held = s.held;
    table = s.table;
    bodies = s.bodies;
    names = s.names;
    members = s.members;
    instances = s.instances;
    widths = s.widths;
    placed = placed s.placed;
  }

  -- and is where the reading is
  pub places_point : (f : Frame) (now : Moment) → PointStands t ms st f now
      → PointStands t ms (record st { places = p }) f now
  places_point f now point = record {
    sound = places_sound point.sound;
    here = point.here;
    converted = point.converted;
    frame = point.frame;
    world = point.world;
    unexported = point.unexported;
  }

module _ {S : Type 0} (number : S → ℕ) (m : Defaulted (Option S)) (id : ℕ) (s : S) (k : plan.SlotKind) where
  -- a number has what was set at it, and others have what they had
  noted_at : (q n : ℕ) → option_map number (value_at (with_value_at m id (Some s)) q) ≡ Some n
      → (option_map number (value_at m q) ≡ Some n) ⊎ ((k ≡ k) × (q ≡ id) × (n ≡ number s))
  noted_at q n at = by (q == id) refl
    where
      by : (b : Bool) → (q == id) ≡ b
          → (option_map number (value_at m q) ≡ Some n) ⊎ ((k ≡ k) × (q ≡ id) × (n ≡ number s))
      by true same =
          let one : q ≡ id = (Decides-eqb q id).0 same in
          let set : option_map number (value_at (with_value_at m id (Some s)) id) ≡ Some (number s) =
          ap (option_map number) (value_at-set_same m id (Some s)) in
          let there : Some (number s) ≡ Some n =
          sym set ∙ ap (λ i. option_map number (value_at (with_value_at m id (Some s)) i)) (sym one) ∙ at in
          inr (refl, one, sym (same_Some (number s) n there))
      by false apart =
          inl (sym (ap (option_map number) (value_at-set_other m id q (Some s)
          (λ one. true≢false (sym ((Decides-eqb q id).1 one) ∙ apart)))) ∙ at)

module _ (p : Places) (id : ℕ) where
  -- the slot of a memory that is found is noted, and one that is set is noted then
  pub memory_noted : (o : Option MemoryId) → o ≡ value_at p.memories id → (n : MemoryId) → o ≡ Some n
      → slot_at p plan.memory id ≡ Some n.0
  unfolding slot_at
  memory_noted o is n found = ap (option_map (λ (x : MemoryId). x.0)) (sym is ∙ found)

  pub notes_memory : (n : MemoryId) (m : Defaulted (Option MemoryId))
      → m ≡ with_value_at p.memories id (Some n) → NotesSlot plan.memory id n.0 p (record p { memories = m })
  unfolding slot_at
  notes_memory n m is =
      subst (λ (l : Defaulted (Option MemoryId)). NotesSlot plan.memory id n.0 p (record p { memories = l }))
      (sym is) (record { slots = slots; adapters = refl; entity_items = refl; host_items = refl })
    where
      slots : (j : plan.SlotKind) (q o : ℕ)
          → slot_at (record p { memories = with_value_at p.memories id (Some n) }) j q ≡ Some o
          → (slot_at p j q ≡ Some o) ⊎ ((j ≡ plan.memory) × (q ≡ id) × (o ≡ n.0))
      slots plan.memory q o at = noted_at (λ (x : MemoryId). x.0) p.memories id n plan.memory q o at
      slots plan.table q o at = inl at
      slots plan.realloc q o at = inl at
      slots plan.callback q o at = inl at
      slots plan.post_return q o at = inl at

  -- the slot of a table that is found is noted, and one that is set is noted then
  pub table_noted : (o : Option TableId) → o ≡ value_at p.tables id → (n : TableId) → o ≡ Some n
      → slot_at p plan.table id ≡ Some n.0
  unfolding slot_at
  table_noted o is n found = ap (option_map (λ (x : TableId). x.0)) (sym is ∙ found)

  pub notes_table : (n : TableId) (m : Defaulted (Option TableId))
      → m ≡ with_value_at p.tables id (Some n) → NotesSlot plan.table id n.0 p (record p { tables = m })
  unfolding slot_at
  notes_table n m is =
      subst (λ (l : Defaulted (Option TableId)). NotesSlot plan.table id n.0 p (record p { tables = l }))
      (sym is) (record { slots = slots; adapters = refl; entity_items = refl; host_items = refl })
    where
      slots : (j : plan.SlotKind) (q o : ℕ)
          → slot_at (record p { tables = with_value_at p.tables id (Some n) }) j q ≡ Some o
          → (slot_at p j q ≡ Some o) ⊎ ((j ≡ plan.table) × (q ≡ id) × (o ≡ n.0))
      slots plan.table q o at = noted_at (λ (x : TableId). x.0) p.tables id n plan.table q o at
      slots plan.memory q o at = inl at
      slots plan.realloc q o at = inl at
      slots plan.callback q o at = inl at
      slots plan.post_return q o at = inl at

  -- the slot of a realloc that is found is noted, and one that is set is noted then
  pub realloc_noted : (o : Option ReallocId) → o ≡ value_at p.reallocs id → (n : ReallocId) → o ≡ Some n
      → slot_at p plan.realloc id ≡ Some n.0
  unfolding slot_at
  realloc_noted o is n found = ap (option_map (λ (x : ReallocId). x.0)) (sym is ∙ found)

  pub notes_realloc : (n : ReallocId) (m : Defaulted (Option ReallocId))
      → m ≡ with_value_at p.reallocs id (Some n) → NotesSlot plan.realloc id n.0 p (record p { reallocs = m })
  unfolding slot_at
  notes_realloc n m is =
      subst (λ (l : Defaulted (Option ReallocId)). NotesSlot plan.realloc id n.0 p (record p { reallocs = l }))
      (sym is) (record { slots = slots; adapters = refl; entity_items = refl; host_items = refl })
    where
      slots : (j : plan.SlotKind) (q o : ℕ)
          → slot_at (record p { reallocs = with_value_at p.reallocs id (Some n) }) j q ≡ Some o
          → (slot_at p j q ≡ Some o) ⊎ ((j ≡ plan.realloc) × (q ≡ id) × (o ≡ n.0))
      slots plan.realloc q o at = noted_at (λ (x : ReallocId). x.0) p.reallocs id n plan.realloc q o at
      slots plan.memory q o at = inl at
      slots plan.table q o at = inl at
      slots plan.callback q o at = inl at
      slots plan.post_return q o at = inl at

  -- the slot of a callback that is found is noted, and one that is set is noted then
  pub callback_noted : (o : Option CallbackId) → o ≡ value_at p.callbacks id → (n : CallbackId) → o ≡ Some n
      → slot_at p plan.callback id ≡ Some n.0
  unfolding slot_at
  callback_noted o is n found = ap (option_map (λ (x : CallbackId). x.0)) (sym is ∙ found)

  pub notes_callback : (n : CallbackId) (m : Defaulted (Option CallbackId))
      → m ≡ with_value_at p.callbacks id (Some n) → NotesSlot plan.callback id n.0 p (record p { callbacks = m })
  unfolding slot_at
  notes_callback n m is =
      subst (λ (l : Defaulted (Option CallbackId)). NotesSlot plan.callback id n.0 p (record p { callbacks = l }))
      (sym is) (record { slots = slots; adapters = refl; entity_items = refl; host_items = refl })
    where
      slots : (j : plan.SlotKind) (q o : ℕ)
          → slot_at (record p { callbacks = with_value_at p.callbacks id (Some n) }) j q ≡ Some o
          → (slot_at p j q ≡ Some o) ⊎ ((j ≡ plan.callback) × (q ≡ id) × (o ≡ n.0))
      slots plan.callback q o at = noted_at (λ (x : CallbackId). x.0) p.callbacks id n plan.callback q o at
      slots plan.memory q o at = inl at
      slots plan.table q o at = inl at
      slots plan.realloc q o at = inl at
      slots plan.post_return q o at = inl at

  -- the slot of a post-return function that is found is noted, and one that is set is noted then
  pub post_return_noted : (o : Option PostReturnId) → o ≡ value_at p.post_returns id → (n : PostReturnId) → o ≡ Some n
      → slot_at p plan.post_return id ≡ Some n.0
  unfolding slot_at
  post_return_noted o is n found = ap (option_map (λ (x : PostReturnId). x.0)) (sym is ∙ found)

  pub notes_post_return : (n : PostReturnId) (m : Defaulted (Option PostReturnId))
      → m ≡ with_value_at p.post_returns id (Some n) → NotesSlot plan.post_return id n.0 p (record p { post_returns = m })
  unfolding slot_at
  notes_post_return n m is =
      subst (λ (l : Defaulted (Option PostReturnId)). NotesSlot plan.post_return id n.0 p (record p { post_returns = l }))
      (sym is) (record { slots = slots; adapters = refl; entity_items = refl; host_items = refl })
    where
      slots : (j : plan.SlotKind) (q o : ℕ)
          → slot_at (record p { post_returns = with_value_at p.post_returns id (Some n) }) j q ≡ Some o
          → (slot_at p j q ≡ Some o) ⊎ ((j ≡ plan.post_return) × (q ≡ id) × (o ≡ n.0))
      slots plan.post_return q o at = noted_at (λ (x : PostReturnId). x.0) p.post_returns id n plan.post_return q o at
      slots plan.memory q o at = inl at
      slots plan.table q o at = inl at
      slots plan.realloc q o at = inl at
      slots plan.callback q o at = inl at
