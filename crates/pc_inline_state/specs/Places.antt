-- What is noted of the slots and adapters of a graph, and of the core items of core instances and of host modules.
use Rattle.std.specs.Prelude.{◌≡◌, ◌⊎◌, ℕ, [], Option, None, Some, slice_get}
use Rattle.std.specs.Option.{option_map}
use Rattle.pc_entity.specs.SecondaryMap.{value_at}
use Rattle.pc_spec_plan.specs.PlanView as plan
use Rattle.pc_dfg.specs.declared.ids.AdapterId.{AdapterId}
use Rattle.pc_dfg.specs.declared.ids.CallbackId.{CallbackId}
use Rattle.pc_dfg.specs.declared.ids.MemoryId.{MemoryId}
use Rattle.pc_dfg.specs.declared.ids.PostReturnId.{PostReturnId}
use Rattle.pc_dfg.specs.declared.ids.ReallocId.{ReallocId}
use Rattle.pc_dfg.specs.declared.ids.TableId.{TableId}
use Rattle.pc_inline_state.specs.declared.adapters.AdapterKey.{AdapterKey}
use Rattle.pc_inline_state.specs.declared.definition.CoreId.{CoreId}
use Rattle.pc_inline_state.specs.declared.entity_items.InstanceEntity.{InstanceEntity}
use Rattle.pc_inline_state.specs.declared.host_items.HostExport.{HostExport}
use Rattle.pc_inline_state.specs.declared.places.Places.{Places}

-- nothing was noted
abbrev pub no_places : Places
no_places = record {
  memories = record { items = []; default = None };
  tables = record { items = []; default = None };
  reallocs = record { items = []; default = None };
  callbacks = record { items = []; default = None };
  post_returns = record { items = []; default = None };
  adapters = [];
  entity_items = [];
  host_items = [];
}

-- the slot of a kind that a core item has, as it is noted
unfoldable pub slot_at : Places → plan.SlotKind → ℕ → Option ℕ
slot_at p plan.memory id = option_map (λ (n : MemoryId). n.0) (value_at p.memories id)
slot_at p plan.table id = option_map (λ (n : TableId). n.0) (value_at p.tables id)
slot_at p plan.realloc id = option_map (λ (n : ReallocId). n.0) (value_at p.reallocs id)
slot_at p plan.callback id = option_map (λ (n : CallbackId). n.0) (value_at p.callbacks id)
slot_at p plan.post_return id = option_map (λ (n : PostReturnId). n.0) (value_at p.post_returns id)

-- a core item is noted with its slot; besides, of slots nothing is noted that wasn't, and adapters are as they were
pub record NotesSlot (k : plan.SlotKind) (id n : ℕ) (old new : Places) : Type 0 where
  pub slots : (j : plan.SlotKind) (q m : ℕ) → slot_at new j q ≡ Some m
      → (slot_at old j q ≡ Some m) ⊎ ((j ≡ k) × (q ≡ id) × (m ≡ n))
  pub adapters : new.adapters ≡ old.adapters
  pub entity_items : new.entity_items ≡ old.entity_items
  pub host_items : new.host_items ≡ old.host_items

-- a key is noted with its adapter; besides, of adapters nothing is noted that wasn't, and slots are as they were
pub record NotesAdapter (key : AdapterKey) (n : AdapterId) (old new : Places) : Type 0 where
  pub adapters : (i : ℕ) (e : AdapterKey × AdapterId) → slice_get new.adapters i ≡ Some e
      → (slice_get old.adapters i ≡ Some e) ⊎ (e ≡ (key, n))
  pub slots : new ≡ record old { adapters = new.adapters }

-- an entity of a core instance is noted with its core item; besides, nothing is noted that wasn't
pub record NotesEntity (entity : InstanceEntity) (id : CoreId) (old new : Places) : Type 0 where
  pub entity_items : (i : ℕ) (e : InstanceEntity × CoreId) → slice_get new.entity_items i ≡ Some e
      → (slice_get old.entity_items i ≡ Some e) ⊎ (e ≡ (entity, id))
  pub rest : new ≡ record old { entity_items = new.entity_items }

-- an export of a host module is noted with its core item; besides, nothing is noted that wasn't
pub record NotesItem (export : HostExport) (id : CoreId) (old new : Places) : Type 0 where
  pub host_items : (i : ℕ) (e : HostExport × CoreId) → slice_get new.host_items i ≡ Some e
      → (slice_get old.host_items i ≡ Some e) ⊎ (e ≡ (export, id))
  pub rest : new ≡ record old { host_items = new.host_items }
