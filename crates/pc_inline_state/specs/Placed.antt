-- What is noted of the slots and of the adapters of a graph is so.
use Rattle.std.specs.Prelude.{◌≡◌, ℕ, List, Some, slice_get}
use Rattle.pc_types.specs.declared.module_record.ModuleRecord.{ModuleRecord}
use Rattle.pc_types.specs.declared.parsed.TypeTable.{TypeTable}
use Rattle.pc_spec_plan.specs.PlanView as plan
use Rattle.pc_dfg.specs.declared.adapter.Adapter.{Adapter}
use Rattle.pc_dfg.specs.declared.core_def.CoreDef.{CoreDef}
use Rattle.pc_dfg.specs.declared.ids.AdapterId.{AdapterId}
use Rattle.pc_dfg.specs.Numbers.{slots_of}
use Rattle.pc_dfg.specs.declared.core_def.CoreDef.TheVariants as def
use Rattle.pc_info.specs.declared.core_def.ExportItem.TheVariants as item
use Rattle.pc_types.specs.declared.parsed.CoreEntity.{CoreEntity}
use Rattle.pc_inline_state.specs.Bags.{module_export}
use Rattle.pc_inline_state.specs.declared.adapters.AdapterKey.{AdapterKey}
use Rattle.pc_inline_state.specs.declared.definition.CoreId.{CoreId}
use Rattle.pc_inline_state.specs.declared.entity_items.InstanceEntity.{InstanceEntity}
use Rattle.pc_inline_state.specs.declared.host_items.HostExport.{HostExport}
use Rattle.pc_inline_state.specs.declared.state.State.{State}
use Rattle.pc_inline_state.specs.Places.{slot_at}
use Rattle.pc_inline_state.specs.Sides.{IsSide}
use Rattle.pc_inline_state.specs.Tables.{Tables, tables_of}

-- a core item is in a slot of the graph
pub record InSlot (b : Tables) (k : plan.SlotKind) (id n : ℕ) : Type 0 where
  pub definition : CoreDef
  pub held : slice_get b.cores id ≡ Some definition
  pub slotted : slice_get (slots_of b.graph k) n ≡ Some definition

-- a core item is an entity of a core instance
abbrev pub IsEntityItem : State → InstanceEntity → CoreId → Type 0
IsEntityItem st e id =
    slice_get st.cores id.0 ≡ Some (def.Export (record { instance = e.instance; item = item.Index e.entity }))

module _ (t : TypeTable) (ms : List ModuleRecord) (st : State) where
  -- an adapter is made of what a key says
  pub record IsMadeOfKey (key : AdapterKey) (x : Adapter) : Type 0 where
    pub lift_ty : x.lift_ty ≡ key.lift_ty
    pub lift : IsSide t ms st key.lift x.lift_options
    pub lower_ty : x.lower_ty ≡ key.lower_ty
    pub lower : IsSide t ms st key.lower x.lower_options
    pub func : slice_get st.cores key.func.0 ≡ Some x.func

  -- the graph has the adapter under this number
  pub record HasAdapter (key : AdapterKey) (n : AdapterId) : Type 0 where
    pub adapter : Adapter
    pub held : slice_get st.graph.adapters n.0 ≡ Some adapter
    pub made : IsMadeOfKey key adapter

  -- a core item is what an instance of a host module exports
  pub record IsHostItem (export : HostExport) (id : CoreId) : Type 0 where
    pub name : List ℕ
    pub entity : CoreEntity
    pub there : module_export t export.entry export.place ≡ Some (name, entity)
    pub held : slice_get st.cores id.0
        ≡ Some (def.Export (record { instance = export.instance; item = item.Name name }))

  -- core items are in the slots that are noted, keys have the adapters, and entities of core instances and exports of
  -- host modules are the core items
  pub record ArePlaced : Type 0 where
    pub slots : (k : plan.SlotKind) (id n : ℕ) → slot_at st.places k id ≡ Some n → InSlot (tables_of st) k id n
    pub adapters : (i : ℕ) (key : AdapterKey) (n : AdapterId) → slice_get st.places.adapters i ≡ Some (key, n)
        → HasAdapter key n
    pub entity_items : (i : ℕ) (entity : InstanceEntity) (id : CoreId)
        → slice_get st.places.entity_items i ≡ Some (entity, id) → IsEntityItem st entity id
    pub host_items : (i : ℕ) (export : HostExport) (id : CoreId) → slice_get st.places.host_items i ≡ Some (export, id)
        → IsHostItem export id
