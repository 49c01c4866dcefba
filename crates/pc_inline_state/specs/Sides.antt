-- What the sides of an adapter hold: definitions in place of the core items that options name.
use Rattle.std.specs.Prelude.{◌≡◌, Bool, List, Option, None, Some, slice_get}
use Rattle.pc_numbers.specs.declared.module_entity.MemoryIndex.{MemoryIndex}
use Rattle.pc_types.specs.declared.module_record.ModuleRecord.{ModuleRecord}
use Rattle.pc_types.specs.declared.parsed.TypeTable.{TypeTable}
use Rattle.pc_dfg.specs.declared.adapter.AdapterOptions.{AdapterOptions}
use Rattle.pc_dfg.specs.declared.adapter.DataModel.{DataModel as SideModel}
use Rattle.pc_dfg.specs.declared.adapter.DataModel.TheVariants as side
use Rattle.pc_dfg.specs.declared.core_def.CoreDef.{CoreDef}
use Rattle.pc_dfg.specs.declared.core_def.CoreExport.{CoreExport}
use Rattle.pc_dfg.specs.Numbers.{memory_def}
use Rattle.pc_inline_state.specs.declared.definition.CoreId.{CoreId}
use Rattle.pc_inline_state.specs.declared.definition.DataModel.{DataModel}
use Rattle.pc_inline_state.specs.declared.definition.DataModel.TheVariants as model
use Rattle.pc_inline_state.specs.declared.definition.Options.{Options}
use Rattle.pc_inline_state.specs.declared.state.State.{State}
use Rattle.pc_inline_state.specs.Instances.{HasWidth}

module _ (t : TypeTable) (ms : List ModuleRecord) (st : State) where
  -- the definition of a core item that may be left out
  unfoldable pub IsDefinition : Option CoreId → Option CoreDef → Type 0
  IsDefinition None None = Unit {0}
  IsDefinition (Some id) (Some d) = slice_get st.cores id.0 ≡ Some d
  IsDefinition _ _ = ⊥

  -- a memory that may be left out, with its width
  unfoldable pub IsMemory : Option CoreId → Option (CoreExport MemoryIndex × Bool) → Type 0
  IsMemory None None = Unit {0}
  IsMemory (Some id) (Some x) =
      (slice_get st.cores id.0 ≡ Some (memory_def x.0)) × HasWidth t ms st.runtime_instances.items x
  IsMemory _ _ = ⊥

  -- where the values of a side lie
  unfoldable pub IsModel : DataModel → SideModel → Type 0
  IsModel model.Gc side.Gc = Unit {0}
  IsModel (model.LinearMemory m r) (side.LinearMemory memory realloc) = IsMemory m memory × IsDefinition r realloc
  IsModel _ _ = ⊥

  -- a side of an adapter is that of these options
  pub record IsSide (o : Options) (x : AdapterOptions) : Type 0 where
    pub component_instance : x.instance ≡ o.instance
    pub encoding : x.string_encoding ≡ o.string_encoding
    pub is_async : x.async_ ≡ o.async_
    pub signature : x.core_type ≡ o.core_type
    pub callback : IsDefinition o.callback x.callback
    pub post_return : IsDefinition o.post_return x.post_return
    pub model : IsModel o.data_model x.data_model
