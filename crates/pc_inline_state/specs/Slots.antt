-- What the slots and options entries of a graph stand for, and which core items can be put there.
use Rattle.std.specs.Prelude.{◌≡◌, ◌<◌, ℕ, length, List, Bool, true, false, Option, None, Some, slice_get}
use Rattle.pc_numbers.specs.declared.entity_index.EntityIndex.TheVariants as entity
use Rattle.pc_types.specs.declared.module_record.ModuleRecord.{ModuleRecord}
use Rattle.pc_types.specs.declared.parsed.CoreKind.{CoreKind}
use Rattle.pc_types.specs.declared.parsed.CoreKind.TheVariants as core
use Rattle.pc_info.specs.declared.core_def.ExportItem.{ExportItem}
use Rattle.pc_info.specs.declared.core_def.ExportItem.TheVariants as item
use Rattle.pc_numbers.specs.declared.entity_index.EntityIndex.{EntityIndex}
use Rattle.pc_spec_plan.specs.CoreValue as value
use Rattle.pc_spec_plan.specs.CoreValue.{MaybeValue, map_maybe, map_model, map_options}
use Rattle.pc_spec_plan.specs.PlanView as plan
use Rattle.pc_parsed.specs.Mark.{Mark}
use Rattle.pc_dfg.specs.declared.core_def.CoreDef.{CoreDef}
use Rattle.pc_dfg.specs.declared.core_def.CoreDef.TheVariants as def
use Rattle.pc_dfg.specs.Held.{HasBegun}
use Rattle.pc_dfg.specs.Means.{MeansModel, MeansOptions, MeansSlot}
use Rattle.pc_inline_state.specs.declared.definition.CoreId.{CoreId}
use Rattle.pc_inline_state.specs.declared.definition.DataModel.{DataModel}
use Rattle.pc_inline_state.specs.declared.definition.DataModel.TheVariants as model
use Rattle.pc_inline_state.specs.declared.definition.Options.{Options}
use Rattle.pc_inline_state.specs.Fits.{Fits}
use Rattle.pc_inline_state.specs.Tables.{IsItem, Tables}
use Rattle.pc_inline_state.specs.Holds.{Numbered, number_of, whole_of}

-- whether an item may be a memory: by its number it is one, by a name it may be anything
abbrev pub is_memory_item : ExportItem EntityIndex → Bool
is_memory_item (item.Index (entity.Memory m)) = true
is_memory_item (item.Name name) = true
is_memory_item i = false

-- whether a definition may be a memory
abbrev pub is_memory : CoreDef → Bool
is_memory (def.Export e) = is_memory_item e.item
is_memory d = false

module _ (ms : List ModuleRecord) (b : Tables) where
  -- the number of a core item of a kind
  pub record IsThere (k : CoreKind) (n : CoreId) : Type 0 where
    pub definition : CoreDef
    pub held : slice_get b.cores n.0 ≡ Some definition
    pub usable : IsItem ms b.graph k definition

  -- the same of one that may be left out
  abbrev pub MaybeThere : CoreKind → Option CoreId → Type 0
  MaybeThere k None = Unit {0}
  MaybeThere k (Some n) = IsThere k n

  -- the same of where values lie
  abbrev pub ModelThere : DataModel → Type 0
  ModelThere model.Gc = Unit {0}
  ModelThere (model.LinearMemory m r) = MaybeThere core.Memory m × MaybeThere core.Func r

  -- the same of options
  pub record OptionsThere (o : Options) : Type 0 where
    pub component_instance : HasBegun b.graph o.instance.0
    pub signature : o.core_type.0 < length b.types.signatures
    pub callback : MaybeThere core.Func o.callback
    pub post_return : MaybeThere core.Func o.post_return
    pub model : ModelThere o.data_model

module _ (b : Tables) where
  -- a slot of the graph that may be left out
  pub record SlotStands (k : plan.SlotKind) (n : Option ℕ) (v : MaybeValue Mark) : Type 0 where
    pub numbered : MaybeValue (Numbered b.types (Fits b.graph))
    pub means : MeansSlot b.graph k n (map_maybe (number_of b.types (Fits b.graph)) numbered)
    pub is : map_maybe (whole_of b.types (Fits b.graph)) numbered ≡ v

  -- slots of memory and realloc
  pub record SlotModelStands (m : plan.ModelEntry) (v : value.DataModel Mark) : Type 0 where
    pub numbered : value.DataModel (Numbered b.types (Fits b.graph))
    pub means : MeansModel b.graph m (map_model (number_of b.types (Fits b.graph)) numbered)
    pub is : map_model (whole_of b.types (Fits b.graph)) numbered ≡ v

  -- an options entry of the graph
  pub record EntryStands (n : ℕ) (v : value.Options Mark) : Type 0 where
    pub numbered : value.Options (Numbered b.types (Fits b.graph))
    pub means : MeansOptions b.graph n (map_options (number_of b.types (Fits b.graph)) numbered)
    pub is : map_options (whole_of b.types (Fits b.graph)) numbered ≡ v
