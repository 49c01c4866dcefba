-- Whether the memories of a graph's adapters have 64 bits, as a reading has it.
use Rattle.std.specs.Prelude.{◌≡◌, ℕ, Bool, List, None, Some, slice_get}
use Rattle.pc_numbers.specs.declared.entity_index.EntityIndex.TheVariants as entity
use Rattle.pc_numbers.specs.declared.module_entity.MemoryIndex.{MemoryIndex}
use Rattle.pc_types.specs.declared.module_record.ModuleRecord.{ModuleRecord}
use Rattle.pc_spec_plan.specs.CoreValue.{CoreValue, exported}
use Rattle.pc_info.specs.Definitions.{item_view}
use Rattle.pc_info.specs.Mapped.{map_item}
use Rattle.pc_parsed.specs.Mark.{Mark}
use Rattle.pc_spec_reading.specs.Reading.{Reading}
use Rattle.pc_spec_reading.specs.Widths.{is_wide}
use Rattle.pc_dfg.specs.declared.adapter.Adapter.{Adapter}
use Rattle.pc_dfg.specs.declared.adapter.DataModel.{DataModel}
use Rattle.pc_dfg.specs.declared.adapter.DataModel.TheVariants as side
use Rattle.pc_dfg.specs.declared.core_def.CoreExport.{CoreExport}
use Rattle.pc_dfg.specs.declared.dfg.ComponentDfg.{ComponentDfg}

-- the value of a memory
abbrev pub memory_value : CoreExport MemoryIndex → CoreValue Mark
memory_value e = exported e.instance.0 (item_view (map_item entity.Memory e.item))

module _ (ms : List ModuleRecord) (r : Reading) where
  -- whether a memory has 64 bits
  abbrev pub is_wide_memory : CoreExport MemoryIndex → Bool
  is_wide_memory e = is_wide ms r.imports r.log (memory_value e)

  -- the flag of a side says so of its memory, if it has one
  unfoldable pub IsWideModel : DataModel → Type 0
  IsWideModel side.Gc = Unit {0}
  IsWideModel (side.LinearMemory None realloc) = Unit {0}
  IsWideModel (side.LinearMemory (Some x) realloc) = x.1 ≡ is_wide_memory x.0

  -- and so do the flags of both sides of all adapters
  pub record AreWide (g : ComponentDfg) : Type 0 where
    pub lift : (n : ℕ) (x : Adapter) → slice_get g.adapters n ≡ Some x → IsWideModel x.lift_options.data_model
    pub lower : (n : ℕ) (x : Adapter) → slice_get g.adapters n ≡ Some x → IsWideModel x.lower_options.data_model
