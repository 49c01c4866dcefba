-- What core instances are made of, and whether the memories of adapters have 64 bits.
use Rattle.std.specs.Prelude.{◌≡◌, ℕ, Bool, false, List, length, Option, None, Some, option_and_then, slice_get}
use Rattle.std.specs.Prelude.{unwrap_or}
use Rattle.pc_entity.specs.Lists.{value_of}
use Rattle.pc_numbers.specs.declared.component_entity.StaticModuleIndex.{StaticModuleIndex}
use Rattle.pc_numbers.specs.declared.module_entity.MemoryIndex.{MemoryIndex}
use Rattle.pc_numbers.specs.declared.runtime.RuntimeImportIndex.{RuntimeImportIndex}
use Rattle.pc_types.specs.declared.module_record.ModuleRecord.{ModuleRecord}
use Rattle.pc_types.specs.declared.parsed.DeclType.{DeclType}
use Rattle.pc_types.specs.declared.parsed.TypeTable.{TypeTable}
use Rattle.pc_types.specs.Record.{memory_widths, width_in}
use Rattle.pc_types.specs.Table.{is_module}
use Rattle.pc_types.specs.TypeTree.{Path, TypeTree}
use Rattle.pc_info.specs.declared.core_def.ExportItem.{ExportItem}
use Rattle.pc_info.specs.declared.core_def.ExportItem.TheVariants as item
use Rattle.pc_dfg.specs.declared.adapter.Adapter.{Adapter}
use Rattle.pc_dfg.specs.declared.adapter.DataModel.{DataModel}
use Rattle.pc_dfg.specs.declared.adapter.DataModel.TheVariants as side
use Rattle.pc_dfg.specs.declared.core_def.CoreDef.{CoreDef}
use Rattle.pc_dfg.specs.declared.core_def.CoreExport.{CoreExport}
use Rattle.pc_dfg.specs.declared.dfg.ComponentDfg.{ComponentDfg}
use Rattle.pc_dfg.specs.declared.instance.Instance.TheVariants as source
use Rattle.pc_dfg.specs.Means.{HasPath}
use Rattle.pc_inline_state.specs.declared.instance_module.InstanceModule.{InstanceModule}
use Rattle.pc_inline_state.specs.declared.instance_module.InstanceModule.TheVariants as of
use Rattle.pc_inline_state.specs.Bags.{module_exports}
use Rattle.pc_inline_state.specs.Stands.{IsHostType, IsTableTree}
use Rattle.pc_inline_state.specs.Tables.{Tables}

module _ (ms : List ModuleRecord) (b : Tables) where
  -- a core instance is made of this module: one that was handed in, or the one that the host gives at a path, whose
  -- type is this entry of the table
  pub data IsMadeOf (n : ℕ) : InstanceModule → Type 0 where
    made_of_static : {m : StaticModuleIndex} {args : List CoreDef}
        → slice_get b.graph.instances n ≡ Some (source.Static m args) → IsMadeOf n (of.Static m)
    made_of_import : {r : RuntimeImportIndex} {args : List (List ℕ × List (List ℕ × CoreDef))} {entry : ℕ}
        {path : Path} {tree : TypeTree} → slice_get b.graph.instances n ≡ Some (source.Import r args)
        → HasPath b.graph r.0 path → IsHostType ms b path tree → IsTableTree ms b is_module entry tree
        → IsMadeOf n (of.Import entry)

  -- each core instance is made of its module
  pub record InstancesStand (modules : List InstanceModule) : Type 0 where
    pub as_many : length modules ≡ length b.graph.instances
    pub each : (n : ℕ) (m : InstanceModule) → slice_get modules n ≡ Some m → IsMadeOf n m

-- whether an export of a module type is a 64-bit memory
abbrev pub is_wide_named : (name : List ℕ) → DeclType → Option Bool
is_wide_named name e = option_and_then width_in (value_of name (module_exports e))

module _ (t : TypeTable) (ms : List ModuleRecord) where
  -- whether an item of an instance of a module is a 64-bit memory
  abbrev pub is_wide_in : InstanceModule → ExportItem MemoryIndex → Bool
  is_wide_in (of.Static m) (item.Index i) =
      unwrap_or (option_and_then (λ (r : ModuleRecord). slice_get (memory_widths r) i.0) (slice_get ms m.0)) false
  is_wide_in (of.Import entry) (item.Name name) =
      unwrap_or (option_and_then (is_wide_named name) (slice_get t.types entry)) false
  is_wide_in m i = false

  -- the flag beside a memory says whether it has 64 bits
  pub record HasWidth (modules : List InstanceModule) (x : CoreExport MemoryIndex × Bool) : Type 0 where
    pub instance_module : InstanceModule
    pub made : slice_get modules x.0.instance.0 ≡ Some instance_module
    pub is : x.1 ≡ is_wide_in instance_module x.0.item

  -- the same of a side, which may have no memory
  unfoldable pub HasModelWidth : List InstanceModule → DataModel → Type 0
  HasModelWidth modules side.Gc = Unit {0}
  HasModelWidth modules (side.LinearMemory None realloc) = Unit {0}
  HasModelWidth modules (side.LinearMemory (Some x) realloc) = HasWidth modules x

  -- and of both sides of all adapters
  pub record HaveWidths (modules : List InstanceModule) (g : ComponentDfg) : Type 0 where
    pub lift : (n : ℕ) (x : Adapter) → slice_get g.adapters n ≡ Some x → HasModelWidth modules x.lift_options.data_model
    pub lower : (n : ℕ) (x : Adapter) → slice_get g.adapters n ≡ Some x
        → HasModelWidth modules x.lower_options.data_model
