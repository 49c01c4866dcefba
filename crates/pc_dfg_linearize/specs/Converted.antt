-- Definitions as the plan has them, by the numbers that were given.
use Rattle.std.specs.Prelude.{ℕ, Option, None, Some, slice_get, unwrap_or}
use Rattle.pc_dfg.specs.declared.ids.AdapterModuleId.{AdapterModuleId}
use Rattle.pc_numbers.specs.declared.entity_index.EntityIndex.{EntityIndex}
use Rattle.pc_numbers.specs.declared.runtime.RuntimeInstanceIndex.{RuntimeInstanceIndex}
use Rattle.pc_info.specs.declared.core_def.CoreDef.{CoreDef as PlanDef}
use Rattle.pc_info.specs.declared.core_def.CoreDef.TheVariants as plan_def
use Rattle.pc_info.specs.declared.core_def.CoreExport.{CoreExport}
use Rattle.pc_info.specs.declared.core_def.ExportItem.TheVariants as item
use Rattle.pc_dfg.specs.declared.core_def.CoreDef.{CoreDef}
use Rattle.pc_dfg.specs.declared.core_def.CoreDef.TheVariants as def
use Rattle.pc_dfg.specs.declared.core_def.CoreExport.{CoreExport as GraphExport}
use Rattle.pc_dfg.specs.declared.dfg.ComponentDfg.{ComponentDfg}
use Rattle.pc_dfg_linearize.specs.declared.state.Finish.{Finish}
use Rattle.pc_dfg_linearize.specs.Numbers.{numbered}

-- the number of a core instance of the graph in the run
abbrev pub instance_of : Finish → ℕ → RuntimeInstanceIndex
instance_of f k = unwrap_or (slice_get f.instances k) (record { 0 = 0 })

-- the number of the instance of a module of adapters in the run
abbrev pub module_instance_of : Finish → ℕ → RuntimeInstanceIndex
module_instance_of f m = record { 0 = numbered f.numbers.adapter_modules m }

-- an adapter: an item of the instance of its module
abbrev pub adapter_def : Finish → Option (AdapterModuleId × EntityIndex) → PlanDef
adapter_def f (Some p) = plan_def.Export (record { instance = module_instance_of f p.0.0; item = item.Index p.1 })
adapter_def f None = plan_def.InstanceFlags (record { 0 = 0 })

-- an item of a core instance
abbrev pub export_in : {T : Type 0} → Finish → GraphExport T → CoreExport T
export_in f e = record { instance = instance_of f e.instance.0; item = e.item }

-- a definition
unfoldable pub def_in : ComponentDfg → Finish → CoreDef → PlanDef
def_in g f (def.Export e) = plan_def.Export (export_in f e)
def_in g f (def.InstanceFlags c) = plan_def.InstanceFlags c
def_in g f (def.Trampoline t) =
    plan_def.Trampoline (record { 0 = numbered f.numbers.trampolines t.0 })
def_in g f (def.UnsafeIntrinsic s i) = plan_def.UnsafeIntrinsic i
def_in g f (def.Adapter a) = adapter_def f (slice_get g.adapter_partitionings a.0)
