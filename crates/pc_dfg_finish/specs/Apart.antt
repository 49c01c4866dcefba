-- What the instances of a plan's adapter modules are made with, and how a graph tells slots apart.
use Rattle.std.specs.List.{AllZip}
use Rattle.std.specs.Prelude.{◌≡◌, ℕ, List, Some, slice_get}
use Rattle.pc_entity.specs.Lists.{AreDistinct}
use Rattle.pc_numbers.specs.declared.component_entity.StaticModuleIndex.{StaticModuleIndex}
use Rattle.pc_numbers.specs.declared.module_entity.ModuleInternedTypeIndex.{ModuleInternedTypeIndex}
use Rattle.pc_types.specs.declared.intrinsic.UnsafeIntrinsic.{UnsafeIntrinsic}
use Rattle.pc_spec_plan.specs.CoreValue.{CoreValue}
use Rattle.pc_spec_plan.specs.Log.{Instantiation, of_static}
use Rattle.pc_spec_plan.specs.PlanView as plan
use Rattle.pc_trampoline.specs.declared.part.Mark.{Mark}
use Rattle.pc_dfg.specs.declared.core_def.CoreDef.{CoreDef}
use Rattle.pc_dfg.specs.declared.core_def.CoreDef.TheVariants as def
use Rattle.pc_dfg.specs.declared.dfg.ComponentDfg.{ComponentDfg}
use Rattle.pc_dfg.specs.Means.{Means}
use Rattle.pc_dfg.specs.Numbers.{slots_of}

-- an instance is that of a module of adapters of the graph, with the values of the module's arguments and no others
pub record IsOfAdapters (g : ComponentDfg) (i : Instantiation Mark) : Type 0 where
  pub place : ℕ
  pub adapters : StaticModuleIndex × List CoreDef
  pub at : slice_get g.adapter_modules place ≡ Some adapters
  pub values : List (CoreValue Mark)
  pub means : AllZip (Means g) adapters.1 values
  pub is : i ≡ of_static adapters.0.0 values

-- in the slots of a kind an intrinsic has one signature, and no two adapters of a graph are one function of one module
pub record TellsSlots (g : ComponentDfg) : Type 0 where
  pub intrinsics : (k : plan.SlotKind) (m n : ℕ) (s t : ModuleInternedTypeIndex) (i : UnsafeIntrinsic)
      → slice_get (slots_of g k) m ≡ Some (def.UnsafeIntrinsic s i)
      → slice_get (slots_of g k) n ≡ Some (def.UnsafeIntrinsic t i) → s ≡ t
  pub adapters : AreDistinct g.adapter_partitionings

-- the core module of a module of adapters
abbrev pub module_of : StaticModuleIndex × List CoreDef → StaticModuleIndex
module_of x = x.0
