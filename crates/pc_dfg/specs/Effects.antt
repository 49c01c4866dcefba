-- What the side effects of a graph stand for: the core instances and resources of a log.
use Rattle.std.specs.Prelude.{◌≡◌, ℕ, List, map, Some, slice_get}
use Rattle.std.specs.List.{flat_map, AllZip}
use Rattle.pc_dfg.specs.declared.ids.InstanceId.{InstanceId}
use Rattle.pc_numbers.specs.declared.component_entity.StaticModuleIndex.{StaticModuleIndex}
use Rattle.pc_numbers.specs.declared.runtime.DefinedResourceIndex.{DefinedResourceIndex}
use Rattle.pc_numbers.specs.declared.runtime.RuntimeComponentInstanceIndex.{RuntimeComponentInstanceIndex}
use Rattle.pc_numbers.specs.declared.runtime.RuntimeImportIndex.{RuntimeImportIndex}
use Rattle.pc_types.specs.TypeTree.{Path}
use Rattle.pc_spec_plan.specs.CoreValue.{CoreValue, MaybeValue}
use Rattle.pc_spec_plan.specs.Log as log
use Rattle.pc_trampoline.specs.declared.part.Mark.{Mark}
use Rattle.pc_dfg.specs.declared.core_def.CoreDef.{CoreDef}
use Rattle.pc_dfg.specs.declared.dfg.ComponentDfg.{ComponentDfg}
use Rattle.pc_dfg.specs.declared.instance.Instance.{Instance}
use Rattle.pc_dfg.specs.declared.instance.Instance.TheVariants as source
use Rattle.pc_dfg.specs.declared.instance.Resource.{Resource}
use Rattle.pc_dfg.specs.declared.instance.SideEffect.{SideEffect}
use Rattle.pc_dfg.specs.declared.instance.SideEffect.TheVariants as effect
use Rattle.pc_dfg.specs.Means.{HasPath, Means, MeansMaybe}

-- an argument of a host module: the module name, the name, and what is given
abbrev pub Argument : Type 0
Argument = List ℕ × (List ℕ × CoreDef)

-- the arguments of a host module in one list, those of one module name together
abbrev pub host_arguments : List (List ℕ × List (List ℕ × CoreDef)) → List Argument
host_arguments args = flat_map (λ m. map (λ a. (m.0, a)) m.1) args

-- the value of an argument of a host module
pub record MeansArgument (g : ComponentDfg) (a : Argument) (x : log.NamedArgument Mark) : Type 0 where
  pub module_name : x.module_name ≡ a.0
  pub name : x.name ≡ a.1.0
  pub value : Means g a.1.1 x.value

-- a core module with its arguments
pub data MeansInstance (g : ComponentDfg) : Instance → log.Instantiation Mark → Type 0 where
  means_static : {m : StaticModuleIndex} {args : List CoreDef} {vs : List (CoreValue Mark)}
      → AllZip (Means g) args vs → MeansInstance g (source.Static m args) (log.of_static m.0 vs)
  means_host : {r : RuntimeImportIndex} {args : List (List ℕ × List (List ℕ × CoreDef))} {path : Path}
      {vs : List (log.NamedArgument Mark)} → HasPath g r.0 path → AllZip (MeansArgument g) (host_arguments args) vs
      → MeansInstance g (source.Import r args) (log.of_host path vs)

-- what a side effect does
pub data MeansEffect (g : ComponentDfg) : SideEffect → log.Entry Mark → Type 0 where
  means_made : {i : InstanceId} {x : Instance} {c : RuntimeComponentInstanceIndex} {v : log.Instantiation Mark}
      → slice_get g.instances i.0 ≡ Some x → MeansInstance g x v
      → MeansEffect g (effect.Instance i c) (log.instantiated v c.0)
  means_declared : {n : DefinedResourceIndex} {x : Resource} {v : MaybeValue Mark}
      → slice_get g.resources n.0 ≡ Some x → MeansMaybe g x.dtor v
      → MeansEffect g (effect.Resource n) (log.declared_resource x.rep v x.instance.0)

-- the side effects do what a trace says, in order
unfoldable pub EffectsMean : ComponentDfg → List (log.Entry Mark) → Type 0
EffectsMean g trace = AllZip (MeansEffect g) g.side_effects trace
