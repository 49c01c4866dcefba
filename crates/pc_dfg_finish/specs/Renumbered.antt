-- Which core instance of a plan is which of a graph: its own instances, and those of its modules of adapters, have
-- numbers in the run.
use Rattle.std.specs.Prelude.{◌≡◌, ◌<◌, ℕ, List, take, length, Option, Some, option_map, slice_get, count_by}
use Rattle.std.specs.List.{AllZip}
use Rattle.pc_numbers.specs.declared.component_entity.StaticModuleIndex.{StaticModuleIndex}
use Rattle.pc_numbers.specs.declared.entity_index.EntityIndex.{EntityIndex}
use Rattle.pc_numbers.specs.declared.module_entity.ModuleInternedTypeIndex.{ModuleInternedTypeIndex}
use Rattle.pc_numbers.specs.declared.runtime.RuntimeComponentInstanceIndex.{RuntimeComponentInstanceIndex}
use Rattle.pc_numbers.specs.declared.runtime.RuntimeImportIndex.{RuntimeImportIndex}
use Rattle.pc_numbers.specs.declared.runtime.TrampolineIndex.{TrampolineIndex}
use Rattle.pc_types.specs.declared.intrinsic.UnsafeIntrinsic.{UnsafeIntrinsic}
use Rattle.pc_types.specs.IntrinsicType.{intrinsic_place}
use Rattle.pc_spec_plan.specs.CoreValue.{by_index}
use Rattle.pc_spec_plan.specs.Counts.{makes_instance}
use Rattle.pc_spec_plan.specs.PlanView as plan
use Rattle.pc_info.specs.declared.component.ComponentTranslation.{ComponentTranslation}
use Rattle.pc_info.specs.Definitions.{item_view}
use Rattle.pc_info.specs.Standing.{steps_in}
use Rattle.pc_dfg.specs.declared.core_def.CoreDef.{CoreDef}
use Rattle.pc_dfg.specs.declared.core_def.CoreDef.TheVariants as def
use Rattle.pc_dfg.specs.declared.core_def.CoreExport.{CoreExport}
use Rattle.pc_dfg.specs.declared.dfg.ComponentDfg.{ComponentDfg}
use Rattle.pc_dfg.specs.declared.ids.AdapterId.{AdapterId}
use Rattle.pc_dfg.specs.declared.ids.AdapterModuleId.{AdapterModuleId}
use Rattle.pc_dfg.specs.declared.instance.Instance.{Instance}
use Rattle.pc_dfg.specs.declared.instance.Instance.TheVariants as source
use Rattle.pc_dfg_linearize.specs.Once.{AreGiven, Origin, of_instance, of_module}

-- a core instance of a graph, or the module of adapters that one is made of, with the arguments
abbrev pub source_of : ComponentDfg → Origin → Option Instance
source_of g (of_instance k) = slice_get g.instances k
source_of g (of_module m) =
    option_map (λ (x : StaticModuleIndex × List CoreDef). source.Static x.0 x.1) (slice_get g.adapter_modules m)

module _ (g : ComponentDfg) (number_of : Origin → Option ℕ) where
  -- a definition of the graph is this one of the plan, where instances have these numbers
  pub data Becomes : CoreDef → plan.Definition → Type 0 where
    export_becomes : {e : CoreExport EntityIndex} {n : ℕ} → number_of (of_instance e.instance.0) ≡ Some n
        → Becomes (def.Export e) (plan.export n (item_view e.item))
    flags_become : {c : RuntimeComponentInstanceIndex} → Becomes (def.InstanceFlags c) (plan.flags c.0)
    trampoline_becomes : {t : TrampolineIndex} {n : ℕ} → Becomes (def.Trampoline t) (plan.trampoline n)
    intrinsic_becomes : {s : ModuleInternedTypeIndex} {i : UnsafeIntrinsic}
        → Becomes (def.UnsafeIntrinsic s i) (plan.intrinsic (intrinsic_place i))
    adapter_becomes : {a : AdapterId} {p : AdapterModuleId × EntityIndex} {n : ℕ}
        → slice_get g.adapter_partitionings a.0 ≡ Some p → number_of (of_module p.0.0) ≡ Some n
        → Becomes (def.Adapter a) (plan.export n (by_index p.1))

  -- a step makes this core instance: with the same module and arguments, or of the same import of the host
  pub data Instantiates : Instance → plan.Initializer → Type 0 where
    from_module : {m : StaticModuleIndex} {args : List CoreDef} {made : List plan.Definition} {c : Option ℕ}
        → AllZip Becomes args made → Instantiates (source.Static m args) (plan.instantiate_static m.0 made c)
    from_host : {r : RuntimeImportIndex} {args : List (List ℕ × List (List ℕ × CoreDef))}
        {made : List plan.NamedDefinition} {c : Option ℕ}
        → Instantiates (source.Import r args) (plan.instantiate_import r.0 made c)

  -- among these steps, that which makes the core instance of a number makes the one that has it
  pub record IsMadeOf (steps : List plan.Initializer) (x : Origin) (number : ℕ) : Type 0 where
    pub what : Instance
    pub from : source_of g x ≡ Some what
    pub step : plan.Initializer
    pub place : ℕ
    pub at : slice_get steps place ≡ Some step
    pub number_of_it : count_by makes_instance (take place steps) ≡ number
    pub does : Instantiates what step

-- the core instances of a plan are those of a graph and those of its modules of adapters, under other numbers: each
-- number is that of one, each core instance of the graph has one, and a step gives to an instance what the graph gives
-- to it
pub record IsRenumbered (g : ComponentDfg) (p : ComponentTranslation) : Type 0 where
  pub number_of : Origin → Option ℕ
  pub given : AreGiven number_of p.component.num_runtime_instances
  pub all : (k : ℕ) → k < length g.instances → (n : ℕ) × (number_of (of_instance k) ≡ Some n)
  pub made : (x : Origin) (n : ℕ) → number_of x ≡ Some n → IsMadeOf g number_of (steps_in p) x n
