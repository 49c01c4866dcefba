-- What a graph has to be beside ordered, so that the modules of its adapters can be made where they are needed.
use Rattle.std.specs.Prelude.{◌≡◌, ℕ, ◌<◌, ◌≤◌, List, length, Some, slice_get}
use Rattle.pc_dfg.specs.declared.ids.AdapterModuleId.{AdapterModuleId}
use Rattle.pc_numbers.specs.declared.component_entity.StaticModuleIndex.{StaticModuleIndex}
use Rattle.pc_numbers.specs.declared.entity_index.EntityIndex.{EntityIndex}
use Rattle.pc_dfg.specs.declared.core_def.CoreDef.{CoreDef}
use Rattle.pc_dfg.specs.declared.dfg.ComponentDfg.{ComponentDfg}
use Rattle.pc_dfg.specs.declared.instance.SideEffect.{SideEffect}
use Rattle.pc_dfg.specs.Names.{an_instance, an_adapter, in_effect, OneNames}
use Rattle.pc_dfg.specs.Ordered.{made_before}

module _ (g : ComponentDfg) where
  -- an adapter is in a module, as a function of it
  abbrev pub IsIn : (adapter adapter_module : ℕ) → Type 0
  IsIn a m = (p : AdapterModuleId × EntityIndex) × (slice_get g.adapter_partitionings a ≡ Some p) × (p.0.0 ≡ m)

  -- the arguments of a module of adapters
  abbrev pub HasArguments : (adapter_module : ℕ) → List CoreDef → Type 0
  HasArguments m args =
      (x : StaticModuleIndex × List CoreDef) × (slice_get g.adapter_modules m ≡ Some x) × (x.1 ≡ args)

  -- the adapters of a graph are grouped
  pub record IsGrouped : Type 0 where
    -- each of them is in a module
    pub all : length g.adapter_partitionings ≡ length g.adapters
    -- a module names adapters of modules before it alone
    pub lower : (m k a : ℕ) (args : List CoreDef) → HasArguments m args → OneNames g args (an_adapter a) → IsIn a k
        → k < m
    -- where a side effect names an adapter, each module up to that one's names only core instances that were made
    -- before it
    pub before : (i a k m n : ℕ) (e : SideEffect) (args : List CoreDef) → slice_get g.side_effects i ≡ Some e
        → OneNames g (in_effect g e) (an_adapter a) → IsIn a k → m ≤ k → HasArguments m args
        → OneNames g args (an_instance n) → n < made_before g i
