-- A graph that has got a module for each run of its adapters.
use Rattle.std.specs.Prelude.{◌≡◌, ℕ, List, length, Some, slice_get}
use Rattle.pc_numbers.specs.declared.entity_index.EntityIndex.{EntityIndex}
use Rattle.pc_dfg.specs.declared.adapter.Adapter.{Adapter}
use Rattle.pc_dfg.specs.declared.core_def.CoreDef.{CoreDef}
use Rattle.pc_dfg.specs.declared.dfg.ComponentDfg.{ComponentDfg}
use Rattle.pc_dfg.specs.declared.ids.AdapterModuleId.{AdapterModuleId}
use Rattle.pc_dfg.specs.Grows.{Grows}
use Rattle.pc_dfg.specs.Names.{Thing, in_adapter, OneNames}
use Rattle.pc_dfg_linearize.specs.Grouped.{HasArguments}
use Rattle.pc_spec_adapt.specs.Split.{HasAt}

-- an adapter of the run at this place names this
abbrev pub IsNamedIn : ComponentDfg → List (List ℕ) → (place : ℕ) → Thing → Type 0
IsNamedIn g runs m y =
    (c : ℕ) × (x : Adapter) × HasAt runs m c × (slice_get g.adapters c ≡ Some x) × OneNames g (in_adapter x) y

-- the second graph is the first one with a module for each run of its adapters
pub record AreModules (g h : ComponentDfg) (runs : List (List ℕ)) : Type 0 where
  pub grows : Grows g h
  -- what is made, and in which order, is as it was
  pub adapters : h.adapters ≡ g.adapters
  pub instances : h.instances ≡ g.instances
  pub resources : h.resources ≡ g.resources
  pub effects : h.side_effects ≡ g.side_effects
  -- each adapter is in the module of its run
  pub all : length h.adapter_partitionings ≡ length g.adapters
  pub places : (a : ℕ) (p : AdapterModuleId × EntityIndex) → slice_get h.adapter_partitionings a ≡ Some p
      → HasAt runs p.0.0 a
  -- a module is given nothing that names what none of its adapters names
  pub arguments : (m : ℕ) (args : List CoreDef) (y : Thing) → HasArguments h m args → OneNames h args y
      → IsNamedIn g runs m y
