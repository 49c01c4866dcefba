-- Which adapters of a graph an adapter needs: they have to be there before its module is made.
use Rattle.std.specs.Prelude.{◌≡◌, ◌≤◌, ℕ, Some, slice_get}
use Rattle.pc_dfg.specs.declared.adapter.Adapter.{Adapter}
use Rattle.pc_dfg.specs.declared.dfg.ComponentDfg.{ComponentDfg}
use Rattle.pc_dfg.specs.declared.instance.SideEffect.{SideEffect}
use Rattle.pc_dfg.specs.Names.{an_adapter, an_instance, in_adapter, in_effect, OneNames}
use Rattle.pc_dfg.specs.Ordered.{made_before}

-- an adapter needs one that it names, and one that a side effect names which stands at or before the making of a core
-- instance that it names
pub data Needs (g : ComponentDfg) (a b : ℕ) : Type 0 where
  named : {x : Adapter} → slice_get g.adapters a ≡ Some x → OneNames g (in_adapter x) (an_adapter b) → Needs g a b
  awaited : (i n : ℕ) {x : Adapter} {e : SideEffect} → slice_get g.adapters a ≡ Some x
      → OneNames g (in_adapter x) (an_instance n) → slice_get g.side_effects i ≡ Some e → made_before g i ≤ n
      → OneNames g (in_effect g e) (an_adapter b) → Needs g a b
