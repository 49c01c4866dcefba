-- The order of a graph: what is made later names only what was made earlier.
use Rattle.std.specs.Prelude.{◌≡◌, ℕ, ◌<◌, ◌≤◌, List, length, take, All, Option, None, Some, slice_get}
use Rattle.std.specs.List.{filter_map}
use Rattle.pc_dfg.specs.declared.adapter.Adapter.{Adapter}
use Rattle.pc_dfg.specs.declared.core_def.CoreDef.{CoreDef}
use Rattle.pc_dfg.specs.declared.core_def.CoreDef.TheVariants as def
use Rattle.pc_dfg.specs.declared.dfg.ComponentDfg.{ComponentDfg}
use Rattle.pc_dfg.specs.declared.instance.SideEffect.{SideEffect}
use Rattle.pc_dfg.specs.declared.instance.SideEffect.TheVariants as effect
use Rattle.pc_dfg.specs.Held.{AreHeld}
use Rattle.pc_dfg.specs.Names.{an_instance, an_adapter, in_adapter, in_effect, in_trampoline, OneNames}
use Rattle.pc_dfg.specs.Numbers.{SignedTrampoline, trampoline_entry}

-- the core instance that a side effect makes
abbrev pub made_by : SideEffect → Option ℕ
made_by (effect.Instance i c) = Some i.0
made_by (effect.Resource n) = None

-- the resource that a side effect declares
abbrev pub declared_by : SideEffect → Option ℕ
declared_by (effect.Instance i c) = None
declared_by (effect.Resource n) = Some n.0

-- numbers that count up from 0 to n
pub record CountTo (n : ℕ) (numbers : List ℕ) : Type 0 where
  pub all : length numbers ≡ n
  pub each : (i k : ℕ) → slice_get numbers i ≡ Some k → k ≡ i

-- a definition that is none of the trampolines from the kth on
unfoldable pub IsBelow : ℕ → CoreDef → Type 0
IsBelow k (def.Export e) = Unit {0}
IsBelow k (def.InstanceFlags c) = Unit {0}
IsBelow k (def.Trampoline t) = t.0 < k
IsBelow k (def.UnsafeIntrinsic s i) = Unit {0}
IsBelow k (def.Adapter a) = Unit {0}

-- the core instances that side effects make, by number
abbrev pub made_in : List SideEffect → List ℕ
made_in effects = filter_map made_by effects

-- how many core instances are made before the ith side effect
abbrev pub made_before : ComponentDfg → ℕ → ℕ
made_before g i = length (made_in (take i g.side_effects))

-- the order of a graph. That an adapter names instances that exist follows from the numbers being held
pub record IsOrdered (g : ComponentDfg) : Type 0 where
  -- each number is that of an entry
  pub held : AreHeld g
  -- the side effects make all core instances and declare all resources, each once and in order
  pub instances : CountTo (length g.instances) (made_in g.side_effects)
  pub resources : CountTo (length g.resources) (filter_map declared_by g.side_effects)
  -- a trampoline leads to lower trampolines
  pub trampolines : (k : ℕ) (x : SignedTrampoline) → slice_get g.trampolines k ≡ Some x
      → All (IsBelow k) (in_trampoline g (trampoline_entry x))
  -- an adapter names lower adapters
  pub adapters : (a b : ℕ) (x : Adapter) → slice_get g.adapters a ≡ Some x
      → OneNames g (in_adapter x) (an_adapter b) → b < a
  -- a side effect names core instances that were made before it
  pub earlier : (i n : ℕ) (e : SideEffect) → slice_get g.side_effects i ≡ Some e
      → OneNames g (in_effect g e) (an_instance n) → n < made_before g i
  -- where a side effect names an adapter, each adapter up to that one names core instances that were made before it
  pub grouped : (i a b n : ℕ) (e : SideEffect) (x : Adapter) → slice_get g.side_effects i ≡ Some e
      → OneNames g (in_effect g e) (an_adapter a) → b ≤ a → slice_get g.adapters b ≡ Some x
      → OneNames g (in_adapter x) (an_instance n) → n < made_before g i
