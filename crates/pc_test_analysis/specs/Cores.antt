-- What the graphs of the tests hold.
use Rattle.std.specs.Prelude.{◌≡◌, ℕ, List, Some, slice_get}
use Rattle.pc_dfg.specs.declared.core_def.CoreDef.{CoreDef}
use Rattle.pc_dfg.specs.declared.dfg.ComponentDfg.{ComponentDfg}
use Rattle.pc_dfg.specs.Held.{IsHeld}

-- a graph holds the numbers in all these definitions
abbrev pub AreHeldAll : ComponentDfg → List CoreDef → Type 0
AreHeldAll g defs = (b : ℕ) (x : CoreDef) → slice_get defs b ≡ Some x → IsHeld g x
