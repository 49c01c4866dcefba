-- What the types builder knows, against what a scope of the reading knows.
use Rattle.std.specs.Prelude.{◌≡◌, ℕ}
use Rattle.pc_numbers.specs.declared.runtime.ResourceIndex.{ResourceIndex}
use Rattle.pc_types.specs.TypeTree.{Identity, identity_of}
use Rattle.pc_types_lists.specs.Known.{resource_of}
use Rattle.pc_types_lists.specs.Types.{Resources}
use Rattle.pc_dfg.specs.declared.dfg.ComponentDfg.{ComponentDfg}
use Rattle.pc_spec_reading.specs.Scope.{Scope}
use Rattle.pc_inline_state.specs.Fits.{Fits}
use Rattle.pc_inline_state.specs.Frames.{Both}

-- a resource number is that of a resource, however resource numbers are read that fits the graph
abbrev pub IsResource : ComponentDfg → ResourceIndex → Identity → Type 0
IsResource g r i = (who : ResourceIndex → Identity) → Fits g who → who r ≡ i

-- the builder knows the resources that the scope knows, each as the graph has it, and converts types for its component
-- instance
pub record KnowsSame (g : ComponentDfg) (k : Resources) (s : Scope) : Type 0 where
  pub known : (n : ℕ) → Both (IsResource g) (resource_of k.known n) (identity_of s.known n)
  pub current : k.current.0 ≡ s.component_instance
