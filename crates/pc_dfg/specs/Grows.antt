-- A graph that has only grown: each number still names what it named.
use Rattle.std.specs.Prelude.{◌≡◌, ◌≤◌, ℕ, List, ◌++◌, Some, slice_get}
use Rattle.pc_entity.specs.declared.packed_option.PackedOption.TheVariants as packed
use Rattle.pc_numbers.specs.declared.module_entity.ModuleInternedTypeIndex.{ModuleInternedTypeIndex}
use Rattle.pc_dfg.specs.declared.dfg.ComponentDfg.{ComponentDfg}
use Rattle.pc_dfg.specs.Lists.{ListName, EntryOf, entries_of}

-- a list has another one in front
pub record Extends {A : Type 0} (before after : List A) : Type 0 where
  pub more : List A
  pub is : after ≡ before ++ more

-- the unsafe intrinsic at a place has this core signature
abbrev pub HasIntrinsic : ComponentDfg → (place : ℕ) → ModuleInternedTypeIndex → Type 0
HasIntrinsic g place s = slice_get g.unsafe_intrinsics place ≡ Some (packed.Some s)

-- each list of the first graph stands in front of that of the second, and an unsafe intrinsic keeps its signature
pub record Grows (g h : ComponentDfg) : Type 0 where
  pub lists : (l : ListName) → Extends {A = EntryOf l} (entries_of g l) (entries_of h l)
  pub component_instances : g.num_runtime_component_instances ≤ h.num_runtime_component_instances
  pub signatures : (place : ℕ) (s : ModuleInternedTypeIndex) → HasIntrinsic g place s → HasIntrinsic h place s
