-- Two function types, and adapters that have no other.
use Rattle.std.specs.Prelude.{◌≡◌, ◌<◌, ℕ, length, Some, slice_get}
use Rattle.pc_numbers.specs.declared.runtime.ResourceIndex.{ResourceIndex}
use Rattle.pc_types.specs.declared.types.TypeDef.TheVariants as def
use Rattle.pc_types.specs.TypeTree.{Identity, TypeTree, declared}
use Rattle.pc_types_lists.specs.Trees.{HasTree}
use Rattle.pc_types_lists.specs.Types.{Types}
use Rattle.pc_dfg.specs.declared.adapter.Adapter.{Adapter}
use Rattle.pc_dfg.specs.declared.dfg.ComponentDfg.{ComponentDfg}

-- one resource for all
abbrev pub anyone : ResourceIndex → Identity
anyone r = declared 0

-- a function type is held and has a tree
pub record HasFunction (b : Types) (n : ℕ) : Type 0 where
  pub tree : TypeTree
  pub has : HasTree b anyone (def.ComponentFunc (record { 0 = n })) tree
  pub held : n < length b.funcs

-- so are the first two
pub record HaveTwo (b : Types) : Type 0 where
  pub first : HasFunction b 0
  pub second : HasFunction b 1

-- both types of an adapter are among the first two
abbrev pub IsTwo : Adapter → Type 0
IsTwo x = (x.lift_ty.0 < 2) × (x.lower_ty.0 < 2)

-- so are those of all adapters
abbrev pub AreTwo : ComponentDfg → Type 0
AreTwo g = (a : ℕ) (x : Adapter) → slice_get g.adapters a ≡ Some x → IsTwo x
