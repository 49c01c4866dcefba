-- Whether a number of the builder stands for an entry of a table, whatever the resources are.
use Rattle.std.specs.Prelude.{◌≡◌, ℕ, List, [], map, Option, Some}
use Rattle.pc_numbers.specs.declared.runtime.ResourceIndex.{ResourceIndex}
use Rattle.pc_types.specs.declared.parsed.Entity.{Entity}
use Rattle.pc_types.specs.declared.parsed.TypeTable.{TypeTable}
use Rattle.pc_types.specs.declared.parsed.ValType.{ValType}
use Rattle.pc_types.specs.declared.types.InterfaceType.{InterfaceType}
use Rattle.pc_types.specs.declared.types.TypeDef.{TypeDef}
use Rattle.pc_types.specs.declared.types.TypeDef.TheVariants as def
use Rattle.pc_types.specs.TypeTree.{Identity, TypeTree, trees_from, tree_of, val_tree, entity_tree}
use Rattle.pc_types_lists.specs.Types.{Types}
pub use Rattle.pc_types_lists.specs.Trees.{HasTree}

-- the known resources, as type trees name them
abbrev pub identities : (ResourceIndex → Identity) → List (ℕ × ResourceIndex) → List (ℕ × Identity)
identities who known = map (λ (k : ℕ × ResourceIndex). (k.0, who k.1)) known

-- the trees of the table's entries, under the resources and in the component instance that the builder has
abbrev pub trees_in : Types → (ResourceIndex → Identity) → TypeTable → List (Option TypeTree)
trees_in b who t = trees_from (identities who b.resources.known) b.resources.current.0 t [] t.types

-- the type has the tree of entry `n`, whatever the resources are
abbrev pub IsEntry : Types → TypeTable → ℕ → TypeDef → Type 0
IsEntry b t n d =
    (who : ResourceIndex → Identity)
    → (tree : TypeTree) × (tree_of (identities who b.resources.known) b.resources.current.0 t n ≡ Some tree)
    × HasTree b who d tree

-- the value type has the tree of a value type of the table
abbrev pub IsValue : Types → TypeTable → ValType → InterfaceType → Type 0
IsValue b t v w =
    (who : ResourceIndex → Identity)
    →
    (tree : TypeTree)
    × (val_tree (identities who b.resources.known) b.resources.current.0 t (trees_in b who t) v ≡ Some tree)
    × HasTree b who (def.Interface w) tree

-- the type has the tree of an entity of the table
abbrev pub IsEntity : Types → TypeTable → Entity → TypeDef → Type 0
IsEntity b t e d =
    (who : ResourceIndex → Identity)
    →
    (tree : TypeTree)
    × (entity_tree (identities who b.resources.known) b.resources.current.0 t (trees_in b who t) e ≡ Some tree)
    × HasTree b who d tree

-- one tree has one number, and one number has one tree
pub record AreOneToOne (b : Types) (who : ResourceIndex → Identity) : Type 0 where
  pub one_number : (d e : TypeDef) (tree : TypeTree) → HasTree b who d tree → HasTree b who e tree → d ≡ e
  pub one_tree : (d : TypeDef) (s t : TypeTree) → HasTree b who d s → HasTree b who d t → s ≡ t
