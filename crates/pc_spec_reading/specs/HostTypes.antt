-- The type of what the host gives, by its path.
use Rattle.std.specs.Prelude.{List, [], ◌∷◌, Option, Some, slice_get, option_and_then}
use Rattle.std.specs.Prelude.{ℕ}
use Rattle.pc_types.specs.TypeTree.{TypeTree, Path}
use Rattle.pc_spec_reading.specs.Member.{field_under}
use Rattle.pc_spec_reading.specs.Types.{instance_fields}
use Rattle.pc_spec_reading.specs.World.{HostImport}

-- the tree that names lead to from a tree, each among the fields of an instance type
abbrev pub tree_along : (names : List (List ℕ)) → TypeTree → Option TypeTree
tree_along [] tree = Some tree
tree_along (name ∷ names) tree = option_and_then (tree_along names) (field_under name (instance_fields tree))

-- the type at a path: from the type of its import, as that was prepared, along its names
unfoldable pub type_at : List HostImport → Path → Option TypeTree
type_at imports p = option_and_then (λ (i : HostImport). tree_along p.names i.import_type) (slice_get imports p.import)
