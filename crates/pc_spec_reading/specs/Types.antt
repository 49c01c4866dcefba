-- What type numbers stand for in a scope.
use Rattle.std.specs.Prelude.{ℕ, Bool, true, false, List, [], Option, Some, None, slice_get, option_map, if◌then◌else◌}
use Rattle.pc_types.specs.declared.parsed.CoreFuncSig.{CoreFuncSig}
use Rattle.pc_types.specs.declared.parsed.DeclType.{DeclType}
use Rattle.pc_types.specs.declared.parsed.Entity.{Entity}
use Rattle.pc_types.specs.declared.parsed.Entity.TheVariants as entity
use Rattle.pc_types.specs.declared.parsed.TypeTable.{TypeTable}
use Rattle.pc_types.specs.declared.parsed.ValType.{ValType}
use Rattle.pc_types.specs.declared.parsed.ValType.TheVariants as val
use Rattle.pc_types.specs.Table.{is_some_and, is_func, is_instance, is_component, is_module, is_resource}
use Rattle.pc_types.specs.Table.{is_defined_type}
use Rattle.pc_types.specs.TypeTree.{TypeTree, Identity, CoreTree, Fields, tree_of, val_tree, resource_of, concrete}
use Rattle.pc_types.specs.TypeTree.{stream_of, future_of, instance_of, module_of, tuple_of, no_fields, no_trees}
use Rattle.pc_types.specs.TypeTree.{and_tree}
use Rattle.pc_spec_reading.specs.Scope.{Scope}

module _ (t : TypeTable) where
  -- an entry of the table that passes a test, by number
  abbrev pub has_entry : (DeclType → Bool) → ℕ → Bool
  has_entry test n = is_some_and test (slice_get t.types n)

  -- the tree of a number, under the resources that the scope knows and for its component instance
  unfoldable pub type_tree : Scope → ℕ → Option TypeTree
  type_tree s n = tree_of s.known s.component_instance t n

  -- the tree of a number whose entry passes a test
  unfoldable pub tree_if : (DeclType → Bool) → Scope → ℕ → Option TypeTree
  tree_if test s n = if has_entry test n then type_tree s n else None

  -- a core signature, by number
  unfoldable pub signature_at : ℕ → Option CoreFuncSig
  signature_at n = slice_get t.core_funcs n

  -- the tree of a value type: of a primitive, or of a number that is one of a defined type
  unfoldable pub value_tree : Scope → ValType → Option TypeTree
  value_tree s (val.Prim p) = val_tree s.known s.component_instance t [] (val.Prim p)
  value_tree s (val.Type_ n) = tree_if is_defined_type s n

  -- the tuple of no or one result
  unfoldable pub results_tree : Scope → Option ValType → Option TypeTree
  results_tree s None = Some (tuple_of no_trees)
  results_tree s (Some v) = option_map (λ tree. tuple_of (and_tree tree no_trees)) (value_tree s v)

  -- whether an entity names an entry of its kind; with a type the entry may be any
  abbrev pub names_entry : Entity → Bool
  names_entry (entity.Func n) = has_entry is_func n
  names_entry (entity.Instance n) = has_entry is_instance n
  names_entry (entity.Component n) = has_entry is_component n
  names_entry (entity.Module n) = has_entry is_module n
  names_entry (entity.Type_ n) = has_entry (λ e. true) n
  names_entry entity.Value = false

  -- the tree of the entry that an entity names
  abbrev pub declared_tree : Scope → Entity → Option TypeTree
  declared_tree s (entity.Func n) = type_tree s n
  declared_tree s (entity.Instance n) = type_tree s n
  declared_tree s (entity.Component n) = type_tree s n
  declared_tree s (entity.Module n) = type_tree s n
  declared_tree s (entity.Type_ n) = type_tree s n
  declared_tree s entity.Value = None

  -- whether an import is of a type that is no resource: nothing is given for it, or what is given isn't looked at
  abbrev pub is_plain_type : Entity → Bool
  is_plain_type (entity.Type_ n) = if has_entry is_resource n then false else true
  is_plain_type _ = false

  -- whether an import at the root is of a defined type, for which the host gives nothing
  abbrev pub is_defined_entity : Entity → Bool
  is_defined_entity (entity.Type_ n) = has_entry is_defined_type n
  is_defined_entity _ = false

-- the identity of a resource that is known
abbrev pub known_identity : TypeTree → Option Identity
known_identity (resource_of (concrete i c)) = Some i
known_identity _ = None

-- a tree that is a resource that is known
abbrev pub known_resource : TypeTree → Option TypeTree
known_resource (resource_of (concrete i c)) = Some (resource_of (concrete i c))
known_resource _ = None

-- a tree that is a stream type
abbrev pub a_stream_tree : TypeTree → Option TypeTree
a_stream_tree (stream_of p c) = Some (stream_of p c)
a_stream_tree _ = None

-- a tree that is a future type
abbrev pub a_future_tree : TypeTree → Option TypeTree
a_future_tree (future_of p c) = Some (future_of p c)
a_future_tree _ = None

-- the exports of an instance type
abbrev pub instance_fields : TypeTree → Fields
instance_fields (instance_of fields) = fields
instance_fields _ = no_fields

-- the imports of a module type
abbrev pub module_imports : TypeTree → List (List ℕ × List ℕ × CoreTree)
module_imports (module_of imports exports) = imports
module_imports _ = []

-- the exports of a module type
abbrev pub module_exports : TypeTree → List (List ℕ × CoreTree)
module_exports (module_of imports exports) = exports
module_exports _ = []
