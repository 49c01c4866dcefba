-- Type trees: what a type is, with each number replaced by what it stands for.
use Rattle.std.specs.Prelude.{ℕ, Bool, List, [], ◌∷◌, ◌++◌, length, Option, Some, None, option_and_then, option_map}
use Rattle.std.specs.Prelude.{if◌then◌else◌, ◌==◌, slice_get}
use Rattle.pc_entity.specs.Lists.{map_all}
use Rattle.pc_types.specs.declared.parsed.PrimType.{PrimType}
use Rattle.pc_types.specs.declared.parsed.PrimType.TheVariants.{ErrorContext}
use Rattle.pc_types.specs.declared.parsed.CoreFuncSig.{CoreFuncSig}
use Rattle.pc_types.specs.declared.parsed.CoreEntity.{CoreEntity}
use Rattle.pc_types.specs.declared.parsed.CoreEntity.TheVariants as core
use Rattle.pc_types.specs.declared.parsed.Entity.{Entity}
use Rattle.pc_types.specs.declared.parsed.Entity.TheVariants as entity
use Rattle.pc_types.specs.declared.parsed.ValType.{ValType}
use Rattle.pc_types.specs.declared.parsed.ValType.TheVariants as val
use Rattle.pc_types.specs.declared.parsed.DeclType.{DeclType}
use Rattle.pc_types.specs.declared.parsed.DeclType.TheVariants as entry
use Rattle.pc_types.specs.declared.parsed.TypeTable.{TypeTable}

-- a host item: the place of its root import among those that are numbered, and the names that lead to it
pub record Path : Type 0 where
  pub import : ℕ
  pub names : List (List ℕ)

-- which resource: one that the host gives by a path, or one of those declared, by order
pub data Identity : Type 0 where
  imported : Path → Identity
  declared : (order : ℕ) → Identity

-- a resource as a component instance sees it, or one that it doesn't know, by table number
pub data Resource : Type 0 where
  concrete : Identity → (component_instance : ℕ) → Resource
  abstract : (number : ℕ) → Resource

-- an entity of a core module, with the signature of a function
pub data CoreTree : Type 0 where
  core_func : CoreFuncSig → CoreTree
  core_table : CoreTree
  core_memory : (is_wide : Bool) → CoreTree
  core_global : CoreTree
  core_tag : CoreTree

mutual
  -- what a type is
  pub data TypeTree : Type 0 where
    primitive : PrimType → TypeTree
    error_context : (component_instance : ℕ) → TypeTree
    record_of : Fields → TypeTree
    variant_of : Cases → TypeTree
    list_of : TypeTree → TypeTree
    tuple_of : Trees → TypeTree
    flags_of : List (List ℕ) → TypeTree
    enum_of : List (List ℕ) → TypeTree
    option_of : TypeTree → TypeTree
    result_of : (ok err : MaybeTree) → TypeTree
    own_of : Resource → TypeTree
    borrow_of : Resource → TypeTree
    stream_of : MaybeTree → (component_instance : ℕ) → TypeTree
    future_of : MaybeTree → (component_instance : ℕ) → TypeTree
    func_of : (params : Fields) → (result : MaybeTree) → (is_async : Bool) → TypeTree
    instance_of : (exports : Fields) → TypeTree
    component_of : (imports exports : Fields) → TypeTree
    module_of : (imports : List (List ℕ × List ℕ × CoreTree)) → (exports : List (List ℕ × CoreTree)) → TypeTree
    resource_of : Resource → TypeTree

  -- names with types, in order
  pub data Fields : Type 0 where
    no_fields : Fields
    and_field : (name : List ℕ) → TypeTree → Fields → Fields

  -- names that may have a type, in order
  pub data Cases : Type 0 where
    no_cases : Cases
    and_case : (name : List ℕ) → MaybeTree → Cases → Cases

  -- types, in order
  pub data Trees : Type 0 where
    no_trees : Trees
    and_tree : TypeTree → Trees → Trees

  -- a type that may be left out
  pub data MaybeTree : Type 0 where
    no_tree : MaybeTree
    a_tree : TypeTree → MaybeTree

-- a core function signature in place of its number
abbrev pub core_tree : TypeTable → CoreEntity → Option CoreTree
core_tree t (core.Func s) = option_map core_func (slice_get t.core_funcs s)
core_tree t core.Table = Some core_table
core_tree t (core.Memory is_wide) = Some (core_memory is_wide)
core_tree t core.Global = Some core_global
core_tree t core.Tag = Some core_tag

-- an import of a module type, with the signature of a function
abbrev pub module_import_tree : TypeTable → List ℕ × List ℕ × CoreEntity → Option (List ℕ × List ℕ × CoreTree)
module_import_tree t i = option_map {U = List ℕ × List ℕ × CoreTree} (λ c. (i.0, i.1, c)) (core_tree t i.2)

-- an export of a module type, with the signature of a function
abbrev pub module_export_tree : TypeTable → List ℕ × CoreEntity → Option (List ℕ × CoreTree)
module_export_tree t e = option_map {U = List ℕ × CoreTree} (λ c. (e.0, c)) (core_tree t e.1)

-- the identity under which a resource's number is known
abbrev pub identity_of : List (ℕ × Identity) → ℕ → Option Identity
identity_of [] n = None
identity_of (k ∷ ks) n = if k.0 == n then Some k.1 else identity_of ks n

-- a resource by its number: known, or abstract
abbrev pub resource_from : (component_instance number : ℕ) → Option Identity → Resource
resource_from c n (Some i) = concrete i c
resource_from c n None = abstract n

-- an owned handle to a resource
abbrev pub own_tree : TypeTree → Option TypeTree
own_tree (resource_of r) = Some (own_of r)
own_tree _ = None

-- a borrowed handle to a resource
abbrev pub borrow_tree : TypeTree → Option TypeTree
borrow_tree (resource_of r) = Some (borrow_of r)
borrow_tree _ = None

-- The trees of entries, with `earlier` for the trees of the entries before, under the resources that are known
-- and in a component instance.
module _ (known : List (ℕ × Identity)) (c : ℕ) (t : TypeTable) where
  -- the tree of an earlier entry, if it has one
  abbrev pub earlier_tree : List (Option TypeTree) → ℕ → Option TypeTree
  earlier_tree earlier n = option_and_then (λ tree. tree) (slice_get earlier n)

  -- the tree of a value type
  abbrev pub val_tree : List (Option TypeTree) → ValType → Option TypeTree
  val_tree earlier (val.Prim ErrorContext) = Some (error_context c)
  val_tree earlier (val.Prim p) = Some (primitive p)
  val_tree earlier (val.Type_ n) = earlier_tree earlier n

  -- the tree of a value type that may be left out
  abbrev pub maybe_tree : List (Option TypeTree) → Option ValType → Option MaybeTree
  maybe_tree earlier None = Some no_tree
  maybe_tree earlier (Some v) = option_map a_tree (val_tree earlier v)

  -- the tree of an entity, by the entry that it names; a component value has none
  abbrev pub entity_tree : List (Option TypeTree) → Entity → Option TypeTree
  entity_tree earlier (entity.Func n) = earlier_tree earlier n
  entity_tree earlier (entity.Instance n) = earlier_tree earlier n
  entity_tree earlier (entity.Component n) = earlier_tree earlier n
  entity_tree earlier (entity.Module n) = earlier_tree earlier n
  entity_tree earlier (entity.Type_ n) = earlier_tree earlier n
  entity_tree earlier entity.Value = None

  -- the trees of named value types
  abbrev pub fields_tree : List (Option TypeTree) → List (List ℕ × ValType) → Option Fields
  fields_tree earlier [] = Some no_fields
  fields_tree earlier (f ∷ fs) =
      option_and_then (λ tree. option_map (and_field f.0 tree) (fields_tree earlier fs)) (val_tree earlier f.1)

  -- the trees of named entities
  abbrev pub externs_tree : List (Option TypeTree) → List (List ℕ × Entity) → Option Fields
  externs_tree earlier [] = Some no_fields
  externs_tree earlier (e ∷ es) =
      option_and_then (λ tree. option_map (and_field e.0 tree) (externs_tree earlier es)) (entity_tree earlier e.1)

  -- the trees of named value types that may be left out
  abbrev pub cases_tree : List (Option TypeTree) → List (List ℕ × Option ValType) → Option Cases
  cases_tree earlier [] = Some no_cases
  cases_tree earlier (x ∷ xs) =
      option_and_then (λ tree. option_map (and_case x.0 tree) (cases_tree earlier xs)) (maybe_tree earlier x.1)

  -- the trees of value types
  abbrev pub vals_tree : List (Option TypeTree) → List ValType → Option Trees
  vals_tree earlier [] = Some no_trees
  vals_tree earlier (v ∷ vs) =
      option_and_then (λ tree. option_map (and_tree tree) (vals_tree earlier vs)) (val_tree earlier v)

  -- the tree of the entry that stands after the earlier ones
  abbrev pub entry_tree : List (Option TypeTree) → DeclType → Option TypeTree
  entry_tree earlier entry.Resource =
      Some (resource_of (resource_from c (length earlier) (identity_of known (length earlier))))
  entry_tree earlier (entry.Func params result is_async) =
      option_and_then (λ ps. option_map (λ r. func_of ps r is_async) (maybe_tree earlier result))
      (fields_tree earlier params)
  entry_tree earlier (entry.Val v) = val_tree earlier v
  entry_tree earlier (entry.Record fields) = option_map record_of (fields_tree earlier fields)
  entry_tree earlier (entry.Variant cases) = option_map variant_of (cases_tree earlier cases)
  entry_tree earlier (entry.List v) = option_map list_of (val_tree earlier v)
  entry_tree earlier (entry.Tuple vs) = option_map tuple_of (vals_tree earlier vs)
  entry_tree earlier (entry.Flags names) = Some (flags_of names)
  entry_tree earlier (entry.Enum names) = Some (enum_of names)
  entry_tree earlier (entry.Option v) = option_map option_of (val_tree earlier v)
  entry_tree earlier (entry.Result ok err) =
      option_and_then (λ o. option_map (result_of o) (maybe_tree earlier err)) (maybe_tree earlier ok)
  entry_tree earlier (entry.Own n) = option_and_then own_tree (earlier_tree earlier n)
  entry_tree earlier (entry.Borrow n) = option_and_then borrow_tree (earlier_tree earlier n)
  entry_tree earlier (entry.Stream v) = option_map (λ p. stream_of p c) (maybe_tree earlier v)
  entry_tree earlier (entry.Future v) = option_map (λ p. future_of p c) (maybe_tree earlier v)
  entry_tree earlier (entry.Instance exports) = option_map instance_of (externs_tree earlier exports)
  entry_tree earlier (entry.Component imports exports) =
      option_and_then (λ i. option_map (component_of i) (externs_tree earlier exports)) (externs_tree earlier imports)
  entry_tree earlier (entry.Module imports exports) =
      option_and_then (λ i. option_map (module_of i) (map_all (module_export_tree t) exports))
      (map_all (module_import_tree t) imports)

  -- the trees of the earlier entries and of those that stand after them
  abbrev pub trees_from : List (Option TypeTree) → List DeclType → List (Option TypeTree)
  trees_from earlier [] = earlier
  trees_from earlier (e ∷ es) = trees_from (earlier ++ entry_tree earlier e ∷ []) es

  -- the type tree of a table number, or nothing where the number, or one that it leads to, names nothing
  abbrev pub tree_of : ℕ → Option TypeTree
  tree_of n = earlier_tree (trees_from [] t.types) n
