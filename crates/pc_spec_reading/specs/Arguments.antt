-- What core instances have under their names, and what the imports of a module are given.
use Rattle.std.specs.Prelude.{ℕ, Bool, List, length, map, filter, Option, Some, None, nat_lt, slice_get}
use Rattle.std.specs.Prelude.{option_and_then, option_map, if◌then◌else◌}
use Rattle.std.specs.List.{list_all, flat_map}
use Rattle.std.specs.Str.{bytes_eq}
use Rattle.pc_numbers.specs.declared.entity_index.EntityIndex.{EntityIndex}
use Rattle.pc_entity.specs.Lists.{map_all, value_of}
use Rattle.pc_types.specs.declared.module_record.ModuleRecord.{ModuleRecord}
use Rattle.pc_types.specs.declared.parsed.CoreEntity.{CoreEntity}
use Rattle.pc_types.specs.declared.parsed.CoreKind.{CoreKind}
use Rattle.pc_types.specs.declared.parsed.CoreKind.TheVariants as core
use Rattle.pc_types.specs.Record.{export_of, index_kind, kind_of, same_kind}
use Rattle.pc_types.specs.TypeTree.{TypeTree, CoreTree, core_func, core_table, core_memory, core_global, core_tag}
use Rattle.pc_spec_plan.specs.CoreValue.{CoreValue, exported, by_index, by_name}
use Rattle.pc_spec_plan.specs.Log.{NamedArgument}
use Rattle.pc_parsed.specs.Mark.{Mark}
use Rattle.pc_spec_reading.specs.Once.{each_once}
use Rattle.pc_spec_reading.specs.Scope.{Scope, CoreInstance, CoreItem, of_module, of_host_module, bag}
use Rattle.pc_spec_reading.specs.Types.{module_imports, module_exports}

-- the kind of an entity of a host module
abbrev pub tree_kind : CoreTree → CoreKind
tree_kind (core_func s) = core.Func
tree_kind core_table = core.Table
tree_kind (core_memory wide) = core.Memory
tree_kind core_global = core.Global
tree_kind core_tag = core.Tag

-- something of a wanted kind
abbrev pub of_kind : {A : Type 0} → CoreKind → CoreKind → A → Option A
of_kind wanted k x = if same_kind wanted k then Some x else None

-- the entities of a core instance by name, of a kind
abbrev pub record_item : (order : ℕ) → CoreKind → EntityIndex → Option (CoreValue Mark)
record_item order k e = of_kind k (index_kind e) (exported order (by_index e))

-- an entity of a host module
abbrev pub host_item : (order : ℕ) → CoreKind → List ℕ → CoreTree → Option (CoreValue Mark)
host_item order k name tree = of_kind k (tree_kind tree) (exported order (by_name name))

-- an item of a bag
abbrev pub bag_item : CoreKind → CoreItem → Option (CoreValue Mark)
bag_item k i = of_kind k i.kind i.value

-- what a core instance has under a name, if it is of a kind: of a handed-in module by index, of a host module by name
unfoldable pub core_export : List ModuleRecord → CoreKind → List ℕ → CoreInstance → Option (CoreValue Mark)
core_export ms k name (of_module order m) =
    option_and_then (record_item order k) (option_and_then (λ (r : ModuleRecord). export_of r name) (slice_get ms m))
core_export ms k name (of_host_module order tree) =
    option_and_then (host_item order k name) (value_of name (module_exports tree))
core_export ms k name (bag items) = option_and_then (bag_item k) (value_of name items)

-- what is given for an import: the item of its name and kind in the argument of its module name
abbrev pub argument : List ModuleRecord → Scope → List (List ℕ × ℕ) → (module_name name : List ℕ) → CoreKind
    → Option (CoreValue Mark)
argument ms s args module_name name k =
    option_and_then (λ n. option_and_then (core_export ms k name) (slice_get s.core_instances n))
    (value_of module_name args)

-- what is given for an import of a handed-in module
abbrev pub static_argument : List ModuleRecord → Scope → List (List ℕ × ℕ) → List ℕ × List ℕ × CoreEntity
    → Option (CoreValue Mark)
static_argument ms s args i = argument ms s args i.0 i.1 (kind_of i.2)

-- what is given for an import of a host module, under its names
abbrev pub host_argument : List ModuleRecord → Scope → List (List ℕ × ℕ) → List ℕ × List ℕ × CoreTree
    → Option (NamedArgument Mark)
host_argument ms s args i =
    option_map (λ (v : CoreValue Mark). record { module_name = i.0; name = i.1; value = v })
    (argument ms s args i.0 i.1 (tree_kind i.2))

-- whether each argument, also one that no import asks for, is an instance of the scope
abbrev pub has_instances : Scope → List (List ℕ × ℕ) → Bool
has_instances s args = list_all (λ (a : List ℕ × ℕ). nat_lt a.1 (length s.core_instances)) args

-- whether an import is of a module name
abbrev pub is_of : List ℕ → List ℕ × List ℕ × CoreTree → Bool
is_of name i = bytes_eq name i.0

-- the imports of a module type, those of one module name together, where it first stands
abbrev pub grouped : List (List ℕ × List ℕ × CoreTree) → List (List ℕ × List ℕ × CoreTree)
grouped imports = flat_map (λ name. filter (is_of name) imports) (each_once bytes_eq (map (λ i. i.0) imports))

-- the arguments of a module, one for each of its imports
unfoldable pub static_arguments : List ModuleRecord → Scope → List (List ℕ × ℕ) → ModuleRecord
    → Option (List (CoreValue Mark))
static_arguments ms s args r = if has_instances s args then map_all (static_argument ms s args) r.imports else None

-- the arguments of a host module
unfoldable pub host_arguments : List ModuleRecord → Scope → List (List ℕ × ℕ) → TypeTree
    → Option (List (NamedArgument Mark))
host_arguments ms s args tree =
    if has_instances s args then map_all (host_argument ms s args) (grouped (module_imports tree)) else None
