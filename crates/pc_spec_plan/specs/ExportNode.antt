-- Export nodes: what the root component exports, as a tree of named things.
use Rattle.std.specs.Prelude.{ℕ, List}
use Rattle.pc_types.specs.declared.types.ComponentExternData.{ComponentExternData}
use Rattle.pc_types.specs.TypeTree.{Path}
use Rattle.pc_spec_plan.specs.CoreValue.{CoreValue, Options, map_value, map_options, erased}

mutual
  -- an export: a lifted function with its options, a function of the host, a core module of the input or of the host,
  -- an instance with what it exports, or a type
  pub data ExportNode (τ : Type 0) : Type 0 where
    lifted : (function_type : τ) → CoreValue τ → Options τ → ExportNode τ
    imported_function : (function_type : τ) → Path → ExportNode τ
    static_module : (number : ℕ) → (module_type : τ) → ExportNode τ
    host_module : Path → (module_type : τ) → ExportNode τ
    instance : (instance_type : τ) → ExportNodes τ → ExportNode τ
    type_node : τ → ExportNode τ

  -- names with their extern data and nodes, in order
  pub data ExportNodes (τ : Type 0) : Type 0 where
    no_nodes : ExportNodes τ
    and_node : (name : List ℕ) → ComponentExternData → ExportNode τ → ExportNodes τ → ExportNodes τ

-- an export of the root: its name, its extern data and its node
pub record NamedNode (τ : Type 0) : Type 0 where
  pub name : List ℕ
  pub extern_data : ComponentExternData
  pub node : ExportNode τ

-- nodes with their marks mapped
module _ {τ υ : Type 0} (f : τ → υ) where
  abbrev mutual
    pub map_node : ExportNode τ → ExportNode υ
    map_node (lifted ty v o) = lifted (f ty) (map_value f v) (map_options f o)
    map_node (imported_function ty path) = imported_function (f ty) path
    map_node (static_module n ty) = static_module n (f ty)
    map_node (host_module path ty) = host_module path (f ty)
    map_node (instance ty nodes) = instance (f ty) (map_nodes nodes)
    map_node (type_node ty) = type_node (f ty)

    pub map_nodes : ExportNodes τ → ExportNodes υ
    map_nodes no_nodes = no_nodes
    map_nodes (and_node name meta node rest) = and_node name meta (map_node node) (map_nodes rest)

  -- an export of the root with its marks mapped
  abbrev pub map_named : NamedNode τ → NamedNode υ
  map_named n = record { name = n.name; extern_data = n.extern_data; node = map_node n.node }

-- an export of the root with its types erased
abbrev pub erase_named : {τ : Type 0} → NamedNode τ → NamedNode (Unit {0})
erase_named n = map_named erased n
