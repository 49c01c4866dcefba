-- What the root exports, against the nodes of the reading.
use Rattle.std.specs.Prelude.{◌≡◌, ◌<◌, ◌+◌, ℕ, List, [], ◌∷◌, Some, length, slice_get, take}
use Rattle.std.specs.List.{AllZip}
use Rattle.pc_numbers.specs.declared.component_entity.StaticModuleIndex.{StaticModuleIndex}
use Rattle.pc_numbers.specs.declared.runtime.ExportIndex.{ExportIndex}
use Rattle.pc_numbers.specs.declared.runtime.ResourceIndex.{ResourceIndex}
use Rattle.pc_numbers.specs.declared.runtime.RuntimeImportIndex.{RuntimeImportIndex}
use Rattle.pc_types.specs.declared.parsed.TypeTable.{TypeTable}
use Rattle.pc_types.specs.declared.type_index.TypeComponentInstanceIndex.{TypeComponentInstanceIndex}
use Rattle.pc_types.specs.declared.type_index.TypeFuncIndex.{TypeFuncIndex}
use Rattle.pc_types.specs.declared.type_index.TypeModuleIndex.{TypeModuleIndex}
use Rattle.pc_types.specs.declared.types.ComponentExternData.{ComponentExternData}
use Rattle.pc_types.specs.declared.types.TypeDef.{TypeDef}
use Rattle.pc_types.specs.declared.types.TypeDef.TheVariants as type
use Rattle.pc_types.specs.TypeTree.{Identity, Path, TypeTree}
use Rattle.pc_types_lists.specs.Trees.{HasTree}
use Rattle.pc_types_lists.specs.Types.{Types}
use Rattle.pc_spec_plan.specs.CoreValue.{CoreValue, Options, map_options}
use Rattle.pc_spec_plan.specs.ExportNode as node
use Rattle.pc_spec_plan.specs.ExportNode.{ExportNode, ExportNodes, NamedNode}
use Rattle.pc_parsed.specs.Mark.{Mark, of_type}
use Rattle.pc_dfg.specs.declared.core_def.CoreDef.{CoreDef}
use Rattle.pc_dfg.specs.declared.dfg.ComponentDfg.{ComponentDfg}
use Rattle.pc_dfg.specs.declared.export.Export.{Export}
use Rattle.pc_dfg.specs.declared.export.Export.TheVariants as export
use Rattle.pc_dfg.specs.declared.ids.OptionsId.{OptionsId}
use Rattle.pc_dfg.specs.Lists.{NamedExport}
use Rattle.pc_dfg.specs.Means.{HasPath, MeansOptions}
use Rattle.pc_inline_state.specs.Fits.{Fits}
use Rattle.pc_inline_state.specs.Holds.{Numbered, number_of, whole_of}
use Rattle.pc_inline_state.specs.Stands.{CoreStands}
use Rattle.pc_inline_state.specs.Worlds.{HoldsModule}

module _ (t : TypeTable) (types : Types) (g : ComponentDfg) where
  -- the builder holds this type under the number, however resource numbers are read that fits the graph
  abbrev pub IsHeldAs : TypeDef → TypeTree → Type 0
  IsHeldAs d tree = (who : ResourceIndex → Identity) → Fits g who → HasTree types who d tree

  -- an options entry of the graph
  pub record OptionsMean (n : ℕ) (v : Options Mark) : Type 0 where
    pub twice : Options (Numbered types (Fits g))
    pub means : MeansOptions g n (map_options (number_of types (Fits g)) twice)
    pub is : map_options (whole_of types (Fits g)) twice ≡ v

  mutual
    -- an export item of the graph, by number, is a node
    pub data NodeStands : ℕ → ExportNode Mark → Type 0 where
      lifted_stands : {n : ℕ} {ty : TypeFuncIndex} {f : CoreDef} {o : OptionsId} {tree : TypeTree} {v : CoreValue Mark}
          {os : Options Mark} → slice_get g.export_items n ≡ Some (export.LiftedFunction ty f o)
          → IsHeldAs (type.ComponentFunc ty) tree → CoreStands types g f v → OptionsMean o.0 os
          → NodeStands n (node.lifted (of_type tree) v os)
      imported_stands : {n : ℕ} {ty : TypeFuncIndex} {r : RuntimeImportIndex} {path : Path} {tree : TypeTree}
          → slice_get g.export_items n ≡ Some (export.ImportedFunction ty r) → HasPath g r.0 path
          → IsHeldAs (type.ComponentFunc ty) tree → NodeStands n (node.imported_function (of_type tree) path)
      static_stands : {n ty : ℕ} {m : StaticModuleIndex} (held : HoldsModule types t g ty)
          → slice_get g.export_items n ≡ Some (export.ModuleStatic ty m)
          → NodeStands n (node.static_module m.0 (of_type held.tree))
      host_module_stands : {n : ℕ} {ty : TypeModuleIndex} {r : RuntimeImportIndex} {path : Path} {tree : TypeTree}
          → slice_get g.export_items n ≡ Some (export.ModuleImport ty r) → HasPath g r.0 path
          → IsHeldAs (type.Module ty) tree → NodeStands n (node.host_module path (of_type tree))
      instance_stands : {n : ℕ} {ty : TypeComponentInstanceIndex} {es : List NamedExport} {tree : TypeTree}
          {nodes : ExportNodes Mark} → slice_get g.export_items n ≡ Some (export.Instance ty es)
          → IsHeldAs (type.ComponentInstance ty) tree → NestedStand es nodes
          → NodeStands n (node.instance (of_type tree) nodes)
      type_stands : {n : ℕ} {ty : TypeDef} {tree : TypeTree} → slice_get g.export_items n ≡ Some (export.Type_ ty)
          → IsHeldAs ty tree → NodeStands n (node.type_node (of_type tree))

    -- what an instance exports are these nodes, in order
    pub data NestedStand : List NamedExport → ExportNodes Mark → Type 0 where
      no_nested : NestedStand [] node.no_nodes
      and_nested : {name : List ℕ} {n : ExportIndex} {meta : ComponentExternData} {es : List NamedExport}
          {x : ExportNode Mark} {xs : ExportNodes Mark} → NodeStands n.0 x → NestedStand es xs
          → NestedStand ((name, (n, meta)) ∷ es) (node.and_node name meta x xs)

  -- an export under its name
  pub record NameStands (e : NamedExport) (x : NamedNode Mark) : Type 0 where
    pub name : x.name ≡ e.0
    pub extern_data : x.extern_data ≡ e.1.1
    pub node : NodeStands e.1.0.0 x.node

  -- the exports, in order
  unfoldable pub ExportsStand : List (NamedNode Mark) → Type 0
  ExportsStand nodes = AllZip NameStands g.exports nodes

abbrev mutual
  -- how many nodes there are from a node down
  pub node_size : {τ : Type 0} → ExportNode τ → ℕ
  node_size (node.instance ty nodes) = 1 + nodes_size nodes
  node_size n = 1

  -- the same of nodes under names
  pub nodes_size : {τ : Type 0} → ExportNodes τ → ℕ
  nodes_size node.no_nodes = 0
  nodes_size (node.and_node name meta n nodes) = node_size n + nodes_size nodes

-- the same of exports
abbrev pub sizes : List (NamedNode Mark) → ℕ
sizes [] = 0
sizes (x ∷ xs) = node_size x.node + sizes xs

-- Over the items of exports.
module _ (items : List Export) where
  -- an item is that of one of these names, or inside an instance that is, at whatever depth
  pub data IsUnder : List NamedExport → (item : ℕ) → Type 0 where
    is_named : {es : List NamedExport} {e : NamedExport} (k : ℕ) → slice_get es k ≡ Some e → IsUnder es e.1.0.0
    is_inside : {es inner : List NamedExport} {e : NamedExport} {ty : TypeComponentInstanceIndex} {n : ℕ} (k : ℕ)
        → slice_get es k ≡ Some e → slice_get items e.1.0.0 ≡ Some (export.Instance ty inner) → IsUnder inner n
        → IsUnder es n

  -- an item is this one, or inside it
  pub data IsWithin (root : ℕ) : (item : ℕ) → Type 0 where
    is_it : IsWithin root root
    is_in : {inner : List NamedExport} {ty : TypeComponentInstanceIndex} {n : ℕ}
        → slice_get items root ≡ Some (export.Instance ty inner) → IsUnder inner n → IsWithin root n

-- a graph has as many export items as its exports have nodes; those of an export stand behind those of the exports
-- before it, and each has what is under it in front of it
pub record NumbersExports (g : ComponentDfg) (nodes : List (NamedNode Mark)) : Type 0 where
  pub as_many : length g.export_items ≡ sizes nodes
  pub last : (n : ℕ) (e : NamedExport) → slice_get g.exports n ≡ Some e → e.1.0.0 + 1 ≡ sizes (take (n + 1) nodes)
  -- no item is there that isn't exported
  pub whole : (n : ℕ) → n < length g.export_items → IsUnder g.export_items g.exports n
