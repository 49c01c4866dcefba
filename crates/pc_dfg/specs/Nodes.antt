-- What the exports of a graph stand for: export nodes.
use Rattle.std.specs.Prelude.{◌≡◌, ℕ, List, [], ◌∷◌, Some, slice_get}
use Rattle.std.specs.List.{AllZip}
use Rattle.pc_dfg.specs.declared.ids.OptionsId.{OptionsId}
use Rattle.pc_numbers.specs.declared.component_entity.StaticModuleIndex.{StaticModuleIndex}
use Rattle.pc_numbers.specs.declared.runtime.ExportIndex.{ExportIndex}
use Rattle.pc_numbers.specs.declared.runtime.RuntimeImportIndex.{RuntimeImportIndex}
use Rattle.pc_types.specs.declared.type_index.TypeComponentInstanceIndex.{TypeComponentInstanceIndex}
use Rattle.pc_types.specs.declared.type_index.TypeFuncIndex.{TypeFuncIndex}
use Rattle.pc_types.specs.declared.type_index.TypeModuleIndex.{TypeModuleIndex}
use Rattle.pc_types.specs.declared.types.ComponentExternData.{ComponentExternData}
use Rattle.pc_types.specs.declared.types.TypeDef.{TypeDef}
use Rattle.pc_types.specs.declared.types.TypeDef.TheVariants as type
use Rattle.pc_types.specs.TypeTree.{Path}
use Rattle.pc_spec_plan.specs.CoreValue.{CoreValue, Options}
use Rattle.pc_spec_plan.specs.ExportNode as node
use Rattle.pc_spec_plan.specs.ExportNode.{ExportNode, ExportNodes, NamedNode}
use Rattle.pc_trampoline.specs.declared.part.Mark.{Mark}
use Rattle.pc_trampoline.specs.declared.part.Mark.TheVariants as mark
use Rattle.pc_info.specs.Modules.{function_mark}
use Rattle.pc_dfg.specs.declared.core_def.CoreDef.{CoreDef}
use Rattle.pc_dfg.specs.declared.dfg.ComponentDfg.{ComponentDfg}
use Rattle.pc_dfg.specs.declared.export.Export.{Export}
use Rattle.pc_dfg.specs.declared.export.Export.TheVariants as export
use Rattle.pc_dfg.specs.Lists.{NamedExport}
use Rattle.pc_dfg.specs.Means.{HasPath, Means, MeansOptions}

mutual
  -- the node of an export, where `converted` has the mark of each module type of the table
  pub data MeansExport (g : ComponentDfg) (converted : ℕ → Mark) : Export → ExportNode Mark → Type 0 where
    means_lifted : {ty : TypeFuncIndex} {f : CoreDef} {o : OptionsId} {v : CoreValue Mark} {os : Options Mark}
        → Means g f v → MeansOptions g o.0 os
        → MeansExport g converted (export.LiftedFunction ty f o) (node.lifted (function_mark ty) v os)
    means_imported_function : {ty : TypeFuncIndex} {r : RuntimeImportIndex} {path : Path} → HasPath g r.0 path
        → MeansExport g converted (export.ImportedFunction ty r) (node.imported_function (function_mark ty) path)
    means_static_module : {ty : ℕ} {m : StaticModuleIndex}
        → MeansExport g converted (export.ModuleStatic ty m) (node.static_module m.0 (converted ty))
    means_host_module : {ty : TypeModuleIndex} {r : RuntimeImportIndex} {path : Path} → HasPath g r.0 path
        → MeansExport g converted (export.ModuleImport ty r) (node.host_module path (mark.Type_ (type.Module ty)))
    means_instance : {ty : TypeComponentInstanceIndex} {exports : List NamedExport} {nodes : ExportNodes Mark}
        → MeansNested g converted exports nodes
        → MeansExport g converted (export.Instance ty exports)
        (node.instance (mark.Type_ (type.ComponentInstance ty)) nodes)
    means_type : {ty : TypeDef} → MeansExport g converted (export.Type_ ty) (node.type_node (mark.Type_ ty))

  -- the nodes of what an instance exports
  pub data MeansNested (g : ComponentDfg) (converted : ℕ → Mark) : List NamedExport → ExportNodes Mark → Type 0 where
    means_no_nodes : MeansNested g converted [] node.no_nodes
    means_and_node : {name : List ℕ} {n : ExportIndex} {meta : ComponentExternData} {es : List NamedExport}
        {x : ExportNode Mark} {xs : ExportNodes Mark} → MeansItem g converted n.0 x → MeansNested g converted es xs
        → MeansNested g converted ((name, (n, meta)) ∷ es) (node.and_node name meta x xs)

  -- the node of an export by number
  pub data MeansItem (g : ComponentDfg) (converted : ℕ → Mark) : ℕ → ExportNode Mark → Type 0 where
    means_item : {n : ℕ} {e : Export} {x : ExportNode Mark} → slice_get g.export_items n ≡ Some e
        → MeansExport g converted e x → MeansItem g converted n x

-- the node of a name
pub record MeansName (g : ComponentDfg) (converted : ℕ → Mark) (e : NamedExport) (x : NamedNode Mark) : Type 0 where
  pub name : x.name ≡ e.0
  pub extern_data : x.extern_data ≡ e.1.1
  pub node : MeansItem g converted e.1.0.0 x.node

-- the nodes of the root's exports, in order
unfoldable pub ExportsMean : ComponentDfg → (converted : ℕ → Mark) → List (NamedNode Mark) → Type 0
ExportsMean g converted nodes = AllZip (MeansName g converted) g.exports nodes
