-- What an export is stays as the graph grows, and is one node.
use Rattle.std.proofs.Common.{◌≡◌, ℕ, List, refl, ap, subst, sym, ◌∙◌}
use Rattle.std.proofs.lemmas.Option.{same_Some}
use Rattle.pc_types.specs.declared.types.TypeDef.TheVariants as type
use Rattle.pc_spec_plan.specs.ExportNode as node
use Rattle.pc_spec_plan.specs.ExportNode.{ExportNode, ExportNodes, NamedNode}
use Rattle.pc_trampoline.specs.declared.part.Mark.{Mark}
use Rattle.pc_trampoline.specs.declared.part.Mark.TheVariants as mark
use Rattle.pc_info.specs.Modules.{function_mark}
use Rattle.pc_dfg.specs.declared.dfg.ComponentDfg.{ComponentDfg}
use Rattle.pc_dfg.specs.declared.export.Export.{Export}
use Rattle.pc_dfg.specs.Grows.{Grows}
use Rattle.pc_dfg.specs.Lists as list
use Rattle.pc_dfg.specs.Lists.{NamedExport}
use Rattle.pc_dfg.specs.Nodes.{MeansExport, MeansNested, MeansItem, MeansName, ExportsMean, means_lifted}
use Rattle.pc_dfg.specs.Nodes.{means_imported_function, means_static_module, means_host_module, means_instance}
use Rattle.pc_dfg.specs.Nodes.{means_type, means_no_nodes, means_and_node, means_item}
use Rattle.pc_dfg.proofs.GrowLemmas.{kept}
use Rattle.pc_dfg.proofs.KeptLemmas.{means_kept, options_kept}
use Rattle.pc_dfg.proofs.UniqueLemmas.{means_unique, options_unique, path_unique}
use Rattle.pc_dfg.proofs.ZipLemmas.{zip_unique}

module _ (g h : ComponentDfg) (grows : Grows g h) (converted : ℕ → Mark) where
  mutual
    export_kept : {e : Export} {x : ExportNode Mark} → MeansExport g converted e x → MeansExport h converted e x
    export_kept (means_lifted f o) = means_lifted (means_kept g h grows f) (options_kept g h grows o)
    export_kept (means_imported_function path) = means_imported_function (kept g h grows list.imports _ _ path)
    export_kept means_static_module = means_static_module
    export_kept (means_host_module path) = means_host_module (kept g h grows list.imports _ _ path)
    export_kept (means_instance nested) = means_instance (nested_kept nested)
    export_kept means_type = means_type

    nested_kept : {es : List NamedExport} {xs : ExportNodes Mark} → MeansNested g converted es xs
        → MeansNested h converted es xs
    nested_kept means_no_nodes = means_no_nodes
    nested_kept (means_and_node item rest) = means_and_node (item_kept item) (nested_kept rest)

    -- an export is what it was
    pub item_kept : {n : ℕ} {x : ExportNode Mark} → MeansItem g converted n x → MeansItem h converted n x
    item_kept (means_item at e) = means_item (kept g h grows list.export_items _ _ at) (export_kept e)

module _ (g : ComponentDfg) (converted : ℕ → Mark) where
  mutual
    export_unique : {e : Export} {x y : ExportNode Mark} → MeansExport g converted e x → MeansExport g converted e y
        → x ≡ y
    export_unique (means_lifted {ty = ty} a b) (means_lifted c d) =
        let value = means_unique g a c in
        let options = options_unique g b d in
        λ i. node.lifted (function_mark ty) (value i) (options i)
    export_unique (means_imported_function {ty = ty} {r = r} {path = p} a) (means_imported_function {path = q} b) =
        ap (node.imported_function (function_mark ty)) (path_unique g r.0 p q a b)
    export_unique means_static_module means_static_module = refl
    export_unique (means_host_module {ty = ty} {r = r} {path = p} a) (means_host_module {path = q} b) =
        ap (λ path. node.host_module path (mark.Type_ (type.Module ty))) (path_unique g r.0 p q a b)
    export_unique (means_instance {ty = ty} a) (means_instance b) =
        ap (node.instance (mark.Type_ (type.ComponentInstance ty))) (nested_unique a b)
    export_unique means_type means_type = refl

    nested_unique : {es : List NamedExport} {xs ys : ExportNodes Mark} → MeansNested g converted es xs
        → MeansNested g converted es ys → xs ≡ ys
    nested_unique means_no_nodes means_no_nodes = refl
    nested_unique (means_and_node {name = name} {meta = meta} a b) (means_and_node c d) =
        let first = item_unique a c in
        let rest = nested_unique b d in
        λ i. node.and_node name meta (first i) (rest i)

    item_unique : {n : ℕ} {x y : ExportNode Mark} → MeansItem g converted n x → MeansItem g converted n y → x ≡ y
    item_unique (means_item {e = d} p a) (means_item {e = e} {x = y} q b) =
        let same = same_Some d e (sym p ∙ q) in
        export_unique a (subst (λ z. MeansExport g converted z y) (sym same) b)

  name_unique : (e : NamedExport) (x y : NamedNode Mark) → MeansName g converted e x → MeansName g converted e y → x ≡ y
  name_unique e x y m n =
      let name = m.name ∙ sym n.name in
      let meta = m.extern_data ∙ sym n.extern_data in
      let one = item_unique m.node n.node in
      λ i. record { name = name i; extern_data = meta i; node = one i }

  -- the exports of the root are one list of nodes
  pub one_tree : (xs ys : List (NamedNode Mark)) → ExportsMean g converted xs → ExportsMean g converted ys → xs ≡ ys
  unfolding ExportsMean
  one_tree xs ys a b = zip_unique (MeansName g converted) name_unique g.exports xs ys a b
