-- The items that a plan has for the exports of a graph stand for the nodes of these.
use Rattle.std.proofs.Common.{◌≡◌, ◌<◌, ◌+◌, ℕ, zero, suc, List, [], ◌∷◌, ◌++◌, length, All, Option, Some, refl, sym}
use Rattle.std.proofs.Common.{ap, subst, ◌∙◌, ◌⊎◌, inl, inr, arith, zero-add}
use Rattle.std.specs.Prelude.{slice_get, unwrap_or, option_map, option_and_then}
use Rattle.std.specs.List.{AllZip, filter_map}
use Rattle.std.proofs.lemmas.Bool.{lt-ltb}
use Rattle.std.proofs.lemmas.List.{length-append}
use Rattle.std.proofs.lemmas.List.Elements.{All-head, All-tail}
use Rattle.std.proofs.lemmas.Option.{none-some, same_Some}
use Rattle.pc_entity.specs.Lists.{map_all}
use Rattle.pc_entity.proofs.LookupLemmas.{found_at}
use Rattle.pc_entity.proofs.MapAll.{map_all_cons}
use Rattle.pc_dfg.specs.declared.ids.OptionsId.{OptionsId}
use Rattle.pc_numbers.specs.declared.component_entity.StaticModuleIndex.{StaticModuleIndex}
use Rattle.pc_types.specs.declared.type_index.TypeFuncIndex.{TypeFuncIndex}
use Rattle.pc_types.specs.declared.type_index.TypeModuleIndex.{TypeModuleIndex}
use Rattle.pc_spec_plan.specs.CoreValue.{CoreValue, Options}
use Rattle.pc_spec_plan.specs.ExportNode as node
use Rattle.pc_spec_plan.specs.ExportNode.{ExportNode, ExportNodes, NamedNode}
use Rattle.pc_spec_plan.specs.Log.{Entry}
use Rattle.pc_spec_plan.specs.Machine.{State, export_node, named_node, nested_nodes, options_at}
use Rattle.pc_spec_plan.specs.PlanView as plan
use Rattle.pc_trampoline.specs.declared.part.Mark.{Mark}
use Rattle.pc_info.specs.declared.export.Export.{Export as PlanItem}
use Rattle.pc_info.specs.declared.module.ModuleTranslation.{ModuleTranslation}
use Rattle.pc_info.specs.Definitions.{def_view}
use Rattle.pc_info.specs.Exports.{export_view, named_view, nested_view, number_of, trees_from, trees_of, with_export}
use Rattle.pc_info.specs.Modules.{function_mark}
use Rattle.pc_dfg.specs.declared.core_def.CoreDef.{CoreDef}
use Rattle.pc_dfg.specs.declared.dfg.ComponentDfg.{ComponentDfg}
use Rattle.pc_dfg.specs.declared.export.Export.{Export}
use Rattle.pc_dfg.specs.declared.export.Export.TheVariants as export
use Rattle.pc_dfg.specs.Held.{HeldExport, HoldsEntry}
use Rattle.pc_dfg.specs.Lists as list
use Rattle.pc_dfg.specs.Lists.{NamedExport}
use Rattle.pc_dfg.specs.Means.{Means, MeansOptions}
use Rattle.pc_dfg.specs.Nodes.{ExportsMean, MeansExport, MeansItem, MeansName, MeansNested, means_and_node}
use Rattle.pc_dfg.specs.Nodes.{means_host_module, means_instance, means_item, means_lifted, means_no_nodes}
use Rattle.pc_dfg.specs.Nodes.{means_imported_function, means_static_module, means_type}
use Rattle.pc_dfg.specs.Ordered.{IsOrdered}
use Rattle.pc_dfg_linearize.specs.declared.state.Finish.{Finish}
use Rattle.pc_dfg_linearize.specs.Converted.{def_in}
use Rattle.pc_dfg_finish.specs.Exports.{CanExport, IsConverted, IsExportable}
use Rattle.pc_dfg_finish.specs.ModuleTypes.{module_mark}
use Rattle.pc_dfg_linearize.specs.Numbers.{numbered}
use Rattle.pc_dfg_linearize.specs.Parts.{number_of as id_number}
use Rattle.pc_dfg_linearize.specs.Plan.{Extends}
use Rattle.pc_dfg_linearize.specs.Reached.{Reached}
use Rattle.pc_dfg_linearize.specs.Ready.{IsReadyDef}
use Rattle.pc_dfg_linearize.specs.Wired.{IsWired, in_an_export}
use Rattle.pc_dfg_linearize.proofs.AllLemmas.{all_at}
use Rattle.pc_dfg_linearize.proofs.DefLemmas.{def_resolves}
use Rattle.pc_dfg_finish.proofs.FurtherLemmas.{all_of}
use Rattle.pc_dfg_finish.proofs.ItemLemmas.{zip_length}
use Rattle.pc_dfg_finish.proofs.ResolveLemmas.{path_here}

-- an entry of a list with one more is one of the list, or that one
last_or_before : {A : Type 0} (xs : List A) (y : A) (n : ℕ) (x : A) → slice_get (xs ++ y ∷ []) n ≡ Some x
    → (slice_get xs n ≡ Some x) ⊎ ((n ≡ length xs) × (y ≡ x))
last_or_before [] y zero x at = inr (refl, same_Some y x at)
last_or_before [] y (suc n) x at = absurd (none-some x at)
last_or_before (z ∷ xs) y zero x at = inl at
last_or_before (z ∷ xs) y (suc n) x at = elim (last_or_before xs y n x at) [
  | inl before ↦ inl before
  | inr last ↦ inr (ap (λ k. suc k) last.0, last.1)
]

-- the trees of items behind others
length_from : (trees : List (plan.PlanExport Mark)) (items : List PlanItem)
    → length (trees_from trees items) ≡ length trees + length items
length_from trees [] = omega arith
length_from trees (e ∷ items) =
    let more = length_from (trees ++ export_view trees e ∷ []) items in
    let one = length-append trees (export_view trees e ∷ []) in
    omega (arith, more, one)

module _ (g : ComponentDfg) (ms : List ModuleTranslation) (types : List (Option TypeModuleIndex)) (f : Finish)
    (s : State Mark) (trace : List (Entry Mark)) (p : plan.PlanView Mark) (ordered : IsOrdered g) (wired : IsWired g ms)
    (reached : Reached g ms f s trace) (extends : Extends g ms f p) (made : length f.instances ≡ length g.instances)
    (can : All (CanExport g) g.export_items) (here : All (IsExportable g f) g.export_items) where
  -- the trees of the first items stand for the nodes of these
  abbrev Stand : List (plan.PlanExport Mark) → Type 0
  Stand trees =
      (n : ℕ) (t : plan.PlanExport Mark) (x : ExportNode Mark) → slice_get trees n ≡ Some t
      → MeansItem g (module_mark types) n x → export_node p s t ≡ Some x

  lifted_node : (n : ℕ) (ty : TypeFuncIndex) (d : CoreDef) (o : OptionsId) (v : CoreValue Mark) (os : Options Mark)
      → slice_get g.export_items n ≡ Some (export.LiftedFunction ty d o) → Means g d v → MeansOptions g o.0 os
      → export_node p s
      (plan.lifted (function_mark ty) (def_view (def_in g f d)) (numbered f.numbers.options o.0))
      ≡ Some (node.lifted (function_mark ty) v os)
  unfolding id_number
  lifted_node n ty d o v os at means options =
      let e = export.LiftedFunction ty d o in
      let able = all_at (CanExport g) g.export_items n e can at in
      let numbers = all_at (IsExportable g f) g.export_items n e here at in
      let ready = subst (λ k. IsReadyDef g k d) (sym made) able.func.itself in
      let value = def_resolves wired (in_an_export n ty o at) reached means ready numbers.func extends in
      let entry = reached.resolves.options o.0 numbers.options.0 os p numbers.options.1 options extends in
      let number : numbered f.numbers.options o.0 ≡ numbers.options.0 = ap (λ k. unwrap_or k 0) numbers.options.1 in
      let there : options_at p s (numbered f.numbers.options o.0) ≡ Some os =
      subst (λ k. options_at p s k ≡ Some os) (sym number) entry in
      rw (value, there) refl

  static_node : (n ty : ℕ) (m : StaticModuleIndex)
      → slice_get g.export_items n ≡ Some (export.ModuleStatic ty m)
      → export_node p s (plan.static_module m.0 (module_mark types ty))
      ≡ Some (node.static_module m.0 (module_mark types ty))
  static_node n ty m at =
      let below = subst (λ l. m.0 < length l) (sym extends.has.handed_in) (wired.exports n ty m at) in
      rw (lt-ltb m.0 (length p.handed_in) below) refl

  nested_stand : (trees : List (plan.PlanExport Mark)) → Stand trees → (es : List NamedExport)
      → All (λ (e : NamedExport). e.1.0.0 < length trees) es → {nodes : ExportNodes Mark}
      → MeansNested g (module_mark types) es nodes → nested_nodes p s (nested_view trees es) ≡ Some nodes
  nested_stand trees stand [] below means_no_nodes = refl
  nested_stand trees stand (e ∷ es) below (means_and_node {x = x} {xs = xs} one rest) =
      let within = λ (y : NamedExport). y.1.0.0 < length trees in
      let found = found_at trees (number_of e) (All-head within e es below) in
      let first = stand (number_of e) found.0 x found.1 one in
      let others = nested_stand trees stand es (All-tail within e es below) rest in
      ap (λ o. nested_nodes p s (with_export e o (nested_view trees es))) found.1
      ∙ (λ i. option_and_then (λ n. option_map (node.and_node e.0 e.1.1 n) (others i)) (first i))

  item_stands : (trees : List (plan.PlanExport Mark)) → Stand trees → (n : ℕ) → n ≡ length trees → (e : Export)
      → slice_get g.export_items n ≡ Some e → (y : PlanItem) → IsConverted g types f e y → {x : ExportNode Mark}
      → MeansExport g (module_mark types) e x → export_node p s (export_view trees y) ≡ Some x
  unfolding IsConverted HeldExport HoldsEntry
  item_stands trees stand n same (export.LiftedFunction ty d o) at y is (means_lifted {v = v} {os = os} means options) =
      ap (λ z. export_node p s (export_view trees z)) is ∙ lifted_node n ty d o v os at means options
  item_stands trees stand n same (export.ImportedFunction ty r) at y is (means_imported_function {path = path} there) =
      let found = path_here wired reached extends ordered.held r.0 path there in
      ap (λ z. export_node p s (export_view trees z)) is ∙ rw found refl
  item_stands trees stand n same (export.ModuleStatic ty m) at y is means_static_module =
      ap (λ z. export_node p s (export_view trees z)) is ∙ static_node n ty m at
  item_stands trees stand n same (export.ModuleImport ty r) at y is (means_host_module {path = path} there) =
      let found = path_here wired reached extends ordered.held r.0 path there in
      ap (λ z. export_node p s (export_view trees z)) is ∙ rw found refl
  item_stands trees stand n same (export.Instance ty es) at y is (means_instance {nodes = nodes} nested) =
      let held = ordered.held list.export_items n (export.Instance ty es) at in
      let below = subst (λ k. All (λ (e : NamedExport). e.1.0.0 < k) es) same held in
      let all = nested_stand trees stand es below nested in
      ap (λ z. export_node p s (export_view trees z)) is.1
      ∙ ap (λ ds. export_node p s (plan.instance _ (nested_view trees ds))) is.2.definitions
      ∙ rw all refl
  item_stands trees stand n same (export.Type_ ty) at y is means_type =
      ap (λ z. export_node p s (export_view trees z)) is

  one_more : (trees : List (plan.PlanExport Mark)) → Stand trees → (e : Export)
      → slice_get g.export_items (length trees) ≡ Some e → (y : PlanItem) → IsConverted g types f e y
      → Stand (trees ++ export_view trees y ∷ [])
  one_more trees stand e at y is n t x found (means_item {e = e'} here means) =
      elim (last_or_before trees (export_view trees y) n t found) [
        | inl before ↦ stand n t x before (means_item here means)
        | inr last ↦
            let same : e' ≡ e =
            same_Some e' e (sym here ∙ ap (slice_get g.export_items) last.0 ∙ at) in
            sym (ap (export_node p s) last.1)
            ∙ item_stands trees stand (length trees) refl e at y is
            (subst (λ z. MeansExport g (module_mark types) z x) same means)
      ]

  all_stand : (es : List Export) (items : List PlanItem) (trees : List (plan.PlanExport Mark)) → Stand trees
      → ((k : ℕ) (e : Export) → slice_get es k ≡ Some e → slice_get g.export_items (length trees + k) ≡ Some e)
      → AllZip (IsConverted g types f) es items → Stand (trees_from trees items)
  all_stand [] [] trees stand rest zip = stand
  all_stand [] (y ∷ items) trees stand rest zip = absurd zip
  all_stand (e ∷ es) [] trees stand rest zip = absurd zip
  all_stand (e ∷ es) (y ∷ items) trees stand rest zip =
      let next = trees ++ export_view trees y ∷ [] in
      let one = length-append trees (export_view trees y ∷ []) in
      let at = subst (λ k. slice_get g.export_items k ≡ Some e)
      (let same : length trees + 0 ≡ length trees = omega arith in same) (rest 0 e refl) in
      all_stand es items next (one_more trees stand e at y zip.0)
      (λ k x found. subst (λ m. slice_get g.export_items m ≡ Some x)
      (let same : length trees + suc k ≡ length next + k = omega (arith, one) in same) (rest (suc k) x found)) zip.1

  named_stand : (trees : List (plan.PlanExport Mark)) → Stand trees → (es : List NamedExport)
      (nodes : List (NamedNode Mark)) → All (λ (e : NamedExport). e.1.0.0 < length trees) es
      → AllZip (MeansName g (module_mark types)) es nodes
      → map_all (named_node p s) (filter_map (named_view trees) es) ≡ Some nodes
  named_stand trees stand [] [] below zip = refl
  named_stand trees stand [] (x ∷ nodes) below zip = absurd zip
  named_stand trees stand (e ∷ es) [] below zip = absurd zip
  named_stand trees stand (e ∷ es) (x ∷ nodes) below zip =
      let within = λ (y : NamedExport). y.1.0.0 < length trees in
      let found = found_at trees (number_of e) (All-head within e es below) in
      let first = stand (number_of e) found.0 x.node found.1 zip.0.node in
      let others = named_stand trees stand es nodes (All-tail within e es below) zip.1 in
      let of : plan.PlanExport Mark → plan.NamedExport Mark =
      λ t. record { name = e.0; extern_data = e.1.1; item = t } in
      let view : named_view trees e ≡ Some (of found.0) = ap (option_map of) found.1 in
      let one : named_node p s (of found.0) ≡ Some x =
      ap (option_map (λ n. record { name = e.0; extern_data = e.1.1; node = n })) first
      ∙ (λ i. Some (record { name = sym zip.0.name i; extern_data = sym zip.0.extern_data i; node = x.node })) in
      rw view (map_all_cons (named_node p s) (of found.0) (filter_map (named_view trees) es) x nodes one others)

  -- the exports are the nodes of the graph's exports
  pub exports_stand : (items : List PlanItem) → AllZip (IsConverted g types f) g.export_items items
      → (ds : List NamedExport) → ds ≡ g.exports → (nodes : List (NamedNode Mark))
      → ExportsMean g (module_mark types) nodes
      → map_all (named_node p s) (filter_map (named_view (trees_of items)) ds) ≡ Some nodes
  unfolding HoldsEntry ExportsMean
  exports_stand items zip ds same nodes means =
      let none : Stand [] = λ n t x found item. absurd (none-some t found) in
      let stand = all_stand g.export_items items [] none
      (λ k e at. subst (λ m. slice_get g.export_items m ≡ Some e) (sym (zero-add k)) at) zip in
      let long = zip_length (IsConverted g types f) g.export_items items zip in
      let trees = length_from [] items in
      let below = all_of (λ (e : NamedExport). e.1.0.0 < length (trees_of items)) g.exports
      (λ n e at. let held = ordered.held list.exports n e at in omega (arith, held, long, trees)) in
      ap (λ es. map_all (named_node p s) (filter_map (named_view (trees_of items)) es)) same
      ∙ named_stand (trees_of items) stand g.exports nodes below means
