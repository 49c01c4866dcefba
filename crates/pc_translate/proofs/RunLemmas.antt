-- The plan of a graph that stands for a reading, once its adapters have modules, does what the reading says.
use Rattle.std.proofs.Common.{◌≡◌, ◌<◌, ℕ, All, List, length, map, None, Some, sym, ap, subst, ◌∙◌}
use Rattle.std.specs.Prelude.{slice_get}
use Rattle.std.specs.List.{AllZip}
use Rattle.pc_types_lists.specs.Types.{Types}
use Rattle.pc_numbers.specs.declared.runtime.ResourceIndex.{ResourceIndex}
use Rattle.pc_types.specs.declared.module_record.ModuleRecord.{ModuleRecord}
use Rattle.pc_types.specs.declared.parsed.TypeTable.{TypeTable}
use Rattle.pc_types.specs.TypeTree.{Identity}
use Rattle.pc_spec_plan.specs.ExportNode.{map_named}
use Rattle.pc_spec_plan.specs.Log.{instances_of, map_entry, map_owned, trace}
use Rattle.pc_spec_plan.specs.Machine.{RuntimeInstance, owned_instances}
use Rattle.pc_trampoline.specs.declared.part.Mark.{Mark}
use Rattle.pc_info.specs.declared.component.ComponentTranslation.{ComponentTranslation}
use Rattle.pc_info.specs.declared.module.ModuleTranslation.{ModuleTranslation}
use Rattle.pc_info.specs.View.{view}
use Rattle.pc_spec_reading.specs.Reading.{Reading}
use Rattle.pc_dfg.specs.declared.dfg.ComponentDfg.{ComponentDfg}
use Rattle.pc_spec_plan.specs.ExportNode.{NamedNode}
use Rattle.pc_spec_plan.specs.Log.{Entry}
use Rattle.pc_dfg.specs.Effects.{EffectsMean, MeansEffect}
use Rattle.pc_dfg.specs.Grows.{Grows}
use Rattle.pc_dfg.specs.Lists.{NamedExport}
use Rattle.pc_dfg.specs.declared.instance.SideEffect.{SideEffect}
use Rattle.pc_dfg.specs.Nodes.{ExportsMean, MeansName}
use Rattle.pc_dfg.specs.Told.{IsTold, Unsaid}
use Rattle.pc_info.specs.Apart.{AreApart}
use Rattle.pc_dfg.proofs.NodeLemmas.{item_kept}
use Rattle.pc_dfg.proofs.TraceLemmas.{effect_kept}
use Rattle.pc_dfg_finish.specs.Apart.{IsOfAdapters}
use Rattle.pc_dfg_finish.specs.Finishes.{StandsForOne}
use Rattle.pc_dfg_finish.specs.ModuleTypes.{IsTyped, module_mark}
use Rattle.pc_inline_exports.specs.Exports.{ExportsStand}
use Rattle.pc_inline.specs.Inlines.{GraphStands}
use Rattle.pc_inline_state.specs.Fits.{Fits}
use Rattle.pc_inline_state.specs.Holds.{ReadsAs, number_of, whole_of}
use Rattle.pc_translate.specs.Finished.{IsFinished}
use Rattle.pc_translate.specs.Partitioned.{IsPartitioned}
use Rattle.pc_translate.specs.Typed.{TypedAs}
use Rattle.pc_inline_state.proofs.HoldsLemmas.{reads_fit, so}
use Rattle.pc_inline_state.proofs.ZipLemmas.{zip_more}
use Rattle.pc_translate.proofs.MarkLemmas.{Nodes, all_entries, all_nodes, entries_twice, instances_mapped, named_twice}

module _ (g h : ComponentDfg) (grows : Grows g h) where
  -- what side effects do they do in a graph that has grown
  effects_kept : (es : List SideEffect) (xs : List (Entry Mark)) → AllZip (MeansEffect g) es xs
      → AllZip (MeansEffect h) es xs
  effects_kept es xs means =
      zip_more (MeansEffect g) (MeansEffect h) (λ e x m. effect_kept g h grows m) es xs means

  -- and what names export they export
  names_kept : (converted : ℕ → Mark) (es : List NamedExport) (xs : List (NamedNode Mark))
      → AllZip (MeansName g converted) es xs → AllZip (MeansName h converted) es xs
  names_kept converted es xs means =
      zip_more (MeansName g converted) (MeansName h converted)
      (λ e x m. record {
        name = m.name;
        extern_data = m.extern_data;
        node = item_kept g h grows converted m.node;
      })
      es xs means

module _ (t : TypeTable) (types : Types) (ms : List ModuleRecord) (g h : ComponentDfg) (r : Reading)
    (plan : ComponentTranslation) (modules : List ModuleTranslation) where
  -- how the resource numbers of the reading are read
  abbrev pub reads : (ResourceIndex → Identity) → Type 0
  reads = ReadsAs r.imported_resources

  -- what the plan does, types included, and with which instances and trampolines; that no value stands twice; and of
  -- which modules the instances are made that are none of a component instance
  pub record Runs : Type 0 where
    pub typed : TypedAs types (view plan modules) r
    pub makes : owned_instances typed.never_stuck.last
        ≡ map (map_owned (number_of types reads)) (instances_of typed.entries)
    pub trampolines : (n : ℕ) → n < length plan.trampolines → StandsForOne h plan modules typed.never_stuck.last n
    pub values_apart : (u : Unsaid) → IsTold u h → AreApart (view plan modules) typed.never_stuck.last
    pub adapters : (n : ℕ) (m : RuntimeInstance Mark) → slice_get typed.never_stuck.last.instances n ≡ Some m
        → m.component_instance ≡ None → IsOfAdapters h m.instantiation

  module _ (stands : GraphStands t ms types g r) (partitioned : IsPartitioned ms r types g h modules)
      (finished : IsFinished types t h plan) where
    -- the types of the modules that the graph exports
    typed_before : All (IsTyped finished.types) g.export_items
    typed_before =
        subst (All (IsTyped finished.types)) (ap (λ (x : ComponentDfg). x.export_items) partitioned.keeps.rest)
        finished.typed

    -- the nodes of the exports
    nodes_of : ExportsStand t types g r.nodes
        → Nodes t types g finished.types finished.are typed_before g.exports r.nodes
    unfolding ExportsStand
    nodes_of h = all_nodes t types g finished.types finished.are typed_before g.exports r.nodes h

    effects_mean : (xs : List (Entry Mark)) → AllZip (MeansEffect g) g.side_effects xs → EffectsMean h xs
    unfolding EffectsMean
    effects_mean xs means =
        subst (λ es. AllZip (MeansEffect h) es xs)
        (sym (ap (λ (x : ComponentDfg). x.side_effects) partitioned.keeps.rest))
        (effects_kept g h partitioned.keeps.grows g.side_effects xs means)

    exports_mean : (xs : List (NamedNode Mark)) → AllZip (MeansName g (module_mark finished.types)) g.exports xs
        → ExportsMean h (module_mark finished.types) xs
    unfolding ExportsMean
    exports_mean xs means =
        subst (λ es. AllZip (MeansName h (module_mark finished.types)) es xs)
        (sym (ap (λ (x : ComponentDfg). x.exports) partitioned.keeps.rest))
        (names_kept g h partitioned.keeps.grows (module_mark finished.types) g.exports xs means)

    -- so the plan does what the reading says, and where its run ends each trampoline is one of the graph
    pub runs : Runs
    runs =
        let finishes = finished.finishes in
        let es = all_entries types g g.side_effects (trace r.log) stands.world.effects in
        let ns = nodes_of stands.exports in
        let entries = map (map_entry (number_of types (Fits g))) es.entries in
        let nodes = map (map_named (number_of types (Fits g))) ns.nodes in
        let as_read = so types (Fits g) reads (reads_fit g r.imported_resources stands.world.imported_resources) in
        let effects = effects_mean entries es.mean in
        let exports = exports_mean nodes ns.mean in
        let d = finishes.does modules entries nodes partitioned.wired effects exports in
        let numbered = entries_twice as_read (number_of types reads) es.entries in
        record {
          typed = record {
            never_stuck = d.never_stuck;
            entries = map (map_entry as_read) es.entries;
            exports = map (map_named as_read) ns.nodes;
            traced = d.traced ∙ ap Some (sym numbered);
            ends = d.exports ∙ sym (named_twice as_read (number_of types reads) ns.nodes);
            same_trace = entries_twice as_read (whole_of types reads) es.entries ∙ es.are;
            same_exports = named_twice as_read (whole_of types reads) ns.nodes ∙ ns.are;
          };
          makes = d.instances ∙ ap instances_of (sym numbered)
              ∙ instances_mapped (number_of types reads) (map (map_entry as_read) es.entries);
          trampolines = finishes.meanings modules entries nodes partitioned.wired effects exports;
          values_apart = finishes.values_apart modules entries nodes partitioned.wired effects exports;
          adapters = finishes.adapters modules entries nodes partitioned.wired effects exports;
        }
