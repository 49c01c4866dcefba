-- The modules of a plan that were handed in are those of the payloads: no module of adapters is without adapters.
use Rattle.std.proofs.Common.{◌≡◌, ◌≤◌, ◌++◌, List, [], ◌∷◌, length, map, refl, ap, ◌∙◌}
use Rattle.std.proofs.Common.{arith, length-append}
use Rattle.std.specs.Prelude.{filter, slice_get}
use Rattle.std.proofs.lemmas.List.{append-nil, length-map, map-append}
use Rattle.std.proofs.lemmas.List.Elements.{filter-append}
use Rattle.pc_numbers.specs.declared.component_entity.StaticModuleIndex.{StaticModuleIndex}
use Rattle.pc_numbers.specs.declared.runtime.ResourceIndex.{ResourceIndex}
use Rattle.pc_types.specs.declared.module_record.ModuleRecord.{ModuleRecord}
use Rattle.pc_types.specs.declared.parsed.TypeTable.{TypeTable}
use Rattle.pc_types.specs.TypeTree.{Identity}
use Rattle.pc_types_lists.specs.Types.{Types}
use Rattle.pc_trampoline.specs.declared.part.Mark.{Mark}
use Rattle.pc_info.specs.declared.module.ModuleTranslation.{ModuleTranslation}
use Rattle.pc_info.specs.Modules.{handed_in_view, is_handed_in, module_view}
use Rattle.pc_spec_reading.specs.Reading.{Reading}
use Rattle.pc_spec_adapt.specs.Record.{Member}
use Rattle.pc_dfg.specs.declared.core_def.CoreDef.{CoreDef}
use Rattle.pc_dfg.specs.declared.dfg.ComponentDfg.{ComponentDfg}
use Rattle.pc_adapt_partition.specs.Adapted.{AreAdapted, AreGivenTo, AreModulesOf}
use Rattle.pc_adapt_partition.specs.Partitions.{facts_by}
use Rattle.pc_inline.specs.Inlines.{GraphStands}
use Rattle.pc_inline_state.proofs.HoldsLemmas.{reads_fit, some_reading}
use Rattle.pc_inline_state.specs.Fits.{Fits}
use Rattle.pc_translate.specs.Adapted.{as_handed_in}
use Rattle.pc_translate.specs.Partitioned.{IsPartitioned}
use Rattle.pc_translate.proofs.PartitionLemmas.{are_typed, have_values, lift_trees, lower_trees, values}
use Rattle.pc_translate.proofs.WiredLemmas.{all_handed_in}

-- a list that is no longer with another behind it has none behind it
none_behind : {A : Type 0} (xs ys : List A) → length (xs ++ ys) ≤ length xs → ys ≡ []
none_behind xs [] few = refl
none_behind xs (y ∷ ys) few = absurd (omega (arith, few, length-append xs (y ∷ ys)))

-- the handed-in modules of two lists are those of both
handed_in_both : (xs ys : List ModuleTranslation)
    → handed_in_view (xs ++ ys) ≡ handed_in_view xs ++ handed_in_view ys
handed_in_both xs ys =
    ap (map module_view) (filter-append is_handed_in xs ys)
    ∙ map-append module_view (filter is_handed_in xs) (filter is_handed_in ys)

module _ (t : TypeTable) (types : Types) (ms : List ModuleRecord) (g h : ComponentDfg) (r : Reading)
    (modules : List ModuleTranslation) (s : GraphStands t ms types g r) (q : IsPartitioned ms r types g h modules) where
  -- the modules of the graph's adapters, by the values of these
  abbrev who : ResourceIndex → Identity
  who = (some_reading r.imported_resources).0

  fits : Fits g who
  fits =
      reads_fit g r.imported_resources s.world.imported_resources who (some_reading r.imported_resources).1

  pub adapted : AreAdapted (facts_by (lift_trees types g r.log s.world.adapters))
      (facts_by (lower_trees types g r.log s.world.adapters)) (values types g r.log s.world.adapters) g h
      (map as_handed_in ms) modules
  adapted =
      q.adapted who (lift_trees types g r.log s.world.adapters) (lower_trees types g r.log s.world.adapters)
      (values types g r.log s.world.adapters) (are_typed types g r.log s.world.adapters who fits)
      (have_values types g r.log s.world.adapters)

  -- no more were handed in than those of the payloads: the first module of adapters stands behind all of them
  few : length (handed_in_view modules) ≤ length ms
  few = by adapted.groups adapted.added h.adapter_modules adapted.modules refl adapted.are adapted.given
    where
      long : length (map as_handed_in ms) ≡ length ms
      long = length-map ms as_handed_in

      by : (groups : List (List (Member Mark))) (added : List ModuleTranslation)
          (given : List (StaticModuleIndex × List CoreDef)) → modules ≡ map as_handed_in ms ++ added
          → h.adapter_modules ≡ given → AreModulesOf (length (map as_handed_in ms)) groups added
          → AreGivenTo h (length (map as_handed_in ms)) groups given → length (handed_in_view modules) ≤ length ms
      by [] (n ∷ added) given all is are are_given = absurd are
      by [] [] given all is are are_given =
          let same = ap handed_in_view (all ∙ append-nil (map as_handed_in ms)) ∙ all_handed_in ms in
          let as_long = ap length same in
          omega (arith, as_long)
      by (members ∷ groups) added [] all is are are_given = absurd are_given
      by (members ∷ groups) added (x ∷ given) all is are are_given =
          let first = (q.wired.adapter_modules 0 x (ap (λ l. slice_get l 0) is)).behind in
          let place = are_given.0 in
          omega (arith, first, place, long)

  -- so the handed-in modules of the plan are those of the payloads
  pub handed_in_same : handed_in_view modules ≡ ms
  handed_in_same =
      let split = ap handed_in_view adapted.modules ∙ handed_in_both (map as_handed_in ms) adapted.added
      ∙ ap (λ l. l ++ handed_in_view adapted.added) (all_handed_in ms) in
      let as_long = ap length split in
      let short = few in
      let none = none_behind ms (handed_in_view adapted.added) (omega (arith, as_long, short)) in
      split ∙ ap (λ l. ms ++ l) none ∙ append-nil ms
