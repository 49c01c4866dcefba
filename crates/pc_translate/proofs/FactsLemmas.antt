-- What is recorded of the modules of a plan is exactly what the plan gives.
use Rattle.std.proofs.Common.{◌≡◌, ◌+◌, ◌++◌, ℕ, suc, All, List, [], ◌∷◌, length, map, filter}
use Rattle.std.proofs.Common.{◌||◌, ◌==◌, Some, refl, sym, ap, subst, ◌∙◌, arith}
use Rattle.std.specs.Prelude.{slice_get}
use Rattle.std.specs.List.{AllZip, list_any}
use Rattle.std.proofs.lemmas.List.{length-map}
use Rattle.std.proofs.lemmas.List.Elements.{All-contains, All-cons, All-nil}
use Rattle.pc_types.specs.declared.module_record.ModuleRecord.{ModuleRecord}
use Rattle.pc_types.specs.declared.parsed.TypeTable.{TypeTable}
use Rattle.pc_types_lists.specs.Types.{Types}
use Rattle.pc_trampoline.specs.declared.part.Mark.{Mark}
use Rattle.pc_info.specs.declared.component.ComponentTranslation.{ComponentTranslation}
use Rattle.pc_info.specs.declared.module.AdapterRecord.{AdapterRecord}
use Rattle.pc_info.specs.declared.module.ModuleTranslation.{ModuleTranslation}
use Rattle.pc_info.specs.Modules.{handed_in_view, is_adapter_module, module_view}
use Rattle.pc_info.specs.declared.export.Export.{Export as PlanItem}
use Rattle.pc_info.specs.declared.export.Export.TheVariants as item
use Rattle.pc_info.specs.Standing.{steps_in, trampolines_in}
use Rattle.pc_numbers.specs.declared.component_entity.StaticModuleIndex.{StaticModuleIndex}
use Rattle.pc_info.specs.View.{view}
use Rattle.pc_spec_adapt.specs.Record.{Member}
use Rattle.pc_spec_facts.specs.Recorded.{bare, facts_at, facts_if, representative_in}
use Rattle.pc_spec_reading.specs.Reading.{Reading}
use Rattle.pc_spec_wiring.specs.Exported.{is_exported}
use Rattle.pc_spec_wiring.specs.Facts.{IsInPlan, RecordsSharing}
use Rattle.pc_dfg.specs.declared.dfg.ComponentDfg.{ComponentDfg}
use Rattle.pc_dfg.specs.declared.export.Export.{Export}
use Rattle.pc_dfg.specs.declared.export.Export.TheVariants as export
use Rattle.pc_dfg_finish.specs.Finishes.{IsItem}
use Rattle.pc_dfg_finish.specs.ModuleTypes.{module_mark}
use Rattle.pc_adapt_partition.specs.Adapted.{AreModulesOf}
use Rattle.pc_analysis_contexts.specs.Recorded.{AreAllRecorded, AreDefined, AreKept, HaveFewImports, RecordsContexts}
use Rattle.pc_analysis_contexts.specs.Recorded.{records_of}
use Rattle.pc_analysis_contexts.specs.Cores.{exports_static}
use Rattle.pc_analysis_imports.specs.Exported.{is_exported_in, is_module}
use Rattle.pc_analysis_imports.specs.Known.{AreKnown, CanBeFollowed, IsNumbered, KnowImports, without_imports}
use Rattle.pc_analysis_sharing.proofs.SharingLemmas.{sharing}
use Rattle.pc_translate.specs.Adapted.{as_handed_in}
use Rattle.pc_translate.specs.Finished.{IsFinished}
use Rattle.pc_translate.specs.Partitioned.{IsGroupedGraph}
use Rattle.pc_translate.specs.Recorded.{HasFacts}
use Rattle.pc_translate.proofs.DefinedLemmas.{are_defined}
use Rattle.pc_translate.proofs.ExportsSameLemmas.{exports_same}
use Rattle.pc_translate.proofs.FollowedLemmas.{names_earlier, steps_held}
use Rattle.pc_translate.proofs.HandedInLemmas.{adapted}
use Rattle.pc_translate.proofs.NumberedLemmas.{HasNumbers, all_numbered}
use Rattle.pc_translate.proofs.PartitionLemmas.{have_values, values}
use Rattle.pc_translate.proofs.RunLemmas.{Runs, runs}
use Rattle.pc_translate.proofs.SaidLemmas.{behind_map, contains_at, map_at}
use Rattle.pc_translate.proofs.ViewLemmas.{handed_in_bare, records_bare, view_bare}

-- graph and plan have the same modules among their export items
graph_exports_same : (m : ℕ) (es : List Export) (items : List PlanItem) → AllZip IsItem es items
    → list_any (exports_static m) es ≡ is_exported_in items m
unfolding is_exported_in IsItem
graph_exports_same m [] [] zip = refl
graph_exports_same m [] (i ∷ items) zip = absurd zip
graph_exports_same m (e ∷ es) [] zip = absurd zip
graph_exports_same m (e ∷ es) (i ∷ items) zip =
    let rest = graph_exports_same m es items zip.1 in
    let first = one e i zip.0 in
    λ j. first j || rest j
  where
    one : (x : Export) (y : PlanItem) → IsItem x y → exports_static m x ≡ is_module m y
    one (export.LiftedFunction ty f o) (item.LiftedFunction ty' f' o') is = refl
    one (export.ImportedFunction ty n) (item.ImportedFunction ty' n') is = refl
    one (export.ModuleStatic ty n) (item.ModuleStatic ty' n') is = ap (λ (k : StaticModuleIndex). k.0 == m) is
    one (export.ModuleImport ty n) (item.ModuleImport ty' n') is = refl
    one (export.Instance ty xs) (item.Instance ty' xs') is = refl
    one (export.Type_ ty) (item.Type_ ty') is = refl
    one x y is = absurd is

-- modules that are kept but for their representatives are the same without what is recorded of them
kept_bare : (old new : List ModuleTranslation) → AreKept old new → map bare new ≡ map bare old
kept_bare [] [] kept = refl
kept_bare [] (y ∷ ys) kept = let many = kept.count in absurd (omega (arith, many))
kept_bare (x ∷ xs) [] kept = let many = kept.count in absurd (omega (arith, many))
kept_bare (x ∷ xs) (y ∷ ys) kept =
    let many = kept.count in
    let first = ap bare (kept.each 0 x y refl refl) in
    let rest = kept_bare xs ys (record { count = omega (arith, many); each = λ m. kept.each (suc m) }) in
    λ i. first i ∷ rest i

-- so are those that are the same but for what is recorded of imports
without_bare : (xs : List ModuleTranslation) → map bare (map without_imports xs) ≡ map bare xs
without_bare [] = refl
without_bare (x ∷ xs) = ap (λ l. bare x ∷ l) (without_bare xs)

-- of modules of adapters as they are made nothing is recorded
added_bare : (s : ℕ) (groups : List (List (Member Mark))) (ns : List ModuleTranslation) → AreModulesOf s groups ns
    → map bare ns ≡ ns
added_bare s [] [] are = refl
added_bare s [] (n ∷ ns) are = absurd are
added_bare s (xs ∷ groups) [] are = absurd are
added_bare s (xs ∷ groups) (n ∷ ns) are =
    let first = ap bare are.0.is ∙ sym are.0.is in
    let rest = added_bare (s + 1) groups ns are.1 in
    λ i. first i ∷ rest i

all_bare : (rs : List ModuleRecord) (groups : List (List (Member Mark))) (ns : List ModuleTranslation)
    → AreModulesOf (length (map as_handed_in rs)) groups ns
    → map bare (map as_handed_in rs ++ ns) ≡ map as_handed_in rs ++ ns
all_bare rs groups ns are = by rs (added_bare (length (map as_handed_in rs)) groups ns are)
  where
    by : (qs : List ModuleRecord) → map bare ns ≡ ns
        → map bare (map as_handed_in qs ++ ns) ≡ map as_handed_in qs ++ ns
    by [] same = same
    by (q ∷ qs) same = ap (λ l. as_handed_in q ∷ l) (by qs same)

-- each module was handed in or is one of adapters
all_modules : (ms : List ModuleTranslation)
    → length (handed_in_view ms) + length (filter is_adapter_module ms) ≡ length ms
all_modules [] = refl
all_modules (m ∷ ms) = by m.adapters (all_modules ms)
  where
    by : (said : List AdapterRecord) → length (handed_in_view ms) + length (filter is_adapter_module ms) ≡ length ms
        → length (handed_in_view (record m { adapters = said } ∷ ms))
        + length (filter is_adapter_module (record m { adapters = said } ∷ ms))
        ≡ suc (length ms)
    by [] rest = omega (arith, rest)
    by (a ∷ said) rest = omega (arith, rest)

module _ (t : TypeTable) (types : Types) (h : ComponentDfg) (modules : List ModuleTranslation)
    (grouped : IsGroupedGraph t types h modules) where
  abbrev ms : List ModuleRecord
  ms = grouped.handed_in

  abbrev g : ComponentDfg
  g = grouped.graph

  abbrev r : Reading
  r = grouped.result

  -- the places of its adapters are right
  pub grouped_defined : AreDefined h (records_of modules)
  grouped_defined =
      are_defined _ _ (values types g r.log grouped.stands.world.adapters) g h (map as_handed_in ms) modules
      (have_values types g r.log grouped.stands.world.adapters)
      (adapted t types ms g h r modules grouped.stands grouped.partitioned)

  numbered : All HasNumbers modules
  numbered =
      let a = adapted t types ms g h r modules grouped.stands grouped.partitioned in
      all_numbered t ms a.groups a.added modules grouped.sound
      (subst (λ n. AreModulesOf n a.groups a.added) (length-map ms as_handed_in) a.are) a.modules
      grouped.partitioned.short

  numbered_at : (records : List ModuleRecord) → records ≡ map module_view modules → (m : ℕ) (x : ModuleRecord)
      → slice_get records m ≡ Some x → IsNumbered x
  numbered_at records same m x at =
      let n = behind_map module_view modules m x (ap (λ l. slice_get l m) (sym same) ∙ at) in
      subst IsNumbered n.2 (All-contains HasNumbers modules n.0 numbered (contains_at modules m n.0 n.1))

  pub grouped_few : HaveFewImports (records_of modules)
  grouped_few m x at = (numbered_at (map module_view modules) refl m x at).imports

  grouped_bare : map bare modules ≡ modules
  grouped_bare =
      let a = adapted t types ms g h r modules grouped.stands grouped.partitioned in
      ap (map bare) a.modules ∙ all_bare ms a.groups a.added a.are ∙ sym a.modules

  -- once it is recorded which imports share a context
  module _ (mid : List ModuleTranslation) (kept : AreKept modules mid) where
    mid_bare : map bare mid ≡ modules
    mid_bare = kept_bare modules mid kept ∙ grouped_bare

    mid_records : map module_view mid ≡ map module_view modules
    mid_records = sym (records_bare mid) ∙ ap (map module_view) mid_bare

    pub mid_numbered : All HasNumbers mid
    mid_numbered = all_from mid (λ m x at. numbered_at (map module_view mid) mid_records m x.«module»
        (map_at module_view mid m x at))
      where
        all_from : (xs : List ModuleTranslation)
            → ((m : ℕ) (x : ModuleTranslation) → slice_get xs m ≡ Some x → HasNumbers x) → All HasNumbers xs
        all_from [] each = All-nil HasNumbers
        all_from (x ∷ xs) each =
            All-cons HasNumbers x xs (each 0 x refl) (all_from xs (λ m. each (suc m)))

    module _ (plan : ComponentTranslation) (finished : IsFinished types t h plan) where
      abbrev its_run : Runs t types ms g h r plan modules
      its_run = runs t types ms g h r plan modules grouped.stands grouped.partitioned finished

      -- the plan can be followed
      pub followed : CanBeFollowed (map module_view mid) (steps_in plan)
      followed =
          let stuck = its_run.typed.never_stuck in
          let as_many = ap length mid_records ∙ length-map modules module_view in
          record {
            held = λ m args c at.
                let below = steps_held (view plan modules) stuck.last stuck.runs m args c at in
                omega (arith, below, as_many, all_modules modules);
            earlier = λ i n s what at makes named.
                names_earlier (view plan modules) stuck.last stuck.runs i n s what at makes named;
          }

      -- and once it is recorded what of them is known
      module _ (new : List ModuleTranslation) (same : map without_imports new ≡ map without_imports mid) where
        pub new_bare : map bare new ≡ modules
        new_bare = sym (without_bare new) ∙ ap (map bare) same ∙ without_bare mid ∙ mid_bare

        new_records : map module_view new ≡ map module_view modules
        new_records = sym (records_bare new) ∙ ap (map module_view) new_bare

        new_view : view plan new ≡ view plan modules
        new_view = sym (view_bare plan new) ∙ ap (view plan) new_bare

        -- contexts are recorded still
        still_recorded : AreAllRecorded h modules mid → (m : ℕ) (x : ModuleRecord)
            → slice_get (map module_view new) m ≡ Some x
            → RecordsContexts h (map module_view modules) m x (facts_at new m).representative
        still_recorded recorded m x at =
            let z = behind_map module_view new m x at in
            let there = ap (λ l. slice_get l m) (sym same) ∙ map_at without_imports new m z.0 z.1 in
            let y = behind_map without_imports mid m (without_imports z.0) there in
            let its_record : y.0.«module» ≡ x = ap (λ (w : ModuleTranslation). w.«module») y.2 ∙ z.2 in
            let own = ap representative_in y.2 in
            let seen : (facts_at new m).representative ≡ representative_in z.0 =
            λ i. (facts_if (z.1 i)).representative in
            subst (RecordsContexts h (map module_view modules) m x) (own ∙ sym seen)
            (subst (λ w. RecordsContexts h (map module_view modules) m w (representative_in y.0)) its_record
            (recorded m y.0 y.1))

        -- so everything is recorded exactly
        pub has_facts : AreAllRecorded h modules mid → KnowImports plan new → HasFacts plan new
        unfolding HasFacts
        has_facts recorded known =
            let finishes = finished.finishes in
            let exported : is_exported_in plan.component.export_items ≡ is_exported (view plan new) =
            exports_same t types ms g h r plan modules grouped.stands grouped.partitioned finished
            ∙ ap is_exported (sym new_view) in
            let exact = subst (λ e. AreKnown (map module_view new) (steps_in plan) (trampolines_in plan) e (facts_at new))
            exported known in
            record {
              sharing = λ m x at inside.
                  subst (λ rs. RecordsSharing (view plan new) rs m x (facts_at new m).representative) (sym new_records)
                  (sharing h (module_mark finished.types) plan modules new finishes grouped.partitioned.wired
                  grouped.partitioned.distinct.modules
                  (sym (handed_in_bare new) ∙ ap handed_in_view new_bare) (map module_view modules) m x
                  (facts_at new m).representative
                  (graph_exports_same m h.export_items plan.component.export_items finishes.items
                  ∙ (λ i. exported i m))
                  (subst (λ rs. IsInPlan (view plan new) rs m) new_records inside) (still_recorded recorded m x at));
              functions = exact.functions;
              imports = exact.imports;
              known_to_importers = exact.known_to_importers;
            }
