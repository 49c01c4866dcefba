-- What a plan has of the host is what the reading has of it.
use Rattle.std.proofs.Common.{◌≡◌, ◌||◌, inl, inr, ℕ, zero, suc, Bool, true, false, List, [], ◌∷◌, ◌++◌, map, Some}
use Rattle.std.proofs.Common.{if◌then◌else◌, refl, sym, ap, subst, ◌∙◌, true≢false}
use Rattle.std.specs.Prelude.{slice_get, option_map}
use Rattle.std.specs.List.{AllZip, filter_map, fold, list_any}
use Rattle.std.proofs.lemmas.Bool.{eq-eqb}
use Rattle.std.proofs.lemmas.Option.{none-some, same_Some, slice_get-map}
use Rattle.pc_entity.specs.Lists.{AreDistinct}
use Rattle.pc_entity.proofs.Elements.{true_and}
use Rattle.pc_entity.proofs.Naming.{bytes_eq-refl}
use Rattle.pc_types_lists.specs.Types.{Types}
use Rattle.pc_numbers.specs.declared.runtime.ImportIndex.{ImportIndex}
use Rattle.pc_numbers.specs.declared.runtime.RuntimeImportIndex.{RuntimeImportIndex}
use Rattle.pc_types.specs.declared.module_record.ModuleRecord.{ModuleRecord}
use Rattle.pc_types.specs.declared.parsed.TypeTable.{TypeTable}
use Rattle.pc_types.specs.TypeTree.{Path}
use Rattle.pc_spec_plan.specs.Log.{Entry}
use Rattle.pc_info.specs.declared.component.ComponentTranslation.{ComponentTranslation}
use Rattle.pc_info.specs.declared.module.ModuleTranslation.{ModuleTranslation}
use Rattle.pc_info.specs.View.{import_type_view, import_view, view}
use Rattle.pc_trampoline.specs.declared.part.Mark.{Mark}
use Rattle.pc_trampoline.specs.declared.part.Mark.TheVariants as mark
use Rattle.pc_parsed.specs.Mark as reading
use Rattle.pc_spec_reading.specs.Asked.{needed_path, paths_needed, with_path}
use Rattle.pc_spec_reading.specs.Reading.{Reading}
use Rattle.pc_spec_reading.specs.SameTypes.{same_names, same_path}
use Rattle.pc_dfg.specs.declared.dfg.ComponentDfg.{ComponentDfg}
use Rattle.pc_dfg.specs.Means.{HasPath}
use Rattle.pc_dfg_finish.specs.Finishes.{Finishes}
use Rattle.pc_inline.specs.Inlines.{GraphStands}
use Rattle.pc_inline_state.proofs.HoldsLemmas.{holds_so, reads_fit}
use Rattle.pc_inline_state.specs.Fits.{Fits}
use Rattle.pc_inline_state.specs.Holds.{ReadsAs}
use Rattle.pc_inline_state.specs.Worlds as world
use Rattle.pc_inline_state.specs.Worlds.{ImportStands}
use Rattle.pc_translate.proofs.ListLemmas.{push_place, zip_mapped}
use Rattle.pc_translate.specs.Asked.{AsksHost, IsImport, path_of}
use Rattle.pc_translate.specs.Partitioned.{IsPartitioned}

-- names are the same as themselves
names_themselves : (names : List (List ℕ)) → same_names names names ≡ true
names_themselves [] = refl
names_themselves (name ∷ names) = true_and _ _ (bytes_eq-refl name) (names_themselves names)

-- so is a path
path_itself : (p : Path) → same_path p p ≡ true
path_itself p = true_and _ _ (eq-eqb p.import p.import refl) (names_themselves p.names)

-- a path that is none of a list doesn't stand in it
isnt_there : (ps : List Path) (q : Path) → list_any (same_path q) ps ≡ false → (k : ℕ) → slice_get ps k ≡ Some q → ⊥
isnt_there [] q none k at = none-some q at
isnt_there (p ∷ ps) q none zero at =
    let itself : same_path q p ≡ true = ap (same_path q) (same_Some p q at) ∙ path_itself q in
    true≢false (sym (ap (λ b. b || list_any (same_path q) ps) itself) ∙ none)
isnt_there (p ∷ ps) q none (suc k) at = isnt_there ps q (later (same_path q p) none) k at
  where
    later : (b : Bool) → (b || list_any (same_path q) ps) ≡ false → list_any (same_path q) ps ≡ false
    later true h = absurd (true≢false h)
    later false h = h

-- paths stay distinct with one more
distinct_with : (ps : List Path) (q : Path) → AreDistinct ps → AreDistinct (with_path ps q)
distinct_with ps q distinct = by (list_any (same_path q) ps) refl
  where
    ends : list_any (same_path q) ps ≡ false → AreDistinct (ps ++ q ∷ [])
    ends none i j x at_i at_j = elim (push_place ps q i x at_i) [
      | inl before_i ↦ elim (push_place ps q j x at_j) [
        | inl before_j ↦ distinct i j x before_i before_j
        | inr end_j ↦ absurd (isnt_there ps q none i (before_i ∙ ap Some end_j.1))
      ]
      | inr end_i ↦ elim (push_place ps q j x at_j) [
        | inl before_j ↦ absurd (isnt_there ps q none j (before_j ∙ ap Some end_i.1))
        | inr end_j ↦ end_i.0 ∙ sym end_j.0
      ]
    ]

    by : (b : Bool) → list_any (same_path q) ps ≡ b → AreDistinct (if b then ps else ps ++ q ∷ [])
    by true is = distinct
    by false is = ends is

-- and with several
distinct_paths : (ps qs : List Path) → AreDistinct ps → AreDistinct (fold with_path ps qs)
distinct_paths ps [] distinct = distinct
distinct_paths ps (q ∷ qs) distinct = distinct_paths (with_path ps q) qs (distinct_with ps q distinct)

-- host items by their paths
paths_of : (xs : List (ImportIndex × List (List ℕ))) → map path_of (map import_view xs) ≡ map world.path_of xs
paths_of [] = refl
paths_of (x ∷ xs) = ap (λ ps. path_of (import_view x) ∷ ps) (paths_of xs)

-- numbers of host items have the paths of these
paths_at : (g : ComponentDfg) (rs : List RuntimeImportIndex) (ps : List Path)
    → AllZip (λ (r : RuntimeImportIndex). HasPath g r.0) rs ps
    → map (λ n. option_map path_of (slice_get (map import_view g.imports) n)) (map (λ (r : RuntimeImportIndex). r.0) rs)
    ≡ map Some ps
paths_at g [] [] h = refl
paths_at g [] (p ∷ ps) h = absurd h
paths_at g (r ∷ rs) [] h = absurd h
paths_at g (r ∷ rs) (p ∷ ps) h =
    let one : option_map path_of (slice_get (map import_view g.imports) r.0) ≡ Some p =
    ap (option_map path_of) (slice_get-map import_view g.imports r.0 ∙ ap (option_map import_view) h.0) in
    let rest = paths_at g rs ps h.1 in
    λ i. one i ∷ rest i

-- each path that a log needs stands once
pub once_each : (log : List (Entry reading.Mark)) → AreDistinct (paths_needed log)
unfolding paths_needed
once_each log = distinct_paths [] (filter_map needed_path log) (λ i j x at_i at_j. absurd (none-some x at_i))

module _ (t : TypeTable) (types : Types) (ms : List ModuleRecord) (g h : ComponentDfg) (r : Reading)
    (converted : ℕ → Mark) (plan : ComponentTranslation) (modules : List ModuleTranslation)
    (stands : GraphStands t ms types g r) (partitioned : IsPartitioned ms r types g h modules)
    (finished : Finishes h converted plan) where
  -- the host items of the plan are those of the graph
  imports_are : plan.component.imports ≡ g.imports
  imports_are = finished.imports ∙ ap (λ (x : ComponentDfg). x.imports) partitioned.keeps.rest

  -- the host items of the plan by their paths are those that the log needs
  paths_are : map path_of (map import_view plan.component.imports) ≡ paths_needed r.log
  paths_are = paths_of plan.component.imports ∙ ap (map world.path_of) imports_are ∙ stands.world.imports

  pub asks_host : AsksHost types (view plan modules) r
  asks_host = record {
    import_types = subst (λ xs. AllZip (IsImport types r.imported_resources) (map import_type_view xs) r.imports)
        (sym (finished.import_types ∙ ap (λ (x : ComponentDfg). x.import_types) partitioned.keeps.rest))
        (zip_mapped (ImportStands types g) (IsImport types r.imported_resources) import_type_view
        (λ x h s. record {
          name = s.name;
          extern_data = s.extern_data;
          typed = holds_so types (Fits g) (ReadsAs r.imported_resources)
              (reads_fit g r.imported_resources stands.world.imported_resources) (mark.Type_ x.1.ty)
              (reading.of_type h.import_type) s.typed;
        })
        g.import_types r.imports stands.world.import_types);
    imports = paths_are;
    resources = ap (λ (rs : List RuntimeImportIndex). map (λ n. option_map path_of (slice_get
        (map import_view plan.component.imports) n)) (map (λ (r : RuntimeImportIndex). r.0) rs))
        (finished.imported_resources
        ∙ ap (λ (x : ComponentDfg). x.imported_resources) partitioned.keeps.rest)
        ∙ ap (λ (is : List (ImportIndex × List (List ℕ))). map (λ n. option_map path_of (slice_get
        (map import_view is) n)) (map (λ (r : RuntimeImportIndex). r.0) g.imported_resources)) imports_are
        ∙ paths_at g g.imported_resources r.imported_resources stands.world.imported_resources;
  }
