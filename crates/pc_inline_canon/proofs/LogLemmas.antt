-- A graph against a log with one entry more.
use Rattle.std.proofs.Common.{◌≡◌, inl, inr, ℕ, ◌+◌, false, List, [], ◌∷◌, ◌++◌, length, map, Contains, Some, sym}
use Rattle.std.proofs.Common.{ap, subst, ◌∙◌, arith}
use Rattle.std.specs.Prelude.{◌≤◌, count_by, slice_get}
use Rattle.std.specs.List.{AllZip, fold, filter_map}
use Rattle.std.proofs.lemmas.List.Elements.{Contains-append_left, Contains-push_cases, filter-append, filter_map-append}
use Rattle.std.proofs.lemmas.List.Sums.{fold-append, sum_by-append}
use Rattle.pc_types_lists.specs.Types.{Types}
use Rattle.pc_spec_plan.specs.CoreValue.{CoreValue}
use Rattle.pc_spec_plan.specs.Log.{Entry, declared, instances_of, is_effect, trace}
use Rattle.pc_parsed.specs.Mark.{Mark}
use Rattle.pc_spec_reading.specs.Asked.{is_declared, needed_path, paths_needed, with_path, is_made}
use Rattle.pc_spec_reading.specs.World.{World, is_declaration, logging, resources_declared}
use Rattle.pc_dfg.specs.declared.dfg.ComponentDfg.{ComponentDfg}
use Rattle.pc_dfg.specs.Grows as graph
use Rattle.pc_dfg.specs.Numbers.{SignedTrampoline}
use Rattle.pc_inline_state.specs.Fits.{FitsBefore}
use Rattle.pc_inline_state.specs.Worlds.{AdaptersStand, EffectStands, HasTrampoline, ImportStands, IsDeclared}
use Rattle.pc_inline_state.specs.Worlds.{WorldStands, path_of}
use Rattle.pc_inline_state.proofs.IntrinsicLemmas.{intrinsics_kept}
use Rattle.pc_inline_state.proofs.StateLemmas.{types_refl}
use Rattle.pc_inline_canon.proofs.AdapterKeptLemmas.{adapters_logged, adapters_still}
use Rattle.pc_inline_canon.proofs.WorldLemmas.{declared_still, import_still, imported_same, trampoline_still}
use Rattle.pc_inline_state.proofs.ZipLemmas.{zip_more}

-- the effects of a log with one entry more: those of the log, and that of the entry
pub trace-push : (log : List (Entry Mark)) (e : Entry Mark) → trace (log ++ e ∷ []) ≡ trace log ++ trace (e ∷ [])
trace-push log e = filter-append is_effect log (e ∷ [])

-- the paths that a log needs, with one entry more
pub paths-push : (log : List (Entry Mark)) (e : Entry Mark)
    → paths_needed (log ++ e ∷ []) ≡ fold with_path (paths_needed log) (filter_map needed_path (e ∷ []))
unfolding paths_needed
paths-push log e =
    ap (fold with_path []) (filter_map-append needed_path log (e ∷ []))
    ∙ fold-append with_path [] (filter_map needed_path log) (filter_map needed_path (e ∷ []))

-- no more trampolines than a log declares, with one entry more
few-push : (log : List (Entry Mark)) (e : Entry Mark) (before after : ℕ) → before ≤ count_by is_declared log
    → after ≤ before + count_by is_declared (e ∷ []) → after ≤ count_by is_declared (log ++ e ∷ [])
few-push log e before after few more =
    let both : count_by is_declared (log ++ e ∷ []) ≡ count_by is_declared log + count_by is_declared (e ∷ []) =
    sum_by-append _ log (e ∷ []) in
    omega (arith, few, more, both)

-- as many resources as a world declares, with one entry more
resources-push : (w : World) (e : Entry Mark) (before after : ℕ) → before ≡ resources_declared w
    → after ≡ before + count_by is_declaration (e ∷ []) → after ≡ resources_declared (logging w e)
resources-push w e before after many more =
    let both : count_by is_declaration (w.log ++ e ∷ []) ≡ count_by is_declaration w.log
    + count_by is_declaration (e ∷ []) =
    sum_by-append _ w.log (e ∷ []) in
    more ∙ ap (λ n. n + count_by is_declaration (e ∷ [])) many ∙ sym both

-- no more is no more
pub none_more : {n m : ℕ} → n ≡ m → n ≡ m + 0
none_more is = omega (arith, is)

module _ (types : Types) (g h : ComponentDfg) (grows : graph.Grows g h) (fits : FitsBefore g h) (w : World)
    (e : Entry Mark) (stands : WorldStands types g w) where
  -- a trampoline that was declared is
  pub declared_on : (k : ℕ) (x : SignedTrampoline) → slice_get g.trampolines k ≡ Some x
      → IsDeclared types h (w.log ++ e ∷ []) k x
  declared_on k x at =
      let d = declared_still types types g h (types_refl types) grows fits w.log k x (stands.are_declared k x at) in
      record {
        value = d.value;
        entry = Contains-append_left w.log (e ∷ []) (declared d.value) d.entry;
        stands = d.stands;
        signed = d.signed;
      }

  -- what is declared is a trampoline, where the entry declares none or one of the graph
  trampoline_on : ((v : CoreValue Mark) → e ≡ declared v → HasTrampoline types h v) → (v : CoreValue Mark)
      → Contains (w.log ++ e ∷ []) (declared v) → HasTrampoline types h v
  trampoline_on here v entry =
      elim (Contains-push_cases w.log e (declared v) entry) as (λ _. HasTrampoline types h v) [
        | inl before ↦ trampoline_still types types g h (types_refl types) grows fits v (stands.trampolines v before)
        | inr last ↦ here v last
      ]

  -- the world after the entry, where the adapters are those of the log then
  pub world_with : AllZip (EffectStands types h) h.side_effects (trace (w.log ++ e ∷ []))
      → length (instances_of (w.log ++ e ∷ [])) ≡ length h.instances
      → ((k : ℕ) (x : SignedTrampoline) → slice_get h.trampolines k ≡ Some x → IsDeclared types h (w.log ++ e ∷ []) k x)
      → ((v : CoreValue Mark) → e ≡ declared v → HasTrampoline types h v)
      → length h.trampolines ≤ length g.trampolines + count_by is_declared (e ∷ [])
      → map path_of h.imports ≡ paths_needed (w.log ++ e ∷ []) → h.imported_resources ≡ g.imported_resources
      → length h.resources ≡ length g.resources + count_by is_declaration (e ∷ []) → h.import_types ≡ g.import_types
      → h.num_runtime_component_instances ≡ g.num_runtime_component_instances
      → h.unsafe_intrinsics ≡ g.unsafe_intrinsics → AdaptersStand types h (w.log ++ e ∷ [])
      → WorldStands types h (logging w e)
  world_with effects order declared_so has few imports imported resources types_same begun same_intrinsics adapters
      = record {
        effects = effects;
        order = order;
        are_declared = declared_so;
        trampolines = trampoline_on has;
        few_trampolines = few-push w.log e (length g.trampolines) (length h.trampolines) stands.few_trampolines few;
        import_types = subst (λ is. AllZip (ImportStands types h) is w.imports) (sym types_same)
            (zip_more (ImportStands types g) (ImportStands types h)
            (import_still types types g h (types_refl types) grows fits)
            g.import_types w.imports stands.import_types);
        imports = imports;
        imported_resources = imported_same g h grows imported w.imported_resources stands.imported_resources;
        resources_apart = stands.resources_apart;
        resources = resources-push w e (length g.resources) (length h.resources) stands.resources resources;
        intrinsics = intrinsics_kept types g w.intrinsics stands.intrinsics types h (types_refl types).signatures
            same_intrinsics;
        adapters = adapters;
        begun = stands.begun ∙ sym begun;
      }

  -- the same where the entry makes no adapter
  pub world_on : AllZip (EffectStands types h) h.side_effects (trace (w.log ++ e ∷ []))
      → length (instances_of (w.log ++ e ∷ [])) ≡ length h.instances
      → ((k : ℕ) (x : SignedTrampoline) → slice_get h.trampolines k ≡ Some x → IsDeclared types h (w.log ++ e ∷ []) k x)
      → ((v : CoreValue Mark) → e ≡ declared v → HasTrampoline types h v)
      → length h.trampolines ≤ length g.trampolines + count_by is_declared (e ∷ [])
      → map path_of h.imports ≡ paths_needed (w.log ++ e ∷ []) → h.imported_resources ≡ g.imported_resources
      → length h.resources ≡ length g.resources + count_by is_declaration (e ∷ []) → h.import_types ≡ g.import_types
      → h.num_runtime_component_instances ≡ g.num_runtime_component_instances
      → h.unsafe_intrinsics ≡ g.unsafe_intrinsics → is_made e ≡ false → h.adapters ≡ g.adapters
      → WorldStands types h (logging w e)
  world_on effects order declared_so has few imports imported resources types_same begun same_intrinsics made adapters =
      world_with effects order declared_so has few imports imported resources types_same begun same_intrinsics
      (adapters_logged types h w.log e made
      (adapters_still types types g h (types_refl types) grows fits adapters w.log stands.adapters))
