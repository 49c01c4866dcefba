-- What was done stays done as the tables grow, where the graph does nothing more.
use Rattle.std.proofs.Common.{◌≡◌, ℕ, List, map, length, Some, sym, ap, subst, ◌∙◌}
use Rattle.std.specs.Prelude.{◌≤◌, count_by, slice_get}
use Rattle.std.specs.List.{AllZip}
use Rattle.pc_numbers.specs.declared.runtime.RuntimeImportIndex.{RuntimeImportIndex}
use Rattle.pc_types.specs.declared.module_record.ModuleRecord.{ModuleRecord}
use Rattle.pc_types.specs.declared.parsed.TypeTable.{TypeTable}
use Rattle.pc_types.specs.declared.types.ComponentExtern.{ComponentExtern}
use Rattle.pc_types.specs.TypeTree.{Path}
use Rattle.pc_types_lists.specs.Types.{Resources, Types}
use Rattle.pc_types_lists.specs.Types as builder
use Rattle.pc_spec_plan.specs.CoreValue.{CoreValue}
use Rattle.pc_spec_plan.specs.Log.{Entry, map_entry, trace}
use Rattle.pc_trampoline.specs.declared.part.Mark.TheVariants as mark
use Rattle.pc_parsed.specs.Mark.{Mark, of_type}
use Rattle.pc_spec_reading.specs.Asked.{is_declared}
use Rattle.pc_spec_reading.specs.Scope.{Moment}
use Rattle.pc_spec_reading.specs.World.{AddedIntrinsic, HostImport, World}
use Rattle.pc_dfg.specs.declared.core_def.CoreDef.TheVariants as def
use Rattle.pc_dfg.specs.declared.dfg.ComponentDfg.{ComponentDfg}
use Rattle.pc_dfg.specs.declared.instance.SideEffect.{SideEffect}
use Rattle.pc_dfg.specs.Effects.{MeansEffect}
use Rattle.pc_dfg.specs.Grows as graph
use Rattle.pc_dfg.specs.Lists as list
use Rattle.pc_dfg.specs.Means.{HasPath}
use Rattle.pc_dfg.specs.Numbers.{SignedTrampoline}
use Rattle.pc_dfg.proofs.GrowLemmas.{kept}
use Rattle.pc_dfg.proofs.TraceLemmas.{effect_kept}
use Rattle.pc_inline_state.specs.declared.frame.Frame.{Frame}
use Rattle.pc_inline_state.specs.declared.state.State.{State}
use Rattle.pc_inline_state.specs.Points.{PointStands}
use Rattle.pc_inline_state.specs.Prepares.{Prepares}
use Rattle.pc_inline_state.specs.Tables.{tables_of}
use Rattle.pc_inline_state.specs.Fits.{Fits, FitsBefore}
use Rattle.pc_inline_state.specs.Holds.{Numbered, number_of, whole_of}
use Rattle.pc_inline_state.specs.KnowsSame.{KnowsSame}
use Rattle.pc_inline_state.specs.Worlds.{EffectStands, HasTrampoline, ImportStands, IntrinsicsStand, IsDeclared}
use Rattle.pc_inline_state.specs.Worlds.{WorldStands, path_of}
use Rattle.pc_inline_canon.proofs.AdapterKeptLemmas.{adapters_still}
use Rattle.pc_inline_canon.proofs.KeptLemmas.{core_kept, frame_kept}
use Rattle.pc_inline_canon.proofs.MarkLemmas.{entry_twice, holds_still, still}
use Rattle.pc_inline_state.proofs.IntrinsicLemmas.{intrinsics_kept}
use Rattle.pc_inline_state.proofs.KnowsLemmas.{converted_kept, knows_grown}
use Rattle.pc_inline_state.proofs.ZipLemmas.{zip_more}

-- the resources that came with imports have the paths that they had, in a graph that has grown
pub imported_still : (g h : ComponentDfg) → graph.Grows g h → (rs : List RuntimeImportIndex) (ps : List Path)
    → AllZip (λ (r : RuntimeImportIndex). HasPath g r.0) rs ps
    → AllZip (λ (r : RuntimeImportIndex). HasPath h r.0) rs ps
imported_still g h grows rs ps zip =
    zip_more (λ (r : RuntimeImportIndex). HasPath g r.0) (λ (r : RuntimeImportIndex). HasPath h r.0)
    (λ r p at. kept g h grows list.imports r.0 (record { 0 = p.import }, p.names) at) rs ps zip

-- and so they have in one that has no more of them
pub imported_same : (g h : ComponentDfg) → graph.Grows g h → h.imported_resources ≡ g.imported_resources
    → (ps : List Path) → AllZip (λ (r : RuntimeImportIndex). HasPath g r.0) g.imported_resources ps
    → AllZip (λ (r : RuntimeImportIndex). HasPath h r.0) h.imported_resources ps
imported_same g h grows same ps zip =
    subst (λ rs. AllZip (λ (r : RuntimeImportIndex). HasPath h r.0) rs ps) (sym same)
    (imported_still g h grows g.imported_resources ps zip)

module _ (old new : Types) (g h : ComponentDfg) (types : builder.KeepsTypes old new) (grows : graph.Grows g h)
    (fits : FitsBefore g h) where
  -- a mark is held as it was
  abbrev on : Numbered old (Fits g) → Numbered new (Fits h)
  on = still old new types g h fits

  -- a side effect does what it did
  pub effect_still : (e : SideEffect) (x : Entry Mark) → EffectStands old g e x → EffectStands new h e x
  effect_still e x s = record {
    numbered = map_entry on s.numbered;
    means = subst (MeansEffect h e) (sym (entry_twice on (number_of new (Fits h)) s.numbered))
        (effect_kept g h grows s.means);
    is = entry_twice on (whole_of new (Fits h)) s.numbered ∙ s.is;
  }

  -- an import is that of the host
  pub import_still : (i : List ℕ × ComponentExtern) (x : HostImport) → ImportStands old g i x → ImportStands new h i x
  import_still i x s = record {
    name = s.name;
    extern_data = s.extern_data;
    typed = holds_still old new types g h fits (mark.Type_ i.1.ty) (of_type x.import_type) s.typed;
  }

  -- a trampoline is declared
  pub declared_still : (log : List (Entry Mark)) (k : ℕ) (x : SignedTrampoline) → IsDeclared old g log k x
      → IsDeclared new h log k x
  declared_still log k x d = record {
    value = d.value;
    entry = d.entry;
    stands = core_kept old new g h types grows fits (def.Trampoline (record { 0 = k })) d.value d.stands;
    signed = (d.signed.0, types.signatures x.0.0 d.signed.0 d.signed.1, d.signed.2);
  }

  -- what is declared is a trampoline
  pub trampoline_still : (v : CoreValue Mark) → HasTrampoline old g v → HasTrampoline new h v
  trampoline_still v t = record {
    trampoline = t.trampoline;
    stands = core_kept old new g h types grows fits (def.Trampoline t.trampoline) v t.stands;
  }

  -- a graph that does no more than before, with these intrinsics
  pub world_moved : h.side_effects ≡ g.side_effects → h.instances ≡ g.instances → h.trampolines ≡ g.trampolines
      → h.adapters ≡ g.adapters → h.imports ≡ g.imports → h.imported_resources ≡ g.imported_resources
      → h.resources ≡ g.resources → h.import_types ≡ g.import_types
      → h.num_runtime_component_instances ≡ g.num_runtime_component_instances
      → (w : World) → WorldStands old g w → (added : List AddedIntrinsic) → IntrinsicsStand new h added
      → WorldStands new h (record w { intrinsics = added })
  world_moved effects instances trampolines adapters imports imported resources import_types begun w s added stand
      = record {
        effects = subst (λ es. AllZip (EffectStands new h) es (trace w.log)) (sym effects)
            (zip_more (EffectStands old g) (EffectStands new h) effect_still g.side_effects (trace w.log) s.effects);
        order = s.order ∙ ap length (sym instances);
        are_declared = λ k x at. declared_still w.log k x
            (s.are_declared k x (subst (λ ts. slice_get ts k ≡ Some x) trampolines at));
        trampolines = λ v entry. trampoline_still v (s.trampolines v entry);
        few_trampolines = subst (λ ts. length ts ≤ count_by is_declared w.log) (sym trampolines) s.few_trampolines;
        import_types = subst (λ is. AllZip (ImportStands new h) is w.imports) (sym import_types)
            (zip_more (ImportStands old g) (ImportStands new h) import_still g.import_types w.imports s.import_types);
        imports = ap (map path_of) imports ∙ s.imports;
        imported_resources = imported_same g h grows imported w.imported_resources s.imported_resources;
        resources_apart = s.resources_apart;
        resources = ap length resources ∙ s.resources;
        intrinsics = stand;
        adapters = adapters_still old new g h types grows fits adapters w.log s.adapters;
        begun = s.begun ∙ sym begun;
      }

  -- the same where it has signatures for no more intrinsics
  pub world_still : h.side_effects ≡ g.side_effects → h.instances ≡ g.instances → h.trampolines ≡ g.trampolines
      → h.adapters ≡ g.adapters → h.imports ≡ g.imports → h.imported_resources ≡ g.imported_resources
      → h.resources ≡ g.resources → h.import_types ≡ g.import_types
      → h.num_runtime_component_instances ≡ g.num_runtime_component_instances
      → h.unsafe_intrinsics ≡ g.unsafe_intrinsics → (w : World) → WorldStands old g w → WorldStands new h w
  world_still effects instances trampolines adapters imports imported resources import_types begun same w s =
      world_moved effects instances trampolines adapters imports imported resources import_types begun w s w.intrinsics
      (intrinsics_kept old g w.intrinsics s.intrinsics new h types.signatures same)

-- a point is where it was while nothing is done
pub point_kept : (t : TypeTable) (ms : List ModuleRecord) (old new : State) → Prepares t ms old new
    → (f : Frame) (now : Moment) → PointStands t ms old f now → PointStands t ms new f now
point_kept t ms old new p f now at = record {
  sound = p.sound at.sound;
  here = subst (λ (r : Resources). KnowsSame new.graph r now.scope) (sym p.resources)
      (knows_grown old.graph old.types.resources now.scope at.here new.graph p.keeps.fits);
  converted = converted_kept old.types new.types p.keeps.types p.resources t f.converted at.converted;
  frame = frame_kept ms (tables_of old) (tables_of new) p.keeps f now.scope at.frame;
  world = world_still old.types new.types old.graph new.graph p.keeps.types p.keeps.graph p.keeps.fits p.side_effects
      p.instances p.trampolines p.adapters p.imports p.imported_resources p.declared_resources p.import_types p.begun
      p.unsafe_intrinsics now.world at.world;
  unexported = record {
    exports = p.exports ∙ at.unexported.exports;
    items = p.export_items ∙ at.unexported.items;
  };
}
