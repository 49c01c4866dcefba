-- The use of a host item, and what it leaves of the state.
use Rattle.std.proofs.Common.{◌≡◌, ◌<◌, ℕ, List, [], ◌∷◌, ◌++◌, length, Option, Some, None, Vec, Global, refl, sym, ap}
use Rattle.std.proofs.Common.{subst, ◌∙◌}
use Rattle.std.specs.Prelude.{slice_get, slice_set}
use Rattle.std.proofs.lemmas.Option.{same_Some}
use Rattle.pc_entity.proofs.Growing.{kept_refl, slice_get-append_seam}
use Rattle.pc_numbers.specs.declared.runtime.ImportIndex.{ImportIndex}
use Rattle.pc_numbers.specs.declared.runtime.RuntimeImportIndex.{RuntimeImportIndex}
use Rattle.pc_types.specs.declared.module_record.ModuleRecord.{ModuleRecord}
use Rattle.pc_types.specs.declared.parsed.TypeTable.{TypeTable}
use Rattle.pc_types.specs.TypeTree.{Path}
use Rattle.pc_spec_plan.specs.Log.{needed}
use Rattle.pc_spec_plan.specs.PlanView as plan
use Rattle.pc_spec_reading.specs.World.{World, logging}
use Rattle.pc_dfg.specs.declared.dfg.ComponentDfg.{ComponentDfg}
use Rattle.pc_dfg.specs.Grows as graph
use Rattle.pc_dfg.specs.Numbers.{slots_of}
use Rattle.pc_dfg.specs.Ordered.{IsOrdered}
use Rattle.pc_dfg.proofs.GrowLemmas.{grows_refl}
use Rattle.pc_inline_state.specs.declared.state.State.{State}
use Rattle.pc_inline_canon.specs.Hosts.{Uses}
use Rattle.pc_inline_state.specs.Points.{IsSoundState}
use Rattle.pc_inline_state.specs.Tables.{tables_of}
use Rattle.pc_inline_state.specs.Fits.{FitsBefore, path_of}
use Rattle.pc_inline_state.specs.Worlds.{WorldStands}
use Rattle.pc_inline_state.proofs.InstanceLemmas.{instances_kept, widths_kept}
use Rattle.pc_inline_state.proofs.FitsLemmas.{fits_grown, fits_refl}
use Rattle.pc_inline_state.proofs.GrowthLemmas.{graph_grown}
use Rattle.pc_inline_state.proofs.KnowsLemmas.{knows_grown}
use Rattle.pc_inline_state.proofs.PlacedLemmas.{placed_kept}
use Rattle.pc_inline_canon.proofs.ItemLemmas.{items_same, types_held}
use Rattle.pc_inline_canon.proofs.KeptLemmas.{frame_kept}
use Rattle.pc_inline_canon.proofs.UsedLemmas.{needed_world, path_known, path_new, used_more}

-- the slots of a graph with other host items
imported_slots : (g : ComponentDfg) (is : List (ImportIndex × List (List ℕ))) (k : plan.SlotKind)
    → slots_of (record g { imports = is }) k ≡ slots_of g k
unfolding slots_of
imported_slots g is plan.memory = refl
imported_slots g is plan.table = refl
imported_slots g is plan.realloc = refl
imported_slots g is plan.callback = refl
imported_slots g is plan.post_return = refl

module _ (t : TypeTable) (ms : List ModuleRecord) (st : State) (n : ℕ) (r : RuntimeImportIndex) where
  -- a host item that was used before
  pub used_again : IsSoundState t ms st → slice_get st.used.items n ≡ Some (Some r) → (p : Path)
      → slice_get st.paths.held n ≡ Some p → Uses t ms st st p r
  used_again sound at p held =
      let there = sound.used.numbers n p r held at in
      let world : (w : World) → WorldStands st.types st.graph w → WorldStands st.types st.graph (logging w (needed p)) =
      needed_world st.types st.graph st.graph (grows_refl st.graph) (fits_refl st.graph) p refl refl refl refl refl refl
      refl refl refl (path_known st.graph.imports r.0 p there) in
      record {
        path = there;
        paths = path_known st.graph.imports r.0 p there;
        sound = λ s. s;
        world = world;
        stands = λ f now point. record {
          sound = point.sound;
          here = point.here;
          converted = point.converted;
          frame = point.frame;
          world = world now.world point.world;
          unexported = point.unexported;
        };
      }

  module _ (i : ImportIndex × List (List ℕ)) (u : Vec (Option RuntimeImportIndex) Global) where
    -- the graph with the host item
    abbrev imported : ComponentDfg
    imported = record st.graph { imports = st.graph.imports ++ i ∷ [] }

    -- the state with that graph
    abbrev using_it : State
    using_it = record st { graph = imported; used = u }

    module _ (grows : graph.Grows st.graph imported) where
      -- what fits it fitted before
      fits : FitsBefore st.graph imported
      fits = fits_grown st.graph imported grows refl refl

      -- a host item that is used for the first time
      used_first : (IsOrdered st.graph → IsOrdered imported) → r.0 ≡ length st.graph.imports
          → u.items ≡ slice_set st.used.items n (Some r) → length u.items ≡ length st.used.items
          → IsSoundState t ms st → slice_get st.paths.held n ≡ Some (path_of i)
          → slice_get st.used.items n ≡ Some None → n < length st.used.items
          → Uses t ms st using_it (path_of i) r
      used_first ordered number set same sound held unused below =
          let world : (w : World) → WorldStands st.types st.graph w
          → WorldStands st.types imported (logging w (needed (path_of i))) =
          needed_world st.types st.graph imported grows fits (path_of i) refl refl refl refl refl refl refl refl refl
          (path_new st.graph.imports i (sound.used.others n (path_of i) held unused)) in
          let sound_then : IsSoundState t ms st → IsSoundState t ms using_it = λ s. record {
            ordered = ordered s.ordered;
            items = items_same ms st.graph imported grows refl (imported_slots st.graph imported.imports) refl refl
                refl s.items;
            plain = record {
              adapter_modules = s.plain.adapter_modules;
              adapter_partitionings = s.plain.adapter_partitionings;
              unsafe_intrinsics = s.plain.unsafe_intrinsics;
            };
            used = used_more st.graph imported st.paths.held st.used.items u.items n i r held refl refl set same number
                below s.used;
            numbers = s.numbers;
            held = types_held st.types t st.graph imported fits refl refl s.held;
            table = s.table;
            bodies = s.bodies;
            names = s.names;
            members = s.members;
            instances = instances_kept ms (tables_of st) (tables_of using_it)
                (graph_grown (tables_of st) imported grows fits) refl st.runtime_instances.items s.instances;
            widths = widths_kept t ms st.runtime_instances.items st.graph imported refl s.widths;
            placed = placed_kept t ms st using_it (graph_grown (tables_of st) imported grows fits)
                (kept_refl st.runtime_instances.items) refl s.placed;
          } in
          record {
            path = ap (slice_get imported.imports) number ∙ slice_get-append_seam st.graph.imports i [];
            paths = path_new st.graph.imports i (sound.used.others n (path_of i) held unused);
            sound = sound_then;
            world = world;
            stands = λ f now p. record {
              sound = sound_then p.sound;
              here = knows_grown st.graph st.types.resources now.scope p.here imported fits;
              converted = p.converted;
              frame = frame_kept ms (tables_of st) (tables_of using_it)
                  (graph_grown (tables_of st) imported grows fits) f now.scope p.frame;
              world = world now.world p.world;
              unexported = record { exports = p.unexported.exports; items = p.unexported.items };
            };
          }

  -- the same of a graph that was made by a call
  pub used_new : (i : ImportIndex) (names : List (List ℕ)) (u : Vec (Option RuntimeImportIndex) Global)
      (h : ComponentDfg) → graph.Grows st.graph h → h ≡ record st.graph { imports = h.imports }
      → h.imports ≡ st.graph.imports ++ (i, names) ∷ []
      → (i.0 < length st.graph.import_types → IsOrdered st.graph → IsOrdered h)
      → r.0 ≡ length st.graph.imports → u.items ≡ slice_set st.used.items n (Some r)
      → length u.items ≡ length st.used.items → IsSoundState t ms st
      → slice_get st.paths.held n ≡ Some (record { import = i.0; names = names })
      → slice_get st.used.items n ≡ Some None → n < length st.used.items → (p : Path)
      → slice_get st.paths.held n ≡ Some p
      → Uses t ms st (record st { graph = h; used = u }) p r
  used_new i names u h grows rest more ordered number set same sound held unused below p there =
      let made : h ≡ imported (i, names) u = rest ∙ (λ j. record st.graph { imports = more j }) in
      let typed : i.0 < length st.graph.import_types = sound.used.imports n (path_of (i, names)) held in
      subst (λ (q : Path). Uses t ms st (record st { graph = h; used = u }) q r)
      (same_Some (path_of (i, names)) p (sym held ∙ there))
      (subst (λ (g : ComponentDfg). Uses t ms st (record st { graph = g; used = u }) (path_of (i, names)) r) (sym made)
      (used_first (i, names) u (subst (graph.Grows st.graph) made grows) (λ o. subst IsOrdered made (ordered typed o))
      number set same sound held unused below))
