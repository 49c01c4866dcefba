-- An adapter that comes into the graph: where that leaves the state and the reading.
use Rattle.std.proofs.Common.{◌≡◌, inl, inr, ◌+◌, ℕ, Bool, true, false, List, [], ◌∷◌, ◌++◌, length, Option, None, Some}
use Rattle.std.proofs.Common.{if◌then◌else◌, refl, sym, ap, subst, ◌∙◌, arith}
use Rattle.std.specs.Prelude.{slice_get}
use Rattle.std.specs.List.{AllZip}
use Rattle.std.proofs.lemmas.List.{append-nil}
use Rattle.std.proofs.lemmas.List.Elements.{filter_map-append}
use Rattle.std.proofs.lemmas.Option.{slice_get_within}
use Rattle.pc_entity.proofs.Growing.{kept_refl, slice_get-append_seam}
use Rattle.pc_numbers.specs.declared.module_entity.MemoryIndex.{MemoryIndex}
use Rattle.pc_types.specs.declared.module_record.ModuleRecord.{ModuleRecord}
use Rattle.pc_types.specs.declared.parsed.CoreKind.TheVariants as core
use Rattle.pc_types.specs.declared.parsed.TypeTable.{TypeTable}
use Rattle.pc_spec_plan.specs.CoreValue.{CoreValue}
use Rattle.pc_spec_plan.specs.Log.{declared, instances_of, made, owned_of, trace}
use Rattle.pc_spec_plan.specs.PlanView as plan
use Rattle.pc_info.specs.declared.core_def.ExportItem.{ExportItem}
use Rattle.pc_parsed.specs.Mark.{Mark}
use Rattle.pc_spec_reading.specs.Functions.{making}
use Rattle.pc_spec_reading.specs.SameValues.{was_made}
use Rattle.pc_spec_reading.specs.Scope.{Moment, add_core, add_entry, with_core}
use Rattle.pc_spec_reading.specs.World.{logging}
use Rattle.pc_dfg.specs.declared.adapter.Adapter.{Adapter}
use Rattle.pc_dfg.specs.declared.adapter.DataModel.{DataModel}
use Rattle.pc_dfg.specs.declared.adapter.DataModel.TheVariants as side
use Rattle.pc_dfg.specs.declared.core_def.CoreDef.TheVariants as def
use Rattle.pc_dfg.specs.declared.core_def.CoreExport.{CoreExport}
use Rattle.pc_dfg.specs.declared.dfg.ComponentDfg.{ComponentDfg}
use Rattle.pc_dfg.specs.declared.ids.AdapterId.{AdapterId}
use Rattle.pc_dfg.specs.Grows as graph
use Rattle.pc_dfg.specs.Numbers.{slots_of}
use Rattle.pc_dfg.specs.Ordered.{IsOrdered}
use Rattle.pc_dfg.specs.Pushed.{IsPut}
use Rattle.pc_dfg.specs.Told.{AreInterned, IsTold}
use Rattle.pc_inline_state.specs.declared.definition.CoreId.{CoreId}
use Rattle.pc_inline_state.specs.declared.frame.Frame.{Frame}
use Rattle.pc_inline_state.specs.declared.instance_module.InstanceModule.{InstanceModule}
use Rattle.pc_inline_state.specs.declared.state.State.{State}
use Rattle.pc_inline_state.specs.Fits.{FitsBefore}
use Rattle.pc_inline_state.specs.Instances.{HasModelWidth, HaveWidths, is_wide_in}
use Rattle.pc_inline_state.specs.Lists.{with_core_id}
use Rattle.pc_inline_state.specs.Points.{IsSoundState, PointStands}
use Rattle.pc_inline_state.specs.Tables.{Keeps, is_adapter, tables_of}
use Rattle.pc_inline_state.specs.Worlds.{EffectStands, HasItems, HoldsItems, WorldStands}
use Rattle.pc_inline_state.proofs.FitsLemmas.{fits_grown}
use Rattle.pc_inline_state.proofs.GrowthLemmas.{graph_grown}
use Rattle.pc_inline_state.proofs.InstanceLemmas.{instances_kept}
use Rattle.pc_inline_state.proofs.KnowsLemmas.{knows_grown}
use Rattle.pc_inline_state.proofs.PlacedLemmas.{placed_kept}
use Rattle.pc_inline_state.proofs.StateLemmas.{core_prepares, types_refl}
use Rattle.pc_inline_state.proofs.ZipLemmas.{zip_more}
use Rattle.pc_inline_canon.proofs.AdapterKeptLemmas.{holds_items_kept}
use Rattle.pc_inline_canon.proofs.FrameLemmas.{core_framed, framed_point}
use Rattle.pc_inline_canon.proofs.ItemLemmas.{items_with, types_held, used_kept}
use Rattle.pc_inline_canon.proofs.KeptLemmas.{frame_kept}
use Rattle.pc_inline_canon.proofs.LogLemmas.{declared_on, none_more, paths-push, trace-push, world_with}
use Rattle.pc_inline_canon.proofs.MakingLemmas.{is_old, made_now}
use Rattle.pc_inline_canon.proofs.NumberLemmas.{TellsApart}
use Rattle.pc_inline_canon.proofs.SideMeansLemmas.{AdapterMeans, adapter_stands}
use Rattle.pc_inline_canon.proofs.SlotLemmas.{found_in_put}
use Rattle.pc_inline_canon.proofs.ToldLemmas.{IsWideSide, is_told, unsaid}
use Rattle.pc_inline_canon.proofs.WorldLemmas.{declared_still, effect_still, point_kept, world_still}

-- the slots of a graph with other adapters
adapter_slots : (g : ComponentDfg) (adapters : List Adapter) (k : plan.SlotKind)
    → slots_of (record g { adapters = adapters }) k ≡ slots_of g k
unfolding slots_of
adapter_slots g adapters plan.memory = refl
adapter_slots g adapters plan.table = refl
adapter_slots g adapters plan.realloc = refl
adapter_slots g adapters plan.callback = refl
adapter_slots g adapters plan.post_return = refl

-- what makes an adapter declares nothing
none_declared : (v w : CoreValue Mark) → made v ≡ declared w → ⊥
none_declared v w is = cc

module _ (t : TypeTable) (ms : List ModuleRecord) (modules : List InstanceModule) where
  -- whether an item of an instance is a 64-bit memory, if there is the instance
  abbrev wide_item : Option InstanceModule → ExportItem MemoryIndex → Bool
  wide_item None i = false
  wide_item (Some m) i = is_wide_in t ms m i

  -- whether a memory of a core instance has 64 bits
  abbrev wide_memory : CoreExport MemoryIndex → Bool
  wide_memory e = wide_item (slice_get modules e.instance.0) e.item

  -- the flag of a side tells it
  side_tells : (m : DataModel) → HasModelWidth t ms modules m → IsWideSide wide_memory m
  unfolding HasModelWidth
  side_tells side.Gc w = tt
  side_tells (side.LinearMemory None realloc) w = tt
  side_tells (side.LinearMemory (Some x) realloc) w =
      w.is ∙ ap (λ (o : Option InstanceModule). wide_item o x.0.item) (sym w.made)

module _ (t : TypeTable) (ms : List ModuleRecord) (st : State) (adapters : List Adapter) (x : Adapter) (k : AdapterId)
  where
    -- the graph with these adapters, and the state with that graph
    abbrev adapted_in : ComponentDfg
    adapted_in = record st.graph { adapters = adapters }

    abbrev adapted_to : State
    adapted_to = record st { graph = adapted_in }

    -- the adapter is in it, and holds items; its memories have their widths
    module _ (grows : graph.Grows st.graph adapted_in) (at : slice_get adapters k.0 ≡ Some x)
        (put : IsPut st.graph.adapters adapters x) (holds : HoldsItems ms st.graph x)
        (lift_wide : HasModelWidth t ms st.runtime_instances.items x.lift_options.data_model)
        (lower_wide : HasModelWidth t ms st.runtime_instances.items x.lower_options.data_model)
        (ordered : IsOrdered st.graph → IsOrdered adapted_in) where
      fits : FitsBefore st.graph adapted_in
      fits = fits_grown st.graph adapted_in grows refl refl

      keeps : Keeps (tables_of st) (tables_of adapted_to)
      keeps = graph_grown (tables_of st) adapted_in grows fits

      -- so all adapters do, and have
      items : HasItems ms st.graph → HasItems ms adapted_in
      items before =
          items_with ms st.graph adapted_in grows refl
          (λ j n d found. inl (subst (λ xs. slice_get xs n ≡ Some d) (adapter_slots st.graph adapters j) found)) refl
          refl each before
        where
          each : (n : ℕ) (y : Adapter) → slice_get adapters n ≡ Some y → HoldsItems ms adapted_in y
          each n y found =
              holds_items_kept ms st.graph adapted_in grows y
              (elim (found_in_put st.graph.adapters adapters x put n y found) as (λ _. HoldsItems ms st.graph y) [
                | inl old ↦ before.adapters n y old
                | inr here ↦ subst (HoldsItems ms st.graph) here holds
              ])

      widths : HaveWidths t ms st.runtime_instances.items st.graph
          → HaveWidths t ms st.runtime_instances.items adapted_in
      widths before = record {
        lift = λ n y found. elim (found_in_put st.graph.adapters adapters x put n y found)
            as (λ _. HasModelWidth t ms st.runtime_instances.items y.lift_options.data_model) [
              | inl old ↦ before.lift n y old
              | inr here ↦ subst (λ (z : Adapter). HasModelWidth t ms st.runtime_instances.items
                  z.lift_options.data_model) here lift_wide
            ];
        lower = λ n y found. elim (found_in_put st.graph.adapters adapters x put n y found)
            as (λ _. HasModelWidth t ms st.runtime_instances.items y.lower_options.data_model) [
              | inl old ↦ before.lower n y old
              | inr here ↦ subst (λ (z : Adapter). HasModelWidth t ms st.runtime_instances.items
                  z.lower_options.data_model) here lower_wide
            ];
      }

      sound : IsSoundState t ms st → IsSoundState t ms adapted_to
      sound s = record {
        ordered = ordered s.ordered;
        items = items s.items;
        plain = record {
          adapter_modules = s.plain.adapter_modules;
          adapter_partitionings = s.plain.adapter_partitionings;
          unsafe_intrinsics = s.plain.unsafe_intrinsics;
        };
        used = used_kept st.graph adapted_in grows refl st.paths.held st.used.items s.used;
        numbers = s.numbers;
        held = types_held st.types t st.graph adapted_in fits refl refl s.held;
        table = s.table;
        bodies = s.bodies;
        names = s.names;
        members = s.members;
        instances = instances_kept ms (tables_of st) (tables_of adapted_to) keeps refl st.runtime_instances.items
            s.instances;
        widths = widths s.widths;
        placed = placed_kept t ms st adapted_to keeps (kept_refl st.runtime_instances.items) refl s.placed;
      }

      -- the builder tells its types apart, and the graph its entries; the adapter has a value
      module _ (tells : TellsApart st.types) (interned : AreInterned adapted_in) (v : CoreValue Mark)
          (means : AdapterMeans st.types st.graph x v) (f : Frame) (now : Moment) (point : PointStands t ms st f now)
        where
          told : IsTold (unsaid adapted_in (wide_memory t ms st.runtime_instances.items)) adapted_in
          told =
              is_told st.types ms adapted_in now.world.log
              (λ n y found. declared_still st.types st.types st.graph adapted_in (types_refl st.types) grows fits
              now.world.log n y (point.world.are_declared n y found))
              point.world.imports (items point.sound.items) tells.builder (wide_memory t ms st.runtime_instances.items)
              (λ n y found. record {
                lift = side_tells t ms st.runtime_instances.items y.lift_options.data_model
                    ((widths point.sound.widths).lift n y found);
                lower = side_tells t ms st.runtime_instances.items y.lower_options.data_model
                    ((widths point.sound.widths).lower n y found);
              })

          -- the world where the adapter was made before
          world_before : was_made v now.world.log ≡ true → WorldStands st.types adapted_in now.world
          world_before is =
              world_still st.types st.types st.graph adapted_in (types_refl st.types) grows fits refl refl refl
              (is_old st.types tells st.graph adapters x v k grows at put means now.world.log point.world.adapters
              now.world.imported_resources point.world.resources_apart point.world.imported_resources
              (unsaid adapted_in (wide_memory t ms st.runtime_instances.items)) interned told is)
              refl refl refl refl refl refl now.world point.world

          -- and where it is made now
          world_now : was_made v now.world.log ≡ false → WorldStands st.types adapted_in (logging now.world (made v))
          world_now none =
              let w = now.world in
              let e = made v in
              world_with st.types st.graph adapted_in grows fits w e point.world
              (subst (AllZip (EffectStands st.types adapted_in) st.graph.side_effects)
              (sym (trace-push w.log e ∙ append-nil (trace w.log)))
              (zip_more (EffectStands st.types st.graph) (EffectStands st.types adapted_in)
              (effect_still st.types st.types st.graph adapted_in (types_refl st.types) grows fits)
              st.graph.side_effects (trace w.log) point.world.effects))
              (ap length (filter_map-append owned_of w.log (e ∷ []) ∙ append-nil (instances_of w.log))
              ∙ point.world.order)
              (declared_on st.types st.graph adapted_in grows fits w e point.world)
              (λ y is. absurd (none_declared v y is)) (omega arith)
              (point.world.imports ∙ sym (paths-push w.log e)) refl (none_more refl) refl refl refl
              (made_now st.types tells st.graph adapters x v k grows at put means w.log point.world.adapters
              w.imported_resources point.world.resources_apart point.world.imported_resources none)

          -- it is where the reading is then
          adapted_point : PointStands t ms adapted_to f (making now v)
          unfolding making
          adapted_point = by (was_made v now.world.log) refl
            where
              by : (b : Bool) → was_made v now.world.log ≡ b
                  → PointStands t ms adapted_to f (if b then now else add_entry now (made v))
              by true is = record {
                sound = sound point.sound;
                here = knows_grown st.graph st.types.resources now.scope point.here adapted_in fits;
                converted = point.converted;
                frame = frame_kept ms (tables_of st) (tables_of adapted_to) keeps f now.scope point.frame;
                world = world_before is;
                unexported = record { exports = point.unexported.exports; items = point.unexported.items };
              }
              by false is = record {
                sound = sound point.sound;
                here = knows_grown st.graph st.types.resources now.scope point.here adapted_in fits;
                converted = point.converted;
                frame = frame_kept ms (tables_of st) (tables_of adapted_to) keeps f now.scope point.frame;
                world = world_now is;
                unexported = record { exports = point.unexported.exports; items = point.unexported.items };
              }

          -- and the adapter is a core function
          pub adapted : (id : CoreId) → id.0 ≡ length st.cores
              → PointStands t ms (record adapted_to { cores = st.cores ++ def.Adapter k ∷ [] })
              (with_core_id f core.Func id) (add_core (making now v) core.Func v)
          adapted id number =
              let next : State = record adapted_to { cores = st.cores ++ def.Adapter k ∷ [] } in
              let scope = (making now v).scope in
              let kept = point_kept t ms adapted_to next (core_prepares t ms adapted_to (def.Adapter k)) f (making now v)
              adapted_point in
              framed_point t ms next f (with_core_id f core.Func id) (making now v) (with_core scope core.Func v) kept
              refl refl refl
              (core_framed ms (tables_of next) f scope kept.frame core.Func id v (record {
                definition = def.Adapter k;
                held = ap (slice_get (st.cores ++ def.Adapter k ∷ [])) number
                    ∙ slice_get-append_seam st.cores (def.Adapter k) [];
                stands = adapter_stands st.types st.graph adapted_in grows fits x v means k at;
                usable = is_adapter (slice_get_within adapters k.0 x at);
              }))
