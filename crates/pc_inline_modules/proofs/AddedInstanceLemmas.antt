-- A graph with one core instance more, of a module that was handed in or of the host, against its log.
use Rattle.std.proofs.Common.{◌≡◌, inl, inr, ℕ, List, [], ◌∷◌, ◌++◌, length, ◌+◌, All, Some, Vec, Global, refl, sym}
use Rattle.std.proofs.Common.{ap, subst, ◌∙◌, arith}
use Rattle.std.specs.Prelude.{slice_get}
use Rattle.std.specs.List.{AllZip}
use Rattle.std.proofs.lemmas.List.{length-append}
use Rattle.std.proofs.lemmas.List.Elements.{filter_map-append}
use Rattle.pc_entity.specs.Lists.{Kept}
use Rattle.pc_entity.proofs.Growing.{append_kept, slice_get-append_seam}
use Rattle.pc_types_lists.specs.Types.{Types}
use Rattle.pc_numbers.specs.declared.component_entity.StaticModuleIndex.{StaticModuleIndex}
use Rattle.pc_numbers.specs.declared.runtime.RuntimeComponentInstanceIndex.{RuntimeComponentInstanceIndex}
use Rattle.pc_numbers.specs.declared.runtime.RuntimeImportIndex.{RuntimeImportIndex}
use Rattle.pc_types.specs.declared.module_record.ModuleRecord.{ModuleRecord}
use Rattle.pc_types.specs.declared.parsed.CoreKind.{CoreKind}
use Rattle.pc_types.specs.declared.parsed.TypeTable.{TypeTable}
use Rattle.pc_spec_plan.specs.Log.{Instantiation, instances_of, instantiated, map_instantiation, owned_of, trace}
use Rattle.pc_parsed.specs.Mark.{Mark}
use Rattle.pc_spec_reading.specs.Scope.{Moment, add_entry}
use Rattle.pc_spec_reading.specs.World.{World, logging}
use Rattle.pc_dfg.specs.declared.core_def.CoreDef.{CoreDef}
use Rattle.pc_dfg.specs.declared.dfg.ComponentDfg.{ComponentDfg}
use Rattle.pc_dfg.specs.declared.instance.Instance.{Instance}
use Rattle.pc_dfg.specs.declared.instance.Instance.TheVariants as source
use Rattle.pc_dfg.specs.declared.instance.SideEffect.TheVariants as effect
use Rattle.pc_dfg.specs.Effects.{Argument, MeansInstance, host_arguments, means_made}
use Rattle.pc_dfg.specs.Grows as graph
use Rattle.pc_dfg.specs.Held.{HasBegun, HeldInstance}
use Rattle.pc_dfg.specs.Ordered.{IsOrdered}
use Rattle.pc_dfg.specs.Pushed.{with_instance}
use Rattle.pc_inline_state.specs.declared.frame.Frame.{Frame}
use Rattle.pc_inline_state.specs.declared.instance_module.InstanceModule.{InstanceModule}
use Rattle.pc_inline_state.specs.declared.state.State.{State}
use Rattle.pc_inline_state.specs.Instances.{HaveWidths, InstancesStand, IsMadeOf}
use Rattle.pc_inline_state.specs.Points.{IsSoundState, PointStands}
use Rattle.pc_inline_state.specs.Tables.{IsItem, tables_of}
use Rattle.pc_inline_state.specs.Fits.{Fits, FitsBefore}
use Rattle.pc_inline_state.specs.Holds.{Numbered, number_of, whole_of}
use Rattle.pc_inline_state.specs.Worlds.{EffectStands, HasItems, WorldStands, slot_kind}
use Rattle.pc_inline_state.proofs.FitsLemmas.{fits_grown}
use Rattle.pc_inline_state.proofs.GrowthLemmas.{graph_grown}
use Rattle.pc_inline_state.proofs.InstanceLemmas.{instances_pushed, widths_kept, widths_more}
use Rattle.pc_inline_state.proofs.KnowsLemmas.{knows_grown}
use Rattle.pc_inline_state.proofs.PlacedLemmas.{placed_kept}
use Rattle.pc_inline_state.proofs.StateLemmas.{types_refl}
use Rattle.pc_inline_state.proofs.ZipLemmas.{zip_more, zip_push}
use Rattle.pc_inline_canon.proofs.AdapterKeptLemmas.{adapters_items_kept}
use Rattle.pc_inline_canon.proofs.CoreInstanceLemmas.{found_in_push, same_slots}
use Rattle.pc_inline_canon.proofs.ItemLemmas.{arguments_more, host_arguments_more, types_held, used_kept}
use Rattle.pc_inline_canon.proofs.KeptLemmas.{frame_kept, is_item_kept}
use Rattle.pc_inline_canon.proofs.LogLemmas.{declared_on, paths-push, trace-push, world_on}
use Rattle.pc_inline_canon.proofs.WorldLemmas.{effect_still}

-- a core instance is given as many items as it imports, or items under names
pub record IsUsable (ms : List ModuleRecord) (g : ComponentDfg) (x : Instance) : Type 0 where
  pub static : (m : StaticModuleIndex) (args : List CoreDef) → x ≡ source.Static m args
      → (r : ModuleRecord) × (slice_get ms m.0 ≡ Some r) × (length args ≡ length r.imports)
      × All (λ d. (k : CoreKind) × IsItem ms g k d) args
  pub host : (r : RuntimeImportIndex) (args : List (List ℕ × List (List ℕ × CoreDef))) → x ≡ source.Import r args
      → All (λ (a : Argument). (k : CoreKind) × IsItem ms g k a.1.1) (host_arguments args)
  pub held : HeldInstance g x

-- a core instance does what an instantiation says, whose types have numbers
pub record InstanceStands (types : Types) (g : ComponentDfg) (x : Instance) (v : Instantiation Mark) : Type 0 where
  pub numbered : Instantiation (Numbered types (Fits g))
  pub means : MeansInstance g x (map_instantiation (number_of types (Fits g)) numbered)
  pub is : map_instantiation (whole_of types (Fits g)) numbered ≡ v

module _ (t : TypeTable) (ms : List ModuleRecord) (st : State) (x : Instance) (owner : RuntimeComponentInstanceIndex)
    (grows : graph.Grows st.graph (with_instance st.graph x owner)) where
  -- the graph with the core instance
  abbrev after : ComponentDfg
  after = with_instance st.graph x owner

  -- the state with that graph, and these modules of its core instances
  abbrev added : Vec InstanceModule Global → State
  added modules = record st { graph = after; runtime_instances = modules }

  -- what fits it fitted before
  pub added_fits : FitsBefore st.graph after
  added_fits = fits_grown st.graph after grows refl refl

  -- its items are items
  added_items : IsUsable ms st.graph x → HasItems ms st.graph → HasItems ms after
  added_items usable items = record {
    modules = λ i n args at. elim (found_in_push st.graph.instances x i (source.Static n args) at)
        as (λ _. (r : ModuleRecord) × (slice_get ms n.0 ≡ Some r) × (length args ≡ length r.imports)
        × All (λ d. (k : CoreKind) × IsItem ms after k d) args) [
          | inl before ↦ let old = items.modules i n args before in
              (old.0, old.1, old.2, arguments_more ms st.graph after grows args old.3)
          | inr last ↦ let new = usable.static n args last in
              (new.0, new.1, new.2, arguments_more ms st.graph after grows args new.3)
        ];
    slots = λ k n d at. is_item_kept ms st.graph after grows (slot_kind k) d
        (items.slots k n d (subst (λ xs. slice_get xs n ≡ Some d) (same_slots st.graph x owner k) at));
    hosts = λ i r args at. elim (found_in_push st.graph.instances x i (source.Import r args) at)
        as (λ _. All (λ (a : Argument). (k : CoreKind) × IsItem ms after k a.1.1) (host_arguments args)) [
          | inl before ↦ host_arguments_more ms st.graph after grows (host_arguments args)
              (items.hosts i r args before)
          | inr last ↦ host_arguments_more ms st.graph after grows (host_arguments args) (usable.host r args last)
        ];
    destructors = λ n y d at has. is_item_kept ms st.graph after grows _ d (items.destructors n y d at has);
    adapters = adapters_items_kept ms st.graph after grows refl items.adapters;
    exports = λ n ty o d at. is_item_kept ms st.graph after grows _ d (items.exports n ty o d at);
    statics = items.statics;
  }

  -- it is in order by itself
  added_sound : (modules : Vec InstanceModule Global) (m : InstanceModule)
      → modules.items ≡ st.runtime_instances.items ++ m ∷ []
      → IsMadeOf ms (tables_of (added modules)) (length st.graph.instances) m → IsUsable ms st.graph x
      → HasBegun st.graph owner.0
      → (HeldInstance st.graph x → HasBegun st.graph owner.0 → IsOrdered st.graph → IsOrdered after)
      → IsSoundState t ms st → IsSoundState t ms (added modules)
  added_sound modules m more made usable begun ordered sound = record {
    ordered = ordered usable.held begun sound.ordered;
    items = added_items usable sound.items;
    plain = record {
      adapter_modules = sound.plain.adapter_modules;
      adapter_partitionings = sound.plain.adapter_partitionings;
      unsafe_intrinsics = sound.plain.unsafe_intrinsics;
    };
    used = used_kept st.graph after grows refl st.paths.held st.used.items sound.used;
    numbers = sound.numbers;
    held = types_held st.types t st.graph after added_fits refl refl sound.held;
    table = sound.table;
    bodies = sound.bodies;
    names = sound.names;
    members = sound.members;
    instances = subst (InstancesStand ms (tables_of (added modules))) (sym more)
        (instances_pushed ms (tables_of st) (tables_of (added modules))
        (graph_grown (tables_of st) after grows added_fits) x refl st.runtime_instances.items m made sound.instances);
    widths = subst (λ is. HaveWidths t ms is after) (sym more)
        (widths_more t ms st.runtime_instances.items (m ∷ []) after
        (widths_kept t ms st.runtime_instances.items st.graph after refl sound.widths));
    placed = placed_kept t ms st (added modules) (graph_grown (tables_of st) after grows added_fits)
        (subst (Kept st.runtime_instances.items) (sym more) (append_kept st.runtime_instances.items (m ∷ []))) refl
        sound.placed;
  }

  -- and does what the log says with the instantiation
  added_world : (v : Instantiation Mark) → InstanceStands st.types after x v → (w : World)
      → WorldStands st.types st.graph w → WorldStands st.types after (logging w (instantiated v owner.0))
  added_world v stands w world =
      let e = instantiated v owner.0 in
      world_on st.types st.graph after grows added_fits w e world
      (subst (AllZip (EffectStands st.types after) after.side_effects) (sym (trace-push w.log e))
      (zip_push (EffectStands st.types after) st.graph.side_effects (trace w.log)
      (effect.Instance (record { 0 = length st.graph.instances }) owner) e
      (zip_more (EffectStands st.types st.graph) (EffectStands st.types after)
      (effect_still st.types st.types st.graph after (types_refl st.types) grows added_fits) st.graph.side_effects
      (trace w.log) world.effects)
      (record {
        numbered = instantiated stands.numbered owner.0;
        means = means_made (slice_get-append_seam st.graph.instances x []) stands.means;
        is = λ i. instantiated (stands.is i) owner.0;
      })))
      (ap length (filter_map-append owned_of w.log (e ∷ [])) ∙ length-append (instances_of w.log) _
      ∙ ap (λ n. n + 1) world.order ∙ sym (length-append st.graph.instances (x ∷ [])))
      (declared_on st.types st.graph after grows added_fits w e world)
      (λ y is. absurd (let k : ⊥ = cc in k))
      (omega arith)
      (world.imports ∙ sym (paths-push w.log e)) refl (omega arith) refl refl refl refl refl

  -- so it is where the reading is then
  pub added_point : (modules : Vec InstanceModule Global) (m : InstanceModule)
      → modules.items ≡ st.runtime_instances.items ++ m ∷ []
      → IsMadeOf ms (tables_of (added modules)) (length st.graph.instances) m → (f : Frame) (now : Moment)
      → (v : Instantiation Mark) → IsUsable ms st.graph x → InstanceStands st.types after x v
      → f.component_instance ≡ owner
      → (HeldInstance st.graph x → HasBegun st.graph owner.0 → IsOrdered st.graph → IsOrdered after)
      → PointStands t ms st f now → PointStands t ms (added modules) f (add_entry now (instantiated v owner.0))
  added_point modules m more made f now v usable stands here ordered at = record {
    sound = added_sound modules m more made usable
        (subst (λ (c : RuntimeComponentInstanceIndex). HasBegun st.graph c.0) here at.frame.begun) ordered at.sound;
    here = knows_grown st.graph st.types.resources now.scope at.here after added_fits;
    converted = at.converted;
    frame = frame_kept ms (tables_of st) (tables_of (added modules))
        (graph_grown (tables_of st) after grows added_fits) f now.scope at.frame;
    world = added_world v stands now.world at.world;
    unexported = record { exports = at.unexported.exports; items = at.unexported.items };
  }
