-- A graph with one more resource that a component instance declares.
use Rattle.std.proofs.Common.{◌≡◌, ◌<◌, ◌+◌, inl, inr, ℕ, List, [], ◌∷◌, ◌++◌, length, All, Option, None, Some, refl}
use Rattle.std.proofs.Common.{sym, ap, subst, ◌∙◌, arith}
use Rattle.std.specs.Prelude.{slice_get}
use Rattle.std.specs.List.{AllZip}
use Rattle.std.proofs.lemmas.List.{append-nil, length-append}
use Rattle.std.proofs.lemmas.List.Elements.{filter_map-append}
use Rattle.pc_entity.proofs.Growing.{kept_refl, slice_get-append_seam}
use Rattle.pc_numbers.specs.declared.runtime.ResourceIndex.{ResourceIndex}
use Rattle.pc_numbers.specs.declared.runtime.RuntimeComponentInstanceIndex.{RuntimeComponentInstanceIndex}
use Rattle.pc_types.specs.declared.module_record.ModuleRecord.{ModuleRecord}
use Rattle.pc_types.specs.declared.parsed.CoreKind.TheVariants as core
use Rattle.pc_types.specs.declared.parsed.TypeTable.{TypeTable}
use Rattle.pc_types.specs.TypeTree.{declared}
use Rattle.pc_types_lists.specs.Types.{Types}
use Rattle.pc_spec_plan.specs.CoreValue as value
use Rattle.pc_spec_plan.specs.CoreValue.{CoreValue, MaybeValue, map_maybe}
use Rattle.pc_spec_plan.specs.Log.{declared_resource, instances_of, owned_of, trace}
use Rattle.pc_spec_plan.specs.PlanView as plan
use Rattle.pc_parsed.specs.Mark.{Mark}
use Rattle.pc_spec_reading.specs.Scope.{Moment, add_entry}
use Rattle.pc_spec_reading.specs.World.{World, logging, resources_declared}
use Rattle.pc_dfg.specs.declared.core_def.CoreDef.{CoreDef}
use Rattle.pc_dfg.specs.declared.dfg.ComponentDfg.{ComponentDfg}
use Rattle.pc_dfg.specs.declared.instance.Resource.{Resource}
use Rattle.pc_dfg.specs.declared.instance.SideEffect.TheVariants as effect
use Rattle.pc_dfg.specs.Effects.{host_arguments, means_declared}
use Rattle.pc_dfg.specs.Grows as graph
use Rattle.pc_dfg.specs.Held.{HasBegun, HeldResource, IsHeld}
use Rattle.pc_dfg.specs.Means.{MeansMaybe, means_none, means_some}
use Rattle.pc_dfg.specs.Names.{if_any, in_resource}
use Rattle.pc_dfg.specs.Numbers.{slots_of}
use Rattle.pc_dfg.specs.Ordered.{IsOrdered}
use Rattle.pc_dfg.specs.Pushed.{with_resource}
use Rattle.pc_dfg.proofs.AllLemmas.{all_none, all_one}
use Rattle.pc_dfg.proofs.KeptLemmas.{maybe_kept}
use Rattle.pc_inline_state.specs.declared.frame.Frame.{Frame}
use Rattle.pc_inline_state.specs.declared.state.State.{State}
use Rattle.pc_inline_state.specs.Fits.{Fits, FitsBefore}
use Rattle.pc_inline_state.specs.Holds.{Numbered, number_of, whole_of}
use Rattle.pc_inline_state.specs.KnowsSame.{IsResource}
use Rattle.pc_inline_state.specs.Points.{IsSoundState, PointStands}
use Rattle.pc_inline_state.specs.Stands.{CoreStands}
use Rattle.pc_inline_state.specs.Tables.{IsItem, Keeps, tables_of}
use Rattle.pc_inline_state.specs.Worlds.{EffectStands, HasItems, WorldStands, slot_kind}
use Rattle.pc_inline_state.proofs.InstanceLemmas.{instances_kept, widths_kept}
use Rattle.pc_inline_state.proofs.GrowthLemmas.{graph_grown}
use Rattle.pc_inline_state.proofs.KnowsLemmas.{knows_grown}
use Rattle.pc_inline_state.proofs.PlacedLemmas.{placed_kept}
use Rattle.pc_inline_state.proofs.StateLemmas.{types_refl}
use Rattle.pc_inline_state.proofs.ZipLemmas.{zip_more, zip_push}
use Rattle.pc_inline_canon.proofs.CoreInstanceLemmas.{found_in_push, item_held}
use Rattle.pc_inline_canon.proofs.ItemLemmas.{arguments_more, host_arguments_more, types_held, used_kept}
use Rattle.pc_inline_canon.proofs.AdapterKeptLemmas.{adapters_items_kept}
use Rattle.pc_inline_canon.proofs.KeptLemmas.{frame_kept, is_item_kept}
use Rattle.pc_inline_canon.proofs.LogLemmas.{declared_on, paths-push, trace-push, world_on}
use Rattle.pc_inline_canon.proofs.MarkLemmas.{maybe_twice, still}
use Rattle.pc_inline_canon.proofs.WorldLemmas.{effect_still}

-- a destructor, which may be left out, has a value of the reading
pub record DestructorMeans (types : Types) (g : ComponentDfg) (d : Option CoreDef) (v : MaybeValue Mark) : Type 0 where
  pub numbered : MaybeValue (Numbered types (Fits g))
  pub means : MeansMaybe g d (map_maybe (number_of types (Fits g)) numbered)
  pub is : map_maybe (whole_of types (Fits g)) numbered ≡ v

-- one that is left out
pub none_means : (types : Types) (g : ComponentDfg) → DestructorMeans types g None value.no_value
none_means types g = record { numbered = value.no_value; means = means_none; is = refl }

-- one that is there
pub some_means : (types : Types) (g : ComponentDfg) (d : CoreDef) (v : CoreValue Mark) → CoreStands types g d v
    → DestructorMeans types g (Some d) (value.a_value v)
some_means types g d v s = record {
  numbered = value.a_value s.numbered;
  means = means_some s.means;
  is = ap value.a_value s.is;
}

-- it has the value in a graph that has grown
means_more : (types : Types) (g h : ComponentDfg) → graph.Grows g h → FitsBefore g h → (d : Option CoreDef)
    (v : MaybeValue Mark) → DestructorMeans types g d v → DestructorMeans types h d v
means_more types g h grows fits d v m =
    let on : Numbered types (Fits g) → Numbered types (Fits h) = still types types (types_refl types) g h fits in
    record {
      numbered = map_maybe on m.numbered;
      means = subst (MeansMaybe h d) (sym (maybe_twice on (number_of types (Fits h)) m.numbered))
          (maybe_kept g h grows m.means);
      is = maybe_twice on (whole_of types (Fits h)) m.numbered ∙ m.is;
    }

-- the slots of a graph with one resource more
resource_slots : (g : ComponentDfg) (x : Resource) (k : plan.SlotKind) → slots_of (with_resource g x) k ≡ slots_of g k
unfolding slots_of
resource_slots g x plan.memory = refl
resource_slots g x plan.table = refl
resource_slots g x plan.realloc = refl
resource_slots g x plan.callback = refl
resource_slots g x plan.post_return = refl

-- a destructor that is a core function is held
destructor_held : (ms : List ModuleRecord) (g : ComponentDfg) (d : Option CoreDef)
    → ((e : CoreDef) → d ≡ Some e → IsItem ms g core.Func e) → All (IsHeld g) (if_any d)
destructor_held ms g None item = all_none (IsHeld g)
destructor_held ms g (Some e) item = all_one (IsHeld g) e (item_held ms g core.Func e (item e refl))

-- and so is a resource with it, of a component instance that has begun
pub resource_held : (ms : List ModuleRecord) (g : ComponentDfg) (x : Resource)
    → ((d : CoreDef) → x.dtor ≡ Some d → IsItem ms g core.Func d) → HasBegun g x.instance.0 → HeldResource g x
unfolding in_resource
resource_held ms g x item begun = record {
  component_instance = begun;
  destructor = destructor_held ms g x.dtor item;
}

-- one more item makes a list longer
longer : {A : Type 0} (xs : List A) (x : A) (n : ℕ) → n < length xs → n < length (xs ++ x ∷ [])
longer xs x n below = rw (length-append xs (x ∷ [])) (omega (arith, below))

-- what stands last is in the list
last_within : {A : Type 0} (xs : List A) (x : A) → length xs < length (xs ++ x ∷ [])
last_within xs x = rw (length-append xs (x ∷ [])) (omega arith)

module _ (t : TypeTable) (ms : List ModuleRecord) (st : State) (x : Resource)
    (grows : graph.Grows st.graph (with_resource st.graph x)) where
  -- the graph with the resource
  abbrev after : ComponentDfg
  after = with_resource st.graph x

  -- the state with that graph
  abbrev declaring : State
  declaring = record st { graph = after }

  -- what fits it fitted before
  pub resource_fits : FitsBefore st.graph after
  resource_fits who fits = record {
    given = λ n r i at import. fits.given n r i at import;
    own = λ n below. fits.own n (longer st.graph.resources x n below);
  }

  -- the tables keep what they held
  pub resource_keeps : Keeps (tables_of st) (tables_of declaring)
  resource_keeps = graph_grown (tables_of st) after grows resource_fits

  -- its number is that of the next declared resource
  pub resource_number : (w : World) → WorldStands st.types st.graph w → (r : ResourceIndex)
      → r.0 ≡ length st.graph.imported_resources + length st.graph.resources
      → IsResource after r (declared (resources_declared w))
  resource_number w stands r number who fits =
      ap (λ (n : ℕ). who (record { 0 = n })) number
      ∙ fits.own (length st.graph.resources) (last_within st.graph.resources x) ∙ ap declared stands.resources

  -- its items are items
  resource_items : ((d : CoreDef) → x.dtor ≡ Some d → IsItem ms st.graph core.Func d) → HasItems ms st.graph
      → HasItems ms after
  resource_items item items = record {
    modules = λ i m args at. let old = items.modules i m args at in (
      old.0,
      old.1,
      old.2,
      arguments_more ms st.graph after grows args old.3,
    );
    slots = λ k n d at. is_item_kept ms st.graph after grows (slot_kind k) d
        (items.slots k n d (subst (λ xs. slice_get xs n ≡ Some d) (resource_slots st.graph x k) at));
    hosts = λ i r args at. host_arguments_more ms st.graph after grows (host_arguments args) (items.hosts i r args at);
    destructors = λ n y d at has. is_item_kept ms st.graph after grows core.Func d
        (elim (found_in_push st.graph.resources x n y at) as (λ _. IsItem ms st.graph core.Func d) [
          | inl before ↦ items.destructors n y d before has
          | inr last ↦ item d (ap (λ (z : Resource). z.dtor) last ∙ has)
        ]);
    adapters = adapters_items_kept ms st.graph after grows refl items.adapters;
    exports = λ n ty o d at. is_item_kept ms st.graph after grows core.Func d (items.exports n ty o d at);
    statics = items.statics;
  }

  module _ (item : (d : CoreDef) → x.dtor ≡ Some d → IsItem ms st.graph core.Func d)
      (ordered : HeldResource st.graph x → IsOrdered st.graph → IsOrdered after) where
    -- it is in order by itself
    pub resource_sound : HasBegun st.graph x.instance.0 → IsSoundState t ms st → IsSoundState t ms declaring
    resource_sound begun s = record {
      ordered = ordered (resource_held ms st.graph x item begun) s.ordered;
      items = resource_items item s.items;
      plain = record {
        adapter_modules = s.plain.adapter_modules;
        adapter_partitionings = s.plain.adapter_partitionings;
        unsafe_intrinsics = s.plain.unsafe_intrinsics;
      };
      used = used_kept st.graph after grows refl st.paths.held st.used.items s.used;
      numbers = s.numbers;
      held = types_held st.types t st.graph after resource_fits refl refl s.held;
      table = s.table;
      bodies = s.bodies;
      names = s.names;
      members = s.members;
      instances = instances_kept ms (tables_of st) (tables_of declaring) resource_keeps refl st.runtime_instances.items
          s.instances;
      widths = widths_kept t ms st.runtime_instances.items st.graph after refl s.widths;
      placed = placed_kept t ms st declaring resource_keeps (kept_refl st.runtime_instances.items) refl s.placed;
    }

    module _ (v : MaybeValue Mark) (means : DestructorMeans st.types st.graph x.dtor v) where
      -- and does what the log says with the resource
      pub resource_world : (w : World) → WorldStands st.types st.graph w
          → WorldStands st.types after (logging w (declared_resource x.rep v x.instance.0))
      resource_world w stands =
          let e = declared_resource x.rep v x.instance.0 in
          let m = means_more st.types st.graph after grows resource_fits x.dtor v means in
          world_on st.types st.graph after grows resource_fits w e stands
          (subst (AllZip (EffectStands st.types after) after.side_effects) (sym (trace-push w.log e))
          (zip_push (EffectStands st.types after) st.graph.side_effects (trace w.log)
          (effect.Resource (record { 0 = length st.graph.resources })) e
          (zip_more (EffectStands st.types st.graph) (EffectStands st.types after)
          (effect_still st.types st.types st.graph after (types_refl st.types) grows resource_fits)
          st.graph.side_effects (trace w.log) stands.effects)
          (record {
            numbered = declared_resource x.rep m.numbered x.instance.0;
            means = means_declared (slice_get-append_seam st.graph.resources x []) m.means;
            is = λ i. declared_resource x.rep (m.is i) x.instance.0;
          })))
          (ap length (filter_map-append owned_of w.log (e ∷ []) ∙ append-nil (instances_of w.log)) ∙ stands.order)
          (declared_on st.types st.graph after grows resource_fits w e stands)
          (λ d is. absurd (let k : ⊥ = cc in k))
          (omega arith)
          (stands.imports ∙ sym (paths-push w.log e)) refl (length-append st.graph.resources (x ∷ [])) refl refl refl refl
          refl

      -- so it is where the reading is then, but for what is known
      pub resource_point : (f : Frame) (now : Moment) → f.component_instance ≡ x.instance → PointStands t ms st f now
          → PointStands t ms declaring f (add_entry now (declared_resource x.rep v now.scope.component_instance))
      resource_point f now here at =
          let owner : now.scope.component_instance ≡ x.instance.0 =
          at.frame.component_instance ∙ ap (λ (c : RuntimeComponentInstanceIndex). c.0) here in
          record {
            sound = resource_sound
                (subst (λ (c : RuntimeComponentInstanceIndex). HasBegun st.graph c.0) here at.frame.begun) at.sound;
            here = knows_grown st.graph st.types.resources now.scope at.here after resource_fits;
            converted = at.converted;
            frame = frame_kept ms (tables_of st) (tables_of declaring) resource_keeps f now.scope at.frame;
            world = subst (λ c. WorldStands st.types after (logging now.world (declared_resource x.rep v c)))
                (sym owner) (resource_world now.world at.world);
            unexported = record { exports = at.unexported.exports; items = at.unexported.items };
          }
