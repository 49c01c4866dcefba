-- A host function that is lowered: its trampoline, and what it leaves of the state.
use Rattle.std.proofs.Common.{◌≡◌, inl, inr, ◌<◌, ℕ, List, [], ◌∷◌, ◌++◌, length, Some, Result, Ok, Err, refl, sym, ap}
use Rattle.std.proofs.Common.{subst, ◌∙◌}
use Rattle.std.specs.Prelude.{IfOk, OnOk, slice_get}
use Rattle.std.specs.List.{AllZip}
use Rattle.std.proofs.lemmas.List.{append-nil}
use Rattle.std.proofs.lemmas.List.Elements.{Contains-push, filter_map-append}
use Rattle.std.proofs.lemmas.Option.{slice_get_within}
use Rattle.pc_entity.proofs.Growing.{kept_refl, slice_get-append_seam}
use Rattle.pc_entity.proofs.LookupLemmas.{kept_within}
use Rattle.pc_types_lists.specs.Types.{Types}
use Rattle.pc_types_builder.proofs.TreeLemmas.{tree_keeps}
use Rattle.pc_types_lists.specs.Trees.{HasTree}
use Rattle.pc_dfg.specs.declared.ids.OptionsId.{OptionsId}
use Rattle.pc_numbers.specs.declared.module_entity.ModuleInternedTypeIndex.{ModuleInternedTypeIndex}
use Rattle.pc_numbers.specs.declared.runtime.ResourceIndex.{ResourceIndex}
use Rattle.pc_numbers.specs.declared.runtime.RuntimeImportIndex.{RuntimeImportIndex}
use Rattle.pc_numbers.specs.declared.runtime.TrampolineIndex.{TrampolineIndex}
use Rattle.pc_types.specs.declared.module_record.ModuleRecord.{ModuleRecord}
use Rattle.pc_types.specs.declared.parsed.CoreKind.TheVariants as core
use Rattle.pc_types.specs.declared.parsed.TypeTable.{TypeTable}
use Rattle.pc_types.specs.declared.type_index.TypeFuncIndex.{TypeFuncIndex}
use Rattle.pc_types.specs.declared.types.TypeDef.TheVariants as type
use Rattle.pc_types.specs.TypeTree.{Identity, Path, TypeTree}
use Rattle.pc_spec_plan.specs.CoreValue as value
use Rattle.pc_spec_plan.specs.CoreValue.{CoreValue, Options}
use Rattle.pc_spec_plan.specs.Log.{declared, instances_of, needed, owned_of, trace}
use Rattle.pc_spec_plan.specs.PlanView as plan
use Rattle.pc_trampoline.specs.declared.part.Mark.TheVariants as mark
use Rattle.pc_trampoline.specs.declared.trampoline.Trampoline.TheVariants as trampoline
use Rattle.pc_trampoline.specs.Parts.{parts_of}
use Rattle.pc_parsed.specs.Mark.{Mark, of_type}
use Rattle.pc_spec_reading.specs.Scope.{Moment, add_entry}
use Rattle.pc_spec_reading.specs.World.{World, logging}
use Rattle.pc_dfg.specs.declared.core_def.CoreDef.TheVariants as def
use Rattle.pc_dfg.specs.declared.dfg.ComponentDfg.{ComponentDfg}
use Rattle.pc_dfg.specs.Grows as graph
use Rattle.pc_dfg.specs.Held.{HeldTrampoline}
use Rattle.pc_dfg.specs.Lists as list
use Rattle.pc_dfg.specs.Means.{HasPath, means_lowered, means_trampoline}
use Rattle.pc_dfg.specs.Numbers.{SignedTrampoline, slots_of, trampoline_entry}
use Rattle.pc_dfg.specs.Ordered.{IsOrdered}
use Rattle.pc_dfg.specs.Pushed.{IsPut}
use Rattle.pc_dfg.proofs.GrowLemmas.{kept}
use Rattle.pc_inline_state.specs.declared.definition.CoreId.{CoreId}
use Rattle.pc_inline_state.specs.declared.definition.DataModel.{DataModel}
use Rattle.pc_inline_state.specs.declared.definition.DataModel.TheVariants as model
use Rattle.pc_inline_state.specs.declared.definition.Options.{Options as OptionsOf}
use Rattle.pc_inline_state.specs.declared.error.ItemError.{ItemError}
use Rattle.pc_inline_state.specs.declared.frame.Frame.{Frame}
use Rattle.pc_inline_state.specs.declared.state.State.{State}
use Rattle.pc_inline_canon.specs.Hosts.{Lowers, Uses}
use Rattle.pc_inline_state.specs.Points.{PointStands}
use Rattle.pc_inline_state.specs.Prepares.{Prepares}
use Rattle.pc_inline_state.specs.Slots.{EntryStands, ModelThere, OptionsThere}
use Rattle.pc_inline_state.specs.Stands.{CoreStands, IsFunc, ItemStands, OptionsStand, options_stand}
use Rattle.pc_inline_state.specs.Tables.{Keeps, Tables, is_trampoline, tables_of}
use Rattle.pc_inline_state.specs.Fits.{Fits, FitsBefore}
use Rattle.pc_inline_state.specs.Holds.{Holds, Numbered}
use Rattle.pc_inline_state.specs.Worlds.{EffectStands, HasTrampoline, IsDeclared, IsSigned, WorldStands}
use Rattle.pc_inline_state.proofs.InstanceLemmas.{instances_kept, widths_kept}
use Rattle.pc_inline_state.proofs.AddsPushLemmas.{changes_few}
use Rattle.pc_inline_state.proofs.FitsLemmas.{fits_grown}
use Rattle.pc_inline_state.proofs.GrowthLemmas.{graph_grown}
use Rattle.pc_inline_state.proofs.KnowsLemmas.{knows_grown}
use Rattle.pc_inline_canon.proofs.ItemLemmas.{items_same, types_held, used_kept}
use Rattle.pc_inline_canon.proofs.KeptLemmas.{begun_kept, entry_kept, frame_kept}
use Rattle.pc_inline_canon.proofs.KeptLemmas.{options_kept as options_still}
use Rattle.pc_inline_canon.proofs.LogLemmas.{declared_on, none_more, paths-push, trace-push, world_on}
use Rattle.pc_inline_canon.proofs.OptionsEntryLemmas.{there_kept}
use Rattle.pc_inline_canon.proofs.SlotLemmas.{found_in_put}
use Rattle.pc_inline_state.proofs.PlacedLemmas.{placed_kept}
use Rattle.pc_inline_state.proofs.StateLemmas.{core_prepares, keeps_trans, types_refl}
use Rattle.pc_inline_canon.proofs.WorldLemmas.{effect_still, point_kept}
use Rattle.pc_inline_state.proofs.ZipLemmas.{zip_more}

module _ (ms : List ModuleRecord) (b c : Tables) (keeps : Keeps b c) where
  model_there_kept : (m : DataModel) → ModelThere ms b m → ModelThere ms c m
  model_there_kept model.Gc there = there
  model_there_kept (model.LinearMemory m r) there =
      (there_kept ms b c keeps core.Memory m there.0, there_kept ms b c keeps core.Func r there.1)

  -- the core items of options are of the table
  pub options_there_kept : (o : OptionsOf) → OptionsThere ms b o → OptionsThere ms c o
  options_there_kept o there = record {
    component_instance = begun_kept b.graph c.graph keeps.graph o.instance.0 there.component_instance;
    signature = kept_within b.types.signatures c.types.signatures keeps.types.signatures o.core_type.0 there.signature;
    callback = there_kept ms b c keeps core.Func o.callback there.callback;
    post_return = there_kept ms b c keeps core.Func o.post_return there.post_return;
    model = model_there_kept o.data_model there.model;
  }

-- a function type as a number of the types builder
typed : (types : Types) (g : ComponentDfg) (ty : TypeFuncIndex) (tree : TypeTree)
    → ((who : ResourceIndex → Identity) → Fits g who → HasTree types who (type.ComponentFunc ty) tree)
    → Numbered types (Fits g)
unfolding Holds
typed types g ty tree func = record {
  number = mark.Type_ (type.ComponentFunc ty);
  whole = of_type tree;
  holds = func;
}

-- options have the core signature of what is lowered with them
lowering_signed : (ms : List ModuleRecord) (b : Tables) (o : OptionsOf) (p : Path) (ty : Mark) (os : Options Mark)
    (x : SignedTrampoline) → x.0 ≡ o.core_type → OptionsStand ms b o os → IsSigned b.types x (value.lowered p ty os)
lowering_signed ms b o p ty os x same (options_stand {signature = s} begun signed callback post_return model) =
    (s, ap (λ (n : ModuleInternedTypeIndex). slice_get b.types.signatures n.0) same ∙ signed, refl)

-- the slots of a graph with other trampolines
pub lowered_slots : (g : ComponentDfg) (ts : List SignedTrampoline) (k : plan.SlotKind)
    → slots_of (record g { trampolines = ts }) k ≡ slots_of g k
unfolding slots_of
lowered_slots g ts plan.memory = refl
lowered_slots g ts plan.table = refl
lowered_slots g ts plan.realloc = refl
lowered_slots g ts plan.callback = refl
lowered_slots g ts plan.post_return = refl

-- a function is a core function of the state, and its lowering is declared in the world
record IsLowered (t : TypeTable) (ms : List ModuleRecord) (st : State) (id : CoreId) (v : CoreValue Mark) (f : Frame)
    (now : Moment) : Type 0 where
  pub point : PointStands t ms st f (add_entry now (declared v))
  pub item : ItemStands ms (tables_of st) core.Func id v

module _ (t : TypeTable) (ms : List ModuleRecord) (st : State) (ts : List SignedTrampoline)
    (s : ModuleInternedTypeIndex) (r : RuntimeImportIndex) (ty : TypeFuncIndex) (o : OptionsId) where
  -- the graph with these trampolines
  abbrev lowered_in : ComponentDfg
  lowered_in = record st.graph { trampolines = ts }

  -- the state with that graph
  abbrev lowered_to : State
  lowered_to = record st { graph = lowered_in }

  -- the trampoline of the lowering
  abbrev lowering_of : SignedTrampoline
  lowering_of = (s, trampoline.LowerImport r ty o)

  -- what it names is held
  lowering_held : (p : Path) → HasPath st.graph r.0 p → o.0 < length st.graph.options
      → HeldTrampoline st.graph (trampoline_entry lowering_of)
  unfolding HeldTrampoline parts_of
  lowering_held p path options = (slice_get_within st.graph.imports r.0 _ path, options)

  module _ (grows : graph.Grows st.graph lowered_in) (p : Path) (tree : TypeTree) (os : Options Mark)
      (path : HasPath st.graph r.0 p)
      (func : IsFunc ms (tables_of st) ty tree) (opts : EntryStands (tables_of st) o.0 os) where
    -- what fits the graph with the trampoline fitted before
    fits : FitsBefore st.graph lowered_in
    fits = fits_grown st.graph lowered_in grows refl refl

    -- the state with the trampoline keeps what was
    lowered_keeps : Keeps (tables_of st) (tables_of lowered_to)
    lowered_keeps = graph_grown (tables_of st) lowered_in grows fits

    -- so the entry of options is one
    lowered_options : EntryStands (tables_of lowered_to) o.0 os
    lowered_options = entry_kept (tables_of st) (tables_of lowered_to) lowered_keeps o.0 os opts

    -- and the function type has its tree
    lowered_func : IsFunc ms (tables_of lowered_to) ty tree
    lowered_func who now = func who (fits who now)

    -- each number of the trampoline stands for the lowered function
    lowered_stands : (k : ℕ) → slice_get ts k ≡ Some lowering_of
        → CoreStands st.types lowered_in (def.Trampoline (record { 0 = k })) (value.lowered p (of_type tree) os)
    unfolding typed parts_of
    lowered_stands k at = record {
      numbered = value.lowered p (typed st.types lowered_in ty tree lowered_func) lowered_options.numbered;
      means = means_trampoline at (means_lowered (kept st.graph lowered_in grows list.imports _ _ path)
          lowered_options.means);
      is = λ j. value.lowered p (of_type tree) (lowered_options.is j);
    }

    -- the world in which it is declared
    lowered_world : IsSigned st.types lowering_of (value.lowered p (of_type tree) os)
        → IsPut st.graph.trampolines ts lowering_of → (n : TrampolineIndex)
        → slice_get ts n.0 ≡ Some lowering_of → (w : World) → WorldStands st.types st.graph w
        → WorldStands st.types lowered_in (logging w (declared (value.lowered p (of_type tree) os)))
    lowered_world signed put n at w stands =
        let v = value.lowered p (of_type tree) os in
        let e = declared v in
        world_on st.types st.graph lowered_in grows fits w e stands
        (subst (AllZip (EffectStands st.types lowered_in) st.graph.side_effects)
        (sym (trace-push w.log e ∙ append-nil (trace w.log)))
        (zip_more (EffectStands st.types st.graph) (EffectStands st.types lowered_in)
        (effect_still st.types st.types st.graph lowered_in (types_refl st.types) grows fits)
        st.graph.side_effects (trace w.log) stands.effects))
        (ap length (filter_map-append owned_of w.log (e ∷ []) ∙ append-nil (instances_of w.log)) ∙ stands.order)
        (λ k x found. elim (found_in_put st.graph.trampolines ts lowering_of put k x found)
        as (λ _. IsDeclared st.types lowered_in (w.log ++ e ∷ []) k x) [
          | inl before ↦ declared_on st.types st.graph lowered_in grows fits w e stands k x before
          | inr here ↦ record {
            value = v;
            entry = Contains-push w.log e;
            stands = lowered_stands k (found ∙ ap Some (sym here));
            signed = subst (λ y. IsSigned st.types y v) here signed;
          }
        ])
        (λ w' is. subst (λ x. HasTrampoline st.types lowered_in x) (same v w' is)
        (record { trampoline = n; stands = lowered_stands n.0 at }))
        (changes_few st.graph.trampolines ts lowering_of put.0)
        (stands.imports ∙ sym (paths-push w.log e)) refl (none_more refl) refl refl refl refl refl
      where
        same : (a b : CoreValue Mark) → declared a ≡ declared b → a ≡ b
        same a b is = cc

    -- so it is where the reading is then
    lowered_point : (IsOrdered st.graph → IsOrdered lowered_in)
        → IsSigned st.types lowering_of (value.lowered p (of_type tree) os) → IsPut st.graph.trampolines ts lowering_of
        → (n : TrampolineIndex) → slice_get ts n.0 ≡ Some lowering_of → (f : Frame) (now : Moment)
        → PointStands t ms st f now
        → PointStands t ms lowered_to f (add_entry now (declared (value.lowered p (of_type tree) os)))
    lowered_point ordered signed put n at f now point = record {
      sound = record {
        ordered = ordered point.sound.ordered;
        items = items_same ms st.graph lowered_in grows refl (lowered_slots st.graph ts) refl refl refl point.sound.items;
        plain = record {
          adapter_modules = point.sound.plain.adapter_modules;
          adapter_partitionings = point.sound.plain.adapter_partitionings;
          unsafe_intrinsics = point.sound.plain.unsafe_intrinsics;
        };
        used = used_kept st.graph lowered_in grows refl st.paths.held st.used.items point.sound.used;
        numbers = point.sound.numbers;
        held = types_held st.types t st.graph lowered_in fits refl refl point.sound.held;
        table = point.sound.table;
        bodies = point.sound.bodies;
        names = point.sound.names;
        members = point.sound.members;
        instances = instances_kept ms (tables_of st) (tables_of lowered_to) lowered_keeps refl
            st.runtime_instances.items point.sound.instances;
        widths = widths_kept t ms st.runtime_instances.items st.graph lowered_in refl point.sound.widths;
        placed = placed_kept t ms st lowered_to lowered_keeps (kept_refl st.runtime_instances.items) refl
            point.sound.placed;
      };
      here = knows_grown st.graph st.types.resources now.scope point.here lowered_in fits;
      converted = point.converted;
      frame = frame_kept ms (tables_of st) (tables_of lowered_to) lowered_keeps f now.scope point.frame;
      world = lowered_world signed put n at now.world point.world;
      unexported = record { exports = point.unexported.exports; items = point.unexported.items };
    }

    -- and its number is that of a core function
    lowered_item : (n : TrampolineIndex) → slice_get ts n.0 ≡ Some lowering_of → (id : CoreId)
        → id.0 ≡ length st.cores
        → ItemStands ms (record (tables_of lowered_to) { cores = st.cores ++ def.Trampoline n ∷ [] }) core.Func id
        (value.lowered p (of_type tree) os)
    lowered_item n at id number = record {
      definition = def.Trampoline n;
      held = ap (slice_get (st.cores ++ def.Trampoline n ∷ [])) number
          ∙ slice_get-append_seam st.cores (def.Trampoline n) [];
      stands = lowered_stands n.0 at;
      usable = is_trampoline (slice_get_within ts n.0 _ at);
    }

    -- both, where the trampoline is in the table of core items
    lowered_both : (IsOrdered st.graph → IsOrdered lowered_in)
        → IsSigned st.types lowering_of (value.lowered p (of_type tree) os) → IsPut st.graph.trampolines ts lowering_of
        → (n : TrampolineIndex) → slice_get ts n.0 ≡ Some lowering_of → (id : CoreId) → id.0 ≡ length st.cores
        → (f : Frame) (now : Moment) → PointStands t ms st f now
        → IsLowered t ms (record lowered_to { cores = st.cores ++ def.Trampoline n ∷ [] }) id
        (value.lowered p (of_type tree) os) f now
    lowered_both ordered signed put n at id number f now point = record {
      point = point_kept t ms lowered_to (record lowered_to { cores = st.cores ++ def.Trampoline n ∷ [] })
          (core_prepares t ms lowered_to (def.Trampoline n)) f
          (add_entry now (declared (value.lowered p (of_type tree) os)))
          (lowered_point ordered signed put n at f now point);
      item = lowered_item n at id number;
    }

-- What the calls before the trampoline leave: the host item is used, and the options are an entry.
module _ (t : TypeTable) (ms : List ModuleRecord) (a b c : State) (p : Path) (r : RuntimeImportIndex)
    (keeps : Keeps (tables_of a) (tables_of b)) (uses : Uses t ms a b p r) (prepares : Prepares t ms b c) where
  used_point : (f : Frame) (now : Moment) → PointStands t ms a f now
      → PointStands t ms c f (add_entry now (needed p))
  used_point f now point =
      point_kept t ms b c prepares f (add_entry now (needed p)) (uses.stands f now point)

  used_path : HasPath c.graph r.0 p
  used_path = kept b.graph c.graph prepares.keeps.graph list.imports _ _ uses.path

  used_tree : (ty : TypeFuncIndex) (tree : TypeTree) → IsFunc ms (tables_of a) ty tree
      → IsFunc ms (tables_of c) ty tree
  used_tree ty tree func who fits =
      let both = keeps_trans (tables_of a) (tables_of b) (tables_of c) keeps prepares.keeps in
      tree_keeps a.types c.types both.types who (type.ComponentFunc ty) tree (func who (both.fits who fits))

  used_options : (options : OptionsOf) (os : Options Mark) → OptionsStand ms (tables_of a) options os
      → OptionsStand ms (tables_of b) options os
  used_options options os opts = options_still ms (tables_of a) (tables_of b) keeps options os opts

  used_signed : (options : OptionsOf) (os : Options Mark) → OptionsStand ms (tables_of a) options os → (ty : Mark)
      → (x : SignedTrampoline) → x.0 ≡ options.core_type → IsSigned c.types x (value.lowered p ty os)
  used_signed options os opts ty x same =
      lowering_signed ms (tables_of c) options p ty os x same
      (options_still ms (tables_of b) (tables_of c) prepares.keeps options os (used_options options os opts))

-- The whole lowering: then the trampoline has a number, and it is a core item.
module _ (t : TypeTable) (ms : List ModuleRecord) (a b c : State) (h : ComponentDfg) (r : RuntimeImportIndex)
    (ty : TypeFuncIndex) (options : OptionsOf) (o : OptionsId) (n : TrampolineIndex) where
  -- the graph that the trampoline leaves is the one with its trampolines
  lowers_one : (p : Path) (s : ModuleInternedTypeIndex) → s ≡ options.core_type → (d : State) (id : CoreId)
      → Keeps (tables_of a) (tables_of b) → Uses t ms a b p r → Prepares t ms b c
      → ((v : Options Mark) → OptionsStand ms (tables_of b) options v → EntryStands (tables_of c) o.0 v)
      → o.0 < length c.graph.options → graph.Grows c.graph h → h ≡ record c.graph { trampolines = h.trampolines }
      → (HeldTrampoline c.graph (trampoline_entry (s, trampoline.LowerImport r ty o)) → IsOrdered c.graph → IsOrdered h)
      → IsPut c.graph.trampolines h.trampolines (s, trampoline.LowerImport r ty o)
      → slice_get h.trampolines n.0 ≡ Some (s, trampoline.LowerImport r ty o) → id.0 ≡ length c.cores
      → d ≡ record c { graph = h; cores = c.cores ++ def.Trampoline n ∷ [] } → (f : Frame) (now : Moment)
      (tree : TypeTree) (os : Options Mark) → PointStands t ms a f now → IsFunc ms (tables_of a) ty tree
      → OptionsStand ms (tables_of a) options os
      → IsLowered t ms d id (value.lowered p (of_type tree) os) f
      (add_entry now (needed p))
  lowers_one p s of_options d id keeps uses prepares entry held grows rest ordered put at number is f now tree os point
      func opts =
      let path = used_path t ms a b c p r keeps uses prepares in
      subst (λ x. IsLowered t ms x id (value.lowered p (of_type tree) os) f
      (add_entry now (needed p)))
      (sym (is ∙ (λ j. record c { graph = rest j; cores = c.cores ++ def.Trampoline n ∷ [] })))
      (lowered_both t ms c h.trampolines s r ty o (subst (graph.Grows c.graph) rest grows) p tree os
      path (used_tree t ms a b c p r keeps uses prepares ty tree func)
      (entry os (used_options t ms a b c p r keeps uses prepares options os opts))
      (λ x. subst IsOrdered rest
      (ordered (lowering_held t ms c h.trampolines s r ty o p path held) x))
      (used_signed t ms a b c p r keeps uses prepares options os opts (of_type tree) (s, trampoline.LowerImport r ty o)
      of_options) put n at id number f (add_entry now (needed p))
      (used_point t ms a b c p r keeps uses prepares f now point))

  -- the answer is a core function that the host function is lowered to
  pub lowers_all : (s : ModuleInternedTypeIndex) → s ≡ options.core_type → (d : State)
      → (result : Result CoreId ItemError) → Keeps (tables_of a) (tables_of b) → (at : ℕ)
      → ((p : Path) → slice_get a.paths.held at ≡ Some p → Uses t ms a b p r) → Prepares t ms b c
      → ((v : Options Mark) → OptionsStand ms (tables_of b) options v → EntryStands (tables_of c) o.0 v)
      → o.0 < length c.graph.options → graph.Grows c.graph h → h ≡ record c.graph { trampolines = h.trampolines }
      → (HeldTrampoline c.graph (trampoline_entry (s, trampoline.LowerImport r ty o)) → IsOrdered c.graph → IsOrdered h)
      → IsPut c.graph.trampolines h.trampolines (s, trampoline.LowerImport r ty o)
      → slice_get h.trampolines n.0 ≡ Some (s, trampoline.LowerImport r ty o)
      → IfOk result (λ id. id.0 ≡ length c.cores)
      → OnOk result (d ≡ record c { graph = h; cores = c.cores ++ def.Trampoline n ∷ [] })
      → IfOk result (λ id. (p : Path) → slice_get a.paths.held at ≡ Some p → Lowers t ms a d p ty options id)
  unfolding Lowers
  lowers_all s of_options d (Err e) keeps at uses prepares entry held grows rest ordered put there number is = tt
  lowers_all s of_options d (Ok id) keeps at uses prepares entry held grows rest ordered put there number is =
      λ p path f now tree os point func opts.
      let l = lowers_one p s of_options d id keeps (uses p path) prepares entry held grows rest ordered put there number
      is f now tree os point func opts in (l.point, l.item)
