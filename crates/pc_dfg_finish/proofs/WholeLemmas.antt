-- A plan whose side effects were done and whose exports were made is the plan of the graph.
use Rattle.std.proofs.Common.{◌≡◌, ◌<◌, ◌⊎◌, inl, inr, ◌≤◌, ◌+◌, ℕ, List, length, map, take, Contains, Option}
use Rattle.std.proofs.Common.{None, false, Some, refl, sym, ap, subst, ◌∙◌, arith}
use Rattle.std.specs.Prelude.{option_and_then, option_map, slice_get}
use Rattle.std.specs.List.{AllZip, filter_map}
use Rattle.std.proofs.lemmas.List.{length-map, take_all}
use Rattle.std.proofs.lemmas.List.Elements.{All-contains}
use Rattle.std.proofs.lemmas.Option.{same_Some, slice_get_within}
use Rattle.pc_entity.proofs.LookupLemmas.{found_at}
use Rattle.pc_entity.specs.declared.packed_option.PackedOption.TheVariants as packed
use Rattle.pc_entity.specs.PackedOption.{as_option}
use Rattle.pc_numbers.specs.declared.module_entity.ModuleInternedTypeIndex.{ModuleInternedTypeIndex}
use Rattle.pc_numbers.specs.declared.runtime.RuntimeImportIndex.{RuntimeImportIndex}
use Rattle.pc_numbers.specs.declared.runtime.TrampolineIndex.{TrampolineIndex}
use Rattle.pc_types.specs.declared.type_index.TypeModuleIndex.{TypeModuleIndex}
use Rattle.pc_types.specs.IntrinsicType.{intrinsic_place}
use Rattle.pc_names.specs.Contents.{Contents}
use Rattle.pc_spec_plan.specs.Counts.{own_counts}
use Rattle.pc_spec_plan.specs.ExportNode.{NamedNode}
use Rattle.pc_spec_plan.specs.Log.{Entry}
use Rattle.pc_spec_plan.specs.Machine.{RuntimeInstance, start}
use Rattle.pc_spec_plan.specs.PlanView as plan
use Rattle.pc_spec_plan.specs.PlanView.{Definition}
use Rattle.pc_trampoline.specs.declared.part.Mark.{Mark}
use Rattle.pc_trampoline.specs.Parts.{parts_of}
use Rattle.pc_trampoline.specs.View.{PlanTrampoline, parts_entry, plan_numbers}
use Rattle.pc_info.specs.declared.component.ComponentTranslation.{ComponentTranslation}
use Rattle.pc_info.specs.declared.export.Export.{Export as PlanItem}
use Rattle.pc_info.specs.declared.export.Export.TheVariants as item
use Rattle.pc_info.specs.declared.module.ModuleTranslation.{ModuleTranslation}
use Rattle.pc_info.specs.declared.options.CanonicalOptions.{CanonicalOptions as PlanOptions}
use Rattle.pc_info.specs.Options.{options_view}
use Rattle.pc_info.specs.View.{counts_view, view}
use Rattle.pc_dfg.specs.declared.core_def.CoreDef.TheVariants as def
use Rattle.pc_dfg.specs.declared.dfg.ComponentDfg.{ComponentDfg}
use Rattle.pc_dfg.specs.declared.instance.Resource.{Resource}
use Rattle.pc_dfg.specs.declared.instance.SideEffect.{SideEffect}
use Rattle.pc_dfg.specs.Effects.{EffectsMean, MeansEffect}
use Rattle.pc_dfg.specs.Held.{IsHeld}
use Rattle.pc_dfg.specs.Names.{in_effect}
use Rattle.pc_dfg.specs.Nodes.{ExportsMean}
use Rattle.pc_dfg.specs.Ordered.{IsOrdered, declared_by, made_in}
use Rattle.pc_dfg.specs.Told.{AreInterned, IsTold, Unsaid}
use Rattle.pc_dfg_linearize.specs.declared.id.Id.{Id}
use Rattle.pc_dfg_linearize.specs.declared.id.Id.TheVariants as id
use Rattle.pc_dfg_linearize.specs.declared.state.Finish.{Finish}
use Rattle.pc_info.specs.Apart.{AreApart}
use Rattle.pc_dfg_finish.specs.Apart.{IsOfAdapters}
use Rattle.pc_dfg_linearize.specs.Arguments.{OnlyFromThese}
use Rattle.pc_dfg_linearize.specs.Sound.{CountsSteps}
use Rattle.pc_dfg_finish.specs.Exports.{Exports, GoesFurther, Target, in_exports}
use Rattle.pc_dfg_linearize.specs.Entries.{options_in}
use Rattle.pc_dfg_finish.specs.Finishes.{Does, Finishes, IsOptionsOf, IsTrampolineOf, StandsForOne}
use Rattle.pc_info.specs.Slots.{IsUsed}
use Rattle.pc_dfg_linearize.specs.Made.{DoneBefore, declared_before, ids_in, ids_in_all}
use Rattle.pc_dfg_finish.specs.ModuleTypes.{module_mark}
use Rattle.pc_dfg_linearize.specs.Once.{Origin, number_in_run, of_instance, of_module}
use Rattle.pc_dfg_linearize.specs.Parts.{HasNumber, number_of, options_id, slot_id}
use Rattle.pc_dfg_linearize.specs.Represented.{StepsHave, definition_of}
use Rattle.pc_dfg_linearize.specs.Plan.{Extends, counted_slots, slot_count, steps_view}
use Rattle.pc_info.specs.Slots.{HasOptions, UsesLowering, UsesSlot, UsesTrampoline, slots_in}
use Rattle.pc_dfg_linearize.specs.Sound.{IsSound}
use Rattle.pc_info.specs.Standing.{AreNumberedBehind, IsMadeLate, Makes, Piece, a_trampoline, an_options_entry}
use Rattle.pc_info.specs.Standing.{is_side_effect}
use Rattle.pc_dfg_finish.specs.Instantiated.{AreInstantiated}
use Rattle.pc_dfg_finish.specs.Renumbered.{IsMadeOf, IsRenumbered}
use Rattle.pc_dfg_finish.specs.Uses.{IsFunction, UsesDefinition}
use Rattle.pc_dfg_finish.specs.Unnumbered.{unnumbered, unnumbered_options}
use Rattle.pc_dfg_finish.specs.Whole.{component_of, translation_of}
use Rattle.pc_dfg_linearize.specs.Wired.{IsWired}
use Rattle.pc_dfg_finish.proofs.AdapterOnceLemmas.{adapters_once}
use Rattle.pc_dfg_finish.proofs.ApartLemmas.{are_apart, is_of_adapters}
use Rattle.pc_dfg_finish.proofs.CopyLemmas.{same_options, same_trampoline}
use Rattle.pc_dfg_finish.proofs.ExportPieceLemmas.{all_exported, exported_piece}
use Rattle.pc_dfg_linearize.proofs.FillLemmas.{in_run}
use Rattle.pc_dfg_linearize.proofs.FullLemmas.{count_within}
use Rattle.pc_dfg_finish.proofs.HeadedLemmas.{few_headed, headed_alike}
use Rattle.pc_dfg_finish.proofs.InstantiatedLemmas.{continues_instantiated, module_instantiated}
use Rattle.pc_dfg_finish.proofs.LiftedLemmas.{exported_numbered, exported_options, lifted_within, made_of}
use Rattle.pc_dfg_finish.proofs.LoweringUseLemmas.{used_lowering}
use Rattle.pc_dfg_finish.proofs.OwnedLemmas.{run_owned}
use Rattle.pc_dfg_finish.proofs.RangeLemmas.{one_lowering, options_within_slots, trampoline_within_lowerings}
use Rattle.pc_dfg_finish.proofs.RangeLemmas.{trampoline_within_options, trampoline_within_slots}
use Rattle.pc_dfg_finish.proofs.SharedLemmas.{shared_options}
use Rattle.pc_dfg_finish.proofs.SlotApartLemmas.{slots_apart}
use Rattle.pc_dfg_finish.proofs.SlotUseLemmas.{IsDirect, slot_number, direct_defs, direct_exports, used_slot}
use Rattle.pc_dfg_finish.proofs.StageLemmas.{stages_still}
use Rattle.pc_dfg_finish.proofs.RiseLemmas.{rises}
use Rattle.pc_dfg_linearize.proofs.SoundLemmas.{continues_later}
use Rattle.pc_dfg_finish.proofs.StandingLemmas.{made_late}
use Rattle.pc_dfg_linearize.proofs.StepNameLemmas.{adds_keep, named_later}
use Rattle.pc_dfg_finish.proofs.DefinitionUseLemmas.{exported_definition, is_trampoline, used_definition}
use Rattle.pc_dfg_finish.proofs.TwiceLemmas.{trampolines_apart}
use Rattle.pc_dfg_finish.proofs.UsedLemmas.{NoOptions, no_defs, used_options}
use Rattle.pc_dfg_linearize.proofs.ValueLemmas.{held_means}

module _ (g : ComponentDfg) (ordered : IsOrdered g) (f : Finish) (done : DoneBefore g (length g.side_effects) f) where
  -- all side effects
  all_effects : take (length g.side_effects) g.side_effects ≡ g.side_effects
  all_effects = take_all (length g.side_effects) g.side_effects (omega arith)

  -- all core instances are made
  pub all_made : length f.instances ≡ length g.instances
  all_made = done.instances ∙ ap (λ l. length (made_in l)) all_effects ∙ ordered.instances.all

  -- all resources are declared
  all_declared : f.resources ≡ map (λ (r : Resource). r.instance) g.resources
  all_declared =
      let count : declared_before g (length g.side_effects) ≡ length g.resources =
      ap (λ (l : List SideEffect). length (filter_map declared_by l)) all_effects ∙ ordered.resources.all in
      done.resources ∙ ap (map (λ (r : Resource). r.instance)) (ap (λ n. take n g.resources) count
      ∙ take_all (length g.resources) g.resources (omega arith))

  -- what a side effect depends on is no options entry
  no_root : (x : Id) → Contains (ids_in_all g (take (length g.side_effects) g.side_effects)) x → NoOptions x
  no_root x inside =
      let from = made_of (ids_in g) (take (length g.side_effects) g.side_effects) x inside in
      All-contains NoOptions (ids_in g from.1) x (no_defs g (in_effect g from.1)) from.3

  direct_root : (x : Id) → Contains (ids_in_all g (take (length g.side_effects) g.side_effects)) x → IsDirect x
  direct_root x inside =
      let from = made_of (ids_in g) (take (length g.side_effects) g.side_effects) x inside in
      All-contains IsDirect (ids_in g from.1) x (direct_defs g (in_effect g from.1)) from.3

  module _ (h : Finish) (further : GoesFurther g f h) (types : List (Option TypeModuleIndex))
      (names : Contents (List ℕ) Target) (items : List PlanItem) (exports : Exports g types h names items)
      (interned : AreInterned g) (only : OnlyFromThese g f h (in_exports g g.export_items)) where
    -- the plan
    abbrev whole : ComponentTranslation
    whole = record { component = component_of g h names items; trampolines = h.trampolines }

    -- it counts its steps
    counted : CountsSteps h
    counted = further.continues.counts done.counts

    -- with modules it has what was made
    extends : (ms : List ModuleTranslation) → Extends g ms h (view whole ms)
    extends ms = record {
      has = record { handed_in = refl; adapter_modules = refl; adapters = refl; component_instances = refl };
      import_types = refl;
      imports = refl;
      imported = length-map g.imported_resources (λ (r : RuntimeImportIndex). r.0);
      options = λ n x at. at;
      trampolines = λ n x at. at;
      intrinsics = λ n m at. (m, at);
      instances = omega arith;
      lowerings = omega arith;
      slots = by;
      resources = let long = length-map g.imported_resources (λ (r : RuntimeImportIndex). r.0) in omega (arith, long);
    }
      where
        by : (k : plan.SlotKind) → slot_count h k ≤ counted_slots (view whole ms) k
        by plan.memory = omega arith
        by plan.table = omega arith
        by plan.realloc = omega arith
        by plan.callback = omega arith
        by plan.post_return = omega arith

    -- its run is that of the graph
    does : (ms : List ModuleTranslation) (trace : List (Entry Mark)) (nodes : List (NamedNode Mark)) → IsWired g ms
        → EffectsMean g trace → ExportsMean g (module_mark types) nodes → Does (view whole ms) trace nodes
    unfolding EffectsMean
    does ms trace nodes wired effects means =
        let p = view whole ms in
        let stands = done.stands ms trace wired (subst (λ l. AllZip (MeansEffect g) l trace) (sym all_effects)
        effects) in
        let grown = further.goes ms wired stands.state trace stands.reached in
        let reached = grown.reached in
        let runs = reached.runs p (extends ms) in
        let traced = reached.traced p (extends ms) in
        record {
          never_stuck = record {
            last = grown.state;
            nodes = nodes;
            runs = runs;
            ends = exports.nodes ms grown.state trace p nodes wired reached (extends ms) means;
          };
          traced = traced;
          instances = run_owned p (steps_view h) start grown.state trace runs traced;
          exports = refl;
        }

    -- where it ends, each trampoline resolves to what one of the graph means, under its signature
    meanings : (ms : List ModuleTranslation) (trace : List (Entry Mark)) (nodes : List (NamedNode Mark))
        (wired : IsWired g ms) (effects : EffectsMean g trace) (means : ExportsMean g (module_mark types) nodes) (n : ℕ)
        → n < length h.trampolines
        → StandsForOne g whole ms (does ms trace nodes wired effects means).never_stuck.last n
    unfolding EffectsMean IsHeld does
    meanings ms trace nodes wired effects means n within =
        let stands = done.stands ms trace wired (subst (λ l. AllZip (MeansEffect g) l trace) (sym all_effects)
        effects) in
        let grown = further.goes ms wired stands.state trace stands.reached in
        let given = (further.continues.fills done.fills).trampolines.given n within in
        let t : TrampolineIndex = record { 0 = given.0 } in
        let is = (further.continues.represents done.represents).trampolines given.0 n given.1 in
        let value = held_means g ordered (def.Trampoline t) (slice_get_within g.trampolines given.0 is.entry is.at) in
        record {
          trampoline = t;
          entry = is.entry;
          at = is.at;
          signature = is.signature;
          value = value.0;
          means = value.1;
          resolves = grown.reached.resolves.trampoline t n value.0 (view whole ms) given.1 value.1 (extends ms);
          headed = headed_alike g h given.0 n is (further.continues.represents done.represents);
        }

    -- no value stands there twice
    values_apart : (ms : List ModuleTranslation) (trace : List (Entry Mark)) (nodes : List (NamedNode Mark))
        (wired : IsWired g ms) (effects : EffectsMean g trace) (means : ExportsMean g (module_mark types) nodes)
        (u : Unsaid) → IsTold u g → AreApart (view whole ms) (does ms trace nodes wired effects means).never_stuck.last
    unfolding EffectsMean does
    values_apart ms trace nodes wired effects means u told =
        let stands = done.stands ms trace wired (subst (λ l. AllZip (MeansEffect g) l trace) (sym all_effects)
        effects) in
        let grown = further.goes ms wired stands.state trace stands.reached in
        are_apart g ordered h (further.continues.represents done.represents) (further.continues.fills done.fills)
        further.continues.fits interned u told ms grown.state trace (view whole ms) grown.reached (extends ms) refl refl

    -- an instance without a component instance is that of a module of adapters
    adapters : (ms : List ModuleTranslation) (trace : List (Entry Mark)) (nodes : List (NamedNode Mark))
        (wired : IsWired g ms) (effects : EffectsMean g trace) (means : ExportsMean g (module_mark types) nodes) (r : ℕ)
        (m : RuntimeInstance Mark)
        → slice_get (does ms trace nodes wired effects means).never_stuck.last.instances r ≡ Some m
        → m.component_instance ≡ None → IsOfAdapters g m.instantiation
    unfolding EffectsMean does
    adapters ms trace nodes wired effects means r m at unowned =
        let stands = done.stands ms trace wired (subst (λ l. AllZip (MeansEffect g) l trace) (sym all_effects)
        effects) in
        let grown = further.goes ms wired stands.state trace stands.reached in
        is_of_adapters g h grown.state grown.reached.placed (further.continues.fills done.fills) r m at unowned

    own : (ms : List ModuleTranslation)
        → counts_view whole.component ≡ own_counts (view whole ms) g.num_runtime_component_instances g.num_future_tables
        g.num_stream_tables g.num_error_context_tables
    own ms =
        let instances = sym counted.instances in
        let lowerings = sym counted.lowerings in
        let memories = sym (counted.slots plan.memory) in
        let tables = sym (counted.slots plan.table) in
        let reallocs = sym (counted.slots plan.realloc) in
        let callbacks = sym (counted.slots plan.callback) in
        let post_returns = sym (counted.slots plan.post_return) in
        let imported = sym (length-map g.imported_resources (λ (r : RuntimeImportIndex). r.0)) in
        let resources = sym counted.resources in
        λ i. record {
          runtime_instances = instances i;
          component_instances = g.num_runtime_component_instances;
          lowerings = lowerings i;
          memories = memories i;
          tables = tables i;
          reallocs = reallocs i;
          callbacks = callbacks i;
          post_returns = post_returns i;
          resources = imported i + resources i;
          future_tables = g.num_future_tables;
          stream_tables = g.num_stream_tables;
          error_context_tables = g.num_error_context_tables;
        }

    -- each options entry is one of the graph
    options_known : (n : ℕ) (o : PlanOptions) → slice_get h.options n ≡ Some o → IsOptionsOf g o
    unfolding IsOptionsOf
    options_known n o at =
        let fills = further.continues.fills done.fills in
        let represents = further.continues.represents done.represents in
        let given = fills.options.given n (slice_get_within h.options n o at) in
        let is = represents.options given.0 n given.1 in
        let same = same_Some o (options_in h is.entry) (sym at ∙ is.there) in (
          given.0,
          is.entry,
          is.at,
          ap (λ (x : PlanOptions). x.core_type) same,
          ap (λ (x : PlanOptions). unnumbered_options (options_view x)) same ∙ same_options h is.entry,
        )

    slots_counted : (k : plan.SlotKind) → slots_in (counts_view whole.component) k ≡ slot_count h k
    slots_counted plan.memory = refl
    slots_counted k = refl

    -- what the side effects depend on still has its number
    root_numbered : (x : Id) → Contains (ids_in_all g (take (length g.side_effects) g.side_effects)) x → HasNumber h x
    root_numbered x inside =
        further.continues.numbered x
        (All-contains (HasNumber f) (ids_in_all g (take (length g.side_effects) g.side_effects)) x done.here inside)

    -- each trampoline is one of the graph
    trampolines_known : (n : ℕ) (x : PlanTrampoline) → slice_get h.trampolines n ≡ Some x
        → IsTrampolineOf g (translation_of g h names items) n x
    unfolding IsTrampolineOf translation_of
    trampolines_known n x at =
        let fills = further.continues.fills done.fills in
        let represents = further.continues.represents done.represents in
        let given = fills.trampolines.given n (slice_get_within h.trampolines n x at) in
        let is = represents.trampolines given.0 n given.1 in
        let made : parts_of x ≡ parts_of is.made = ap parts_of (same_Some x is.made (sym at ∙ is.there)) in (
          given.0,
          is.entry,
          is.at,
          is.signature,
          ap (λ p. unnumbered (parts_entry plan_numbers is.entry.0 p)) (made ∙ is.is)
              ∙ same_trampoline h is.entry.0 (record { 0 = given.0 }) (parts_of is.entry.1),
        )

    -- each options entry is used by a trampoline or an exported function
    options_used : (n : ℕ) → n < length h.options → IsUsed (translation_of g h names items) n
    unfolding IsUsed translation_of number_of NoOptions
    options_used n within =
        let fills = further.continues.fills done.fills in
        let represents = further.continues.represents done.represents in
        let given = fills.options.given n within in
        let k = given.0 in
        elim (only (options_id k) (n, given.1)) [
          | inl before ↦
              let root = done.used (options_id k) before in
              elim (used_options g h represents root.0 k n (root_numbered root.0 root.1) root.2 given.1) [
                | inl same ↦ absurd (subst NoOptions same (no_root root.0 root.1))
                | inr taken ↦ inr taken
              ]
          | inr now ↦
              elim (used_options g h represents now.0 k n (exported_numbered g types h names items exports now.0 now.1)
              now.2 given.1) [
                | inl same ↦ inl (exported_options g types h names items exports k n
                    (subst (Contains (in_exports g g.export_items)) same now.1) given.1)
                | inr taken ↦ inr taken
              ]
        ]

    -- each slot is used by options or a trampoline
    slots_used : (k : plan.SlotKind) (n : ℕ) → n < slots_in (counts_view whole.component) k
        → UsesSlot (translation_of g h names items) k n
    unfolding UsesSlot translation_of
    slots_used k n within =
        let fills = further.continues.fills done.fills in
        let represents = further.continues.represents done.represents in
        let given = (fills.slots k).given n (subst (λ (c : ℕ). n < c) (slots_counted k) within) in
        let i = given.0 in
        elim (only (slot_id k i) (n, slot_number h k i ∙ given.1)) [
          | inl before ↦
              let root = done.used (slot_id k i) before in
              used_slot g h represents k i n given.1 root.0 (root_numbered root.0 root.1) (direct_root root.0 root.1)
              root.2
          | inr now ↦ used_slot g h represents k i n given.1 now.0
              (exported_numbered g types h names items exports now.0 now.1)
              (All-contains IsDirect (in_exports g g.export_items) now.0 (direct_exports g g.export_items) now.1) now.2
        ]

    -- each lowering is that of a trampoline
    lowerings_used : (n : ℕ) → n < h.counts.lowerings → UsesLowering (translation_of g h names items) n
    unfolding UsesLowering translation_of number_of
    lowerings_used n within =
        let fills = further.continues.fills done.fills in
        let represents = further.continues.represents done.represents in
        let given = fills.lowerings.given n within in
        let t : TrampolineIndex = record { 0 = given.0 } in
        elim (only (id.Lowering t) (n, given.1)) [
          | inl before ↦
              let root = done.used (id.Lowering t) before in
              used_lowering g h represents t n given.1 root.0 (root_numbered root.0 root.1) (direct_root root.0 root.1)
              root.2
          | inr now ↦ used_lowering g h represents t n given.1 now.0
              (exported_numbered g types h names items exports now.0 now.1)
              (All-contains IsDirect (in_exports g g.export_items) now.0 (direct_exports g g.export_items) now.1) now.2
        ]

    -- what an id with a number has become is named by a step or an exported function
    definition_used : (x : Id) (n : ℕ) (d : Definition) → number_of h x ≡ Some n → definition_of x n ≡ Some d
        → StepsHave h.steps d ⊎ ((k : ℕ) × (e : PlanItem) × (slice_get items k ≡ Some e) × IsFunction d e)
    definition_used x n d at becomes =
        let represents = further.continues.represents done.represents in
        let roots = ids_in_all g (take (length g.side_effects) g.side_effects) in
        elim (only x (n, at)) [
          | inl before ↦
              let root = done.used x before in
              elim (used_definition g h represents root.0 x n d (root_numbered root.0 root.1) root.2 at becomes) [
                | inl same ↦ inl (named_later f h further.continues.stay (adds_keep f h further.continues.steps) roots
                    done.here done.named root.0 n d root.1 same.0 same.1)
                | inr step ↦ inl step
              ]
          | inr now ↦
              elim (used_definition g h represents now.0 x n d
              (exported_numbered g types h names items exports now.0 now.1) now.2 at becomes) [
                | inl same ↦ inr (exported_definition g types h names items exports now.0 n d now.1 same.0 same.1)
                | inr step ↦ inl step
              ]
        ]

    -- so is each trampoline
    trampolines_used : (n : ℕ) → n < length h.trampolines → UsesTrampoline (translation_of g h names items) n
    unfolding UsesTrampoline translation_of number_of definition_of
    trampolines_used n within =
        let given = (further.continues.fills done.fills).trampolines.given n within in
        elim (definition_used (id.Trampoline (record { 0 = given.0 })) n (plan.trampoline n) given.1 refl) [
          | inl step ↦ inl step
          | inr item ↦ inr (item.0, item.1, item.2, is_trampoline n item.1 item.3)
        ]

    -- and each intrinsic that has a signature
    intrinsics_used : (n : ℕ) (s : ModuleInternedTypeIndex) → slice_get h.intrinsics n ≡ Some (packed.Some s)
        → UsesDefinition (translation_of g h names items) (plan.intrinsic n)
    unfolding UsesDefinition translation_of number_of definition_of
    intrinsics_used n s at =
        let i = (further.continues.represents done.represents).intrinsics n s at in
        let number : number_of h (id.Intrinsic s i.0) ≡ Some n =
        ap (λ k. option_map (λ (t : ModuleInternedTypeIndex). intrinsic_place i.0)
        (option_and_then as_option (slice_get h.intrinsics k))) i.1
        ∙ ap (λ o. option_map (λ (t : ModuleInternedTypeIndex). intrinsic_place i.0) (option_and_then as_option o)) at
        ∙ ap (λ k. Some k) i.1 in
        definition_used (id.Intrinsic s i.0) n (plan.intrinsic n) number refl

    -- what is named is there
    slots_filled : (k : plan.SlotKind) (n : ℕ) → UsesSlot (translation_of g h names items) k n
        → n < slots_in (counts_view whole.component) k
    unfolding UsesSlot translation_of
    slots_filled k n uses =
        let fills = further.continues.fills done.fills in
        let represents = further.continues.represents done.represents in
        subst (λ (c : ℕ). n < c) (sym (slots_counted k)) (elim uses [
          | inl o ↦ options_within_slots g h represents fills k n o.0 o.1 o.2 o.3
          | inr t ↦ trampoline_within_slots g h represents fills k n t.0 t.1 t.2 t.3
        ])

    imports_lowered : (n : ℕ) → UsesLowering (translation_of g h names items) n → n < h.counts.lowerings
    unfolding UsesLowering translation_of
    imports_lowered n t =
        trampoline_within_lowerings g h (further.continues.represents done.represents)
        (further.continues.fills done.fills) n t.0 t.1 t.2 t.3

    exports_within : (n k : ℕ) (e : PlanItem) → slice_get items k ≡ Some e → HasOptions n e → n < length h.options
    exports_within n k (item.LiftedFunction ty d o) at has =
        subst (λ (m : ℕ). m < length h.options) has
        (lifted_within g types h names items exports (further.continues.fills done.fills) k ty d o at)
    exports_within n k e at has = absurd has

    options_there : (n : ℕ) → IsUsed (translation_of g h names items) n → n < length h.options
    unfolding IsUsed translation_of
    options_there n used =
        elim used [
          | inl e ↦ exports_within n e.0 e.1 e.2 e.3
          | inr t ↦ trampoline_within_options g h (further.continues.represents done.represents)
              (further.continues.fills done.fills) n t.0 t.1 t.2 t.3
        ]

    -- each step is of the graph
    sound : IsSound g h
    sound = record {
      counts = counted;
      fills = further.continues.fills done.fills;
      represents = further.continues.represents done.represents;
      are_steps = further.continues.are_steps done.counts done.fills done.are_steps;
    }

    -- and stands as late as it can
    late : (i : ℕ) (s : plan.Initializer) (x : Piece) → slice_get (steps_view h) i ≡ Some s → is_side_effect s ≡ false
        → Makes (take i (steps_view h)) s x → IsMadeLate whole i x
    late =
        made_late g h sound names items f (continues_later g f h further.continues) done.counts done.fills done.ends
        (λ i s effect. stages_still g f h further.continues done.stages i s effect.0 effect.1)
        (in_exports g g.export_items) only (all_exported g types h names items exports)
        (exported_piece g types h names items exports)

    -- options entries and trampolines have their numbers after what they lead to
    numbered_behind : AreNumberedBehind whole an_options_entry × AreNumberedBehind whole a_trampoline
    numbered_behind =
        rises g h sound
        (further.continues.passed
        (record {
          counts = done.counts;
          fills = done.fills;
          represents = done.represents;
          are_steps = done.are_steps;
        })
        done.passed) names items

    -- its core instances are those of the graph and of its modules of adapters
    renumbered : AreInstantiated g f → IsRenumbered g whole
    renumbered instantiated = record {
      number_of = number_in_run h;
      given = (further.continues.fills done.fills).instances;
      all = λ k within.
          let there = found_at h.instances k (omega (arith, within, ap length further.continues.instances, all_made)) in
          (there.0.0, ap (option_map in_run) there.1);
      made = by;
    }
      where
        by : (x : Origin) (n : ℕ) → number_in_run h x ≡ Some n → IsMadeOf g (number_in_run h) (steps_view h) x n
        by (of_instance k) n is = continues_instantiated g f h further.continues instantiated k n is
        by (of_module m) n is = module_instantiated g h sound.are_steps m n is

    -- so it is the plan of the graph
    pub whole_finishes : AreInstantiated g f → Finishes g (module_mark types) (translation_of g h names items)
    unfolding translation_of
    whole_finishes instantiated = record {
      does = does;
      meanings = meanings;
      values_apart = values_apart;
      adapters = adapters;
      renumbered = renumbered instantiated;
      import_types = refl;
      imports = refl;
      imported_resources = refl;
      resources = further.continues.resources ∙ all_declared;
      counts = own;
      signatures = further.continues.fits.signatures;
      trampolines = trampolines_known;
      apart = λ i j s x at at'.
          trampolines_apart g h (further.continues.represents done.represents) (further.continues.fills done.fills)
          interned.trampolines i j s x at.0 at.1 at'.0 at'.1;
      few_trampolines =
          let within = count_within h.numbers.trampolines (length h.trampolines)
          (further.continues.fills done.fills).trampolines in
          omega (arith, within, further.continues.fits.trampolines);
      few_headed = few_headed g h (further.continues.represents done.represents) (further.continues.fills done.fills);
      names = exports.named.definitions;
      finds = exports.named.finds;
      items = exports.forms;
      held = exports.held;
      shared = shared_options g h (further.continues.represents done.represents) (further.continues.fills done.fills)
          interned.options;
      options = options_known;
      used = options_used;
      slots_used = slots_used;
      lowerings_used = lowerings_used;
      trampolines_used = trampolines_used;
      lowered_once = one_lowering g h (further.continues.represents done.represents)
          (further.continues.fills done.fills);
      adapters_once = adapters_once g h sound;
      carry = sound.are_steps.carry;
      slots_apart = slots_apart g h sound interned;
      late = late;
      options_rise = numbered_behind.0;
      trampolines_rise = numbered_behind.1;
      slots_filled = slots_filled;
      imports_lowered = imports_lowered;
      options_there = options_there;
      lifted = lifted_within g types h names items exports (further.continues.fills done.fills);
      intrinsics = (further.continues.represents done.represents).intrinsics;
      intrinsics_used = intrinsics_used;
    }
