-- A builtin that is declared: its trampoline, and what it leaves of the state.
use Rattle.std.proofs.Common.{◌≡◌, inl, inr, ℕ, List, [], ◌∷◌, ◌++◌, All, length, map, Some, Result, Ok, Err, refl, sym}
use Rattle.std.proofs.Common.{ap, subst, ◌∙◌}
use Rattle.std.specs.Prelude.{IfOk, slice_get}
use Rattle.std.specs.List.{AllZip}
use Rattle.std.proofs.lemmas.List.{append-nil}
use Rattle.std.proofs.lemmas.List.Elements.{Contains-push, filter_map-append}
use Rattle.std.proofs.lemmas.Option.{slice_get_within}
use Rattle.pc_entity.proofs.Growing.{kept_refl}
use Rattle.pc_numbers.specs.declared.module_entity.ModuleInternedTypeIndex.{ModuleInternedTypeIndex}
use Rattle.pc_numbers.specs.declared.runtime.RuntimeComponentInstanceIndex.{RuntimeComponentInstanceIndex}
use Rattle.pc_numbers.specs.declared.runtime.RuntimeImportIndex.{RuntimeImportIndex}
use Rattle.pc_numbers.specs.declared.runtime.TrampolineIndex.{TrampolineIndex}
use Rattle.pc_types.specs.declared.module_record.ModuleRecord.{ModuleRecord}
use Rattle.pc_types.specs.declared.parsed.CoreFuncSig.{CoreFuncSig}
use Rattle.pc_types.specs.declared.parsed.CoreKind.TheVariants as core
use Rattle.pc_types.specs.declared.parsed.TypeTable.{TypeTable}
use Rattle.pc_types.specs.declared.trampoline.TrampolineKind.{TrampolineKind}
use Rattle.pc_spec_plan.specs.CoreValue as value
use Rattle.pc_spec_plan.specs.CoreValue.{CoreValue, map_parts}
use Rattle.pc_spec_plan.specs.Log.{declared, instances_of, owned_of, trace}
use Rattle.pc_spec_plan.specs.PlanView as plan
use Rattle.pc_trampoline.specs.declared.part.Head.TheVariants as front
use Rattle.pc_trampoline.specs.declared.part.Mark.TheVariants as mark
use Rattle.pc_trampoline.specs.declared.part.PartList.{PartList}
use Rattle.pc_trampoline.specs.Parts as taken
use Rattle.pc_trampoline.specs.Parts.{list_of, made_of}
use Rattle.pc_trampoline.specs.declared.trampoline.Trampoline.{Trampoline}
use Rattle.pc_trampoline.specs.View.{part_by, parts_entry}
use Rattle.pc_parsed.specs.Mark.{Mark, of_signature}
use Rattle.pc_spec_reading.specs.Scope.{Moment, add_entry}
use Rattle.pc_spec_reading.specs.World.{World, logging}
use Rattle.pc_dfg.specs.declared.core_def.CoreDef.{CoreDef}
use Rattle.pc_dfg.specs.declared.core_def.CoreDef.TheVariants as def
use Rattle.pc_dfg.specs.declared.dfg.ComponentDfg.{ComponentDfg}
use Rattle.pc_dfg.specs.declared.ids.CallbackId.{CallbackId}
use Rattle.pc_dfg.specs.declared.ids.MemoryId.{MemoryId}
use Rattle.pc_dfg.specs.declared.ids.OptionsId.{OptionsId}
use Rattle.pc_dfg.specs.declared.ids.PostReturnId.{PostReturnId}
use Rattle.pc_dfg.specs.declared.ids.TableId.{TableId}
use Rattle.pc_dfg.specs.Held.{HasBegun, HeldPart, HeldTrampoline}
use Rattle.pc_dfg.specs.Means.{MeansTrampoline, means_and_part, means_builtin, means_mark, means_trampoline}
use Rattle.pc_dfg.specs.Numbers.{SignedTrampoline, graph_numbers, slots_of, trampoline_entry}
use Rattle.pc_dfg.specs.Ordered.{IsOrdered}
use Rattle.pc_dfg.specs.Pushed.{IsPut}
use Rattle.pc_inline_state.specs.declared.definition.CoreId.{CoreId}
use Rattle.pc_inline_state.specs.declared.error.ItemError.{ItemError}
use Rattle.pc_inline_state.specs.declared.frame.Frame.{Frame}
use Rattle.pc_inline_state.specs.declared.state.State.{State}
use Rattle.pc_inline_state.specs.Fits.{Fits}
use Rattle.pc_inline_state.specs.Holds.{Holds, Numbered, number_of}
use Rattle.pc_inline_state.specs.Points.{PointStands}
use Rattle.pc_inline_state.specs.Stands.{CoreStands, ItemStands}
use Rattle.pc_inline_state.specs.Tables.{Keeps, is_trampoline, tables_of}
use Rattle.pc_inline_state.specs.Worlds.{EffectStands, HasTrampoline, IsDeclared, IsSigned, WorldStands}
use Rattle.pc_inline_state.proofs.AddsPushLemmas.{changes_few}
use Rattle.pc_inline_state.proofs.InstanceLemmas.{instances_kept, widths_kept}
use Rattle.pc_inline_state.proofs.KnowsLemmas.{knows_grown}
use Rattle.pc_inline_state.proofs.PlacedLemmas.{placed_kept}
use Rattle.pc_inline_state.proofs.StateLemmas.{types_refl}
use Rattle.pc_inline_state.proofs.ZipLemmas.{zip_more}
use Rattle.pc_inline_canon.proofs.ItemLemmas.{items_same, types_held, used_kept}
use Rattle.pc_inline_canon.proofs.KeptLemmas.{frame_kept}
use Rattle.pc_inline_canon.proofs.LogLemmas.{declared_on, none_more, paths-push, trace-push, world_on}
use Rattle.pc_inline_canon.proofs.SlotLemmas.{found_in_put}
use Rattle.pc_inline_canon.proofs.WorldLemmas.{effect_still}
use Rattle.pc_inline_builtins.specs.Made.{Declares, Part, PartStands, built}
use Rattle.pc_inline_builtins.specs.Reads.{ReadPart}
use Rattle.pc_inline_builtins.proofs.PartLemmas.{all_cons, part_kept, parts_mean}

-- a trampoline of a graph
abbrev Made : Type 0
Made = Trampoline RuntimeImportIndex OptionsId MemoryId TableId CallbackId PostReturnId

-- the slots of a graph with other trampolines
slots_same : (g : ComponentDfg) (ts : List SignedTrampoline) (k : plan.SlotKind)
    → slots_of (record g { trampolines = ts }) k ≡ slots_of g k
unfolding slots_of
slots_same g ts plan.memory = refl
slots_same g ts plan.table = refl
slots_same g ts plan.realloc = refl
slots_same g ts plan.callback = refl
slots_same g ts plan.post_return = refl

module _ (t : TypeTable) (ms : List ModuleRecord) (st : State) (ts : List SignedTrampoline) (cores : List CoreDef)
    (x : SignedTrampoline) (v : CoreValue Mark) where
  -- the graph with these trampolines
  abbrev with_it : ComponentDfg
  with_it = record st.graph { trampolines = ts }

  -- the state with that graph, and these core items
  abbrev next : State
  next = record st { graph = with_it; cores = cores }

  module _ (keeps : Keeps (tables_of st) (tables_of next)) (put : IsPut st.graph.trampolines ts x)
      (stands : (k : ℕ) → slice_get ts k ≡ Some x
      → CoreStands st.types with_it (def.Trampoline (record { 0 = k })) v)
      (signed : IsSigned st.types x v) (n : TrampolineIndex) (at : slice_get ts n.0 ≡ Some x) where
    -- the world in which it is declared
    declared_world : (w : World) → WorldStands st.types st.graph w
        → WorldStands st.types with_it (logging w (declared v))
    declared_world w world =
        let e = declared v in
        world_on st.types st.graph with_it keeps.graph keeps.fits w e world
        (subst (AllZip (EffectStands st.types with_it) st.graph.side_effects)
        (sym (trace-push w.log e ∙ append-nil (trace w.log)))
        (zip_more (EffectStands st.types st.graph) (EffectStands st.types with_it)
        (effect_still st.types st.types st.graph with_it (types_refl st.types) keeps.graph keeps.fits)
        st.graph.side_effects (trace w.log) world.effects))
        (ap length (filter_map-append owned_of w.log (e ∷ []) ∙ append-nil (instances_of w.log)) ∙ world.order)
        (λ k y found. elim (found_in_put st.graph.trampolines ts x put k y found)
        as (λ _. IsDeclared st.types with_it (w.log ++ e ∷ []) k y) [
          | inl before ↦ declared_on st.types st.graph with_it keeps.graph keeps.fits w e world k y before
          | inr here ↦ record {
            value = v;
            entry = Contains-push w.log e;
            stands = stands k (found ∙ ap Some (sym here));
            signed = subst (λ y. IsSigned st.types y v) here signed;
          }
        ])
        (λ w' is. subst (λ u. HasTrampoline st.types with_it u) (same v w' is)
        (record { trampoline = n; stands = stands n.0 at }))
        (changes_few st.graph.trampolines ts x put.0)
        (world.imports ∙ sym (paths-push w.log e)) refl (none_more refl) refl refl refl refl refl
      where
        same : (a b : CoreValue Mark) → declared a ≡ declared b → a ≡ b
        same a b is = cc

    -- so it is where the reading is then
    pub declared_point : (IsOrdered st.graph → IsOrdered with_it) → (f : Frame) (now : Moment)
        → PointStands t ms st f now → PointStands t ms next f (add_entry now (declared v))
    declared_point ordered f now point = record {
      sound = record {
        ordered = ordered point.sound.ordered;
        items = items_same ms st.graph with_it keeps.graph refl (slots_same st.graph ts) refl refl refl
            point.sound.items;
        plain = record {
          adapter_modules = point.sound.plain.adapter_modules;
          adapter_partitionings = point.sound.plain.adapter_partitionings;
          unsafe_intrinsics = point.sound.plain.unsafe_intrinsics;
        };
        used = used_kept st.graph with_it keeps.graph refl st.paths.held st.used.items point.sound.used;
        numbers = point.sound.numbers;
        held = types_held st.types t st.graph with_it keeps.fits refl refl point.sound.held;
        table = point.sound.table;
        bodies = point.sound.bodies;
        names = point.sound.names;
        members = point.sound.members;
        instances = instances_kept ms (tables_of st) (tables_of next) keeps refl st.runtime_instances.items
            point.sound.instances;
        widths = widths_kept t ms st.runtime_instances.items st.graph with_it refl point.sound.widths;
        placed = placed_kept t ms st next keeps (kept_refl st.runtime_instances.items) refl point.sound.placed;
      };
      here = knows_grown st.graph st.types.resources now.scope point.here with_it keeps.fits;
      converted = point.converted;
      frame = frame_kept ms (tables_of st) (tables_of next) keeps f now.scope point.frame;
      world = declared_world now.world point.world;
      unexported = record { exports = point.unexported.exports; items = point.unexported.items };
    }

    -- and its number is that of a core function
    pub declared_item : (id : CoreId) → slice_get cores id.0 ≡ Some (def.Trampoline n)
        → ItemStands ms (tables_of next) core.Func id v
    declared_item id held = record {
      definition = def.Trampoline n;
      held = held;
      stands = stands n.0 at;
      usable = is_trampoline (slice_get_within ts n.0 _ at);
    }

module _ (t : TypeTable) (ms : List ModuleRecord) (st : State) (k : TrampolineKind)
    (c : RuntimeComponentInstanceIndex) (core_type : ModuleInternedTypeIndex) (parts : PartList Part)
    (made : Made) (same : taken.parts_of made ≡ made_of k (front.Builtin c) parts) where
  -- the trampoline of a builtin with its core signature
  abbrev signed_made : SignedTrampoline
  signed_made = (core_type, made)

  -- what it names is held
  builtin_held : HasBegun st.graph c.0 → All (HeldPart st.graph) (map (part_by graph_numbers) (list_of parts))
      → HeldTrampoline st.graph (trampoline_entry signed_made)
  unfolding HeldTrampoline HeldPart
  builtin_held begun held =
      subst (λ p. HeldTrampoline st.graph (parts_entry graph_numbers core_type p)) (sym same) (
        begun,
        all_cons (tables_of st) (HeldPart st.graph) (plan.mark (mark.Signature core_type))
            (map (part_by graph_numbers) (list_of parts)) tt held,
      )

  module _ (ts : List SignedTrampoline) (cores : List CoreDef)
      (keeps : Keeps (tables_of st) (tables_of (next t ms st ts cores signed_made (value.flags 0))))
      (s : CoreFuncSig) (vs : List ReadPart) (at_type : slice_get st.types.signatures core_type.0 ≡ Some s)
      (zip : AllZip (PartStands (tables_of st)) (list_of parts) vs) where
    -- the state with it
    abbrev end : State
    end = next t ms st ts cores signed_made (value.flags 0)

    -- the core signature twice
    signature : Numbered st.types (Fits end.graph)
    unfolding Holds
    signature = record { number = mark.Signature core_type; whole = of_signature s; holds = at_type }

    -- each number of the trampoline stands for the builtin
    builtin_stands : (n : ℕ) → slice_get ts n ≡ Some signed_made
        → CoreStands st.types end.graph (def.Trampoline (record { 0 = n })) (built k c.0 s vs)
    unfolding signature
    builtin_stands n at =
        let m = parts_mean (tables_of end) (list_of parts) vs
        (zip_more (PartStands (tables_of st)) (PartStands (tables_of end))
        (part_kept (tables_of st) (tables_of end) keeps) (list_of parts) vs zip) in
        record {
          numbered = value.builtin k c.0 (value.and_part (value.mark_part signature) m.numbered);
          means = means_trampoline at
              (subst (λ p. MeansTrampoline end.graph (parts_entry graph_numbers core_type p)
              (value.builtin k c.0 (value.and_part (value.mark_part (mark.Signature core_type))
              (map_parts (number_of st.types (Fits end.graph)) m.numbered)))) (sym same)
              (means_builtin (means_and_part means_mark m.means)));
          is = λ i. value.builtin k c.0 (value.and_part (value.mark_part (of_signature s)) (m.is i));
        }

  -- what a call that declares it promises
  pub declares_all : (new : State) → HasBegun st.graph c.0
      → All (HeldPart st.graph) (map (part_by graph_numbers) (list_of parts))
      → Keeps (tables_of st) (tables_of new)
      → IsPut st.graph.trampolines new.graph.trampolines signed_made
      → (HeldTrampoline st.graph (trampoline_entry signed_made) → IsOrdered st.graph → IsOrdered new.graph)
      → new ≡ record st {
        graph = record st.graph { trampolines = new.graph.trampolines };
        cores = new.cores;
      }
      → (r : Result CoreId ItemError)
      → IfOk r (λ id. (n : TrampolineIndex) × (slice_get new.cores id.0 ≡ Some (def.Trampoline n))
      × (slice_get new.graph.trampolines n.0 ≡ Some signed_made))
      → IfOk r (Declares t ms st new k c core_type (list_of parts))
  unfolding Declares
  declares_all new begun held keeps put ordered rest (Err e) is = tt
  declares_all new begun held keeps put ordered rest (Ok id) is =
      λ f now s vs point at_type zip.
      let ts = new.graph.trampolines in
      let cs = new.cores in
      let v = built k c.0 s vs in
      let keeps' = subst (λ x. Keeps (tables_of st) (tables_of x)) rest keeps in
      let stands = builtin_stands ts cs keeps' s vs at_type zip in (
        subst (λ x. PointStands t ms x f (add_entry now (declared v))) (sym rest)
            (declared_point t ms st ts cs signed_made v keeps' put stands (s, at_type, refl) is.0 is.2
            (λ o. subst (λ (x : State). IsOrdered x.graph) rest (ordered (builtin_held begun held) o)) f now point),
        subst (λ x. ItemStands ms (tables_of x) core.Func id v) (sym rest)
            (declared_item t ms st ts cs signed_made v keeps' put stands (s, at_type, refl) is.0 is.2 id is.1),
      )
