-- An unsafe intrinsic that becomes a core function: its signature in the graph, and where that leaves the reading.
use Rattle.std.proofs.Common.{◌≡◌, ◌<◌, ℕ, List, length, Some, Result, Ok, Err, arith, refl, sym, subst}
use Rattle.std.specs.Prelude.{IfOk, slice_get}
use Rattle.pc_entity.proofs.Growing.{kept_refl}
use Rattle.pc_numbers.specs.declared.module_entity.ModuleInternedTypeIndex.{ModuleInternedTypeIndex}
use Rattle.pc_types.specs.declared.intrinsic.UnsafeIntrinsic.{UnsafeIntrinsic}
use Rattle.pc_types.specs.declared.intrinsic.UnsafeIntrinsic.TheVariants as intrinsic
use Rattle.pc_types.specs.declared.module_record.ModuleRecord.{ModuleRecord}
use Rattle.pc_types.specs.declared.parsed.CoreFuncSig.{CoreFuncSig}
use Rattle.pc_types.specs.declared.parsed.CoreKind.TheVariants as core
use Rattle.pc_types.specs.declared.parsed.TypeTable.{TypeTable}
use Rattle.pc_types.specs.IntrinsicType.{intrinsic_place}
use Rattle.pc_spec_plan.specs.CoreValue as value
use Rattle.pc_spec_plan.specs.PlanView as plan
use Rattle.pc_spec_reading.specs.Scope.{Moment, with_core}
use Rattle.pc_spec_reading.specs.World.{with_intrinsic}
use Rattle.pc_dfg.specs.declared.core_def.CoreDef.{CoreDef}
use Rattle.pc_dfg.specs.declared.core_def.CoreDef.TheVariants as def
use Rattle.pc_dfg.specs.declared.dfg.ComponentDfg.{ComponentDfg}
use Rattle.pc_dfg.specs.Grows.{HasIntrinsic}
use Rattle.pc_dfg.specs.Means.{means_intrinsic}
use Rattle.pc_dfg.specs.Numbers.{slots_of}
use Rattle.pc_dfg.specs.Ordered.{IsOrdered}
use Rattle.pc_dfg.specs.Pushed.{first_signature, with_signature}
use Rattle.pc_dfg.specs.Pushed.{with_intrinsic as with_signed}
use Rattle.pc_inline_state.specs.declared.definition.CoreId.{CoreId}
use Rattle.pc_inline_state.specs.declared.error.ItemError.{ItemError}
use Rattle.pc_inline_state.specs.declared.frame.Frame.{Frame}
use Rattle.pc_inline_state.specs.declared.state.State.{State}
use Rattle.pc_inline_state.specs.Lists.{with_core_id}
use Rattle.pc_inline_state.specs.Points.{PointStands}
use Rattle.pc_inline_state.specs.Tables.{Keeps, is_intrinsic, tables_of}
use Rattle.pc_inline_state.proofs.InstanceLemmas.{instances_kept, widths_kept}
use Rattle.pc_inline_state.proofs.IntrinsicLemmas.{intrinsics_added}
use Rattle.pc_inline_state.proofs.KnowsLemmas.{knows_grown}
use Rattle.pc_inline_state.proofs.PlacedLemmas.{placed_kept}
use Rattle.pc_inline_state.proofs.StateLemmas.{types_refl}
use Rattle.pc_inline_canon.specs.Callees.{AddsIntrinsic}
use Rattle.pc_inline_canon.proofs.FrameLemmas.{core_framed, framed_point}
use Rattle.pc_inline_canon.proofs.ItemLemmas.{items_same, types_held, used_kept}
use Rattle.pc_inline_canon.proofs.KeptLemmas.{frame_kept}
use Rattle.pc_inline_canon.proofs.WorldLemmas.{world_moved}

-- the slots of a graph with other signatures of intrinsics
signed_slots : (g : ComponentDfg) (place : ℕ) (s : ModuleInternedTypeIndex) (k : plan.SlotKind)
    → slots_of (with_signature g place s) k ≡ slots_of g k
unfolding slots_of
signed_slots g place s plan.memory = refl
signed_slots g place s plan.table = refl
signed_slots g place s plan.realloc = refl
signed_slots g place s plan.callback = refl
signed_slots g place s plan.post_return = refl

-- each intrinsic has a place
place_below : (i : UnsafeIntrinsic) → intrinsic_place i < 21
place_below intrinsic.StoreDataAddress = omega arith
place_below i = omega arith

-- the moment in which an intrinsic was added
abbrev with_added : Moment → (place : ℕ) → CoreFuncSig → Moment
with_added now place signature =
    record now { world = with_intrinsic now.world (record { place = place; signature = signature }) }

-- An intrinsic was added to the graph, and a core item to the table.
module _ (st : State) (i : UnsafeIntrinsic) (s : ModuleInternedTypeIndex) (cores : List CoreDef) where
  -- the graph with the signature that stands
  abbrev signing : ComponentDfg
  signing = with_signed st.graph (intrinsic_place i) s

  -- the state then
  abbrev signed_to : State
  signed_to = record st { graph = signing; cores = cores }

  module _ (keeps : Keeps (tables_of st) (tables_of signed_to)) (ordered : IsOrdered st.graph → IsOrdered signing)
      (places : length signing.unsafe_intrinsics ≡ 21) where
    signed_point : (t : TypeTable) (ms : List ModuleRecord) (f : Frame) (now : Moment) (signature : CoreFuncSig)
        → PointStands t ms st f now → slice_get st.types.signatures s.0 ≡ Some signature
        → PointStands t ms signed_to f (with_added now (intrinsic_place i) signature)
    signed_point t ms f now signature at held = record {
      sound = record {
        ordered = ordered at.sound.ordered;
        items = items_same ms st.graph signing keeps.graph refl
            (signed_slots st.graph (intrinsic_place i) (first_signature (slice_get st.graph.unsafe_intrinsics (intrinsic_place i)) s)) refl refl
            refl at.sound.items;
        plain = record {
          adapter_modules = at.sound.plain.adapter_modules;
          adapter_partitionings = at.sound.plain.adapter_partitionings;
          unsafe_intrinsics = places;
        };
        used = used_kept st.graph signing keeps.graph refl st.paths.held st.used.items at.sound.used;
        numbers = at.sound.numbers;
        held = types_held st.types t st.graph signing keeps.fits refl refl at.sound.held;
        table = at.sound.table;
        bodies = at.sound.bodies;
        names = at.sound.names;
        members = at.sound.members;
        instances = instances_kept ms (tables_of st) (tables_of signed_to) keeps refl st.runtime_instances.items
            at.sound.instances;
        widths = widths_kept t ms st.runtime_instances.items st.graph signing refl at.sound.widths;
        placed = placed_kept t ms st signed_to keeps (kept_refl st.runtime_instances.items) refl at.sound.placed;
      };
      here = knows_grown st.graph st.types.resources now.scope at.here signing keeps.fits;
      converted = at.converted;
      frame = frame_kept ms (tables_of st) (tables_of signed_to) keeps f now.scope at.frame;
      world = world_moved st.types st.types st.graph signing (types_refl st.types) keeps.graph keeps.fits refl refl refl
          refl refl refl refl refl refl now.world at.world _
          (intrinsics_added st.types st.graph now.world.intrinsics at.world.intrinsics (intrinsic_place i) s signature
          held (subst (λ n. intrinsic_place i < n) (sym at.sound.plain.unsafe_intrinsics) (place_below i)));
      unexported = record { exports = at.unexported.exports; items = at.unexported.items };
    }

    signed_adds : (t : TypeTable) (ms : List ModuleRecord) (m : ModuleInternedTypeIndex) (id : CoreId)
        → slice_get cores id.0 ≡ Some (def.UnsafeIntrinsic m i) → HasIntrinsic signing (intrinsic_place i) m
        → AddsIntrinsic t ms st signed_to i s id
    unfolding AddsIntrinsic
    signed_adds t ms m id there has f now signature at held =
        let next = with_added now (intrinsic_place i) signature in
        let v = value.intrinsic (intrinsic_place i) in
        let point = signed_point t ms f now signature at held in
        framed_point t ms signed_to f (with_core_id f core.Func id) next (with_core now.scope core.Func v) point refl
        refl refl
        (core_framed ms (tables_of signed_to) f now.scope point.frame core.Func id v (record {
          definition = def.UnsafeIntrinsic m i;
          held = there;
          stands = record {
            numbered = value.intrinsic (intrinsic_place i);
            means = means_intrinsic;
            is = refl;
          };
          usable = is_intrinsic has;
        }))

    -- the same of a call, whatever it answers
    signed_call : (t : TypeTable) (ms : List ModuleRecord) (r : Result CoreId ItemError)
        → IfOk r (λ id. (m : ModuleInternedTypeIndex) × (slice_get cores id.0 ≡ Some (def.UnsafeIntrinsic m i))
        × HasIntrinsic signing (intrinsic_place i) m)
        → IfOk r (AddsIntrinsic t ms st signed_to i s)
    signed_call t ms (Err e) is = tt
    signed_call t ms (Ok id) is = signed_adds t ms is.0 id is.1 is.2

-- what the call leaves
pub intrinsic_added : (st : State) (i : UnsafeIntrinsic) (s : ModuleInternedTypeIndex) (d : State)
    (r : Result CoreId ItemError)
    → d ≡ record st { graph = with_signed st.graph (intrinsic_place i) s; cores = d.cores }
    → Keeps (tables_of st) (tables_of d) → (IsOrdered st.graph → IsOrdered d.graph)
    → length d.graph.unsafe_intrinsics ≡ 21
    → IfOk r (λ id. (m : ModuleInternedTypeIndex) × (slice_get d.cores id.0 ≡ Some (def.UnsafeIntrinsic m i))
    × HasIntrinsic d.graph (intrinsic_place i) m)
    → (t : TypeTable) (ms : List ModuleRecord) → IfOk r (AddsIntrinsic t ms st d i s)
intrinsic_added st i s d r rest keeps ordered places is t ms =
    subst (λ (x : State). IfOk r (AddsIntrinsic t ms st x i s)) (sym rest)
    (signed_call st i s d.cores (subst (λ (x : State). Keeps (tables_of st) (tables_of x)) rest keeps)
    (λ o. subst (λ (x : State). IsOrdered x.graph) rest (ordered o))
    (subst (λ (x : State). length x.graph.unsafe_intrinsics ≡ 21) rest places) t ms r
    (subst (λ (x : State). IfOk r (λ id. (m : ModuleInternedTypeIndex)
    × (slice_get x.cores id.0 ≡ Some (def.UnsafeIntrinsic m i)) × HasIntrinsic x.graph (intrinsic_place i) m)) rest is))
