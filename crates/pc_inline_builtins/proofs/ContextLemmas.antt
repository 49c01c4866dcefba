-- The step of a context slot: its core signature, and the intrinsic.
use Rattle.std.proofs.Common.{◌≡◌, ℕ, List, Option, None, Some, Result, Ok, Err, arith, length, refl, sym, subst}
use Rattle.std.specs.Prelude.{⊤, option_map, slice_get}
use Rattle.std.specs.Result.{IsErrAnd}
use Rattle.pc_numbers.specs.declared.module_entity.ModuleInternedTypeIndex.{ModuleInternedTypeIndex}
use Rattle.pc_types_builder.specs.Plain.{Layers}
use Rattle.pc_types.specs.declared.intrinsic.UnsafeIntrinsic.{UnsafeIntrinsic}
use Rattle.pc_types.specs.declared.module_record.ModuleRecord.{ModuleRecord}
use Rattle.pc_types.specs.declared.parsed.CoreKind.TheVariants as core
use Rattle.pc_types.specs.declared.parsed.TypeTable.{TypeTable}
use Rattle.pc_types.specs.IntrinsicType.{intrinsic_place}
use Rattle.pc_spec_reading.specs.Functions.{read_context, slot_place}
use Rattle.pc_spec_reading.specs.Item.{Access, Item, context_item}
use Rattle.pc_spec_reading.specs.Outcome.{bad_type, invalid}
use Rattle.pc_spec_reading.specs.Rows.{read_row}
use Rattle.pc_spec_reading.specs.Scope.{Moment, add_intrinsic}
use Rattle.pc_spec_reading.specs.Types.{signature_at}
use Rattle.pc_inline_state.specs.declared.definition.CoreId.{CoreId}
use Rattle.pc_inline_state.specs.declared.error.ItemError.{ItemError}
use Rattle.pc_inline_state.specs.declared.error.ItemError.TheVariants as item_error
use Rattle.pc_inline_state.specs.declared.error.ItemFault.TheVariants as item_fault
use Rattle.pc_inline_state.specs.declared.frame.Frame.{Frame}
use Rattle.pc_inline_state.specs.declared.state.State.{State}
use Rattle.pc_inline_state.specs.Adds.{Adds}
use Rattle.pc_inline_state.specs.AddsEach.{AddsEach, nowhere}
use Rattle.pc_inline_state.specs.Lists.{with_core_id}
use Rattle.pc_inline_state.specs.Points.{Goes, PointStands, StepsItem}
use Rattle.pc_inline_state.specs.Prepares.{Converts}
use Rattle.pc_inline_state.specs.Refused.{LacksRoomOr}
use Rattle.pc_inline_state.specs.Tables.{Tables}
use Rattle.pc_inline_state.specs.Typed.{IsSignature}
use Rattle.pc_inline_state.proofs.AddsLemmas.{adds_both, core_few}
use Rattle.pc_inline_canon.specs.Callees.{AddsIntrinsic}
use Rattle.pc_inline_canon.proofs.FrameLemmas.{converted_point}
use Rattle.pc_inline_canon.proofs.PassedLemmas.{steps_lacking, steps_passed}
use Rattle.pc_inline_canon.proofs.StepLemmas.{steps_on, steps_stuck}

module _ (t : TypeTable) (ms : List ModuleRecord) (access : Access) (signature n : ℕ) where
  abbrev slot : Item
  slot = context_item access signature n

  -- there is no such signature
  pub slot_lacks : (st : State) (f : Frame) (st' : State) (f' : Frame) (r : Result ⊤ ItemError) (e : ItemError)
      → IsErrAnd r (λ x. x ≡ e) → LacksRoomOr item_fault.BadType (slice_get t.core_funcs signature ≡ None) st' e
      → StepsItem t ms slot st f st' f' r
  unfolding read_row read_context signature_at
  slot_lacks st f st' f' r e is lacks =
      steps_passed t ms (λ now. read_row t ms now slot) st f st' f' r e is
      (steps_lacking t ms (λ now. read_row t ms now slot) st f st' f' item_fault.BadType
      (slice_get t.core_funcs signature ≡ None) e lacks
      (λ now at none. missing now none))
    where
      missing : (now : Moment) → slice_get t.core_funcs signature ≡ None → read_row t ms now slot ≡ Err bad_type
      missing now none = rw (none) refl

  module _ (st : State) (f : Frame) (mid : State) (converts : (done : Layers) → Converts t st done mid done)
      (core_type : ModuleInternedTypeIndex) (is_signature : IsSignature mid.types t signature core_type)
      (i : Option UnsafeIntrinsic) (is_place : option_map intrinsic_place i ≡ slot_place access n) where
    at_mid : (now : Moment) → PointStands t ms st f now → PointStands t ms mid f now
    at_mid now at = converted_point t ms st f mid f.converted (converts f.converted) now at

    -- what the call that adds it asks for
    pub slot_ready : ((now : Moment) × PointStands t ms st f now) → length mid.graph.unsafe_intrinsics ≡ 21
    slot_ready point = (at_mid point.0 point.1).sound.plain.unsafe_intrinsics

    -- there is no such slot
    pub slot_misses : i ≡ None → StepsItem t ms slot st f mid f (Err (item_error.Fault item_fault.Invalid))
    unfolding read_row read_context signature_at
    slot_misses none =
        steps_stuck t ms (λ now. read_row t ms now slot) st f mid f item_fault.Invalid
        (λ now at. missing now)
      where
        missing : (now : Moment) → read_row t ms now slot ≡ Err invalid
        missing now = rw (is_signature.1, sym is_place, none) refl

    module _ (x : UnsafeIntrinsic) (is : i ≡ Some x) where
      slot_read : (now : Moment)
          → read_row t ms now slot ≡ Ok (add_intrinsic now (intrinsic_place x) is_signature.0)
      unfolding read_row read_context signature_at
      slot_read now = rw (is_signature.1, sym is_place, is) refl

      -- it is a core function
      slot_goes : (end : State) (id : CoreId) → AddsIntrinsic t ms mid end x core_type id → (now : Moment)
          → PointStands t ms st f now → Goes t ms end (with_core_id f core.Func id) (read_row t ms now slot)
      unfolding AddsIntrinsic
      slot_goes end id adds now at =
          let went = adds f now is_signature.0 (at_mid now at) is_signature.2 in
          record {
            now = add_intrinsic now (intrinsic_place x) is_signature.0;
            stands = went;
            done = slot_read now;
          }

      pub slot_steps : (end : State) (id : CoreId) → AddsIntrinsic t ms mid end x core_type id → (f' : Frame)
          → f' ≡ with_core_id f core.Func id → (r : ⊤) → StepsItem t ms slot st f end f' (Ok r)
      slot_steps end id adds f' same r =
          subst (λ g. StepsItem t ms slot st f end g (Ok r)) (sym same)
          (steps_on t ms (λ now. read_row t ms now slot) st f end (with_core_id f core.Func id) r
          (λ now at. slot_goes end id adds now at))

-- a core signature, and then a core item
pub slot_adds : (t : TypeTable) {a b x : Tables} → Adds t 0 a b → AddsEach nowhere 1 0 b x → Adds t 4 a x
slot_adds t {a} {b} {x} first second = adds_both t 0 4 4 a b x (omega arith) first (core_few t b x second)
