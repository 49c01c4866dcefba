-- Steps that end with an error that a call handed on.
use Rattle.std.proofs.Common.{◌≡◌, List, Result, Ok, Err, sym, subst}
use Rattle.std.specs.Prelude.{⊤}
use Rattle.std.specs.Result.{IsErrAnd}
use Rattle.pc_types.specs.declared.module_record.ModuleRecord.{ModuleRecord}
use Rattle.pc_types.specs.declared.parsed.TypeTable.{TypeTable}
use Rattle.pc_spec_reading.specs.Outcome.{Fault}
use Rattle.pc_spec_reading.specs.Scope.{Moment}
use Rattle.pc_inline_state.specs.declared.error.ItemError.{ItemError}
use Rattle.pc_inline_state.specs.declared.error.ItemError.TheVariants as item_error
use Rattle.pc_inline_state.specs.declared.error.ItemFault.{ItemFault}
use Rattle.pc_inline_state.specs.declared.frame.Frame.{Frame}
use Rattle.pc_inline_state.specs.declared.state.State.{State}
use Rattle.pc_inline_state.specs.Faults.{fault_of}
use Rattle.pc_inline_state.specs.Points.{Follows, PointStands, Steps}
use Rattle.pc_inline_state.specs.Refused.{LacksRoom, LacksRoomOr}
use Rattle.pc_inline_canon.proofs.StepLemmas.{steps_crowded, steps_unfed}

module _ (t : TypeTable) (ms : List ModuleRecord) (reads : Moment → Result Moment Fault) (st : State) (f : Frame)
    (st' : State) (f' : Frame) where
  -- an error that has the cause of a fault, or for which there was no room
  pub steps_lacking : (k : ItemFault) (cause : Type 0) (e : ItemError) → LacksRoomOr k cause st' e
      → ((now : Moment) → PointStands t ms st f now → cause → reads now ≡ Err (fault_of k))
      → Steps t ms reads st f st' f' (Err e)
  unfolding Steps Follows LacksRoomOr
  steps_lacking k cause (item_error.Fault j) lacks stuck now at =
      subst (λ i. reads now ≡ Err (fault_of i)) (sym lacks.0) (stuck now at lacks.1)
  steps_lacking k cause item_error.TooMany lacks stuck now at = lacks
  steps_lacking k cause item_error.NoMemory lacks stuck now at = tt

  -- a result that hands on an error
  pub steps_passed : (r : Result ⊤ ItemError) (e : ItemError) → IsErrAnd r (λ x. x ≡ e)
      → Steps t ms reads st f st' f' (Err e) → Steps t ms reads st f st' f' r
  steps_passed (Ok x) e is h = absurd is
  steps_passed (Err x) e is h = subst (λ y. Steps t ms reads st f st' f' (Err y)) (sym is) h

  -- a call that lacked room
  pub passed_lacking : (r : Result ⊤ ItemError) (e : ItemError) → IsErrAnd r (λ x. x ≡ e) → LacksRoom st' e
      → Steps t ms reads st f st' f' r
  passed_lacking r e is lacks = steps_passed r e is (steps_crowded t ms reads st f st' f' e lacks)

  -- a call that lacked memory
  pub passed_unfed : (r : Result ⊤ ItemError) → IsErrAnd r (λ x. x ≡ item_error.NoMemory)
      → Steps t ms reads st f st' f' r
  passed_unfed r is = steps_passed r item_error.NoMemory is (steps_unfed t ms reads st f st' f')
