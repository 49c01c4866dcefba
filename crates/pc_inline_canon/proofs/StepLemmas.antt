-- How the step of an item ends: where its row is stuck, where there is no room, and where it goes on.
use Rattle.std.proofs.Common.{◌≡◌, List, Result, Ok, Err, sym, subst}
use Rattle.std.specs.Prelude.{⊤}
use Rattle.std.specs.Result.{IsErrAnd}
use Rattle.pc_dfg.specs.declared.push_error.PushError.{PushError}
use Rattle.pc_dfg.specs.declared.push_error.PushError.TheVariants as push_error
use Rattle.pc_types.specs.declared.module_record.ModuleRecord.{ModuleRecord}
use Rattle.pc_types.specs.declared.parsed.TypeTable.{TypeTable}
use Rattle.pc_spec_reading.specs.Outcome.{Fault}
use Rattle.pc_spec_reading.specs.Scope.{Moment}
use Rattle.pc_inline_state.specs.declared.error.ItemError.{ItemError}
use Rattle.pc_inline_state.specs.declared.error.ItemError.TheVariants as item_error
use Rattle.pc_inline_state.specs.declared.error.ItemFault.{ItemFault}
use Rattle.pc_inline_state.specs.declared.frame.Frame.{Frame}
use Rattle.pc_inline_state.specs.declared.state.State.{State}
use Rattle.pc_inline_state.specs.Faults.{fault_of, of_push_error}
use Rattle.pc_inline_state.specs.Points.{Follows, Goes, IsFullSomewhere, PointStands, Steps}
use Rattle.pc_inline_state.specs.Refused.{LacksRoom}
use Rattle.pc_inline_state.specs.Tables.{tables_of}
use Rattle.pc_inline_state.proofs.RefusedLemmas.{push_lacks}

module _ (t : TypeTable) (ms : List ModuleRecord) where
  module _ (reads : Moment → Result Moment Fault) (st : State) (f : Frame) (st' : State) (f' : Frame) where
    -- the step ends with the fault of the reading
    pub steps_stuck : (k : ItemFault) → ((now : Moment) → PointStands t ms st f now → reads now ≡ Err (fault_of k))
        → Steps t ms reads st f st' f' (Err (item_error.Fault k))
    unfolding Steps Follows
    steps_stuck k stuck now at = stuck now at

    -- there was no memory
    pub steps_unfed : Steps t ms reads st f st' f' (Err item_error.NoMemory)
    unfolding Steps Follows
    steps_unfed now at = tt

    -- there was no room
    pub steps_crowded : (e : ItemError) → LacksRoom st' e → Steps t ms reads st f st' f' (Err e)
    unfolding Steps Follows LacksRoom
    steps_crowded (item_error.Fault k) lacks now at = absurd lacks
    steps_crowded item_error.TooMany lacks now at = lacks
    steps_crowded item_error.NoMemory lacks now at = lacks

    -- the step goes on with the reading
    pub steps_on : (r : ⊤) → ((now : Moment) → PointStands t ms st f now → Goes t ms st' f' (reads now))
        → Steps t ms reads st f st' f' (Ok r)
    unfolding Steps Follows
    steps_on r on now at = on now at

    -- want of memory, which was handed on
    pub steps_memory : (r : Result ⊤ ItemError) → IsErrAnd r (λ e. e ≡ item_error.NoMemory)
        → Steps t ms reads st f st' f' r
    steps_memory (Ok x) is = absurd is
    steps_memory (Err e) is = subst (λ (x : ItemError). Steps t ms reads st f st' f' (Err x)) (sym is) steps_unfed

    -- want of room, which was handed on
    pub steps_lacking : (r : Result ⊤ ItemError) (x : ItemError) → IsErrAnd r (λ e. e ≡ x) → LacksRoom st' x
        → Steps t ms reads st f st' f' r
    steps_lacking (Ok y) x is lacks = absurd is
    steps_lacking (Err e) x is lacks = steps_crowded e (subst (LacksRoom st') (sym is) lacks)

    -- no room in the graph
    pub steps_full : (r : Result ⊤ ItemError) (x : PushError) → IsErrAnd r (λ e. e ≡ of_push_error x)
        → (x ≡ push_error.TooMany → IsFullSomewhere (tables_of st')) → Steps t ms reads st f st' f' r
    steps_full (Ok y) x is full = absurd is
    steps_full (Err e) x is full = steps_crowded e (push_lacks {T = ⊤} (Err e) st' x is full)
