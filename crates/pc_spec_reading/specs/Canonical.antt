-- From canonical functions to items. What no list may hold, as a function that starts a thread, gives none.
use Rattle.std.specs.Prelude.{ℕ, List, [], ◌∷◌, Option, Some, None}
use Rattle.pc_types.specs.declared.trampoline.TrampolineKind.TheVariants as kind
use Rattle.pc_types.specs.declared.trampoline.TrampolineKind.{TrampolineKind}
use Rattle.pc_parsed.specs.declared.canon.CanonItem.{CanonItem}
use Rattle.pc_parsed.specs.declared.canon.CanonItem.TheVariants as canon
use Rattle.pc_spec_reading.specs.Item

-- a builtin with its signature alone
abbrev pub plain : TrampolineKind → ℕ → Option Item.Item
plain k s = Some (Item.builtin_item k s [])

-- a builtin over a resource, a stream or a future
abbrev pub over_resource : TrampolineKind → ℕ → ℕ → Option Item.Item
over_resource k s id = Some (Item.builtin_item k s (Item.a_resource id ∷ []))

-- a builtin over a stream type, and what else it names
abbrev pub over_stream : TrampolineKind → ℕ → ℕ → List Item.Operand → Option Item.Item
over_stream k s ty more = Some (Item.builtin_item k s (Item.a_stream ty ∷ more))

-- the same over a future type
abbrev pub over_future : TrampolineKind → ℕ → ℕ → List Item.Operand → Option Item.Item
over_future k s ty more = Some (Item.builtin_item k s (Item.a_future ty ∷ more))

-- the item of a canonical function
unfoldable pub canonical_item : CanonItem → Option Item.Item
canonical_item (canon.Lift func ty s opts) = Some (Item.lift_item func ty s opts)
canonical_item (canon.Lower func ty s opts) = Some (Item.lower_item func ty s opts)
canonical_item (canon.ResourceNew s id) = over_resource kind.ResourceNew s id
canonical_item (canon.ResourceRep s id) = over_resource kind.ResourceRep s id
canonical_item (canon.ResourceDrop s id) = over_resource kind.ResourceDrop s id
canonical_item (canon.BackpressureInc s) = plain kind.BackpressureInc s
canonical_item (canon.BackpressureDec s) = plain kind.BackpressureDec s
canonical_item (canon.TaskCancel s) = plain kind.TaskCancel s
canonical_item (canon.WaitableSetNew s) = plain kind.WaitableSetNew s
canonical_item (canon.WaitableSetDrop s) = plain kind.WaitableSetDrop s
canonical_item (canon.WaitableJoin s) = plain kind.WaitableJoin s
canonical_item (canon.SubtaskDrop s) = plain kind.SubtaskDrop s
canonical_item (canon.ErrorContextDrop s) = Some (Item.error_context_item kind.ErrorContextDrop s None)
canonical_item (canon.ThreadIndex s) = plain kind.ThreadIndex s
canonical_item (canon.ThreadResumeLater s) = plain kind.ThreadResumeLater s
canonical_item (canon.ThreadSuspend s) = plain kind.ThreadSuspend s
canonical_item (canon.ThreadYield s) = plain kind.ThreadYield s
canonical_item (canon.ThreadSuspendThenResume s) = plain kind.ThreadSuspendThenResume s
canonical_item (canon.ThreadYieldThenResume s) = plain kind.ThreadYieldThenResume s
canonical_item (canon.ThreadSuspendThenPromote s) = plain kind.ThreadSuspendThenPromote s
canonical_item (canon.ThreadYieldThenPromote s) = plain kind.ThreadYieldThenPromote s
canonical_item (canon.TaskReturn s result opts) = Some (Item.task_return_item s result opts)
canonical_item (canon.WaitableSetWait s memory) = Some (Item.waitable_item kind.WaitableSetWait s memory)
canonical_item (canon.WaitableSetPoll s memory) = Some (Item.waitable_item kind.WaitableSetPoll s memory)
canonical_item (canon.SubtaskCancel s is_async) =
    Some (Item.builtin_item kind.SubtaskCancel s (Item.a_flag is_async ∷ []))
canonical_item (canon.StreamNew s ty) = over_stream kind.StreamNew s ty []
canonical_item (canon.StreamDropReadable s ty) = over_stream kind.StreamDropReadable s ty []
canonical_item (canon.StreamDropWritable s ty) = over_stream kind.StreamDropWritable s ty []
canonical_item (canon.FutureNew s ty) = over_future kind.FutureNew s ty []
canonical_item (canon.FutureDropReadable s ty) = over_future kind.FutureDropReadable s ty []
canonical_item (canon.FutureDropWritable s ty) = over_future kind.FutureDropWritable s ty []
canonical_item (canon.StreamRead s ty opts) = over_stream kind.StreamRead s ty (Item.the_options opts ∷ [])
canonical_item (canon.StreamWrite s ty opts) = over_stream kind.StreamWrite s ty (Item.the_options opts ∷ [])
canonical_item (canon.FutureRead s ty opts) = over_future kind.FutureRead s ty (Item.the_options opts ∷ [])
canonical_item (canon.FutureWrite s ty opts) = over_future kind.FutureWrite s ty (Item.the_options opts ∷ [])
canonical_item (canon.StreamCancelRead s ty is_async) =
    over_stream kind.StreamCancelRead s ty (Item.a_flag is_async ∷ [])
canonical_item (canon.StreamCancelWrite s ty is_async) =
    over_stream kind.StreamCancelWrite s ty (Item.a_flag is_async ∷ [])
canonical_item (canon.FutureCancelRead s ty is_async) =
    over_future kind.FutureCancelRead s ty (Item.a_flag is_async ∷ [])
canonical_item (canon.FutureCancelWrite s ty is_async) =
    over_future kind.FutureCancelWrite s ty (Item.a_flag is_async ∷ [])
canonical_item (canon.ErrorContextNew s opts) = Some (Item.error_context_item kind.ErrorContextNew s (Some opts))
canonical_item (canon.ErrorContextDebugMessage s opts) =
    Some (Item.error_context_item kind.ErrorContextDebugMessage s (Some opts))
canonical_item (canon.ContextGet s ty slot) = Some (Item.context_item Item.getting s slot)
canonical_item (canon.ContextSet s ty slot) = Some (Item.context_item Item.setting s slot)
canonical_item (canon.ThreadNewIndirect s start table) = Some (Item.new_thread_item s start table)
canonical_item canon.ThreadSpawnRef = None
canonical_item canon.ThreadSpawnIndirect = None
canonical_item canon.ThreadAvailableParallelism = None
canonical_item canon.StreamForward = None
canonical_item canon.FutureForward = None
