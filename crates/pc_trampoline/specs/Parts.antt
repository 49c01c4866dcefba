-- What each trampoline is made of.
use Rattle.std.specs.Prelude.{List, [], ◌∷◌}
use Rattle.pc_types.specs.declared.trampoline.TrampolineKind.{TrampolineKind}
use Rattle.pc_types.specs.declared.trampoline.TrampolineKind.TheVariants as kind
use Rattle.pc_types.specs.declared.type_index.TypeComponentLocalErrorContextTableIndex.{TypeComponentLocalErrorContextTableIndex}
use Rattle.pc_types.specs.declared.type_index.TypeFutureTableIndex.{TypeFutureTableIndex}
use Rattle.pc_types.specs.declared.type_index.TypeResourceTableIndex.{TypeResourceTableIndex}
use Rattle.pc_types.specs.declared.type_index.TypeStreamTableIndex.{TypeStreamTableIndex}
use Rattle.pc_types.specs.declared.type_index.TypeTupleIndex.{TypeTupleIndex}
use Rattle.pc_types.specs.declared.types.InterfaceType.TheVariants as interface
use Rattle.pc_types.specs.declared.types.TypeDef.TheVariants as def
use Rattle.pc_trampoline.specs.declared.part.Head.{Head}
use Rattle.pc_trampoline.specs.declared.part.Head.TheVariants as head
use Rattle.pc_trampoline.specs.declared.part.Part.{Part}
use Rattle.pc_trampoline.specs.declared.part.Part.TheVariants as part
use Rattle.pc_trampoline.specs.declared.part.PartList.{PartList}
use Rattle.pc_trampoline.specs.declared.part.PartList.TheVariants as list
use Rattle.pc_trampoline.specs.declared.part.Parts.{Parts}
use Rattle.pc_trampoline.specs.declared.trampoline.Trampoline.{Trampoline}
use Rattle.pc_trampoline.specs.declared.trampoline.Trampoline.TheVariants as trampoline

-- up to two parts as a list
abbrev pub list_of : {A : Type 0} → PartList A → List A
list_of list.Empty = []
list_of (list.One x) = x ∷ []
list_of (list.Two x y) = x ∷ y ∷ []

module _ {O M T C P : Type 0} where
  -- a tuple type as a part
  abbrev pub tuple_part : TypeTupleIndex → Part O M T C P
  tuple_part n = part.Type_ (def.Interface (interface.Tuple n))

  -- a resource as a part
  abbrev pub resource_part : TypeResourceTableIndex → Part O M T C P
  resource_part n = part.Type_ (def.Resource n)

  -- a stream type as a part
  abbrev pub stream_part : TypeStreamTableIndex → Part O M T C P
  stream_part n = part.Type_ (def.Interface (interface.Stream n))

  -- a future type as a part
  abbrev pub future_part : TypeFutureTableIndex → Part O M T C P
  future_part n = part.Type_ (def.Interface (interface.Future n))

  -- the error contexts of a component instance as a part
  abbrev pub error_context_part : TypeComponentLocalErrorContextTableIndex → Part O M T C P
  error_context_part n = part.Type_ (def.Interface (interface.ErrorContext n))

module _ {L O M T C P : Type 0} where
  -- a kind with what it is made of
  abbrev pub made_of : TrampolineKind → Head L O → PartList (Part O M T C P) → Parts L O M T C P
  made_of k h ps = record { kind = k; head = h; parts = ps }

  -- what a trampoline is made of
  unfoldable pub parts_of : Trampoline L O M T C P → Parts L O M T C P
  parts_of (trampoline.LowerImport index lower_ty options) =
      made_of kind.LowerImport (head.Lowering index lower_ty options) list.Empty
  parts_of (trampoline.ResourceNew instance ty) =
      made_of kind.ResourceNew (head.Builtin instance) (list.One (resource_part ty))
  parts_of (trampoline.ResourceRep instance ty) =
      made_of kind.ResourceRep (head.Builtin instance) (list.One (resource_part ty))
  parts_of (trampoline.ResourceDrop instance ty) =
      made_of kind.ResourceDrop (head.Builtin instance) (list.One (resource_part ty))
  parts_of (trampoline.BackpressureInc instance) = made_of kind.BackpressureInc (head.Builtin instance) list.Empty
  parts_of (trampoline.BackpressureDec instance) = made_of kind.BackpressureDec (head.Builtin instance) list.Empty
  parts_of (trampoline.TaskReturn instance results options) =
      made_of kind.TaskReturn (head.Builtin instance) (list.Two (tuple_part results) (part.Options options))
  parts_of (trampoline.TaskCancel instance) = made_of kind.TaskCancel (head.Builtin instance) list.Empty
  parts_of (trampoline.WaitableSetNew instance) = made_of kind.WaitableSetNew (head.Builtin instance) list.Empty
  parts_of (trampoline.WaitableSetWait instance options) =
      made_of kind.WaitableSetWait (head.Builtin instance) (list.One (part.Options options))
  parts_of (trampoline.WaitableSetPoll instance options) =
      made_of kind.WaitableSetPoll (head.Builtin instance) (list.One (part.Options options))
  parts_of (trampoline.WaitableSetDrop instance) = made_of kind.WaitableSetDrop (head.Builtin instance) list.Empty
  parts_of (trampoline.WaitableJoin instance) = made_of kind.WaitableJoin (head.Builtin instance) list.Empty
  parts_of (trampoline.SubtaskDrop instance) = made_of kind.SubtaskDrop (head.Builtin instance) list.Empty
  parts_of (trampoline.SubtaskCancel instance async_) =
      made_of kind.SubtaskCancel (head.Builtin instance) (list.One (part.Flag async_))
  parts_of (trampoline.StreamNew instance ty) =
      made_of kind.StreamNew (head.Builtin instance) (list.One (stream_part ty))
  parts_of (trampoline.StreamRead instance ty options) =
      made_of kind.StreamRead (head.Builtin instance) (list.Two (stream_part ty) (part.Options options))
  parts_of (trampoline.StreamWrite instance ty options) =
      made_of kind.StreamWrite (head.Builtin instance) (list.Two (stream_part ty) (part.Options options))
  parts_of (trampoline.StreamCancelRead instance ty async_) =
      made_of kind.StreamCancelRead (head.Builtin instance) (list.Two (stream_part ty) (part.Flag async_))
  parts_of (trampoline.StreamCancelWrite instance ty async_) =
      made_of kind.StreamCancelWrite (head.Builtin instance) (list.Two (stream_part ty) (part.Flag async_))
  parts_of (trampoline.StreamDropReadable instance ty) =
      made_of kind.StreamDropReadable (head.Builtin instance) (list.One (stream_part ty))
  parts_of (trampoline.StreamDropWritable instance ty) =
      made_of kind.StreamDropWritable (head.Builtin instance) (list.One (stream_part ty))
  parts_of (trampoline.FutureNew instance ty) =
      made_of kind.FutureNew (head.Builtin instance) (list.One (future_part ty))
  parts_of (trampoline.FutureRead instance ty options) =
      made_of kind.FutureRead (head.Builtin instance) (list.Two (future_part ty) (part.Options options))
  parts_of (trampoline.FutureWrite instance ty options) =
      made_of kind.FutureWrite (head.Builtin instance) (list.Two (future_part ty) (part.Options options))
  parts_of (trampoline.FutureCancelRead instance ty async_) =
      made_of kind.FutureCancelRead (head.Builtin instance) (list.Two (future_part ty) (part.Flag async_))
  parts_of (trampoline.FutureCancelWrite instance ty async_) =
      made_of kind.FutureCancelWrite (head.Builtin instance) (list.Two (future_part ty) (part.Flag async_))
  parts_of (trampoline.FutureDropReadable instance ty) =
      made_of kind.FutureDropReadable (head.Builtin instance) (list.One (future_part ty))
  parts_of (trampoline.FutureDropWritable instance ty) =
      made_of kind.FutureDropWritable (head.Builtin instance) (list.One (future_part ty))
  parts_of (trampoline.ErrorContextNew instance ty options) =
      made_of kind.ErrorContextNew (head.Builtin instance) (list.Two (error_context_part ty) (part.Options options))
  parts_of (trampoline.ErrorContextDebugMessage instance ty options) =
      made_of kind.ErrorContextDebugMessage (head.Builtin instance)
      (list.Two (error_context_part ty) (part.Options options))
  parts_of (trampoline.ErrorContextDrop instance ty) =
      made_of kind.ErrorContextDrop (head.Builtin instance) (list.One (error_context_part ty))
  parts_of (trampoline.ThreadIndex instance) = made_of kind.ThreadIndex (head.Builtin instance) list.Empty
  parts_of (trampoline.ThreadNewIndirect instance start_func_ty_idx start_func_table_idx) =
      made_of kind.ThreadNewIndirect (head.Builtin instance)
      (list.Two (part.Number start_func_ty_idx.0) (part.Table start_func_table_idx))
  parts_of (trampoline.ThreadResumeLater instance) =
      made_of kind.ThreadResumeLater (head.Builtin instance) list.Empty
  parts_of (trampoline.ThreadSuspend instance) = made_of kind.ThreadSuspend (head.Builtin instance) list.Empty
  parts_of (trampoline.ThreadYield instance) = made_of kind.ThreadYield (head.Builtin instance) list.Empty
  parts_of (trampoline.ThreadSuspendThenResume instance) =
      made_of kind.ThreadSuspendThenResume (head.Builtin instance) list.Empty
  parts_of (trampoline.ThreadYieldThenResume instance) =
      made_of kind.ThreadYieldThenResume (head.Builtin instance) list.Empty
  parts_of (trampoline.ThreadSuspendThenPromote instance) =
      made_of kind.ThreadSuspendThenPromote (head.Builtin instance) list.Empty
  parts_of (trampoline.ThreadYieldThenPromote instance) =
      made_of kind.ThreadYieldThenPromote (head.Builtin instance) list.Empty
  parts_of (trampoline.Transcoder op from from64 to to64) =
      made_of kind.Transcoder (head.Transcoding op from64 to64) (list.Two (part.Memory from) (part.Memory to))
  parts_of trampoline.ResourceTransferOwn = made_of kind.ResourceTransferOwn head.Helper list.Empty
  parts_of trampoline.ResourceTransferBorrow = made_of kind.ResourceTransferBorrow head.Helper list.Empty
  parts_of (trampoline.PrepareCall memory) =
      made_of kind.PrepareCall head.Helper (list.One (part.MaybeMemory memory))
  parts_of (trampoline.StartCall callback post_return) =
      made_of kind.StartCall head.Helper (list.Two (part.Callback callback) (part.PostReturn post_return))
  parts_of trampoline.FutureTransfer = made_of kind.FutureTransfer head.Helper list.Empty
  parts_of trampoline.StreamTransfer = made_of kind.StreamTransfer head.Helper list.Empty
  parts_of trampoline.ErrorContextTransfer = made_of kind.ErrorContextTransfer head.Helper list.Empty
  parts_of (trampoline.Trap code) = made_of kind.Trap (head.Trapping code) list.Empty
  parts_of trampoline.EnterSyncCall = made_of kind.EnterSyncCall head.Helper list.Empty
  parts_of trampoline.ExitSyncCall = made_of kind.ExitSyncCall head.Helper list.Empty
