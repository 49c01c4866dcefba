-- A trampoline is put together again from what it is made of, so that two that are made of the same are one.
use Rattle.std.specs.Prelude.{◌≡◌, Option, Some, option_map, refl}
use Rattle.std.proofs.Common.{ap, sym, ◌∙◌}
use Rattle.std.proofs.lemmas.Option.{same_Some}
use Rattle.pc_types.specs.declared.trampoline.TrampolineKind.{TrampolineKind}
use Rattle.pc_types.specs.declared.trampoline.TrampolineKind.TheVariants as kind
use Rattle.pc_trampoline.specs.declared.part.Head.{Head}
use Rattle.pc_trampoline.specs.declared.part.Part.{Part}
use Rattle.pc_trampoline.specs.declared.part.PartList.{PartList}
use Rattle.pc_trampoline.specs.declared.trampoline.Trampoline.{Trampoline}
use Rattle.pc_trampoline.specs.declared.trampoline.Trampoline.TheVariants as trampoline
use Rattle.pc_trampoline.specs.Parts.{parts_of}
use Rattle.pc_trampoline.specs.Readers.{with_two, with_three, first_as, second_as, instance_in, lowering_in}
use Rattle.pc_trampoline.specs.Readers.{transcoding_in, trap_in, tuple_in, resource_in, stream_in, future_in}
use Rattle.pc_trampoline.specs.Readers.{error_context_in, number_in, flag_in, memory_in, maybe_memory_in, table_in}
use Rattle.pc_trampoline.specs.Readers.{callback_in, post_return_in, options_in}

module _ {L O M T C P : Type 0} where
  -- the trampoline of a kind, a head and parts, where these have what it needs
  made : TrampolineKind → Head L O → PartList (Part O M T C P) → Option (Trampoline L O M T C P)
  made kind.LowerImport h ps = option_map (λ x. trampoline.LowerImport x.0 x.1 x.2) (lowering_in h)
  made kind.ResourceNew h ps = with_two trampoline.ResourceNew (instance_in h) (first_as resource_in ps)
  made kind.ResourceRep h ps = with_two trampoline.ResourceRep (instance_in h) (first_as resource_in ps)
  made kind.ResourceDrop h ps = with_two trampoline.ResourceDrop (instance_in h) (first_as resource_in ps)
  made kind.BackpressureInc h ps = option_map trampoline.BackpressureInc (instance_in h)
  made kind.BackpressureDec h ps = option_map trampoline.BackpressureDec (instance_in h)
  made kind.TaskReturn h ps =
      with_three trampoline.TaskReturn (instance_in h) (first_as tuple_in ps) (second_as options_in ps)
  made kind.TaskCancel h ps = option_map trampoline.TaskCancel (instance_in h)
  made kind.WaitableSetNew h ps = option_map trampoline.WaitableSetNew (instance_in h)
  made kind.WaitableSetWait h ps = with_two trampoline.WaitableSetWait (instance_in h) (first_as options_in ps)
  made kind.WaitableSetPoll h ps = with_two trampoline.WaitableSetPoll (instance_in h) (first_as options_in ps)
  made kind.WaitableSetDrop h ps = option_map trampoline.WaitableSetDrop (instance_in h)
  made kind.WaitableJoin h ps = option_map trampoline.WaitableJoin (instance_in h)
  made kind.SubtaskDrop h ps = option_map trampoline.SubtaskDrop (instance_in h)
  made kind.SubtaskCancel h ps = with_two trampoline.SubtaskCancel (instance_in h) (first_as flag_in ps)
  made kind.StreamNew h ps = with_two trampoline.StreamNew (instance_in h) (first_as stream_in ps)
  made kind.StreamRead h ps =
      with_three trampoline.StreamRead (instance_in h) (first_as stream_in ps) (second_as options_in ps)
  made kind.StreamWrite h ps =
      with_three trampoline.StreamWrite (instance_in h) (first_as stream_in ps) (second_as options_in ps)
  made kind.StreamCancelRead h ps =
      with_three trampoline.StreamCancelRead (instance_in h) (first_as stream_in ps) (second_as flag_in ps)
  made kind.StreamCancelWrite h ps =
      with_three trampoline.StreamCancelWrite (instance_in h) (first_as stream_in ps) (second_as flag_in ps)
  made kind.StreamDropReadable h ps = with_two trampoline.StreamDropReadable (instance_in h) (first_as stream_in ps)
  made kind.StreamDropWritable h ps = with_two trampoline.StreamDropWritable (instance_in h) (first_as stream_in ps)
  made kind.FutureNew h ps = with_two trampoline.FutureNew (instance_in h) (first_as future_in ps)
  made kind.FutureRead h ps =
      with_three trampoline.FutureRead (instance_in h) (first_as future_in ps) (second_as options_in ps)
  made kind.FutureWrite h ps =
      with_three trampoline.FutureWrite (instance_in h) (first_as future_in ps) (second_as options_in ps)
  made kind.FutureCancelRead h ps =
      with_three trampoline.FutureCancelRead (instance_in h) (first_as future_in ps) (second_as flag_in ps)
  made kind.FutureCancelWrite h ps =
      with_three trampoline.FutureCancelWrite (instance_in h) (first_as future_in ps) (second_as flag_in ps)
  made kind.FutureDropReadable h ps = with_two trampoline.FutureDropReadable (instance_in h) (first_as future_in ps)
  made kind.FutureDropWritable h ps = with_two trampoline.FutureDropWritable (instance_in h) (first_as future_in ps)
  made kind.ErrorContextNew h ps =
      with_three trampoline.ErrorContextNew (instance_in h) (first_as error_context_in ps) (second_as options_in ps)
  made kind.ErrorContextDebugMessage h ps =
      with_three trampoline.ErrorContextDebugMessage (instance_in h)
      (first_as error_context_in ps) (second_as options_in ps)
  made kind.ErrorContextDrop h ps =
      with_two trampoline.ErrorContextDrop (instance_in h) (first_as error_context_in ps)
  made kind.ThreadIndex h ps = option_map trampoline.ThreadIndex (instance_in h)
  made kind.ThreadNewIndirect h ps =
      with_three (λ x n. trampoline.ThreadNewIndirect x (record { 0 = n })) (instance_in h)
      (first_as number_in ps) (second_as table_in ps)
  made kind.ThreadResumeLater h ps = option_map trampoline.ThreadResumeLater (instance_in h)
  made kind.ThreadSuspend h ps = option_map trampoline.ThreadSuspend (instance_in h)
  made kind.ThreadYield h ps = option_map trampoline.ThreadYield (instance_in h)
  made kind.ThreadSuspendThenResume h ps = option_map trampoline.ThreadSuspendThenResume (instance_in h)
  made kind.ThreadYieldThenResume h ps = option_map trampoline.ThreadYieldThenResume (instance_in h)
  made kind.ThreadSuspendThenPromote h ps = option_map trampoline.ThreadSuspendThenPromote (instance_in h)
  made kind.ThreadYieldThenPromote h ps = option_map trampoline.ThreadYieldThenPromote (instance_in h)
  made kind.Transcoder h ps =
      with_three (λ x from to. trampoline.Transcoder x.0 from x.1 to x.2) (transcoding_in h)
      (first_as memory_in ps) (second_as memory_in ps)
  made kind.ResourceTransferOwn h ps = Some trampoline.ResourceTransferOwn
  made kind.ResourceTransferBorrow h ps = Some trampoline.ResourceTransferBorrow
  made kind.PrepareCall h ps = option_map trampoline.PrepareCall (first_as maybe_memory_in ps)
  made kind.StartCall h ps = with_two trampoline.StartCall (first_as callback_in ps) (second_as post_return_in ps)
  made kind.FutureTransfer h ps = Some trampoline.FutureTransfer
  made kind.StreamTransfer h ps = Some trampoline.StreamTransfer
  made kind.ErrorContextTransfer h ps = Some trampoline.ErrorContextTransfer
  made kind.Trap h ps = option_map trampoline.Trap (trap_in h)
  made kind.EnterSyncCall h ps = Some trampoline.EnterSyncCall
  made kind.ExitSyncCall h ps = Some trampoline.ExitSyncCall

  -- what a trampoline is made of makes it
  made_again : (t : Trampoline L O M T C P) → made (parts_of t).kind (parts_of t).head (parts_of t).parts ≡ Some t
  unfolding parts_of made
  made_again (trampoline.LowerImport index lower_ty options) = refl
  made_again (trampoline.ResourceNew instance ty) = refl
  made_again (trampoline.ResourceRep instance ty) = refl
  made_again (trampoline.ResourceDrop instance ty) = refl
  made_again (trampoline.BackpressureInc instance) = refl
  made_again (trampoline.BackpressureDec instance) = refl
  made_again (trampoline.TaskReturn instance results options) = refl
  made_again (trampoline.TaskCancel instance) = refl
  made_again (trampoline.WaitableSetNew instance) = refl
  made_again (trampoline.WaitableSetWait instance options) = refl
  made_again (trampoline.WaitableSetPoll instance options) = refl
  made_again (trampoline.WaitableSetDrop instance) = refl
  made_again (trampoline.WaitableJoin instance) = refl
  made_again (trampoline.SubtaskDrop instance) = refl
  made_again (trampoline.SubtaskCancel instance async_) = refl
  made_again (trampoline.StreamNew instance ty) = refl
  made_again (trampoline.StreamRead instance ty options) = refl
  made_again (trampoline.StreamWrite instance ty options) = refl
  made_again (trampoline.StreamCancelRead instance ty async_) = refl
  made_again (trampoline.StreamCancelWrite instance ty async_) = refl
  made_again (trampoline.StreamDropReadable instance ty) = refl
  made_again (trampoline.StreamDropWritable instance ty) = refl
  made_again (trampoline.FutureNew instance ty) = refl
  made_again (trampoline.FutureRead instance ty options) = refl
  made_again (trampoline.FutureWrite instance ty options) = refl
  made_again (trampoline.FutureCancelRead instance ty async_) = refl
  made_again (trampoline.FutureCancelWrite instance ty async_) = refl
  made_again (trampoline.FutureDropReadable instance ty) = refl
  made_again (trampoline.FutureDropWritable instance ty) = refl
  made_again (trampoline.ErrorContextNew instance ty options) = refl
  made_again (trampoline.ErrorContextDebugMessage instance ty options) = refl
  made_again (trampoline.ErrorContextDrop instance ty) = refl
  made_again (trampoline.ThreadIndex instance) = refl
  made_again (trampoline.ThreadNewIndirect instance start_func_ty_idx start_func_table_idx) = refl
  made_again (trampoline.ThreadResumeLater instance) = refl
  made_again (trampoline.ThreadSuspend instance) = refl
  made_again (trampoline.ThreadYield instance) = refl
  made_again (trampoline.ThreadSuspendThenResume instance) = refl
  made_again (trampoline.ThreadYieldThenResume instance) = refl
  made_again (trampoline.ThreadSuspendThenPromote instance) = refl
  made_again (trampoline.ThreadYieldThenPromote instance) = refl
  made_again (trampoline.Transcoder op from from64 to to64) = refl
  made_again trampoline.ResourceTransferOwn = refl
  made_again trampoline.ResourceTransferBorrow = refl
  made_again (trampoline.PrepareCall memory) = refl
  made_again (trampoline.StartCall callback post_return) = refl
  made_again trampoline.FutureTransfer = refl
  made_again trampoline.StreamTransfer = refl
  made_again trampoline.ErrorContextTransfer = refl
  made_again (trampoline.Trap code) = refl
  made_again trampoline.EnterSyncCall = refl
  made_again trampoline.ExitSyncCall = refl

  -- two trampolines that are made of the same are one
  pub parts_tell : (s t : Trampoline L O M T C P) → parts_of s ≡ parts_of t → s ≡ t
  parts_tell s t h =
      same_Some s t (sym (made_again s) ∙ ap (λ p. made p.kind p.head p.parts) h ∙ made_again t)
