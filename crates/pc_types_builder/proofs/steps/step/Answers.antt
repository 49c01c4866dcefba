use Rattle.std.proofs.Common.{◌∙◌, arith, subst, sym}
use Rattle.pc_types_lists.proofs.ErrorLemmas.{passed_on}
use Rattle.pc_types_convert.specs.Needed.{IsDone}
use Rattle.pc_types_convert.specs.Plain.{is_plain_entry}
use Rattle.pc_types_builder.proofs.AskedLemmas.{step_adds}
use Rattle.pc_types_builder.proofs.StepLemmas.{done_put, entry_wanted, front_held, kept_put, like_ready, notes_keep}
use Rattle.pc_types_builder.proofs.StepLemmas.{put_more, ready_front}
use Rattle.pc_types_builder.proofs.TreeLemmas.{converted_grows}
use Rattle.pc_types_builder.proofs.steps.step.Goals as goal

pub convert-requires-clause-ready : goal.convert-requires-clause-ready
convert-requires-clause-ready c =
    let at = c.entry_at-entry.ensures in
    ready_front c.args.table.now c.requires.sound _ _ _ c.args.k _ c.requires.converted.all c.in_front.ensures at
    (c.requires.parts _ at)

pub convert-requires-clause-held : goal.convert-requires-clause-held
convert-requires-clause-held c = front_held _ _ _ _ c.args.k c.requires.converted.all c.in_front.ensures

pub convert-requires-clause-like : goal.convert-requires-clause-like
convert-requires-clause-like c =
    like_ready _ c.args.table.now _ c.args.k _ _ c.requires.converted.like c.entry_at-entry.ensures c.like-like.ensures

pub returns-in_err-type_-clause-converted : goal.returns-in_err-type_-clause-converted
returns-in_err-type_-clause-converted c = converted_grows _ _ c.convert.ensures.grows _ _ c.requires.converted

pub returns-in_err-type_-clause-full : goal.returns-in_err-type_-clause-full
returns-in_err-type_-clause-full c =
    let e = c.from_residual in
    passed_on e.result c.in_err-type_.field-0.0 _ _ _ e.ensures.1 c.in_err-type_.ensures.full
    (λ next g is. entry_wanted next c.args.table.now c.args.converted.now.all _ c.args.k _ c.in_front.ensures
    c.entry_at-entry.ensures)

pub returns-in_err-named-clause-converted : goal.returns-in_err-named-clause-converted
returns-in_err-named-clause-converted c = converted_grows _ _ c.convert.ensures.grows _ _ c.requires.converted

pub returns-in_err-put-clause-converted : goal.returns-in_err-put-clause-converted
returns-in_err-put-clause-converted c =
    notes_keep c.args.table.now c.requires.sound _ _ _ _ c.args.k _ c.in_ok-type_.type_ c.entry_at-entry.ensures
    c.in_ok-type_.ensures.is c.in_err-put.ensures.err
    (converted_grows _ _ c.convert.ensures.grows _ _ c.requires.converted)

pub returns-in_err-put-clause-kept : goal.returns-in_err-put-clause-kept
returns-in_err-put-clause-kept c m h = subst (λ l. IsDone l m) (sym c.in_err-put.ensures.err.all) h

pub returns-clause-converted : goal.returns-clause-converted
returns-clause-converted c =
    let at = c.entry_at-entry.ensures in
    put_more c.args.table.now c.requires.sound _ c.args.converted.now _ _ c.args.k _ c.in_ok-type_.type_ at
    (c.requires.parts _ at) (converted_grows _ _ c.convert.ensures.grows _ _ c.requires.converted)
    c.in_front.ensures c.in_ok-type_.ensures.is _
    (c.is_plain-plain.ensures ∙ (λ i. is_plain_entry (c.done.ensures i).plain c.entry_at-entry.result.now))
    _ (λ own. c.as_slice.ensures.value ∙ c.in_ok-named.ensures own)
    c.in_ok-put.ensures.all c.in_ok-put.ensures.put c.in_ok-put.ensures.layered

pub returns-clause-done : goal.returns-clause-done
returns-clause-done c =
    done_put _ _ c.args.k _ c.in_ok-put.ensures.all (omega (arith, c.requires.there, c.requires.converted.all.room))

pub returns-clause-kept : goal.returns-clause-kept
returns-clause-kept c = kept_put _ _ c.args.k _ c.in_ok-put.ensures.all

pub returns-in_err-type_-clause-adds : goal.returns-in_err-type_-clause-adds
returns-in_err-type_-clause-adds c e at =
    step_adds c.args.table.now c.args.k _ e at c.entry_at-entry.ensures _ _ c.in_front.ensures _ _
    c.convert.ensures.adds

pub returns-in_err-named-clause-adds : goal.returns-in_err-named-clause-adds
returns-in_err-named-clause-adds c e at =
    step_adds c.args.table.now c.args.k _ e at c.entry_at-entry.ensures _ _ c.in_front.ensures _ _
    c.convert.ensures.adds

pub returns-in_err-put-clause-adds : goal.returns-in_err-put-clause-adds
returns-in_err-put-clause-adds c e at =
    step_adds c.args.table.now c.args.k _ e at c.entry_at-entry.ensures _ _ c.in_front.ensures _ _
    c.convert.ensures.adds

pub returns-clause-adds : goal.returns-clause-adds
returns-clause-adds c e at =
    step_adds c.args.table.now c.args.k _ e at c.entry_at-entry.ensures _ _ c.in_front.ensures _ _
    c.convert.ensures.adds
