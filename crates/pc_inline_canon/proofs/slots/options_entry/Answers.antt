use Rattle.std.proofs.Common.{refl}
use Rattle.pc_dfg.specs.Lists as list
use Rattle.pc_inline_canon.proofs.EntryLemmas.{all_options, all_prepare, both_prepare, callback_options, entry_prepare}
use Rattle.pc_inline_canon.proofs.EntryLemmas.{model_options, post_return_options, there_later, there_then}
use Rattle.pc_inline_canon.proofs.OptionsEntryLemmas.{entry_after, entry_held}
use Rattle.pc_inline_canon.proofs.RoomLemmas.{list_lacks}
use Rattle.pc_inline_canon.proofs.slots.options_entry.Goals as goal

pub maybe_callback_slot-requires : goal.maybe_callback_slot-requires
maybe_callback_slot-requires c = record {
  sound = c.data_model.ensures.prepares.sound c.requires.sound;
  there = there_then c.data_model.ensures.prepares _ _ c.requires.there.callback;
}

pub maybe_post_return_slot-requires : goal.maybe_post_return_slot-requires
maybe_post_return_slot-requires c = record {
  sound = c.maybe_callback_slot.ensures.prepares.sound (c.data_model.ensures.prepares.sound c.requires.sound);
  there = search (there_later);
}

pub returns-in_err-callback-clause-prepares : goal.returns-in_err-callback-clause-prepares
returns-in_err-callback-clause-prepares c = search (both_prepare)

pub returns-in_err-post_return-clause-prepares : goal.returns-in_err-post_return-clause-prepares
returns-in_err-post_return-clause-prepares c = search (all_prepare)

pub returns-in_err-push_options-clause-prepares : goal.returns-in_err-push_options-clause-prepares
returns-in_err-push_options-clause-prepares c =
    let e = c.push_options.ensures in entry_prepare e.put e.grows e.rest e.ordered c.maybe_post_return_slot.ensures.prepares
    c.maybe_callback_slot.ensures.prepares c.data_model.ensures.prepares c.requires.there refl refl
    c.in_ok-data_model.ensures.held c.in_ok-callback.ensures.held c.in_ok-post_return.ensures.held

pub returns-in_err-push_options-clause-err : goal.returns-in_err-push_options-clause-err
returns-in_err-push_options-clause-err c =
    list_lacks list.options _ _ c.push_options.ensures.grows _ _ c.in_err-push_options.was
    c.push_options.ensures.full.0 _ c.from_residual-in_err-push_options.ensures.1

pub returns-clause-prepares : goal.returns-clause-prepares
returns-clause-prepares c =
    let e = c.push_options.ensures in entry_prepare e.put e.grows e.rest e.ordered c.maybe_post_return_slot.ensures.prepares
    c.maybe_callback_slot.ensures.prepares c.data_model.ensures.prepares c.requires.there refl refl
    c.in_ok-data_model.ensures.held c.in_ok-callback.ensures.held c.in_ok-post_return.ensures.held

pub returns-clause-entry : goal.returns-clause-entry
returns-clause-entry c =
    entry_after _ _ _ _ _ _ c.data_model.ensures.prepares c.maybe_callback_slot.ensures.prepares
    c.maybe_post_return_slot.ensures.prepares _ _ _ c.push_options.ensures.grows c.push_options.ensures.rest _
    c.in_ok-push_options.ensures.held refl refl refl refl c.in_ok-data_model.ensures.model
    c.in_ok-callback.ensures.slot c.in_ok-post_return.ensures.slot

pub returns-clause-held : goal.returns-clause-held
returns-clause-held c = entry_held c.push_options.new.self _ _ c.in_ok-push_options.ensures.held

pub returns-in_err-data_model-clause-adds : goal.returns-in_err-data_model-clause-adds
returns-in_err-data_model-clause-adds c = model_options c.data_model.ensures.adds

pub returns-in_err-callback-clause-adds : goal.returns-in_err-callback-clause-adds
returns-in_err-callback-clause-adds c = callback_options c.data_model.ensures.adds c.maybe_callback_slot.ensures.adds

pub returns-in_err-post_return-clause-adds : goal.returns-in_err-post_return-clause-adds
returns-in_err-post_return-clause-adds c = search (post_return_options)

pub returns-in_err-push_options-clause-adds : goal.returns-in_err-push_options-clause-adds
returns-in_err-push_options-clause-adds c = search (all_options)

pub returns-clause-adds : goal.returns-clause-adds
returns-clause-adds c = search (all_options)
