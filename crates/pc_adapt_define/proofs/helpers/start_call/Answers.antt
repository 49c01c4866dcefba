use Rattle.std.specs.Prelude.{option_map}
use Rattle.pc_dfg.specs.declared.ids.CallbackId.{CallbackId}
use Rattle.pc_dfg.specs.Names.{if_any}
use Rattle.std.proofs.Common.{refl}
use Rattle.pc_adapt_define.proofs.OnlyLemmas.{only_twice}
use Rattle.pc_adapt_define.proofs.SlotLemmas.{behind_held, both_room, callback_stays}
use Rattle.pc_adapt_define.proofs.helpers.start_call.Goals as goal

pub post_return_slot-requires : goal.post_return_slot-requires
post_return_slot-requires c = record {
  held = behind_held _ _ (if_any c.args.callback) (if_any c.args.post_return) c.callback_slot.ensures.adds.grows
      c.requires.held;
}

pub returns-clause-helper : goal.returns-clause-helper
returns-clause-helper c = record {
  callback = c.in_ok-first.first;
  post_return = c.in_ok-second.second;
  is = refl;
  callback_at = callback_stays _ _ (option_map (λ (n : CallbackId). n.0) c.in_ok-first.first) c.args.callback
      c.post_return_slot.ensures.adds.grows c.in_ok-first.ensures.slot;
  post_return_at = c.in_ok-second.ensures.slot;
}

pub returns-clause-room : goal.returns-clause-room
returns-clause-room c =
    both_room _ c.callback_slot.new.graph c.args.callback c.args.post_return c.callback_slot.ensures.adds.grows
    c.in_ok-first.ensures.room c.in_ok-second.ensures.room

pub returns-clause-only : goal.returns-clause-only
returns-clause-only c =
    only_twice _ _ c.callback_slot.new.graph c.post_return_slot.new.graph
    (c.in_ok-first.ensures.only c.args.post_return) (c.in_ok-second.ensures.only c.args.callback)
