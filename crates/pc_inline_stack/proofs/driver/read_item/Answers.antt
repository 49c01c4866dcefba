use Rattle.pc_inline_stack.proofs.MovesLemmas.{plain_other}
use Rattle.pc_inline_stack.proofs.NamesLemmas.{call_numbered}
use Rattle.pc_inline_stack.proofs.driver.read_item.Goals as goal

pub enter-requires-clause-numbered : goal.enter-requires-clause-numbered
enter-requires-clause-numbered c =
    call_numbered _ _ _ _ _ c.in-ComponentInstantiate.is _ c.as_slice.ensures _ c.requires.numbered

pub advance-requires : goal.advance-requires
advance-requires c = record {
  input = c.requires.input;
  ready = c.requires.ready;
  sound = c.requires.sound;
  here = c.requires.here;
  item = c.requires.item;
  numbered = c.requires.numbered;
  plain = plain_other _ c.in_default.not-ComponentInstantiate;
  next = c.requires.next;
}
