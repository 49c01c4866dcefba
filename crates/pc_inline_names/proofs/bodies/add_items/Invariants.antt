use Rattle.std.proofs.Common.{◌≡◌, [], take}
use Rattle.pc_inline_names.proofs.AddedLemmas.{Added, ItemNumbered}
use Rattle.pc_inline_names.proofs.bodies.add_items.Given as goal

abbrev pub invariant-loop-item : goal.invariant-loop-item
invariant-loop-item l = record {
  added : Added ItemNumbered l.fn.texts (take l.item-index l.items) l.texts l.lists.ended;
  begun : l.lists.open_list ≡ [];
}
