use Rattle.std.proofs.Common.{◌≡◌, ◌+◌, ◌++◌, ◌∷◌, [], List, take, sym, ap, subst, ◌∙◌, arith}
use Rattle.std.proofs.lemmas.List.{take_all}
use Rattle.pc_entity.specs.declared.string_pool.Atom.{Atom}
use Rattle.pc_entity.proofs.LookupLemmas.{done_here}
use Rattle.pc_local.specs.declared.item.LocalInitializer.{LocalInitializer}
use Rattle.pc_inline_names.specs.Lists.{Lists}
use Rattle.pc_inline_names.specs.Tables.{AreItemNumbers}
use Rattle.pc_inline_names.proofs.AddedLemmas.{Added, ItemNumbered, added_next, added_none, item_lasts}
use Rattle.pc_inline_names.proofs.bodies.add_items.Goals as goal

pub loop-item-init : goal.loop-item-init
loop-item-init c = record {
  added = subst (λ (ns : List (List Atom)). Added ItemNumbered c.args.texts.now [] c.args.texts.now ns)
      (sym (ap (λ (x : Lists). x.ended) c.new-lists.ensures))
      (added_none ItemNumbered c.args.texts.now c.requires.names);
  begun = ap (λ (x : Lists). x.open_list) c.new-lists.ensures;
}

pub make_item-requires-clause-begun : goal.make_item-requires-clause-begun
make_item-requires-clause-begun c = c.loop-item.invariant.begun

pub make_item-requires-clause-names : goal.make_item-requires-clause-names
make_item-requires-clause-names c = c.loop-item.invariant.added.adds.names

pub loop-item-preserved : goal.loop-item-preserved
loop-item-preserved c =
    let old = c.args.texts.now in
    let l = c.loop-item in
    let i = l.item-index in
    let ls = c.args.items.now in
    let x = c.item-item.result in
    let made = c.in_ok-make_item.ensures in
    let mid = c.make_item.new.lists in
    let new = c.make_item.new.texts in
    let ended = c.in_ok-end_list.ensures.ok in
    let longer : take (i + 1) ls ≡ take i ls ++ x ∷ [] = done_here ls i x c.loop-item-test.true c.item-item.is in
    record {
      added = subst (λ (ys : List LocalInitializer). Added ItemNumbered old ys new c.end_list.new.self.ended)
          (sym longer)
          (subst (λ (ns : List (List Atom)). Added ItemNumbered old (take i ls ++ x ∷ []) new ns)
          (sym (ap (λ (y : Lists). y.ended) ended
          ∙ ap (λ (ns : List (List Atom)). ns ++ mid.open_list ∷ []) made.numbers.ended))
          (added_next ItemNumbered item_lasts old (take i ls) l.texts l.lists.ended x mid.open_list new
          l.invariant.added made.adds made.numbers.numbers));
      begun = ap (λ (y : Lists). y.open_list) ended;
    }

pub returns-clause-adds : goal.returns-clause-adds
returns-clause-adds c = c.loop-item.invariant.added.adds

pub returns-clause-numbers : goal.returns-clause-numbers
returns-clause-numbers c =
    let ls = c.args.items.now in
    subst (λ (ys : List LocalInitializer). AreItemNumbers c.loop-item.texts ys c.loop-item.lists.ended)
    (take_all c.loop-item.item-index ls (omega arith)) c.loop-item.invariant.added.numbers
