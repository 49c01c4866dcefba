use Rattle.std.proofs.Common.{List, map, subst}
use Rattle.pc_local.specs.declared.item.LocalInitializer.{LocalInitializer}
use Rattle.pc_local.specs.Sound.{export_name}
use Rattle.pc_inline_names.specs.Numbers.{AreNumbersOf}
use Rattle.pc_inline_names.specs.Tables.{AreItemNumbers}
use Rattle.pc_inline_names.proofs.AddedLemmas.{ItemNumbered, item_lasts, zip_lasts}
use Rattle.pc_inline_names.proofs.bodies.add_body.Goals as goal

pub returns-clause-numbers : goal.returns-clause-numbers
returns-clause-numbers c =
    let mid = c.add_items.new.texts in
    let new = c.add_all.new.texts in
    let tr = c.args.body.now in
    let items = c.in_ok-items.items in
    let exports = c.in_ok-exports.exports in
    record {
      items = zip_lasts ItemNumbered item_lasts mid new c.in_ok-exports.ensures.adds.kept tr.initializers items.ended
          (subst (λ (ls : List LocalInitializer). AreItemNumbers mid ls items.ended) c.as_slice.ensures
          c.in_ok-items.ensures.numbers);
      exports = subst (λ xs. AreNumbersOf new (map export_name xs) exports) c.as_slice-2.ensures
          c.in_ok-exports.ensures.numbers;
    }
