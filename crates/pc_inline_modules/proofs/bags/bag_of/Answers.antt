use Rattle.std.proofs.Common.{◌<◌, ℕ, List, [], ◌∷◌, ◌++◌, Some, None, take, length, get_or, refl, ap, sym, subst, ◌∙◌, arith}
use Rattle.std.proofs.lemmas.Option.{slice_get-get_or, slice_get_past, slice_get_read}
use Rattle.std.proofs.lemmas.List.{take_all}
use Rattle.pc_entity.specs.declared.string_pool.Atom.{Atom}
use Rattle.pc_entity.specs.Lists.{map_all}
use Rattle.pc_entity.proofs.LookupLemmas.{done_here}
use Rattle.pc_numbers.specs.declared.entity_index.EntityIndex.{EntityIndex}
use Rattle.pc_spec_reading.specs.Modules.{bag_entry}
use Rattle.pc_inline_names.specs.Both.{Both, both, neither}
use Rattle.pc_inline_names.specs.Numbers.{IsNumber, SameNamed, with_first_number}
use Rattle.pc_inline_names.proofs.NumberedLemmas.{numbers_each}
use Rattle.pc_inline_state.specs.Frames.{BagItemStands}
use Rattle.pc_inline_modules.proofs.BagLemmas.{bag_first, entry_missing, entry_there, map_all_missing}
use Rattle.pc_inline_modules.proofs.ModuleArgumentsLemmas.{read_both}
use Rattle.pc_inline_modules.proofs.bags.bag_of.Goals as goal

pub bounds-numbers-place : goal.bounds-numbers-place
bounds-numbers-place c =
    let within : c.loop-place.place < length c.args.items.now = omega (arith, c.loop-place-test.true) in
    let many = c.requires.many in
    omega (arith, within, many)

pub returns-in_default : goal.returns-in_default
returns-in_default c b s stands distinct numbered =
    let ms = c.args.context.now.modules in
    let within : c.loop-place.place < length c.args.items.now = omega (arith, c.loop-place-test.true) in
    let at = slice_get-get_or c.args.items.now c.loop-place.place _ within ∙ ap Some (sym c.index-items-place.is) in
    let missing = entry_missing ms b c.args.frame.now s stands c.index-items-place.result _ _ _ c.of-kind.ensures
    c.core_ids.ensures c.entity_number.ensures (slice_get_past _ _ c.in_default.ensures.lookup.3) in
    subst (λ o. Both (SameNamed b.names.texts (BagItemStands ms b)) None o)
    (sym (map_all_missing (bag_entry s) _ _ _ at missing)) neither

pub loop-place-init : goal.loop-place-init
loop-place-init c b s stands distinct numbered =
    subst (λ xs. Both (SameNamed b.names.texts (BagItemStands c.args.context.now.modules b)) (Some xs) (Some []))
    (sym c.new-bag.ensures) (both (λ n name is. neither))

pub loop-place-preserved : goal.loop-place-preserved
loop-place-preserved c b s stands distinct numbered =
    let ms = c.args.context.now.modules in
    let names = b.names.texts in
    let place = c.loop-place.place in
    let items = c.args.items.now in
    let within : place < length items = omega (arith, c.loop-place-test.true) in
    let x = c.index-items-place.result in
    let none : Atom = record { 0 = 0 } in
    let n = get_or c.args.numbers.now place none in
    let at = slice_get_read c.core_ids.result.now _ _ _ refl c.in-Some.ensures.lookup.3.0 c.in-Some.ensures.lookup.1
    ∙ ap Some c.in-Some.id-is in
    let y = entry_there ms b c.args.frame.now s stands x _ _ _ c.in-Some.id c.of-kind.ensures c.core_ids.ensures
    c.entity_number.ensures at in
    subst (λ xs. Both (SameNamed names (BagItemStands ms b)) (Some c.insert_first.new.self) (map_all (bag_entry s) xs))
    (sym (done_here items place x within c.index-items-place.is))
    (subst (λ xs. Both (SameNamed names (BagItemStands ms b)) (Some xs)
    (map_all (bag_entry s) (take place items ++ x ∷ [])))
    (sym (c.in_ok-insert_first.ensures.ok
    ∙ (λ i. with_first_number c.loop-place.bag n (c.of-kind.result, c.in-Some.id-is i))))
    (bag_first names (BagItemStands ms b) (bag_entry s) c.loop-place.bag _ x n x.0 (c.of-kind.result, c.in-Some.id) y.0
    distinct
    (read_both (λ (e : List ℕ × EntityIndex) (n : Atom). IsNumber names n e.0) items c.args.numbers.now place x none
    (numbers_each names items c.args.numbers.now numbered) within c.index-items-place.is)
    (c.loop-place.invariant b s stands distinct numbered) y.1 y.2))

pub returns : goal.returns
returns c b s stands distinct numbered =
    subst (λ xs. Both (SameNamed b.names.texts (BagItemStands c.args.context.now.modules b)) (Some c.loop-place.bag)
    (map_all (bag_entry s) xs))
    (take_all c.loop-place.place c.args.items.now c.loop-place-test.false)
    (c.loop-place.invariant b s stands distinct numbered)
