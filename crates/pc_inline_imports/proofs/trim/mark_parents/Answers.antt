use Rattle.std.proofs.Common.{◌≡◌, ◌<◌, ◌+◌, ◌-◌, arith, length, refl, subst}
use Rattle.std.proofs.lemmas.Option.{slice_get-get_or}
use Rattle.pc_inline_imports.specs.Trims.{ParentsMarked}
use Rattle.pc_inline_imports.proofs.TrimLemmas.{parent_below, parents_next, parents_none}
use Rattle.pc_inline_imports.proofs.trim.mark_parents.Goals as goal

pub loop-left-init : goal.loop-left-init
loop-left-init c = record {
  within = omega arith;
  marked = parents_none c.args.places.now (length c.args.places.now) refl c.args.marks.now.items c.requires.count;
}

pub mark_parent-requires-clause-parent : goal.mark_parent-requires-clause-parent
mark_parent-requires-clause-parent c =
    let places = c.args.places.now in
    let k = c.loop-left.left - 1 in
    let some = c.loop-left-test.true in
    let inside = c.loop-left.invariant.within in
    let within : k < length places = omega (arith, some, inside) in
    parent_below places k c.loop-left.left c.args.marks.now.items c.loop-left.marks.items c.requires.behind
    c.loop-left.invariant.marked _ (slice_get-get_or places k _ within)

pub loop-left-preserved : goal.loop-left-preserved
loop-left-preserved c =
    let places = c.args.places.now in
    let k = c.loop-left.left - 1 in
    let some = c.loop-left-test.true in
    let inside = c.loop-left.invariant.within in
    let within : k < length places = omega (arith, some, inside) in
    let same : c.loop-left.left ≡ k + 1 = omega (arith, some) in
    record {
      within = omega (arith, inside);
      marked = parents_next places k c.args.marks.now.items c.loop-left.marks.items c.mark_parent.new.marks.items
          c.requires.behind
          (subst (λ n. ParentsMarked places n c.args.marks.now.items c.loop-left.marks.items) same
          c.loop-left.invariant.marked) _ (slice_get-get_or places k _ within) c.mark_parent.ensures;
    }

pub returns : goal.returns
returns c =
    let none : c.loop-left.left ≡ 0 = omega (arith, c.loop-left-test.false) in
    subst (λ n. ParentsMarked c.args.places.now n c.args.marks.now.items c.loop-left.marks.items) none
    c.loop-left.invariant.marked
