use Rattle.std.proofs.Common.{◌<◌, ◌≡◌, ◌+◌, arith, length, subst, sym}
use Rattle.std.proofs.lemmas.Option.{slice_get-get_or}
use Rattle.pc_inline_imports.specs.Trims.{FoundMarked}
use Rattle.pc_inline_imports.proofs.TrimLemmas.{found_next, found_none, mark_below}
use Rattle.pc_inline_imports.proofs.trim.mark_found.Goals as goal

pub loop-one-init : goal.loop-one-init
loop-one-init c = found_none c.args.found.now c.args.marks.now.items

pub mark-requires : goal.mark-requires
mark-requires c =
    let xs = c.args.found.now in
    let k = c.loop-one.one-index in
    let within : k < length xs = omega (arith, c.loop-one-test.true) in
    record {
      there = mark_below (length c.args.marks.now.items) xs k c.loop-one.marks.items c.loop-one.invariant
          c.requires.below _ (slice_get-get_or xs k _ within);
    }

pub loop-one-preserved : goal.loop-one-preserved
loop-one-preserved c =
    let xs = c.args.found.now in
    let k = c.loop-one.one-index in
    let within : k < length xs = omega (arith, c.loop-one-test.true) in
    subst (FoundMarked (length c.args.marks.now.items) xs (k + 1)) (sym c.mark.ensures)
    (found_next (length c.args.marks.now.items) xs k c.loop-one.marks.items c.loop-one.invariant _
    (slice_get-get_or xs k _ within) (c.requires.below k _ (slice_get-get_or xs k _ within)))

pub returns : goal.returns
returns c =
    let xs = c.args.found.now in
    let all : c.loop-one.one-index ≡ length xs = omega (arith, c.loop-one-test.false, c.loop-one.auto.one-index-end) in
    subst (λ n. FoundMarked (length c.args.marks.now.items) xs n c.loop-one.marks.items) all c.loop-one.invariant
