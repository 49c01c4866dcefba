use Rattle.std.proofs.Common.{arith, subst, ◌∙◌}
use Rattle.pc_entity.proofs.LookupLemmas.{left_here}
use Rattle.pc_types_walk.specs.Kept.{Keeps, part_of}
use Rattle.pc_types_walk.proofs.KeptLemmas.{kept_next}
use Rattle.pc_types_walk.proofs.leads.kept_among.Goals as goal

pub loop-place-preserved : goal.loop-place-preserved
loop-place-preserved c =
    let l = c.loop-place in
    let x = c.index-exports-place in
    kept_next (part_of c.args.table.now c.args.through.now) c.args.exports.now l.place x.result
    (left_here c.args.exports.now l.place x.result (omega arith) x.is) l.seen c.keep.new.seen l.kept c.keep.new.kept
    (subst (λ o. Keeps l.place o l.seen c.keep.new.seen l.kept c.keep.new.kept) c.part_number-number.ensures
    c.in_ok-keep.ensures)
    ∙ l.invariant
