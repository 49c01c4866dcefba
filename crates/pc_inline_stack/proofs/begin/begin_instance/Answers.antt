use Rattle.std.proofs.Common.{refl, arith}
use Rattle.pc_inline_stack.specs.Begins.{Begins}
use Rattle.pc_inline_stack.proofs.BegunLemmas.{begun_grows, begun_ordered}
use Rattle.pc_inline_stack.proofs.begin.begin_instance.Goals as goal

pub returns-then-graph-limit-clause-begins : goal.returns-then-graph-limit-clause-begins
unfolding Begins
returns-then-graph-limit-clause-begins c = (c.if-graph-limit.true, refl, refl)

pub returns-then-grown-ge-FULL-clause-begins : goal.returns-then-grown-ge-FULL-clause-begins
unfolding Begins
returns-then-grown-ge-FULL-clause-begins c =
    let above = c.if-graph-limit.false in
    let crowded = c.if-grown-ge-FULL.true in
    (omega (arith, above), omega (arith, crowded), refl, refl)

pub returns-clause-begins : goal.returns-clause-begins
unfolding Begins
returns-clause-begins c =
    let above = c.if-graph-limit.false in
    let room = c.if-grown-ge-FULL.false in
    (omega (arith, above), refl, refl, begun_ordered c.args.graph.now, omega (arith, room), omega (arith, room))

pub returns-clause-grows : goal.returns-clause-grows
returns-clause-grows c = begun_grows c.args.graph.now
