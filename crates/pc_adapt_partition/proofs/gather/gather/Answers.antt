use Rattle.std.proofs.Common.{inl, inr, ap, arith, ◌+◌}
use Rattle.pc_adapt_partition.proofs.StepLemmas.{gather_full, gather_step, known_next}
use Rattle.pc_adapt_partition.proofs.MostLemmas.{gathered_few, gathered_more}
use Rattle.pc_adapt_partition.proofs.gather.gather.Goals as goal

pub put-requires-clause-known : goal.put-requires-clause-known
put-requires-clause-known c =
    let known = c.requires.known in
    let gathers = c.loop-place.invariant known.lift known.lower known.facts in
    known_next c.args.types.now c.args.graph.now.adapters c.loop-place.graph.adapters
    (c.args.first + c.loop-place.place) known (omega (arith, c.requires.range, c.loop-place-test.true))
    (ap (λ g. g.adapters) gathers.adds.rest)

pub returns-in_err-put-clause-full : goal.returns-in_err-put-clause-full
returns-in_err-put-clause-full c is =
    let too_many = rw is at c.from_residual.ensures.1 in
    elim (c.in_err-put.ensures.full (cc too_many)) [
      | inl full ↦ inl full
      | inr long ↦
          inr (λ lift lower facts.
          gather_full c.args.types.now lift lower c.args.graph.now c.loop-place.graph c.args.first
          c.loop-place.place c.args.many c.loop-place.group facts c.requires.range c.loop-place-test.true
          (c.loop-place.invariant lift lower facts) long)
    ]

pub loop-place-preserved : goal.loop-place-preserved
loop-place-preserved c lift lower facts =
    gather_step c.args.types.now lift lower c.args.graph.now c.loop-place.graph c.put.new.graph c.args.first
    c.loop-place.place c.loop-place.group c.put.new.group c.requires.ordered facts
    (omega (arith, c.requires.range, c.loop-place-test.true)) (c.loop-place.invariant lift lower facts)
    c.in_ok-put.ensures.puts

pub returns-in_err-put-clause-few : goal.returns-in_err-put-clause-few
returns-in_err-put-clause-few c =
    gathered_more c.args.types.now c.args.graph.now c.loop-place.graph c.args.first c.loop-place.place c.args.many
    c.loop-place.group c.requires.known c.requires.range (omega (arith, c.loop-place-test.true)) c.loop-place.invariant
    c.put.new.graph c.loop-place-test.true c.put.ensures.few

pub returns-clause-few : goal.returns-clause-few
returns-clause-few c =
    gathered_few c.args.types.now c.args.graph.now c.loop-place.graph c.args.first c.loop-place.place c.args.many
    c.loop-place.group c.requires.known c.requires.range (omega (arith, c.loop-place.auto.place-end))
    c.loop-place.invariant
