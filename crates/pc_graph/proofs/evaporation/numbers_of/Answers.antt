use Rattle.std.proofs.Common.{ap, arith}
use Rattle.std.proofs.lemmas.Option.{slice_get_within}
use Rattle.pc_graph.specs.Noting.{number_in}
use Rattle.pc_graph.proofs.EvaporationLemmas.{numbers_next}
use Rattle.pc_graph.proofs.evaporation.numbers_of.Goals as goal

pub loop-place-init : goal.loop-place-init
loop-place-init g c = λ i class n below. absurd (omega arith)

pub loop-place-preserved : goal.loop-place-preserved
loop-place-preserved g c =
    numbers_next (number_in g.Node.EntityRef.number c.loop-place.numbers)
    (number_in g.Node.EntityRef.number c.put_number.new.numbers)
    c.args.components.now c.loop-place.place c.nodes.result.now c.once.ensures c.nodes.ensures
    (λ n there. ap (λ j. j.0) (c.in_ok-put_number.ensures.put n there))
    (λ n apart. ap (λ j. j.0) (c.in_ok-put_number.ensures.others n apart)) c.loop-place.invariant

pub returns : goal.returns
returns g c = λ i class n found there.
    let within = slice_get_within c.args.components.now i class found in
    c.loop-place.invariant i class n (omega arith) found there
