use Rattle.std.proofs.Common.{◌∙◌, ap, sym, subst, map, arith}
use Rattle.std.specs.List.{Contains}
use Rattle.std.proofs.lemmas.List.{take_all}
use Rattle.std.proofs.lemmas.List.Elements.{Contains-get_or}
use Rattle.pc_graph.specs.Noting.{noted, noted_all, number_in}
use Rattle.pc_graph.proofs.EvaporationLemmas.{noted_next}
use Rattle.pc_graph.proofs.evaporation.note_all.Goals as goal

pub note-requires : goal.note-requires
note-requires g c =
    let node = c.node-item.result in
    let nodes = c.args.nodes.now in
    let there = subst (λ n. Contains nodes n) (sym c.node-item.is)
    (Contains-get_or nodes c.loop-node.node-index node c.loop-node-test.true) in
    let within = c.requires node there in
    let is = ap (λ j. j.0) c.get.ensures in
    let size = c.loop-node.invariant.size in
    omega arith

pub loop-node-preserved : goal.loop-node-preserved
loop-node-preserved g c = record {
  size = c.in_ok-note.ensures.size ∙ c.loop-node.invariant.size;
  so_far =
      noted_next
      (number_in g.Node.EntityRef.number c.args.numbers.now) c.args.from.0 c.args.rows.now.items
      c.loop-node.rows.items c.note.new.rows.items
      c.args.nodes.now c.loop-node.node-index c.node-item.result c.loop-node-test.true c.node-item.is
      c.loop-node.invariant.so_far
      (c.in_ok-note.ensures.ok ∙ ap (λ k. noted c.args.from.0 c.loop-node.rows.items k) (ap (λ j. j.0) c.get.ensures));
}

pub returns-clause-ok : goal.returns-clause-ok
returns-clause-ok g c =
    c.loop-node.invariant.so_far
    ∙ ap (λ ns. noted_all c.args.from.0 c.args.rows.now.items
    (map (number_in g.Node.EntityRef.number c.args.numbers.now) ns))
    (take_all c.loop-node.node-index c.args.nodes.now (omega arith))
