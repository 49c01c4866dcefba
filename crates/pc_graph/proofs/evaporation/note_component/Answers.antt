use Rattle.std.proofs.Common.{◌≡◌, ◌<◌, ◌++◌, ◌∙◌, ap, sym, subst, arith}
use Rattle.std.specs.List.{Contains}
use Rattle.std.proofs.lemmas.List.{take_all}
use Rattle.std.proofs.lemmas.List.Elements.{Contains-get_or}
use Rattle.pc_graph.specs.Noting.{noted_all, number_in, targets}
use Rattle.pc_graph.proofs.EvaporationLemmas.{noted_successors, target_of}
use Rattle.pc_graph.proofs.evaporation.note_component.Goals as goal

pub note_all-requires : goal.note_all-requires
note_all-requires g c =
    let number_of = number_in g.Node.EntityRef.number c.args.numbers.now in
    let (d, shows, within) = c.requires in
    let node = c.node-item.result in
    let nodes = c.args.nodes.now in
    let there = subst (λ n. Contains nodes n) (sym c.node-item.is)
    (Contains-get_or nodes c.loop-node.node-index node c.loop-node-test.true) in
    let are : c.as_slice.result.now ≡ d.successors node =
    c.as_slice.ensures.value ∙ c.in_ok-successors.ensures.ok d shows
    ∙ ap (λ ns. ns ++ d.successors node) c.new-successors.ensures.items in
    let size = c.loop-node.invariant.size in
    λ n edge. subst (λ m. number_of n < m) (sym size)
    (within (number_of n) (target_of number_of d nodes node n there (subst (λ ns. Contains ns n) are edge)))

pub loop-node-preserved : goal.loop-node-preserved
loop-node-preserved g c =
    let number_of = number_in g.Node.EntityRef.number c.args.numbers.now in
    let node = c.node-item.result in
    record {
      size = c.in_ok-note_all.ensures.size ∙ c.loop-node.invariant.size;
      so_far =
          λ d shows.
          noted_successors number_of d c.args.from.0 c.args.rows.now.items c.loop-node.rows.items
          c.note_all.new.rows.items
          c.args.nodes.now c.loop-node.node-index node c.as_slice.result.now c.loop-node-test.true c.node-item.is
          (c.as_slice.ensures.value ∙ c.in_ok-successors.ensures.ok d shows
          ∙ ap (λ ns. ns ++ d.successors node) c.new-successors.ensures.items)
          (c.loop-node.invariant.so_far d shows) c.in_ok-note_all.ensures.ok;
    }

pub returns : goal.returns
returns g c = λ d shows.
    c.loop-node.invariant.so_far d shows
    ∙ ap (λ ns. noted_all c.args.from.0 c.args.rows.now.items
    (targets (number_in g.Node.EntityRef.number c.args.numbers.now) d ns))
    (take_all c.loop-node.node-index c.args.nodes.now (omega arith))
