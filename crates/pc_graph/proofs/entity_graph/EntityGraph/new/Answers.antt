use Rattle.std.proofs.Common.{◌≡◌, ◌<◌, ◌∙◌, Err, ap, sym, subst, refl, length, of_calls, rules, arith}
use Rattle.std.proofs.lemmas.List.Elements.{All-get_or}
use Rattle.pc_entity.specs.SecondaryMap.{with_value_at}
use Rattle.pc_graph.specs.Listed.{Gives, held}
use Rattle.pc_graph.proofs.ListingLemmas.{collected-more, length-put, refused-at}
use Rattle.pc_graph.proofs.entity_graph.EntityGraph.new.Goals as goal

pub returns-in-Err-clause-err : goal.returns-in-Err-clause-err
returns-in-Err-clause-err g c = λ e is.
    let same : c.in-Err.refused ≡ e = cc in
    let row = c.successors.new.arg3.items in
    let P : g.row.E.Denot → Type 0 = λ x. Gives g.F.FnMut c.loop-node.successors c.node-item.result
    (Err x) row c.successors.new.self in
    let (found, collects, counted, rows) = c.loop-node.invariant.collected in
    refused-at g.F.FnMut c.args.successors c.args.nodes.now c.loop-node.node-index c.node-item.result found
    c.loop-node.successors c.successors.new.self row e
    (omega arith) c.node-item.is collects
    (subst P same
    (record { shown = _; empty = c.new-found.ensures.items; left = _; called = c.in-Err.ensures; leaves = refl }))

pub loop-node-preserved : goal.loop-node-preserved
loop-node-preserved g c =
    let number = g.Node.EntityRef.number in
    let node = c.node-item.result in
    let rows = c.loop-node.rows.items in
    let row = c.successors.new.arg3.items in
    let injective : (a b : g.row.Node.Denot) → number a ≡ number b → a ≡ b = λ a b e.
    sym (g.met.Node.EntityRef.of_number_number a) ∙ ap g.Node.EntityRef.of_number e
    ∙ g.met.Node.EntityRef.of_number_number b in
    let put : c.put_row.new.rows.items ≡ (with_value_at (held rows) (number node) row).items =
    c.in_ok-put_row-in-Ok.ensures.ok ∙ ap (λ k. (with_value_at (held rows) k row).items) c.as_u32.ensures in
    let P : g.row.Node.Denot → Type 0 = λ n. number n < 4294967295 in
    let small : number node < 4294967295 =
    subst P (sym c.node-item.is)
    (All-get_or P c.args.nodes.now c.loop-node.node-index node (omega arith) c.requires.small) in
    record {
      callable = search (of_calls, rules);
      small = omega (arith, ap length put ∙ length-put rows (number node) row);
      collected =
          collected-more g.F.FnMut number injective c.args.successors c.args.nodes.now c.loop-node.node-index node rows
          c.put_row.new.rows.items
          c.loop-node.successors c.successors.new.self row c.requires.distinct (omega arith) c.node-item.is put
          (record { shown = _; empty = c.new-found.ensures.items; left = _; called = c.in-Ok.ensures; leaves = refl })
          c.loop-node.invariant.collected;
    }
