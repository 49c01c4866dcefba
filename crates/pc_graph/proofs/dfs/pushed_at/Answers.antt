use Rattle.std.proofs.Common.{◌++◌, ◌∙◌, ap, inl, inr, arith}
use Rattle.pc_graph.proofs.PushLemmas.{pushes-seen, pushes-visit, pushes-all}
use Rattle.pc_graph.proofs.dfs.pushed_at.Goals as goal

pub loop-successor-preserved : goal.loop-successor-preserved
loop-successor-preserved g c =
    let node = c.successor-item.result in
    let items = c.loop-successor.pushed.items in
    elim c.in_ok-push_edge.ensures [
      | inl w ↦
          pushes-seen (λ n answer. g.S.Fn.post c.args.seen.now (n, tt) answer) c.args.node
          c.as_slice-successor-items.result.now c.loop-successor.successor-index node items _
          (omega arith) c.successor-item.is c.loop-successor.invariant w.0 w.1
      | inr w ↦
          pushes-visit (λ n answer. g.S.Fn.post c.args.seen.now (n, tt) answer) c.args.node
          c.as_slice-successor-items.result.now c.loop-successor.successor-index node items _
          (omega arith) c.successor-item.is c.loop-successor.invariant w.0 w.1
    ]

pub returns : goal.returns
returns g c = λ d shows.
    pushes-all
    (λ n answer. g.S.Fn.post c.args.seen.now (n, tt) answer) c.args.node _ _ _ _ c.loop-successor.pushed.items
    c.loop-successor.invariant c.loop-successor-test.false c.as_slice-successor-items.ensures.value
    (c.in_ok-successors.ensures.ok d shows ∙ ap (λ ys. ys ++ d.successors c.args.node) c.new-successors.ensures.items)
