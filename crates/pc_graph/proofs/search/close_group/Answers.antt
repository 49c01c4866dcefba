use Rattle.std.proofs.Common.{◌≡◌, ◌++◌, [], ◌∙◌, ap, sym, subst, refl, reverse, drop, inl, inr, length, arith}
use Rattle.std.specs.List.{Contains}
use Rattle.std.proofs.lemmas.List.{append-nil, drop_all}
use Rattle.pc_graph.specs.declared.search.Noted.TheVariants.{Closed}
use Rattle.pc_graph.proofs.MapLemmas.{drop_left, moved_more, others_more, set_more, taken_more, told_apart}
use Rattle.pc_graph.proofs.MemberLemmas.{contains_none}
use Rattle.pc_graph.proofs.search.close_group.Goals as goal

pub loop-left-init : goal.loop-left-init
loop-left-init g c =
    let stack = c.args.stack.now.items in
    let length_is : c.len-left.result ≡ length stack = omega arith in
    let none : reverse (drop c.len-left.result stack) ≡ [] =
    ap reverse (drop_all c.len-left.result stack (omega arith)) in
    record {
      within = omega arith;
      whole = inr length_is;
      moved = sym (append-nil c.args.nodes.now.items) ∙ ap (λ ns. c.args.nodes.now.items ++ ns) (sym none);
      closed = λ n there. absurd (contains_none n (subst (λ ns. Contains ns n) none there));
      others = λ n apart. refl;
    }

pub loop-left-preserved : goal.loop-left-preserved
loop-left-preserved g c =
    let number = g.Node.EntityRef.number in
    let apart = told_apart number g.Node.EntityRef.of_number g.met.Node.EntityRef.of_number_number in
    let l = c.loop-left in
    let node = c.index-node.result.now in
    let set = c.in_ok-set.ensures.ok in
    let taken = taken_more c.args.stack.now.items l.left node (omega arith) l.invariant.within c.index-node.ensures in
    record {
      within = omega arith;
      whole = inl (omega arith);
      moved = moved_more _ _ _ _ _ node l.invariant.moved c.in_ok-push.ensures.items taken;
      closed = set_more number apart Closed l.noted c.set.new.self _ _ node set taken l.invariant.closed;
      others = others_more number apart Closed l.noted c.set.new.self c.args.noted.now _ _ node set taken
          l.invariant.others;
    }

pub returns : goal.returns
returns g c =
    let gone = ap reverse
    (drop_left c.args.stack.now.items c.args.head c.loop-left.left (omega arith) c.loop-left.invariant.whole) in
    record {
      stack = c.truncate.ensures.items;
      nodes = c.loop-left.invariant.moved ∙ ap (λ ns. c.args.nodes.now.items ++ ns) gone;
      closed = λ n there. c.loop-left.invariant.closed n (subst (λ ns. Contains ns n) (sym gone) there);
      others = λ n apart. c.loop-left.invariant.others n (λ there. apart (subst (λ ns. Contains ns n) gone there));
    }
