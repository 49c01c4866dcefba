use Rattle.std.proofs.Common.{◌≡◌, ◌+◌, ◌++◌, ◌∷◌, [], ◌∙◌, ap, sym, subst, refl, take, arith}
use Rattle.std.specs.List.{Contains}
use Rattle.std.proofs.lemmas.List.{take_all, take_more}
use Rattle.pc_graph.proofs.MapLemmas.{others_more, set_more}
use Rattle.pc_graph.proofs.MemberLemmas.{contains_none}
use Rattle.pc_graph.proofs.evaporation.put_number.Goals as goal

pub loop-node-init : goal.loop-node-init
loop-node-init g c = record { put = λ n there. absurd (contains_none n there); others = λ n apart. refl }

pub loop-node-preserved : goal.loop-node-preserved
loop-node-preserved g c =
    let number = g.Node.EntityRef.number in
    let injective : (a b : g.row.Node.Denot) → number a ≡ number b → a ≡ b = λ a b e.
    sym (g.met.Node.EntityRef.of_number_number a) ∙ ap g.Node.EntityRef.of_number e
    ∙ g.met.Node.EntityRef.of_number_number b in
    let node = c.node-item.result in
    let nodes = c.args.nodes.now in
    let k = c.loop-node.node-index in
    let pushed : take (k + 1) nodes ≡ take k nodes ++ node ∷ [] =
    take_more nodes k node c.loop-node-test.true ∙ ap (λ n. take k nodes ++ n ∷ []) (sym c.node-item.is) in
    record {
      put = set_more number injective c.args.number c.loop-node.numbers c.set.new.self (take k nodes)
          (take (k + 1) nodes) node
          c.in_ok-set.ensures.ok pushed c.loop-node.invariant.put;
      others = others_more number injective c.args.number c.loop-node.numbers c.set.new.self c.args.numbers.now
          (take k nodes) (take (k + 1) nodes) node
          c.in_ok-set.ensures.ok pushed c.loop-node.invariant.others;
    }

pub returns : goal.returns
returns g c =
    let nodes = c.args.nodes.now in
    let whole = take_all c.loop-node.node-index nodes (omega arith) in
    record {
      put = λ n there. c.loop-node.invariant.put n (subst (λ ns. Contains ns n) (sym whole) there);
      others = λ n apart. c.loop-node.invariant.others n (λ there. apart (subst (λ ns. Contains ns n) whole there));
    }
