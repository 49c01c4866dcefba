use Rattle.std.proofs.Common.{◌≡◌, true, false, ◌∙◌, length, ap, sym, refl, arith}
use Rattle.std.proofs.lemmas.Grind.{common_steps}
use Rattle.pc_graph.proofs.ListLemmas.{filter-kept, filter-left_out}
use Rattle.pc_graph.proofs.filter_nodes.keep_tail.Goals as goal
use Rattle.pc_graph.proofs.filter_nodes.keep_tail.Goals.{then-predicate, else-predicate}

pub loop-place-preserved : goal.loop-place-preserved
loop-place-preserved g c =
    let node = c.index.result.now in
    elim c.if-predicate.branch [
      | then-predicate w ↦ record {
        placed = omega arith;
        same_length = ap (λ v. length v.items) w.list-is ∙ grind (arith, common_steps);
        so_far = λ test says.
            let passes : test node ≡ true = sym
            (says node _ (record { shown = _; shows = refl; says = record { met = c.predicate.ensures } }))
            ∙ w.if-predicate.true in
            filter-kept test _ _ _ _ _ node (omega arith) (omega arith) c.index.ensures passes
            (ap (λ v. v.items) w.list-is) w.kept-is
            ∙ c.loop-place.invariant.so_far test says;
      }
      | else-predicate w ↦ record {
        placed = omega arith;
        same_length = ap (λ v. length v.items) w.list-is ∙ c.loop-place.invariant.same_length;
        so_far = λ test says.
            let fails : test node ≡ false = sym
            (says node _ (record { shown = _; shows = refl; says = record { met = c.predicate.ensures } }))
            ∙ w.if-predicate.false in
            filter-left_out test _ _ _ _ _ node (omega arith) c.index.ensures fails
            (ap (λ v. v.items) w.list-is) w.kept-is
            ∙ c.loop-place.invariant.so_far test says;
      }
    ]
