use Rattle.std.proofs.Common.{◌∙◌, ◌++◌, ◌∷◌, [], ap, sym}
use Rattle.pc_graph.specs.Noting.{last_is}
use Rattle.pc_graph.proofs.NotedLemmas.{noted_again, noted_itself, noted_new}
use Rattle.pc_graph.proofs.PartLemmas.{same_item}
use Rattle.pc_graph.proofs.evaporation.note.Goals as goal
use Rattle.pc_graph.proofs.evaporation.note.Goals.{then-from-into-via-then-from-into}
use Rattle.pc_graph.proofs.evaporation.note.Goals.{then-from-into-via-else-from-into+then-ends_with}

pub returns-then-from-into-clause-ok : goal.returns-then-from-into-clause-ok
returns-then-from-into-clause-ok c = elim c.then-from-into.branch [
  | then-from-into-via-then-from-into w ↦
      noted_itself c.args.from.0 c.args.into.0 c.args.rows.now.items w.if-from-into.true
  | then-from-into-via-else-from-into+then-ends_with w ↦
      noted_again c.args.from.0 c.args.into.0 c.args.rows.now.items w.index.result.now w.index.result.now c.requires
      w.index.ensures
      (w.if-ends_with.ensures ∙ ap (λ l. last_is l c.args.from.0) w.as_slice.ensures)
]

pub returns-clause-ok : goal.returns-clause-ok
returns-clause-ok c =
    noted_new c.args.from.0 c.args.into.0 c.args.rows.now.items c.index.result.now c.index.result.now c.requires
    c.index.ensures c.push.new.self
    c.if-from-into.false (c.if-ends_with.ensures ∙ ap (λ l. last_is l c.args.from.0) c.as_slice.ensures)
    (c.in_ok-push.ensures.ok ∙ ap (λ l. l ++ c.args.from ∷ [])
    (c.index_mut.ensures.value
    ∙ same_item c.args.rows.now.items c.args.into.0 c.index_mut.result.now c.index.result.now c.requires
    ∙ sym c.index.ensures))
