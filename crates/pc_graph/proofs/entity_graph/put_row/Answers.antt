use Rattle.std.proofs.Common.{◌+◌, ◌∷◌, ◌++◌, [], ◌∙◌, ap, sym, set, arith}
use Rattle.pc_entity.specs.SecondaryMap.{filled}
use Rattle.pc_graph.specs.Listed.{held}
use Rattle.pc_graph.proofs.ListingLemmas.{filled_full, filled_more}
use Rattle.pc_graph.proofs.entity_graph.put_row.Goals as goal

pub fill-preserved : goal.fill-preserved
fill-preserved g c =
    let rows = c.fill.rows.items in
    ap (λ items. filled (held items) (c.args.key + 1)) (c.in_ok-push.ensures.items
    ∙ ap (λ row. rows ++ row ∷ []) c.new.ensures)
    ∙ filled_more rows c.args.key (omega arith) ∙ c.fill.invariant

pub returns : goal.returns
returns g c = record {
  ok = ap (λ row. set c.fill.rows.items c.args.key row) c.from_vec.ensures
      ∙ ap (λ rows. set rows c.args.key c.args.row.items)
      (sym (filled_full c.fill.rows.items (c.args.key + 1) (omega arith)) ∙ c.fill.invariant);
}
