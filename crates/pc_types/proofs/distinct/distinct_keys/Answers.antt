use Rattle.std.proofs.Common.{sym, ◌∙◌, ap, ◌<◌, length, ◌||◌, arith}
use Rattle.std.specs.Str.{bytes_eq}
use Rattle.pc_types.specs.Names.{has_name}
use Rattle.pc_types.proofs.NameLemmas.{are_distinct-next, are_distinct-again, list_any-next, bytes_eq-sym, not_false}
use Rattle.pc_types.proofs.NameLemmas.{not_true}
use Rattle.pc_types.proofs.distinct.distinct_keys.Goals as goal

pub returns-then-not-branch : goal.returns-then-not-branch
returns-then-not-branch g c =
    let e = c.entry-item.result in
    let met = not_false c.in_ok-insert.field-0 (has_name c.loop-entry.met e.0) c.in_ok-insert.ensures.added
    c.if-not-branch.true in
    sym (are_distinct-again (λ x. x.0) c.args.entries.now c.loop-entry.entry-index e (omega arith) c.entry-item.is
    bytes_eq bytes_eq-sym
    (sym (c.loop-entry.invariant.0 e.0) ∙ met))

pub loop-entry-preserved : goal.loop-entry-preserved
loop-entry-preserved g c =
    let e = c.entry-item.result in
    let items = c.args.entries.now in
    let i = c.loop-entry.entry-index in
    let new = not_true c.in_ok-insert.field-0 (has_name c.loop-entry.met e.0) c.in_ok-insert.ensures.added
    c.if-not-branch.false in
    let within : i < length items = omega arith in (
      (λ q.
          c.in_ok-insert.ensures.names q
          ∙ ap (λ b. bytes_eq q e.0 || b) (c.loop-entry.invariant.0 q)
          ∙ sym (list_any-next (λ x. x.0) items i e within c.entry-item.is bytes_eq bytes_eq-sym q)),
      are_distinct-next (λ x. x.0) items i e within c.entry-item.is bytes_eq bytes_eq-sym c.loop-entry.invariant.1
          (sym (c.loop-entry.invariant.0 e.0) ∙ new),
    )
