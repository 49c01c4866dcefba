use Rattle.std.proofs.Common.{sym, ◌∙◌, ap, ◌<◌, length, ◌||◌, arith}
use Rattle.std.specs.List.{list_any}
use Rattle.pc_types.specs.Names.{same_pair}
use Rattle.pc_types.proofs.NameLemmas.{are_distinct-next, are_distinct-again, list_any-next, same_pair-sym, not_false}
use Rattle.pc_types.proofs.NameLemmas.{not_true}
use Rattle.pc_types.proofs.distinct.distinct_pairs.Goals as goal

pub returns-then-not-branch : goal.returns-then-not-branch
returns-then-not-branch g c =
    let e = c.entry-item.result in
    let met = not_false c.in_ok-insert.field-0 (list_any (same_pair (e.0, e.1)) c.loop-entry.met)
    c.in_ok-insert.ensures.added c.if-not-branch.true in
    sym (are_distinct-again (λ x. (x.0, x.1)) c.args.entries.now c.loop-entry.entry-index e (omega arith)
    c.entry-item.is same_pair same_pair-sym
    (sym (c.loop-entry.invariant.0 (e.0, e.1)) ∙ met))

pub loop-entry-preserved : goal.loop-entry-preserved
loop-entry-preserved g c =
    let e = c.entry-item.result in
    let items = c.args.entries.now in
    let i = c.loop-entry.entry-index in
    let new = not_true c.in_ok-insert.field-0 (list_any (same_pair (e.0, e.1)) c.loop-entry.met)
    c.in_ok-insert.ensures.added c.if-not-branch.false in
    let within : i < length items = omega arith in (
      (λ q.
          c.in_ok-insert.ensures.pairs q
          ∙ ap (λ b. same_pair q (e.0, e.1) || b) (c.loop-entry.invariant.0 q)
          ∙ sym (list_any-next (λ x. (x.0, x.1)) items i e within c.entry-item.is same_pair same_pair-sym q)),
      are_distinct-next (λ x. (x.0, x.1)) items i e within c.entry-item.is same_pair same_pair-sym
          c.loop-entry.invariant.1
          (sym (c.loop-entry.invariant.0 (e.0, e.1)) ∙ new),
    )
