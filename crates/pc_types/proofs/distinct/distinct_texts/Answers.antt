use Rattle.std.proofs.Common.{sym, ◌∙◌, ap, ◌<◌, ◌+◌, length, take, ◌||◌, arith}
use Rattle.std.specs.Str.{bytes_eq}
use Rattle.std.proofs.lemmas.List.{map-id}
use Rattle.pc_types.specs.Names.{has_name, distinct_names}
use Rattle.pc_types.proofs.NameLemmas.{are_distinct-next, are_distinct-again, list_any-next, bytes_eq-sym, not_false}
use Rattle.pc_types.proofs.NameLemmas.{not_true}
use Rattle.pc_types.proofs.distinct.distinct_texts.Goals as goal

pub returns-then-not-branch : goal.returns-then-not-branch
returns-then-not-branch c =
    let e = c.name-item.result in
    let items = c.args.names.now in
    let i = c.loop-name.name-index in
    let met = not_false c.in_ok-insert.field-0 (has_name c.loop-name.met e) c.in_ok-insert.ensures.added
    c.if-not-branch.true in
    sym (ap distinct_names (sym (map-id items))
    ∙ are_distinct-again (λ n. n) items i e (omega arith) c.name-item.is bytes_eq bytes_eq-sym
    (ap (λ l. has_name l e) (map-id (take i items)) ∙ sym (c.loop-name.invariant.0 e) ∙ met))

pub loop-name-preserved : goal.loop-name-preserved
loop-name-preserved c =
    let e = c.name-item.result in
    let items = c.args.names.now in
    let i = c.loop-name.name-index in
    let new = not_true c.in_ok-insert.field-0 (has_name c.loop-name.met e) c.in_ok-insert.ensures.added
    c.if-not-branch.false in
    let within : i < length items = omega arith in (
      (λ q.
          c.in_ok-insert.ensures.names q
          ∙ ap (λ b. bytes_eq q e || b)
          (c.loop-name.invariant.0 q ∙ ap (λ l. has_name l q) (sym (map-id (take i items))))
          ∙ sym (list_any-next (λ n. n) items i e within c.name-item.is bytes_eq bytes_eq-sym q)
          ∙ ap (λ l. has_name l q) (map-id (take (i + 1) items))),
      ap distinct_names (sym (map-id (take (i + 1) items)))
          ∙ are_distinct-next (λ n. n) items i e within c.name-item.is bytes_eq bytes_eq-sym
          (ap distinct_names (map-id (take i items)) ∙ c.loop-name.invariant.1)
          (ap (λ l. has_name l e) (map-id (take i items)) ∙ sym (c.loop-name.invariant.0 e) ∙ new),
    )
