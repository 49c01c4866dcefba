use Rattle.std.proofs.Common.{◌≡◌, ◌<◌, ◌+◌, ◌++◌, ◌∷◌, [], length, take, sym, subst, ◌∙◌, arith}
use Rattle.std.proofs.lemmas.Grind.{take_at_read}
use Rattle.pc_entity.proofs.FirstValues.{FindsAs, found_next}
use Rattle.pc_entity.proofs.by_name.first_values.Goals as goal

pub loop-entry-preserved : goal.loop-entry-preserved
loop-entry-preserved g c =
    let i = c.loop-entry.entry-index in
    let es = c.args.entries.now in
    let e = c.entry-item.result in
    let is_it = c.entry-item.is in
    let within : i < length es = omega arith in
    let longer : take (i + 1) es ≡ take i es ++ e ∷ [] =
    (take_at_read es i e within).1 ∙ (λ j. take i es ++ sym is_it j ∷ []) in
    subst (λ ys. FindsAs c.insert_first.new.self ys) (sym longer)
    (subst (λ xs. FindsAs xs (take i es ++ e ∷ [])) (sym c.in_ok-insert_first.ensures.ok)
    (found_next c.loop-entry.found (take i es) e c.loop-entry.invariant))
