use Rattle.std.proofs.Common.{◌≡◌, ◌<◌, ◌+◌, ◌++◌, ◌∷◌, [], ℕ, List, length, take, map, sym, ap, ◌∙◌, arith}
use Rattle.std.proofs.lemmas.Grind.{take_at_read}
use Rattle.pc_types.specs.declared.parsed.DeclType.{DeclType}
use Rattle.pc_spec_reading.specs.Total.{entry_names, names_from}
use Rattle.pc_weights.specs.Capped.{capped}
use Rattle.pc_weights.proofs.NamesLemmas.{names_further}
use Rattle.pc_weights.proofs.names.count_names.Goals as goal

pub loop-entry-preserved : goal.loop-entry-preserved
loop-entry-preserved c =
    let i = c.loop-entry.entry-index in
    let es = c.as_slice-types.result.now in
    let e = c.entry-item.result in
    let within : i < length es = omega arith in
    let longer : take (i + 1) es ≡ take i es ++ e ∷ [] =
    (take_at_read es i e within).1 ∙ (λ j. take i es ++ sym c.entry-item.is j ∷ []) in
    c.in_ok-push.ensures.items
    ∙ names_further (take i es) e _ _ c.loop-entry.invariant
    (c.entry_names-count.ensures ∙ ap (λ (ns : List ℕ). capped (entry_names ns e)) c.as_slice.ensures.value)
    ∙ ap (λ (xs : List DeclType). map capped (names_from [] xs)) (sym longer)
