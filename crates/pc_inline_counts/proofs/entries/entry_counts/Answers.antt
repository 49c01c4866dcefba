use Rattle.std.proofs.Common.{◌≡◌, ◌<◌, ◌+◌, ◌++◌, ◌∷◌, [], List, length, take, sym, ap, ◌∙◌, arith}
use Rattle.std.proofs.lemmas.Grind.{take_at_read}
use Rattle.pc_inline_counts.specs.declared.count.NodeCount.{NodeCount}
use Rattle.pc_inline_counts.specs.Counts.{counts_from, entry_count}
use Rattle.pc_inline_counts.proofs.FoldLemmas.{counts_further}
use Rattle.pc_inline_counts.proofs.entries.entry_counts.Goals as goal

pub loop-entry-preserved : goal.loop-entry-preserved
loop-entry-preserved c =
    let i = c.loop-entry.entry-index in
    let es = c.as_slice-types.result.now in
    let e = c.entry-item.result in
    let within : i < length es = omega arith in
    let longer : take (i + 1) es ≡ take i es ++ e ∷ [] =
    (take_at_read es i e within).1 ∙ (λ j. take i es ++ sym c.entry-item.is j ∷ []) in
    c.in_ok-push.ensures.ok
    ∙ counts_further entry_count (take i es) e _ _ c.loop-entry.invariant
    (c.entry_count-count.ensures ∙ ap (λ (ns : List NodeCount). entry_count ns e) c.as_slice.ensures)
    ∙ ap (counts_from entry_count []) (sym longer)
