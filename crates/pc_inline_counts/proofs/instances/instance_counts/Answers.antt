use Rattle.std.proofs.Common.{◌≡◌, ◌<◌, ◌+◌, ◌++◌, ◌∷◌, [], List, length, take, sym, ap, ◌∙◌, arith}
use Rattle.std.proofs.lemmas.Grind.{take_at_read}
use Rattle.pc_inline_counts.specs.declared.count.NodeCount.{NodeCount}
use Rattle.pc_inline_counts.specs.Counts.{counts_from, members_count}
use Rattle.pc_inline_counts.proofs.FoldLemmas.{counts_further}
use Rattle.pc_inline_counts.proofs.instances.instance_counts.Goals as goal

pub loop-members-preserved : goal.loop-members-preserved
loop-members-preserved c =
    let i = c.loop-members.members-index in
    let lists = c.args.lists.now in
    let es = c.members-item.result in
    let within : i < length lists = omega arith in
    let longer : take (i + 1) lists ≡ take i lists ++ es ∷ [] =
    (take_at_read lists i es within).1 ∙ (λ j. take i lists ++ sym c.members-item.is j ∷ []) in
    let count = members_count c.args.entries.now c.args.definitions.now in
    c.in_ok-push.ensures.ok
    ∙ counts_further count (take i lists) es _ _ c.loop-members.invariant
    (c.members_count-count.ensures ∙ ap (λ (ns : List NodeCount). count ns es) c.as_slice.ensures)
    ∙ ap (counts_from count []) (sym longer)
