use Rattle.pc_inline_counts.specs.Counts.{one_node, with_member}
use Rattle.pc_inline_counts.proofs.FoldLemmas.{fold_further}
use Rattle.std.proofs.Common.{ap, ◌∙◌}
use Rattle.pc_inline_counts.specs.Counts.{after_nodes}
use Rattle.pc_inline_counts.specs.declared.count.NodeCount.{NodeCount}
use Rattle.pc_inline_counts.proofs.instances.members_count.Goals as goal

pub loop-place-preserved : goal.loop-place-preserved
loop-place-preserved c =
    fold_further (with_member c.args.entries.now c.args.definitions.now c.args.instances.now) one_node
    c.args.members.now c.loop-place.place _ c.entry_at.ensures c.loop-place.count _ c.loop-place.invariant
    (c.and_after-count.ensures ∙ ap (λ (d : NodeCount). after_nodes c.loop-place.count d) c.count_of.ensures)
