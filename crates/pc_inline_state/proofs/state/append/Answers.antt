use Rattle.std.proofs.Common.{◌≤◌, subst}
use Rattle.pc_inline_state.proofs.RefusedLemmas.{no_memory_lacks}
use Rattle.pc_inline_state.specs.Refused.{LacksEntry}
use Rattle.pc_inline_state.proofs.state.append.Goals as goal

pub returns-then-len-ge-MAX_ENTRIES-clause-lacks : goal.returns-then-len-ge-MAX_ENTRIES-clause-lacks
unfolding LacksEntry
returns-then-len-ge-MAX_ENTRIES-clause-lacks g c =
    subst (λ n. 4294967295 ≤ n) c.len.ensures c.if-len-ge-MAX_ENTRIES.true

pub returns-in_err-push-clause-lacks : goal.returns-in_err-push-clause-lacks
returns-in_err-push-clause-lacks g c = no_memory_lacks _ _ c.from_residual.ensures.1
