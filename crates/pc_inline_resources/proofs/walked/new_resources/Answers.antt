use Rattle.pc_inline_resources.proofs.LoopLemmas.{walk_meets}
use Rattle.pc_inline_resources.proofs.walked.new_resources.Goals as goal

pub returns : goal.returns
returns c s knows v is =
    walk_meets _ _ _ _ _ c.in_ok-walk.walk c.in_ok-walk.ensures _ c.as_slice.ensures c.in_ok-items.items _
    c.as_slice-2.ensures _ c.as_slice-3.ensures c.in_ok-items.ensures _ c.in_ok-met.ensures s knows v is
