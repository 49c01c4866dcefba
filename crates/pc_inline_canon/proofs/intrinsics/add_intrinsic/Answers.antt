use Rattle.pc_inline_canon.proofs.IntrinsicLemmas.{intrinsic_added}
use Rattle.pc_inline_canon.proofs.intrinsics.add_intrinsic.Goals as goal

pub returns-clause-added : goal.returns-clause-added
returns-clause-added c =
    intrinsic_added _ _ _ _ _ c.push_intrinsic.ensures.rest c.push_intrinsic.ensures.keeps c.push_intrinsic.ensures.ordered
    c.push_intrinsic.ensures.places c.push_intrinsic.ensures.is
