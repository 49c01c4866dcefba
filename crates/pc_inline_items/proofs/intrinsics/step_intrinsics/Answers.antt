use Rattle.pc_inline_items.proofs.IntrinsicLemmas.{intrinsics_imported}
use Rattle.pc_inline_items.proofs.intrinsics.step_intrinsics.Goals as goal

pub returns-clause-steps : goal.returns-clause-steps
returns-clause-steps c = intrinsics_imported _ _ _ _ _ c.add_defined.ensures.follows
