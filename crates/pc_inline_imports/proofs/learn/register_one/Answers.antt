use Rattle.pc_inline_state.specs.Refused.{LacksRoom}
use Rattle.pc_inline_imports.proofs.learn.register_one.Goals as goal

pub returns-then-number-ge-MAX_RESOURCES-clause-err : goal.returns-then-number-ge-MAX_RESOURCES-clause-err
unfolding LacksRoom
returns-then-number-ge-MAX_RESOURCES-clause-err c = tt
