use Rattle.std.proofs.Common.{refl}
use Rattle.pc_spec_examples.proofs.OnLiterals.{on_literals}
use Rattle.pc_spec_examples.proofs.functions.are_read.Goals as goal

pub returns-clause-options_twice : goal.returns-clause-options_twice
unfolding on_literals
returns-clause-options_twice c = refl

pub returns-clause-gc : goal.returns-clause-gc
unfolding on_literals
returns-clause-gc c = refl

pub returns-clause-memory_twice : goal.returns-clause-memory_twice
unfolding on_literals
returns-clause-memory_twice c = refl

pub returns-clause-gc_realloc : goal.returns-clause-gc_realloc
unfolding on_literals
returns-clause-gc_realloc c = refl

pub returns-clause-intrinsic_aliased : goal.returns-clause-intrinsic_aliased
unfolding on_literals
returns-clause-intrinsic_aliased c = refl

pub returns-clause-unknown_intrinsic : goal.returns-clause-unknown_intrinsic
unfolding on_literals
returns-clause-unknown_intrinsic c = refl

pub returns-clause-intrinsic_lowered : goal.returns-clause-intrinsic_lowered
unfolding on_literals
returns-clause-intrinsic_lowered c = refl
