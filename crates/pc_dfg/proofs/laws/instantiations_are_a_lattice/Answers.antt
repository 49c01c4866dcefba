use Rattle.std.proofs.Common.{refl}
use Rattle.pc_dfg.proofs.JoinLemmas as join
use Rattle.pc_dfg.proofs.laws.instantiations_are_a_lattice.Goals as goal

pub returns-clause-commutative : goal.returns-clause-commutative
returns-clause-commutative c = join.commutative

pub returns-clause-associative : goal.returns-clause-associative
returns-clause-associative c = join.associative

pub returns-clause-idempotent : goal.returns-clause-idempotent
returns-clause-idempotent c = join.idempotent

pub returns-clause-none : goal.returns-clause-none
returns-clause-none c = λ a. refl

pub returns-clause-many : goal.returns-clause-many
returns-clause-many c = λ a. refl

pub returns-clause-apart : goal.returns-clause-apart
returns-clause-apart c = join.two_ways
