use Rattle.std.proofs.Common.{refl}
use Rattle.pc_spec_examples.proofs.OnLiterals.{on_literals}
use Rattle.pc_spec_examples.proofs.unsound.rows_are_refused.Goals as goal

pub returns-clause-entry_names_itself : goal.returns-clause-entry_names_itself
unfolding on_literals
returns-clause-entry_names_itself c = refl

pub returns-clause-export_name_twice : goal.returns-clause-export_name_twice
unfolding on_literals
returns-clause-export_name_twice c = refl

pub returns-clause-future_forward : goal.returns-clause-future_forward
unfolding on_literals
returns-clause-future_forward c = refl

pub returns-clause-payload_after_end : goal.returns-clause-payload_after_end
unfolding on_literals
returns-clause-payload_after_end c = refl

pub returns-clause-list_ends_early : goal.returns-clause-list_ends_early
unfolding on_literals
returns-clause-list_ends_early c = refl

pub returns-clause-no_payloads : goal.returns-clause-no_payloads
unfolding on_literals
returns-clause-no_payloads c = refl

pub returns-clause-too_many_globals : goal.returns-clause-too_many_globals
unfolding on_literals
returns-clause-too_many_globals c = refl

pub returns-clause-intrinsic_of_another_type : goal.returns-clause-intrinsic_of_another_type
unfolding on_literals
returns-clause-intrinsic_of_another_type c = refl
