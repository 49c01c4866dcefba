use Rattle.std.proofs.Common.{refl}
use Rattle.pc_spec_examples.proofs.OnLiterals.{on_literals}
use Rattle.pc_spec_examples.proofs.unsound.kinds_are_refused.Goals as goal

pub returns-clause-module_root : goal.returns-clause-module_root
unfolding on_literals
returns-clause-module_root c = refl

pub returns-clause-module_inside : goal.returns-clause-module_inside
unfolding on_literals
returns-clause-module_inside c = refl

pub returns-clause-late_module : goal.returns-clause-late_module
unfolding on_literals
returns-clause-late_module c = refl

pub returns-clause-no_beginning : goal.returns-clause-no_beginning
unfolding on_literals
returns-clause-no_beginning c = refl

pub returns-clause-start_section : goal.returns-clause-start_section
unfolding on_literals
returns-clause-start_section c = refl

pub returns-clause-outer_past_root : goal.returns-clause-outer_past_root
unfolding on_literals
returns-clause-outer_past_root c = refl

pub returns-clause-spawn : goal.returns-clause-spawn
unfolding on_literals
returns-clause-spawn c = refl

pub returns-clause-context_type : goal.returns-clause-context_type
unfolding on_literals
returns-clause-context_type c = refl

pub returns-clause-value_alias : goal.returns-clause-value_alias
unfolding on_literals
returns-clause-value_alias c = refl

pub returns-clause-value_argument : goal.returns-clause-value_argument
unfolding on_literals
returns-clause-value_argument c = refl

pub returns-clause-value_in_table : goal.returns-clause-value_in_table
unfolding on_literals
returns-clause-value_in_table c = refl
