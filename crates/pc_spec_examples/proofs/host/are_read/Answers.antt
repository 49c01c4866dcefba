use Rattle.std.proofs.Common.{refl}
use Rattle.pc_spec_examples.proofs.OnLiterals.{on_literals}
use Rattle.pc_spec_examples.proofs.host.are_read.Goals as goal

pub returns-clause-host_lowering : goal.returns-clause-host_lowering
unfolding on_literals
returns-clause-host_lowering c = refl

pub returns-clause-realloc_is_a_lowering : goal.returns-clause-realloc_is_a_lowering
unfolding on_literals
returns-clause-realloc_is_a_lowering c = refl

pub returns-clause-host_module : goal.returns-clause-host_module
unfolding on_literals
returns-clause-host_module c = refl

pub returns-clause-host_resource : goal.returns-clause-host_resource
unfolding on_literals
returns-clause-host_resource c = refl

pub returns-clause-component_import : goal.returns-clause-component_import
unfolding on_literals
returns-clause-component_import c = refl

pub returns-clause-usual_tools : goal.returns-clause-usual_tools
unfolding on_literals
returns-clause-usual_tools c = refl

pub returns-clause-re_export : goal.returns-clause-re_export
unfolding on_literals
returns-clause-re_export c = refl

pub returns-clause-re_export_beside : goal.returns-clause-re_export_beside
unfolding on_literals
returns-clause-re_export_beside c = refl
