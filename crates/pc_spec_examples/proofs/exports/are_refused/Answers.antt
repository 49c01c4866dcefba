use Rattle.std.proofs.Common.{refl}
use Rattle.pc_spec_examples.proofs.OnLiterals.{on_literals}
use Rattle.pc_spec_examples.proofs.exports.are_refused.Goals as goal

pub returns-clause-intrinsic_exported : goal.returns-clause-intrinsic_exported
unfolding on_literals
returns-clause-intrinsic_exported c = refl

pub returns-clause-intrinsics_exported : goal.returns-clause-intrinsics_exported
unfolding on_literals
returns-clause-intrinsics_exported c = refl

pub returns-clause-component_exported : goal.returns-clause-component_exported
unfolding on_literals
returns-clause-component_exported c = refl

pub returns-clause-host_component : goal.returns-clause-host_component
unfolding on_literals
returns-clause-host_component c = refl

pub returns-clause-export_missing : goal.returns-clause-export_missing
unfolding on_literals
returns-clause-export_missing c = refl

pub returns-clause-export_type_missing : goal.returns-clause-export_type_missing
unfolding on_literals
returns-clause-export_type_missing c = refl
