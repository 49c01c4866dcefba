use Rattle.std.proofs.Common.{refl}
use Rattle.pc_spec_examples.proofs.OnLiterals.{on_literals}
use Rattle.pc_spec_examples.proofs.unsound.names_are_refused.Goals as goal

pub returns-clause-import_twice : goal.returns-clause-import_twice
unfolding on_literals
returns-clause-import_twice c = refl

pub returns-clause-export_in_two : goal.returns-clause-export_in_two
unfolding on_literals
returns-clause-export_in_two c = refl

pub returns-clause-items_twice : goal.returns-clause-items_twice
unfolding on_literals
returns-clause-items_twice c = refl

pub returns-clause-intrinsic_by_entry : goal.returns-clause-intrinsic_by_entry
unfolding on_literals
returns-clause-intrinsic_by_entry c = refl

pub returns-clause-intrinsics_missing : goal.returns-clause-intrinsics_missing
unfolding on_literals
returns-clause-intrinsics_missing c = refl

pub returns-clause-intrinsics_as_type : goal.returns-clause-intrinsics_as_type
unfolding on_literals
returns-clause-intrinsics_as_type c = refl

pub returns-clause-no_intrinsic : goal.returns-clause-no_intrinsic
unfolding on_literals
returns-clause-no_intrinsic c = refl

pub returns-clause-intrinsics_resource : goal.returns-clause-intrinsics_resource
unfolding on_literals
returns-clause-intrinsics_resource c = refl

pub returns-clause-nested_name : goal.returns-clause-nested_name
unfolding on_literals
returns-clause-nested_name c = refl
