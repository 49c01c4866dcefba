use Rattle.std.proofs.Common.{refl}
use Rattle.pc_spec_examples.proofs.OnLiterals.{on_literals}
use Rattle.pc_spec_examples.proofs.imports.are_read.Goals as goal

pub returns-clause-host_alias : goal.returns-clause-host_alias
unfolding on_literals
returns-clause-host_alias c = refl

pub returns-clause-defined_import : goal.returns-clause-defined_import
unfolding on_literals
returns-clause-defined_import c = refl

pub returns-clause-component_alias : goal.returns-clause-component_alias
unfolding on_literals
returns-clause-component_alias c = refl

pub returns-clause-component_as_func : goal.returns-clause-component_as_func
unfolding on_literals
returns-clause-component_as_func c = refl

pub returns-clause-component_as_type : goal.returns-clause-component_as_type
unfolding on_literals
returns-clause-component_as_type c = refl

pub returns-clause-alias_missing : goal.returns-clause-alias_missing
unfolding on_literals
returns-clause-alias_missing c = refl

pub returns-clause-alias_of_another_kind : goal.returns-clause-alias_of_another_kind
unfolding on_literals
returns-clause-alias_of_another_kind c = refl

pub returns-clause-prepared_first : goal.returns-clause-prepared_first
unfolding on_literals
returns-clause-prepared_first c = refl

pub returns-clause-nothing_given : goal.returns-clause-nothing_given
unfolding on_literals
returns-clause-nothing_given c = refl

pub returns-clause-no_resource_given : goal.returns-clause-no_resource_given
unfolding on_literals
returns-clause-no_resource_given c = refl

pub returns-clause-no_resource : goal.returns-clause-no_resource
unfolding on_literals
returns-clause-no_resource c = refl
