use Rattle.pc_adapt.specs.Imports.{imports_of}
use Rattle.pc_adapt.proofs.PlannedLemmas.{planned_alike}
use Rattle.pc_adapt_define.proofs.OwnLemmas.{arguments_mean}
use Rattle.pc_adapt_define.proofs.laws.arguments_are_planned.Goals as goal

pub returns : goal.returns
returns c g h a x v lift lower clear before after at means all =
    arguments_mean g h x.lower_options.core_type (imports_of lift lower clear x) all.defs _ all.each
    (planned_alike g a x v lift lower clear at means)
