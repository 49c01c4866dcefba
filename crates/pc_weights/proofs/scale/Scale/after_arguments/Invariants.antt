use Rattle.std.proofs.Common.{◌≡◌, ◌-◌, drop}
use Rattle.std.specs.Prelude.{sum_by}
use Rattle.pc_spec_reading.specs.Section.{argument_of}
use Rattle.pc_spec_reading.specs.Total.{argument_weight}
use Rattle.pc_weights.proofs.scale.Scale.after_arguments.Given as goal

abbrev pub invariant-loop-arg : goal.invariant-loop-arg
invariant-loop-arg l =
    l.left
    - sum_by (λ a. argument_weight l.self.table.now l.self.modules.now (argument_of a)) (drop l.arg-index l.args)
    ≡ l.room - sum_by (λ a. argument_weight l.self.table.now l.self.modules.now (argument_of a)) l.args
