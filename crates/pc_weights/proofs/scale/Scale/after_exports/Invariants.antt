use Rattle.std.proofs.Common.{◌≡◌, ◌-◌, drop}
use Rattle.std.specs.Prelude.{sum_by}
use Rattle.pc_spec_reading.specs.Section.{named_item}
use Rattle.pc_spec_reading.specs.Total.{export_weight}
use Rattle.pc_weights.proofs.scale.Scale.after_exports.Given as goal

abbrev pub invariant-loop-export : goal.invariant-loop-export
invariant-loop-export l =
    l.left
    - sum_by (λ a. export_weight l.self.table.now l.self.modules.now (named_item a)) (drop l.export-index l.exports)
    ≡ l.room - sum_by (λ a. export_weight l.self.table.now l.self.modules.now (named_item a)) l.exports
