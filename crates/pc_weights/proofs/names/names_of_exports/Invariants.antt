use Rattle.std.proofs.Common.{◌≡◌, ◌-◌, ◌≤◌, drop}
use Rattle.std.specs.Prelude.{sum_by}
use Rattle.pc_spec_reading.specs.Total.{export_names}
use Rattle.pc_weights.proofs.names.names_of_exports.Given as goal

abbrev pub invariant-loop-export : goal.invariant-loop-export
invariant-loop-export l =
    (l.left - sum_by (export_names l.earlier) (drop l.export-index l.exports)
    ≡ 4294967295 - sum_by (export_names l.earlier) l.exports)
    × (l.left ≤ 4294967295)
