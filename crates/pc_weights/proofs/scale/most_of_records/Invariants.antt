use Rattle.std.proofs.Common.{◌≡◌, drop}
use Rattle.std.specs.Prelude.{max}
use Rattle.pc_spec_reading.specs.Total.{greatest, record_imports}
use Rattle.pc_weights.proofs.scale.most_of_records.Given as goal

abbrev pub invariant-loop-record_ : goal.invariant-loop-record_
invariant-loop-record_ l =
    max l.most (greatest record_imports (drop l.record_-index l.modules)) ≡ greatest record_imports l.modules
