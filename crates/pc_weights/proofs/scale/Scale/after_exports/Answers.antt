use Rattle.std.proofs.Common.{arith}
use Rattle.pc_spec_reading.specs.Section.{named_item}
use Rattle.pc_spec_reading.specs.Total.{export_weight}
use Rattle.pc_weights.proofs.SumLemmas.{left_at_end}
use Rattle.pc_weights.proofs.scale.Scale.after_exports.Goals as goal

pub returns : goal.returns
returns c =
    left_at_end (export_weight c.args.self.now.table.now c.args.self.now.modules.now) named_item c.args.exports.now
    c.loop-export.export-index c.args.room c.loop-export.left (omega arith) c.loop-export.invariant
