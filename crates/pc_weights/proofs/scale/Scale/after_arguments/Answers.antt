use Rattle.std.proofs.Common.{arith}
use Rattle.pc_spec_reading.specs.Section.{argument_of}
use Rattle.pc_spec_reading.specs.Total.{argument_weight}
use Rattle.pc_weights.proofs.SumLemmas.{left_at_end}
use Rattle.pc_weights.proofs.scale.Scale.after_arguments.Goals as goal

pub returns : goal.returns
returns c =
    left_at_end (argument_weight c.args.self.now.table.now c.args.self.now.modules.now) argument_of c.args.args.now
    c.loop-arg.arg-index c.args.room c.loop-arg.left (omega arith) c.loop-arg.invariant
