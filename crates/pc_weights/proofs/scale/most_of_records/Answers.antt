use Rattle.std.proofs.Common.{ap, ◌∙◌, arith}
use Rattle.std.specs.Prelude.{max}
use Rattle.pc_spec_reading.specs.Total.{record_imports}
use Rattle.pc_weights.proofs.GreatestLemmas.{greatest_further, greatest_whole}
use Rattle.pc_weights.proofs.scale.most_of_records.Goals as goal

pub loop-record_-preserved : goal.loop-record_-preserved
loop-record_-preserved c =
    greatest_further record_imports c.args.modules.now c.loop-record_.record_-index c.record_-item.result
    c.loop-record_.most _ (omega arith) c.record_-item.is
    (c.max-most.ensures ∙ ap (max c.loop-record_.most) (c.len.ensures ∙ ap record_imports c.get.ensures))
    c.loop-record_.invariant

pub returns : goal.returns
returns c =
    greatest_whole record_imports c.args.modules.now c.loop-record_.record_-index c.loop-record_.most (omega arith)
    c.loop-record_.invariant
