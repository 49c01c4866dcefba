use Rattle.std.proofs.Common.{ap, ◌∙◌, arith}
use Rattle.std.specs.Prelude.{max}
use Rattle.pc_spec_reading.specs.Total.{entry_imports}
use Rattle.pc_weights.proofs.GreatestLemmas.{greatest_further, greatest_whole}
use Rattle.pc_weights.proofs.scale.most_of_types.Goals as goal

pub loop-entry-preserved : goal.loop-entry-preserved
loop-entry-preserved c =
    greatest_further entry_imports c.args.types.now c.loop-entry.entry-index c.entry-item.result
    c.loop-entry.most _ (omega arith) c.entry-item.is
    (c.max-most.ensures ∙ ap (λ n. max c.loop-entry.most n) c.entry_imports.ensures) c.loop-entry.invariant

pub returns : goal.returns
returns c =
    greatest_whole entry_imports c.args.types.now c.loop-entry.entry-index c.loop-entry.most (omega arith)
    c.loop-entry.invariant
