use Rattle.pc_dfg_linearize.proofs.EntryLemmas.{head_lowering}
use Rattle.pc_dfg_linearize.proofs.entries.head_of.Goals as goal

pub at-requires : goal.at-requires
at-requires c = record {
  numbered = (head_lowering c.args.finish.now c.args.trampoline c.args.head _ _ _ c.in-Lowering.is
      c.requires.numbered).0;
}

pub at-requires-in-Lowering : goal.at-requires-in-Lowering
at-requires-in-Lowering c = record {
  numbered = (head_lowering c.args.finish.now c.args.trampoline c.args.head _ _ _ c.in-Lowering.is
      c.requires.numbered).1;
}
