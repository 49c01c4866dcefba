use Rattle.pc_dfg_linearize.proofs.StackLemmas.{left_over}
use Rattle.pc_dfg_linearize.proofs.run.take.Goals as goal

pub returns-in-Close-clause-full : goal.returns-in-Close-clause-full
returns-in-Close-clause-full c is =
    left_over c.args.graph.now c.args.finish.now c.args.task _ c.requires.can c.in-Close.is (c.close.ensures.full is)
