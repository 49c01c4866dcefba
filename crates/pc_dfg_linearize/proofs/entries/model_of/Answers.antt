use Rattle.pc_dfg_linearize.proofs.EntryLemmas.{model_is}
use Rattle.pc_dfg_linearize.proofs.entries.model_of.Goals as goal

pub at_any-requires : goal.at_any-requires
at_any-requires c = record {
  numbered = (model_is c.args.finish.now _ _ _ c.in-LinearMemory.is c.requires.numbered).0;
}

pub at_any-requires-in-LinearMemory : goal.at_any-requires-in-LinearMemory
at_any-requires-in-LinearMemory c = record {
  numbered = (model_is c.args.finish.now _ _ _ c.in-LinearMemory.is c.requires.numbered).1;
}
