use Rattle.pc_dfg_linearize.proofs.EntryLemmas.{entry_is}
use Rattle.pc_dfg_linearize.proofs.entries.options_of.Goals as goal

pub at_any-requires : goal.at_any-requires
at_any-requires c = record { numbered = (entry_is c.args.finish.now c.args.options.now c.requires.numbered).1 }

pub at_any-requires-2 : goal.at_any-requires-2
at_any-requires-2 c = record { numbered = (entry_is c.args.finish.now c.args.options.now c.requires.numbered).2 }

pub model_of-requires : goal.model_of-requires
model_of-requires c = record { numbered = (entry_is c.args.finish.now c.args.options.now c.requires.numbered).0 }
