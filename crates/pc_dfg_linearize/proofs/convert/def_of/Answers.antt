use Rattle.pc_dfg_linearize.proofs.NumberLemmas.{trampoline_there, adapter_there}
use Rattle.pc_dfg_linearize.proofs.convert.def_of.Goals as goal

pub at-requires : goal.at-requires
at-requires c = record {
  numbered = trampoline_there c.args.graph.now c.args.finish.now c.args.def.now c.in-Trampoline.trampoline
      c.in-Trampoline.is c.requires.numbered;
}

pub at-requires-in-Adapter : goal.at-requires-in-Adapter
at-requires-in-Adapter c = record {
  numbered = adapter_there c.args.graph.now c.args.finish.now c.args.def.now c.in-Adapter.adapter c.index.result.now
      c.in-Adapter.is c.index.ensures c.requires.numbered;
}
