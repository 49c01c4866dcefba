use Rattle.std.proofs.Common.{sym}
use Rattle.pc_dfg.specs.Numbers.{memory_def, slots_of}
use Rattle.pc_adapt_groups.proofs.GivesLemmas.{gives_memory, gives_no_slot}
use Rattle.pc_adapt_groups.proofs.trampolines.of_memory.Goals as goal

pub returns-in-Some : goal.returns-in-Some
unfolding slots_of
returns-in-Some c =
    gives_memory c.args.reaches.now c.args.graph.now.memories c.args.memory.0 c.in-Some.export.now c.of_instance.result
    (sym c.in-Some.ensures) c.of_instance.ensures

pub returns-in-None : goal.returns-in-None
unfolding slots_of
returns-in-None c =
    gives_no_slot c.args.reaches.now memory_def c.args.graph.now.memories c.args.memory.0 (sym c.in-None.ensures)
