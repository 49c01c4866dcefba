use Rattle.std.proofs.Common.{ap, sym}
use Rattle.pc_dfg.specs.Names.{each_of, in_entry}
use Rattle.pc_dfg.specs.Numbers.{options_entry}
use Rattle.pc_adapt_groups.proofs.GivesLemmas.{gives_nothing}
use Rattle.pc_adapt_groups.proofs.trampolines.of_options.Goals as goal

pub returns-in-None : goal.returns-in-None
returns-in-None c =
    gives_nothing c.args.reaches.now _
    (ap (each_of (λ x. in_entry c.args.graph.now (options_entry x))) (sym c.in-None.ensures))
