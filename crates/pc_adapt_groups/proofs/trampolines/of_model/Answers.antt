use Rattle.std.proofs.Common.{ap, sym, subst}
use Rattle.pc_dfg.specs.Names.{in_model}
use Rattle.pc_dfg.specs.Numbers.{model_entry}
use Rattle.pc_adapt_groups.specs.Reaches.{Gives}
use Rattle.pc_adapt_groups.proofs.GivesLemmas.{gives_nothing, joined}
use Rattle.pc_adapt_groups.proofs.trampolines.of_model.Goals as goal

pub returns-in-Gc : goal.returns-in-Gc
returns-in-Gc c =
    gives_nothing c.args.reaches.now _ (ap (λ m. in_model c.args.graph.now (model_entry m)) c.in-Gc.is)

pub returns-in-LinearMemory : goal.returns-in-LinearMemory
returns-in-LinearMemory c =
    subst (λ m. Gives c.args.reaches.now (in_model c.args.graph.now (model_entry m)) c.join.result)
    (sym c.in-LinearMemory.is)
    (joined c.args.reaches.now _ _ _ _ _ c.of_maybe_memory-memory.ensures c.of_maybe_realloc-realloc.ensures
    c.join.ensures)
