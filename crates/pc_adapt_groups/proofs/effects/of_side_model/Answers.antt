use Rattle.std.proofs.Common.{sym, subst}
use Rattle.pc_dfg.specs.Names.{in_side_model}
use Rattle.pc_adapt_groups.specs.Reaches.{Gives}
use Rattle.pc_adapt_groups.proofs.GivesLemmas.{joined}
use Rattle.pc_adapt_groups.proofs.effects.of_side_model.Goals as goal

pub returns-in-LinearMemory : goal.returns-in-LinearMemory
returns-in-LinearMemory c =
    subst (λ m. Gives c.args.reaches.now (in_side_model m) c.join.result) (sym c.in-LinearMemory.is)
    (joined c.args.reaches.now _ _ _ _ _ c.of_side_memory-front.ensures c.of_maybe-back.ensures c.join.ensures)
