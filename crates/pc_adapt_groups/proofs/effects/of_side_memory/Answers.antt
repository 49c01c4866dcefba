use Rattle.std.proofs.Common.{refl, sym, subst}
use Rattle.std.specs.Prelude.{option_map}
use Rattle.pc_dfg.specs.Names.{if_any}
use Rattle.pc_dfg.specs.Numbers.{memory_def}
use Rattle.pc_adapt_groups.specs.Reaches.{Gives}
use Rattle.pc_adapt_groups.proofs.GivesLemmas.{by_export}
use Rattle.pc_adapt_groups.proofs.effects.of_side_memory.Goals as goal

pub returns-in-Some : goal.returns-in-Some
returns-in-Some c =
    subst (λ m. Gives c.args.reaches.now (if_any (option_map (λ x. memory_def x.0) m)) c.of_instance.result)
    (sym c.in-Some.is) (by_export c.args.reaches.now _ _ _ refl c.of_instance.ensures)
