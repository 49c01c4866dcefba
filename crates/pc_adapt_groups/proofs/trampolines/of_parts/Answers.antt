use Rattle.std.proofs.Common.{ap, sym, subst}
use Rattle.std.specs.Prelude.{map}
use Rattle.std.specs.List.{flat_map}
use Rattle.pc_trampoline.specs.Parts.{list_of}
use Rattle.pc_trampoline.specs.View.{part_by}
use Rattle.pc_dfg.specs.Names.{in_part}
use Rattle.pc_dfg.specs.Numbers.{graph_numbers}
use Rattle.pc_adapt_groups.specs.Reaches.{Gives}
use Rattle.pc_adapt_groups.proofs.GivesLemmas.{gives_alone, gives_nothing, joined}
use Rattle.pc_adapt_groups.proofs.trampolines.of_parts.Goals as goal

pub returns-in-Empty : goal.returns-in-Empty
returns-in-Empty c =
    gives_nothing c.args.reaches.now _
    (ap (λ ps. flat_map (in_part c.args.graph.now) (map (part_by graph_numbers) (list_of ps))) c.in-Empty.is)

pub returns-in-Two : goal.returns-in-Two
returns-in-Two c =
    subst (λ ps. Gives c.args.reaches.now
    (flat_map (in_part c.args.graph.now) (map (part_by graph_numbers) (list_of ps))) c.join.result) (sym c.in-Two.is)
    (joined c.args.reaches.now _ _ _ _ _ c.of_part-front.ensures
    (gives_alone c.args.reaches.now _ _ c.of_part-back.ensures) c.join.ensures)
