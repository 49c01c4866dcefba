use Rattle.std.proofs.Common.{option_map, codes}
use Rattle.pc_entity.specs.SecondaryMap.{value_at}
use Rattle.pc_spec_facts.specs.Recorded.{global_of}
use Rattle.pc_spec_facts.specs.Text.{fact_line, known}
use Rattle.pc_text_facts.proofs.Below.{one_more}
use Rattle.pc_text_facts.proofs.imports.put_globals.Goals as goal

pub loop-n-preserved : goal.loop-n-preserved
loop-n-preserved c =
    one_more (λ n x. fact_line (codes "global") known c.args.place n (option_map global_of x))
    (value_at c.args.globals.now) _ _ _ _ _ c.get.ensures c.loop-n.invariant c.in_ok-put_known_global.ensures
