use Rattle.std.proofs.Common.{option_map, codes}
use Rattle.pc_entity.specs.SecondaryMap.{value_at}
use Rattle.pc_spec_facts.specs.Recorded.{function_of}
use Rattle.pc_spec_facts.specs.Text.{fact_line, known_function}
use Rattle.pc_text_facts.proofs.Below.{one_more}
use Rattle.pc_text_facts.proofs.imports.put_functions.Goals as goal

pub loop-f-preserved : goal.loop-f-preserved
loop-f-preserved c =
    one_more (λ f x. fact_line (codes "func") known_function c.args.place f (option_map function_of x))
    (value_at c.args.functions.now) _ _ _ _ _ c.get.ensures c.loop-f.invariant c.in_ok-put_known_function.ensures
