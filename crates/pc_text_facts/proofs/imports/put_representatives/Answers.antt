use Rattle.std.proofs.Common.{option_map, codes}
use Rattle.pc_entity.specs.PackedOption.{as_option}
use Rattle.pc_entity.specs.SecondaryMap.{value_at}
use Rattle.pc_numbers.specs.declared.module_entity.FuncIndex.{FuncIndex}
use Rattle.pc_spec_plan.specs.Text.{number}
use Rattle.pc_spec_facts.specs.Text.{fact_line}
use Rattle.pc_text_facts.proofs.Below.{one_more}
use Rattle.pc_text_facts.proofs.imports.put_representatives.Goals as goal

pub loop-f-preserved : goal.loop-f-preserved
loop-f-preserved c =
    one_more (λ f x. fact_line (codes "same") number c.args.place f (option_map (λ (r : FuncIndex). r.0) (as_option x)))
    (value_at c.args.representatives.now) _ _ _ _ _ c.get.ensures c.loop-f.invariant
    c.in_ok-put_representative.ensures
