use Rattle.std.proofs.Common.{◌≡◌, ◌++◌, option_map, codes}
use Rattle.pc_entity.specs.PackedOption.{as_option}
use Rattle.pc_entity.specs.SecondaryMap.{value_at}
use Rattle.pc_numbers.specs.declared.module_entity.FuncIndex.{FuncIndex}
use Rattle.pc_spec_plan.specs.Text.{number}
use Rattle.pc_spec_facts.specs.Text.{each_below, fact_line}
use Rattle.pc_text_facts.proofs.imports.put_representatives.Given as goal

abbrev pub invariant-loop-f : goal.invariant-loop-f
invariant-loop-f l =
    l.out.items ≡ l.fn.out.items
    ++ each_below l.f (λ f. fact_line (codes "same") number l.place f
    (option_map (λ (r : FuncIndex). r.0) (as_option (value_at l.representatives f))))
