use Rattle.std.proofs.Common.{◌≡◌, ◌++◌, option_map, codes}
use Rattle.pc_entity.specs.SecondaryMap.{value_at}
use Rattle.pc_spec_facts.specs.Recorded.{function_of}
use Rattle.pc_spec_facts.specs.Text.{each_below, fact_line, known_function}
use Rattle.pc_text_facts.proofs.imports.put_functions.Given as goal

abbrev pub invariant-loop-f : goal.invariant-loop-f
invariant-loop-f l =
    l.out.items ≡ l.fn.out.items
    ++ each_below l.f (λ f. fact_line (codes "func") known_function l.place f
    (option_map function_of (value_at l.functions f)))
