use Rattle.std.proofs.Common.{◌≡◌, ◌++◌, option_map, codes}
use Rattle.pc_entity.specs.SecondaryMap.{value_at}
use Rattle.pc_spec_facts.specs.Recorded.{global_of}
use Rattle.pc_spec_facts.specs.Text.{each_below, fact_line, known}
use Rattle.pc_text_facts.proofs.imports.put_globals.Given as goal

abbrev pub invariant-loop-n : goal.invariant-loop-n
invariant-loop-n l =
    l.out.items ≡ l.fn.out.items
    ++ each_below l.n (λ n. fact_line (codes "global") known l.place n (option_map global_of (value_at l.globals n)))
