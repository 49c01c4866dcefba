use Rattle.std.proofs.Common.{◌≡◌, ◌++◌, option_map}
use Rattle.pc_entity.specs.SecondaryMap.{value_at}
use Rattle.pc_types.specs.declared.parsed.CoreKind.{CoreKind}
use Rattle.pc_spec_facts.specs.Text.{each_below, fact_line, known}
use Rattle.pc_text_facts.specs.Defined.{defined_as}
use Rattle.pc_text_facts.proofs.imports.put_entities.Given as goal

abbrev pub invariant-loop-n : goal.invariant-loop-n
invariant-loop-n g l =
    (k : CoreKind) → l.out.items ≡ l.fn.out.items
    ++ each_below l.n (λ n. fact_line l.word known l.place n
    (option_map (defined_as g.T.EntityRef.number k) (value_at l.entities n)))
