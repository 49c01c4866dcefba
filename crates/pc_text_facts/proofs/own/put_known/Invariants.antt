use Rattle.std.proofs.Common.{◌≡◌, ◌++◌}
use Rattle.pc_spec_facts.specs.Recorded.{is_known_by}
use Rattle.pc_spec_facts.specs.Text.{each_below, known_line}
use Rattle.pc_text_facts.proofs.own.put_known.Given as goal

abbrev pub invariant-loop-n : goal.invariant-loop-n
invariant-loop-n g l =
    l.out.items ≡ l.fn.out.items
    ++ each_below l.n (λ n. known_line l.word l.place n (is_known_by l.known n))
