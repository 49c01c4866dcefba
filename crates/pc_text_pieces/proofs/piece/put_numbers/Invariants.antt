use Rattle.std.proofs.Common.{◌≡◌, ◌++◌, drop}
use Rattle.std.specs.List.{flat_map}
use Rattle.pc_spec_plan.specs.Text.{number}
use Rattle.pc_text_pieces.proofs.piece.put_numbers.Given as goal

abbrev pub invariant-loop-n : goal.invariant-loop-n
invariant-loop-n l =
    l.out.items ++ flat_map number (drop l.n-index l.numbers) ≡ l.fn.out.items ++ flat_map number l.numbers
