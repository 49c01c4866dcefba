use Rattle.std.proofs.Common.{◌≡◌, ◌++◌, drop}
use Rattle.std.specs.List.{flat_map}
use Rattle.pc_spec_plan.specs.Text.{escaped}
use Rattle.pc_text_pieces.proofs.piece.put_all_escaped.Given as goal

abbrev pub invariant-loop-byte : goal.invariant-loop-byte
invariant-loop-byte l =
    l.out.items ++ flat_map escaped (drop l.byte-index l.bytes) ≡ l.fn.out.items ++ flat_map escaped l.bytes
