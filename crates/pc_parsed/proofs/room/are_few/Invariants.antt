use Rattle.std.proofs.Common.{◌≡◌, ◌+◌, ◌<◌, drop}
use Rattle.std.specs.Prelude.{sum_by}
use Rattle.pc_parsed.specs.Program.{item_count}
use Rattle.pc_parsed.proofs.room.are_few.Given as goal

abbrev pub invariant-loop-payload : goal.invariant-loop-payload
invariant-loop-payload l =
    (l.left + sum_by item_count l.payloads ≡ 4294967295 + sum_by item_count (drop l.payload-index l.payloads))
    × (0 < l.left)
