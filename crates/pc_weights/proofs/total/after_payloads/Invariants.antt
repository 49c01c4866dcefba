use Rattle.std.proofs.Common.{◌≡◌, ◌+◌, ◌-◌, drop}
use Rattle.std.specs.Prelude.{sum_by}
use Rattle.pc_parsed.specs.Program.{entity_total, item_count}
use Rattle.pc_weights.proofs.total.after_payloads.Given as goal

abbrev pub invariant-loop-payload : goal.invariant-loop-payload
invariant-loop-payload l =
    l.left
    - (sum_by item_count (drop l.payload-index l.payloads) + sum_by entity_total (drop l.payload-index l.payloads))
    ≡ l.room - (sum_by item_count l.payloads + sum_by entity_total l.payloads)
