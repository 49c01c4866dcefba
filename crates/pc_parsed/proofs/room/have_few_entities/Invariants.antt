use Rattle.std.proofs.Common.{◌≡◌, ◌-◌, drop}
use Rattle.std.specs.Prelude.{sum_by}
use Rattle.pc_parsed.specs.Program.{entity_total}
use Rattle.pc_parsed.proofs.room.have_few_entities.Given as goal

abbrev pub invariant-loop-payload : goal.invariant-loop-payload
invariant-loop-payload l =
    l.left - sum_by entity_total (drop l.payload-index l.payloads) ≡ 4294967295 - sum_by entity_total l.payloads
