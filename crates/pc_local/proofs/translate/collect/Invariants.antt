use Rattle.std.proofs.Common.{drop}
use Rattle.std.specs.Option.{option_map}
use Rattle.pc_local.specs.Open.{state_of}
use Rattle.pc_local.proofs.RoomLemmas.{Collected}
use Rattle.pc_local.proofs.translate.collect.Given as goal

abbrev pub invariant-loop-payload : goal.invariant-loop-payload
invariant-loop-payload l =
    Collected (option_map (λ x. x.now) l.exposed) l.payloads (drop l.payload-index l.payloads) (state_of l.open)
