use Rattle.std.specs.Option.{option_map}
use Rattle.pc_parsed.proofs.PassLemmas.{Passed}
use Rattle.pc_parsed.proofs.bodies.payloads_error.Given as goal

abbrev pub invariant-loop-n : goal.invariant-loop-n
invariant-loop-n l = Passed l.table (option_map (λ x. x.now) l.exposed) l.payloads l.n l.due l.components.items
