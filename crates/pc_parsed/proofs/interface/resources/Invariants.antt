use Rattle.std.proofs.Common.{◌≡◌, [], drop}
use Rattle.pc_parsed.specs.Interface.{resources_from}
use Rattle.pc_parsed.proofs.interface.resources.Given as goal

abbrev pub invariant-loop-entry : goal.invariant-loop-entry
invariant-loop-entry l = resources_from l.table l.leads (drop l.entry-index l.types) ≡ resources_from l.table [] l.types
