use Rattle.std.proofs.Common.{◌≡◌, [], drop}
use Rattle.pc_parsed.specs.Interface.{prims_from}
use Rattle.pc_parsed.proofs.interface.prims.Given as goal

abbrev pub invariant-loop-entry : goal.invariant-loop-entry
invariant-loop-entry l = prims_from l.prims (drop l.entry-index l.types) ≡ prims_from [] l.types
