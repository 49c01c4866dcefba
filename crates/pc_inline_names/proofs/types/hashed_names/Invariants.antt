use Rattle.std.proofs.Common.{◌≡◌, take}
use Rattle.pc_entity.specs.Lists.{names_of}
use Rattle.pc_inline_names.proofs.types.hashed_names.Given as goal

abbrev pub invariant-loop-export : goal.invariant-loop-export
invariant-loop-export l = l.names ≡ names_of (take l.export-index l.exports)
