use Rattle.std.proofs.Common.{◌≡◌, drop}
use Rattle.pc_parsed.specs.Interface.{intrinsics_fault}
use Rattle.pc_parsed.proofs.interface.intrinsics_fault.Given as goal

abbrev pub invariant-loop-export : goal.invariant-loop-export
invariant-loop-export l =
    intrinsics_fault l.table l.prims (drop l.export-index l.exports) ≡ intrinsics_fault l.table l.prims l.exports
