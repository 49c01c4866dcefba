use Rattle.std.proofs.Common.{◌≡◌, drop}
use Rattle.pc_entity.specs.Lists.{value_of}
use Rattle.pc_types.proofs.module_record.ModuleRecord.export.Given as goal

abbrev pub invariant-loop-export : goal.invariant-loop-export
invariant-loop-export l =
    value_of l.fn.name (drop l.export-index l.fn.self.exports) ≡ value_of l.fn.name l.fn.self.exports
