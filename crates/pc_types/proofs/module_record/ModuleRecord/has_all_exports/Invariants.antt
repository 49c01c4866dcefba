use Rattle.std.proofs.Common.{◌≡◌, drop}
use Rattle.std.specs.List.{list_all}
use Rattle.pc_types.specs.Record.{has_entity}
use Rattle.pc_types.proofs.module_record.ModuleRecord.has_all_exports.Given as goal

abbrev pub invariant-loop-export : goal.invariant-loop-export
invariant-loop-export l =
    list_all (λ e. has_entity l.self e.1) (drop l.export-index l.export-items)
    ≡ list_all (λ e. has_entity l.self e.1) l.export-items
