use Rattle.std.proofs.Common.{◌≡◌, ◌++◌, drop}
use Rattle.std.specs.List.{filter_map}
use Rattle.pc_types.specs.Record.{import_signature}
use Rattle.pc_types_record.proofs.details.signatures.Given as goal

abbrev pub invariant-loop-import : goal.invariant-loop-import
invariant-loop-import l =
    l.found ++ filter_map import_signature (drop l.import-index l.imports) ≡ filter_map import_signature l.imports
