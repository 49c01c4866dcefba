use Rattle.std.proofs.Common.{◌≡◌, ◌++◌, drop}
use Rattle.pc_types.specs.Record.{places_from}
use Rattle.pc_types_record.proofs.import_places.put.Given as goal

abbrev pub invariant-loop-place : goal.invariant-loop-place
invariant-loop-place l =
    l.places ++ places_from l.kind l.place (drop l.place l.imports)
    ≡ l.fn.places ++ places_from l.kind 0 l.imports
