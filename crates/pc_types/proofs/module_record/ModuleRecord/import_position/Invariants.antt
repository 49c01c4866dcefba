use Rattle.std.proofs.Common.{◌≡◌, drop}
use Rattle.std.specs.Prelude.{slice_get}
use Rattle.pc_types.specs.Record.{places_from, import_place}
use Rattle.pc_types.proofs.module_record.ModuleRecord.import_position.Given as goal

abbrev pub invariant-loop-place : goal.invariant-loop-place
invariant-loop-place l =
    slice_get (places_from l.kind l.place (drop l.place l.fn.self.imports)) l.left ≡ import_place l.fn.self l.fn.entity
