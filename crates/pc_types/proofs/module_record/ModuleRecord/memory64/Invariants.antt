use Rattle.std.proofs.Common.{◌≡◌, ◌++◌, drop}
use Rattle.std.specs.Prelude.{slice_get}
use Rattle.std.specs.List.{filter_map}
use Rattle.pc_types.specs.Record.{import_width, memory_widths}
use Rattle.pc_types.proofs.module_record.ModuleRecord.memory64.Given as goal

abbrev pub invariant-loop-import : goal.invariant-loop-import
invariant-loop-import l =
    slice_get (filter_map import_width (drop l.import-index l.fn.self.imports) ++ l.fn.self.memories) l.left
    ≡ slice_get (memory_widths l.fn.self) l.fn.m.0
