use Rattle.std.proofs.Common.{◌≡◌, ◌++◌, drop}
use Rattle.std.specs.Prelude.{slice_get}
use Rattle.std.specs.List.{filter_map}
use Rattle.pc_types.specs.Record.{import_signature, func_signatures}
use Rattle.pc_types.proofs.module_record.ModuleRecord.func_sig.Given as goal

abbrev pub invariant-loop-import : goal.invariant-loop-import
invariant-loop-import l =
    slice_get (filter_map import_signature (drop l.import-index l.fn.self.imports) ++ l.fn.self.funcs) l.left
    ≡ slice_get (func_signatures l.fn.self) l.fn.f.0
