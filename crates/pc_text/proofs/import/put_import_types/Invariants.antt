use Rattle.std.proofs.Common.{◌≡◌, ◌++◌, map, drop}
use Rattle.pc_spec_plan.specs.Text.{import_type_line, numbered}
use Rattle.pc_info.specs.View.{import_type_view}
use Rattle.pc_text.proofs.import.put_import_types.Given as goal

abbrev pub invariant-loop-n : goal.invariant-loop-n
invariant-loop-n l =
    l.out.items ++ numbered import_type_line l.n (map import_type_view (drop l.n l.imports))
    ≡ l.fn.out.items ++ numbered import_type_line 0 (map import_type_view l.imports)
