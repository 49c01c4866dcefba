use Rattle.std.proofs.Common.{◌≡◌, ◌++◌, map, drop}
use Rattle.pc_spec_plan.specs.Text.{import_line, numbered}
use Rattle.pc_info.specs.View.{import_view}
use Rattle.pc_text.proofs.import.put_imports.Given as goal

abbrev pub invariant-loop-n : goal.invariant-loop-n
invariant-loop-n l =
    l.out.items ++ numbered import_line l.n (map import_view (drop l.n l.imports))
    ≡ l.fn.out.items ++ numbered import_line 0 (map import_view l.imports)
