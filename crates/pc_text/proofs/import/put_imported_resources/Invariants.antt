use Rattle.std.proofs.Common.{◌≡◌, ◌++◌, map, drop}
use Rattle.pc_numbers.specs.declared.runtime.RuntimeImportIndex.{RuntimeImportIndex}
use Rattle.pc_spec_plan.specs.Text.{imported_resource_line, numbered}
use Rattle.pc_text.proofs.import.put_imported_resources.Given as goal

abbrev pub invariant-loop-n : goal.invariant-loop-n
invariant-loop-n l =
    l.out.items ++ numbered imported_resource_line l.n (map (λ (r : RuntimeImportIndex). r.0) (drop l.n l.resources))
    ≡ l.fn.out.items ++ numbered imported_resource_line 0 (map (λ (r : RuntimeImportIndex). r.0) l.resources)
