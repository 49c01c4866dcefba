use Rattle.std.proofs.Common.{◌≡◌, ◌++◌, take}
use Rattle.std.specs.List.{flat_map}
use Rattle.pc_types_convert.specs.Needed.{case_parts}
use Rattle.pc_types_convert.proofs.parts.push_cases.Given as goal

abbrev pub invariant-loop-case : goal.invariant-loop-case
invariant-loop-case l = l.ns.items ≡ l.fn.ns.items ++ flat_map case_parts (take l.case-index l.cases)
