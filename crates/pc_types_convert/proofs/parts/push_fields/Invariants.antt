use Rattle.std.proofs.Common.{◌≡◌, ◌++◌, take}
use Rattle.std.specs.List.{flat_map}
use Rattle.pc_types_convert.specs.Needed.{field_parts}
use Rattle.pc_types_convert.proofs.parts.push_fields.Given as goal

abbrev pub invariant-loop-field : goal.invariant-loop-field
invariant-loop-field l = l.ns.items ≡ l.fn.ns.items ++ flat_map field_parts (take l.field-index l.fields)
