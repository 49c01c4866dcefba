use Rattle.std.proofs.Common.{◌≡◌, ◌++◌, take}
use Rattle.std.specs.List.{flat_map}
use Rattle.pc_types_convert.specs.Needed.{val_parts}
use Rattle.pc_types_convert.proofs.parts.push_vals.Given as goal

abbrev pub invariant-loop-v : goal.invariant-loop-v
invariant-loop-v l = l.ns.items ≡ l.fn.ns.items ++ flat_map val_parts (take l.v-index l.vs)
