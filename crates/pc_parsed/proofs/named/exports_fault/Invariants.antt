use Rattle.std.proofs.Common.{◌≡◌, ◌++◌, drop, map}
use Rattle.pc_parsed.specs.ItemFaults.{export_name, exports_fault}
use Rattle.pc_parsed.specs.Names.{HaveSame}
use Rattle.pc_parsed.proofs.named.exports_fault.Given as goal

abbrev pub invariant-loop-n : goal.invariant-loop-n
invariant-loop-n l =
    (exports_fault l.names l.n (drop l.n l.entries) ≡ exports_fault l.fn.names 0 l.entries)
    × HaveSame (map export_name (drop l.n l.entries) ++ l.names) (map export_name l.entries ++ l.fn.names)
