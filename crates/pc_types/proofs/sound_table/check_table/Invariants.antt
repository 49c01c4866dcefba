use Rattle.std.proofs.Common.{◌≡◌, take, drop}
use Rattle.pc_types.specs.Table.{fault_from, table_fault}
use Rattle.pc_types.proofs.sound_table.check_table.Given as goal

abbrev pub invariant-loop-n : goal.invariant-loop-n
invariant-loop-n l = fault_from l.table (take l.n l.types) (drop l.n l.types) ≡ table_fault l.table
