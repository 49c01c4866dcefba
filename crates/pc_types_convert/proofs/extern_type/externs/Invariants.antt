use Rattle.std.proofs.Common.{take}
use Rattle.std.specs.List.{AllZip}
use Rattle.pc_types_convert.specs.Parts.{ExternIs}
use Rattle.pc_types_convert.proofs.extern_type.externs.Given as goal

abbrev pub invariant-loop-item : goal.invariant-loop-item
invariant-loop-item l = AllZip (ExternIs l.done) (take l.item-index l.items) l.types
