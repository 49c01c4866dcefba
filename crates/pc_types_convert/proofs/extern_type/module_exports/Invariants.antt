use Rattle.std.proofs.Common.{List, ℕ, take}
use Rattle.std.specs.Prelude.{map}
use Rattle.pc_types.specs.declared.parsed.CoreEntity.{CoreEntity}
use Rattle.pc_types_convert.specs.Adds.{AddsSignatures}
use Rattle.std.specs.List.{AllZip}
use Rattle.pc_types_lists.specs.Types.{Grows}
use Rattle.pc_types_convert.specs.Entries.{ExportIs}
use Rattle.pc_types_convert.proofs.extern_type.module_exports.Given as goal

abbrev pub invariant-loop-export : goal.invariant-loop-export
invariant-loop-export l = record {
  are : AllZip (ExportIs l.interned l.table) (take l.export-index l.exports) l.types;
  grows : Grows l.fn.interned l.interned;
  signatures : AddsSignatures l.table (map (λ (e : List ℕ × CoreEntity). e.1) l.exports) l.fn.interned l.interned;
}
