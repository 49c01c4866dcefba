use Rattle.std.proofs.Common.{List, ℕ, take}
use Rattle.std.specs.Prelude.{map}
use Rattle.pc_types.specs.declared.parsed.CoreEntity.{CoreEntity}
use Rattle.pc_types_convert.specs.Adds.{AddsSignatures}
use Rattle.std.specs.List.{AllZip}
use Rattle.pc_types_lists.specs.Types.{Grows}
use Rattle.pc_types_convert.specs.Entries.{ImportIs}
use Rattle.pc_types_convert.proofs.extern_type.module_imports.Given as goal

abbrev pub invariant-loop-import : goal.invariant-loop-import
invariant-loop-import l = record {
  are : AllZip (ImportIs l.interned l.table) (take l.import-index l.imports) l.types;
  grows : Grows l.fn.interned l.interned;
  signatures : AddsSignatures l.table (map (λ (i : List ℕ × List ℕ × CoreEntity). i.2) l.imports) l.fn.interned
      l.interned;
}
