use Rattle.std.proofs.Common.{take}
use Rattle.std.specs.List.{AllZip, list_all}
use Rattle.pc_types_convert.specs.Adds.{AddsContexts, no_context_in_field}
use Rattle.pc_types_lists.specs.Types.{Grows}
use Rattle.pc_types_convert.specs.Parts.{FieldIs}
use Rattle.pc_types_convert.proofs.defined.field_types.Given as goal

abbrev pub invariant-loop-field : goal.invariant-loop-field
invariant-loop-field l = record {
  are : AllZip (FieldIs l.interned l.done) (take l.field-index l.fields) l.types;
  grows : Grows l.fn.interned l.interned;
  contexts : AddsContexts (list_all no_context_in_field l.fields) l.fn.interned l.interned;
}
