use Rattle.std.proofs.Common.{take}
use Rattle.std.specs.List.{AllZip, list_all}
use Rattle.pc_types_convert.specs.Adds.{AddsContexts, no_context_in_case}
use Rattle.pc_types_lists.specs.Types.{Grows}
use Rattle.pc_types_convert.specs.Parts.{CaseIs}
use Rattle.pc_types_convert.proofs.defined.case_types.Given as goal

abbrev pub invariant-loop-case : goal.invariant-loop-case
invariant-loop-case l = record {
  are : AllZip (CaseIs l.interned l.done) (take l.case-index l.cases) l.types;
  grows : Grows l.fn.interned l.interned;
  contexts : AddsContexts (list_all no_context_in_case l.cases) l.fn.interned l.interned;
}
