use Rattle.std.proofs.Common.{take}
use Rattle.std.specs.List.{AllZip, list_all}
use Rattle.pc_types_convert.specs.Adds.{AddsContexts, no_context_in_val}
use Rattle.pc_types_lists.specs.Types.{Grows}
use Rattle.pc_types_convert.specs.Parts.{ValIs}
use Rattle.pc_types_convert.proofs.defined.value_types.Given as goal

abbrev pub invariant-loop-v : goal.invariant-loop-v
invariant-loop-v l = record {
  are : AllZip (ValIs l.interned l.done) (take l.v-index l.vs) l.types;
  grows : Grows l.fn.interned l.interned;
  contexts : AddsContexts (list_all no_context_in_val l.vs) l.fn.interned l.interned;
}
