use Rattle.std.proofs.Common.{take}
use Rattle.std.specs.List.{AllZip, list_all}
use Rattle.pc_types_convert.specs.Adds.{AddsContexts, no_context_in_field}
use Rattle.pc_types_lists.specs.Types.{Grows}
use Rattle.pc_types_convert.specs.Parts.{ValIs}
use Rattle.pc_types_convert.proofs.entry.param_types.Given as goal

abbrev pub invariant-loop-param : goal.invariant-loop-param
invariant-loop-param l = record {
  are : AllZip (λ p w. ValIs l.interned l.done p.1 w) (take l.param-index l.params) l.types;
  grows : Grows l.fn.interned l.interned;
  contexts : AddsContexts (list_all no_context_in_field l.params) l.fn.interned l.interned;
}
