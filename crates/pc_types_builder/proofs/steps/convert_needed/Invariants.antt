use Rattle.std.proofs.Common.{◌≤◌, ℕ, length, take}
use Rattle.pc_types_lists.specs.Types.{Grows}
use Rattle.pc_types_builder.specs.Asked.{AddsAsked}
use Rattle.pc_types_builder.specs.Converted.{AreConverted}
use Rattle.pc_types_convert.specs.Needed.{Each, IsDone}
use Rattle.pc_types_builder.proofs.steps.convert_needed.Given as goal

abbrev pub invariant-loop-k : goal.invariant-loop-k
invariant-loop-k l = record {
  converted : AreConverted l.interned l.fn.table l.converted;
  so_far : Each (IsDone l.converted.all) (take l.k-index l.order);
  kept : (m : ℕ) → IsDone l.fn.converted.all m → IsDone l.converted.all m;
  grows : Grows l.fn.interned l.interned;
  within : l.k-index ≤ length l.order;
  adds : AddsAsked l.fn.table l.fn.n l.fn.interned l.interned;
}
