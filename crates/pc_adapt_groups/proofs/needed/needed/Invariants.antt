use Rattle.std.proofs.Common.{◌≡◌, ℕ, length}
use Rattle.std.specs.Prelude.{Some, slice_get}
use Rattle.pc_adapt_groups.specs.Needs.{Needs}
use Rattle.pc_adapt_groups.specs.Reaches.{IsTop}
use Rattle.pc_adapt_groups.proofs.needed.needed.Given as goal

abbrev pub invariant-loop-adapter : goal.invariant-loop-adapter
invariant-loop-adapter l = record {
  tops : (a m : ℕ) → slice_get l.needed.items a ≡ Some m → IsTop (Needs l.graph a) m;
  all : length l.needed.items ≡ l.adapter-index;
}
