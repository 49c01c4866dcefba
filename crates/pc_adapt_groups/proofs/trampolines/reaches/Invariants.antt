use Rattle.std.proofs.Common.{◌≡◌, length}
use Rattle.pc_adapt_groups.specs.Reaches.{AreReaches}
use Rattle.pc_adapt_groups.proofs.trampolines.reaches.Given as goal

abbrev pub invariant-loop-signed : goal.invariant-loop-signed
invariant-loop-signed l = record {
  known : AreReaches l.graph l.reaches.items;
  all : length l.reaches.items ≡ l.signed-index;
}
