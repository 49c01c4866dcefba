use Rattle.std.proofs.Common.{◌≡◌, length}
use Rattle.pc_dfg.specs.Ordered.{made_before}
use Rattle.pc_adapt_groups.specs.Reaches.{AreUses, IsTop, IsUsedBefore}
use Rattle.pc_adapt_groups.proofs.needed.uses.Given as goal

abbrev pub invariant-loop-effect : goal.invariant-loop-effect
invariant-loop-effect l = record {
  used : IsTop (IsUsedBefore l.graph l.effect-index) l.used;
  known : AreUses l.graph l.uses.items;
  many : length l.uses.items ≡ made_before l.graph l.effect-index;
}
