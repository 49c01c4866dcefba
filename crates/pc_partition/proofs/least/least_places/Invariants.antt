use Rattle.std.specs.BTreeMap.{get}
use Rattle.pc_partition.specs.Firsts.{AreFirsts, TellsLeast}
use Rattle.pc_partition.specs.Least.{Share}
use Rattle.pc_partition.proofs.least.least_places.Given as goal

abbrev pub invariant-loop-place : goal.invariant-loop-place
invariant-loop-place g l = record {
  firsts : AreFirsts l.keys l.place (get g.K.Ord.cmp l.firsts);
  told : TellsLeast (Share l.keys) l.place l.least;
}
