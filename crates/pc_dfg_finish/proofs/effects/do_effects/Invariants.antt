use Rattle.pc_dfg_linearize.specs.Made.{DoneBefore}
use Rattle.pc_dfg_finish.specs.Instantiated.{AreInstantiated}
use Rattle.pc_dfg_finish.proofs.effects.do_effects.Given as goal

abbrev pub invariant-loop-effect : goal.invariant-loop-effect
invariant-loop-effect l = DoneBefore l.graph l.effect-index l.finish × AreInstantiated l.graph l.finish
