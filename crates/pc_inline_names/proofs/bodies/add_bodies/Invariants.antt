use Rattle.std.proofs.Common.{take}
use Rattle.pc_inline_names.specs.Tables.{AreBodyNumbers}
use Rattle.pc_inline_names.proofs.AddedLemmas.{Added}
use Rattle.pc_inline_names.proofs.bodies.add_bodies.Given as goal

abbrev pub invariant-loop-body : goal.invariant-loop-body
invariant-loop-body l = Added AreBodyNumbers l.fn.texts (take l.body-index l.bodies) l.texts l.all
