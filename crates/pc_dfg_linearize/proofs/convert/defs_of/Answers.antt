use Rattle.std.proofs.Common.{All, ◌<◌, length, subst, sym, arith}
use Rattle.pc_dfg.specs.declared.core_def.CoreDef.{CoreDef}
use Rattle.pc_dfg_linearize.specs.Parts.{HasNumber, in_def}
use Rattle.pc_dfg_linearize.proofs.convert.defs_of.Goals as goal

pub push_def-requires-clause-numbered : goal.push_def-requires-clause-numbered
push_def-requires-clause-numbered c =
    let below : c.loop-def.def-index < length c.args.defs.now =
    omega (arith, c.loop-def-test.true, c.loop-def.auto.def-index-end) in
    subst (λ (d : CoreDef). All (HasNumber c.args.finish.now) (in_def c.args.graph.now d)) (sym c.def-item.is)
    (c.requires.numbered c.loop-def.def-index c.def-item.result below)
