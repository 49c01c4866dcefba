use Rattle.std.proofs.Common.{◌≡◌, map, take}
use Rattle.pc_weights.specs.Local.{translation_weight}
use Rattle.pc_weights.proofs.weights.body_weights.Given as goal

abbrev pub invariant-loop-body : goal.invariant-loop-body
invariant-loop-body l =
    l.weights.items ≡ map (translation_weight l.scale.table.now l.scale.modules.now) (take l.body-index l.bodies)
