use Rattle.pc_types_convert.proofs.ForgetLemmas.{Forgetting, ahead}
use Rattle.pc_types_convert.proofs.LayerLemmas.{layers}
use Rattle.pc_types_convert.proofs.done.Done.forget_users.Given as goal

abbrev pub invariant-loop-m : goal.invariant-loop-m
invariant-loop-m l =
    Forgetting l.fn.n l.fn.self
    (layers l.self-inside.own l.self-inside.plain l.self-inside.users l.self-inside.like l.self-inside.room)
    l.left.items

abbrev pub decreases-loop-m : goal.decreases-loop-m
decreases-loop-m l = ahead l.left.items l.self-inside.users
