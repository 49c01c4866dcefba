use Rattle.std.proofs.Common.{◌≡◌, drop, length}
use Rattle.pc_parsed.specs.Interface.{are_params}
use Rattle.pc_parsed.proofs.interface.are_params.Given as goal

abbrev pub invariant-loop-n : goal.invariant-loop-n
invariant-loop-n l =
    (length l.taken ≡ length l.params)
    × (are_params l.prims (drop l.n l.taken) (drop l.n l.params) ≡ are_params l.prims l.taken l.params)
