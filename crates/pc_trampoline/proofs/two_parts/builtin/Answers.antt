use Rattle.std.specs.Prelude.{◌≡◌, true}
use Rattle.std.proofs.Common.{rules}
use Rattle.pc_trampoline.specs.Shape.{part_shape}
use Rattle.pc_trampoline.proofs.BuiltinLemmas.{of_builtin, stand_together}
use Rattle.pc_trampoline.proofs.two_parts.builtin.Goals as goal

pub returns-in_default-clause-none : goal.returns-in_default-clause-none
returns-in_default-clause-none g c h =
    let k : stand_together (part_shape c.args.first) (part_shape c.args.second) ≡ true = of_builtin _ _ h in
    Prim.search rules
