use Rattle.std.specs.Prelude.{◌≡◌, true}
use Rattle.std.proofs.Common.{rules}
use Rattle.pc_trampoline.specs.Shape.{part_shape}
use Rattle.pc_trampoline.proofs.BuiltinLemmas.{of_builtin, before_flag}
use Rattle.pc_trampoline.proofs.two_parts.before_flag.Goals as goal

pub returns-in_default-clause-none : goal.returns-in_default-clause-none
returns-in_default-clause-none g c h =
    let k : before_flag (part_shape c.args.part) ≡ true = of_builtin _ _ h in Prim.search rules
