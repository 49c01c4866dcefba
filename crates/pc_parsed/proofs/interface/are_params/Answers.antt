use Rattle.std.proofs.Common.{sym, arith}
use Rattle.pc_parsed.proofs.IntrinsicLemmas.{params_apart}
use Rattle.pc_parsed.proofs.interface.are_params.Goals as goal

pub returns-then-taken-params : goal.returns-then-taken-params
returns-then-taken-params c =
    let apart = c.if-taken-params.true in
    sym (params_apart c.args.prims.now c.args.taken.now c.args.params.now (λ same. omega (arith, apart, same)))
