use Rattle.std.proofs.Common.{arith}
use Rattle.std.proofs.lemmas.List.{drop_more}
use Rattle.pc_offsets.proofs.UsedLemmas.{joined_start, next_unused, next_used, all_found}
use Rattle.pc_offsets.proofs.offsets.used_intrinsics.Goals as goal
use Rattle.pc_offsets.proofs.offsets.used_intrinsics.Goals.{in-None, in-Some}

pub loop-n-init : goal.loop-n-init
loop-n-init c = joined_start _

pub loop-n-preserved : goal.loop-n-preserved
loop-n-preserved c =
    let split = drop_more c.args.signatures.now c.loop-n.n _ (omega (arith, c.told-signatures, c.loop-n-test.true)) in
    elim c.match-signatures-n.branch [
      | in-None w ↦ next_unused c.args.signatures.now _ c.loop-n.n c.loop-n.invariant _ split _ w.in-None.is w.end-is
      | in-Some w ↦ next_used c.args.signatures.now _ c.loop-n.n c.loop-n.invariant _ split _ _ w.in-Some.is w.end-is
    ]

pub returns : goal.returns
returns c =
    all_found c.args.signatures.now _ c.loop-n.n c.loop-n.invariant
    (omega (arith, c.told-signatures, c.loop-n-test.false))
