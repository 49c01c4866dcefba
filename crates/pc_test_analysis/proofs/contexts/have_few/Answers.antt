use Rattle.std.proofs.Common.{length, ap, arith}
use Rattle.std.proofs.lemmas.Option.{slice_get_within}
use Rattle.pc_test_analysis.proofs.ContextLemmas.{few_records}
use Rattle.pc_test_analysis.proofs.contexts.have_few.Goals as goal

pub returns : goal.returns
returns c =
    let ms = c.args.modules.now in
    λ is.
    few_records ms (λ m x at.
    c.loop-held.invariant m x
    (omega (arith, slice_get_within ms m x at, c.loop-held-test.false, ap length c.as_slice-held-items.ensures)) at)
