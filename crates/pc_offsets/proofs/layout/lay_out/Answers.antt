use Rattle.std.proofs.Common.{◌∙◌, arith}
use Rattle.std.proofs.lemmas.List.{drop_more, length-set}
use Rattle.pc_offsets.proofs.LayoutLemmas.{next_laid, next_sized, next_aligned, next_past, all_laid, all_sized}
use Rattle.pc_offsets.proofs.layout.lay_out.Goals as goal

pub returns-in_err-start-clause-past : goal.returns-in_err-start-clause-past
returns-in_err-start-clause-past c e =
    let i = c.loop-n.invariant in
    let split = drop_more c.args.fields.now c.loop-n.n _ (omega (arith, c.told-fields, c.loop-n-test.true)) in
    next_past _ c.loop-n.starts _ _ i.laid i.sized _ split i.aligned _ (c.place.ensures.past c.in_err-start.was)

pub loop-n-preserved : goal.loop-n-preserved
loop-n-preserved c =
    let i = c.loop-n.invariant in
    let split = drop_more c.args.fields.now c.loop-n.n _ (omega (arith, c.told-fields, c.loop-n-test.true)) in
    let is = c.in_ok-start.ensures.placed in
    record {
      laid = next_laid _ _ _ _ i.laid i.sized _ split i.aligned _ _ is.0 is.1
          (omega (arith, i.long, c.loop-n-test.true));
      sized = next_sized _ c.loop-n.starts _ _ i.laid i.sized _ split i.aligned _ is.1;
      aligned = next_aligned _ c.loop-n.starts _ _ i.laid i.sized _ split i.aligned;
      fits = is.2;
      long = length-set c.loop-n.starts c.loop-n.n _ ∙ i.long;
    }

pub returns-clause-kept : goal.returns-clause-kept
returns-clause-kept c =
    let i = c.loop-n.invariant in
    record {
      starts_are = all_laid _ _ _ _ i.laid i.sized (omega (arith, c.told-fields, c.loop-n-test.false))
          (omega (arith, i.long, c.loop-n-test.false, c.loop-n.auto.n-end));
      end_is = all_sized _ c.loop-n.starts _ _ i.laid i.sized (omega (arith, c.told-fields, c.loop-n-test.false));
      end_fits = i.fits;
    }
