use Rattle.std.proofs.Common.{sym, subst}
use Rattle.pc_dfg_linearize.specs.declared.id.Id.TheVariants as id
use Rattle.pc_dfg_linearize.specs.declared.state.Finish.{Finish}
use Rattle.pc_dfg_linearize.specs.Closed.{Closed}
use Rattle.pc_dfg_linearize.specs.Ready.{CanClose}
use Rattle.pc_dfg_linearize.proofs.IntrinsicLemmas.{closed_intrinsic}
use Rattle.pc_dfg_linearize.proofs.close.entries.close_intrinsic.Goals as goal

pub returns : goal.returns
unfolding CanClose
returns c = record {
  closed = subst (λ (h : Finish).
      Closed c.args.graph.now c.args.finish.now h (id.Intrinsic c.args.signature c.args.intrinsic))
      (sym c.note_intrinsic.ensures)
      (closed_intrinsic c.args.graph.now c.args.finish.now c.args.intrinsic c.args.signature c.requires.fits
      c.requires.fresh c.requires.can);
}
