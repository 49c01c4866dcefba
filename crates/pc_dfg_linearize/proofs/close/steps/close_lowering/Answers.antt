use Rattle.std.proofs.Common.{sym, subst}
use Rattle.pc_dfg_linearize.specs.declared.id.Id.TheVariants as id
use Rattle.pc_dfg_linearize.specs.declared.state.Finish.{Finish}
use Rattle.pc_dfg_linearize.specs.Added.{IsFull}
use Rattle.pc_dfg_linearize.specs.Closed.{Closed}
use Rattle.pc_dfg_linearize.proofs.ClosedSlotLemmas.{ok_then}
use Rattle.pc_dfg_linearize.proofs.LoweringLemmas.{closed_lowering, lowering_can, lowering_is, lowering_within}
use Rattle.pc_dfg_linearize.proofs.close.steps.close_lowering.Goals as goal

pub index-requires : goal.index-requires
index-requires c = lowering_can c.args.graph.now _ c.args.trampoline c.requires.can

pub host_item-import-requires : goal.host_item-import-requires
host_item-import-requires c = record {
  lowers = lowering_is c.args.graph.now _ c.args.trampoline c.index.result.now c.requires.can c.index.ensures;
}

pub lower_import-requires : goal.lower_import-requires
lower_import-requires c =
    let is = c.host_item-import.ensures in
    record {
      held = lowering_within c.args.graph.now c.args.finish.now c.args.trampoline c.index.result.now
          c.host_item-import.result is.0 is.1 c.index.ensures is.2 c.requires.fits;
    }

pub returns-clause-closed : goal.returns-clause-closed
returns-clause-closed c =
    let g = c.args.graph.now in
    let f = c.args.finish.now in
    let item = c.host_item-import.ensures in
    ok_then c.lower_import.result (λ is. subst (λ (h : Finish). Closed g f h (id.Lowering c.args.trampoline)) (sym is)
    (closed_lowering g f c.args.trampoline c.index.result.now c.host_item-import.result item.0 item.1 c.index.ensures
    item.2 c.requires.fits c.requires.held c.requires.fresh)) c.lower_import.ensures.ok

pub returns-clause-full : goal.returns-clause-full
unfolding IsFull
returns-clause-full c = c.lower_import.ensures.full
