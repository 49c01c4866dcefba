use Rattle.std.proofs.Common.{sym, subst}
use Rattle.pc_dfg_linearize.specs.declared.id.Id.TheVariants as id
use Rattle.pc_dfg_linearize.specs.declared.state.Finish.{Finish}
use Rattle.pc_dfg_linearize.specs.Added.{IsFull}
use Rattle.pc_dfg_linearize.specs.Closed.{Closed}
use Rattle.pc_dfg_linearize.specs.Ready.{CanClose}
use Rattle.pc_dfg_linearize.proofs.ClosedSlotLemmas.{ok_then}
use Rattle.pc_dfg_linearize.proofs.TrampolineLemmas.{closed_trampoline, trampoline_named, trampoline_within}
use Rattle.pc_dfg_linearize.proofs.close.entries.close_trampoline.Goals as goal

pub index-signed-requires : goal.index-signed-requires
unfolding CanClose
index-signed-requires c = c.requires.can

pub trampoline_of-entry-requires : goal.trampoline_of-entry-requires
trampoline_of-entry-requires c = record {
  numbered = trampoline_named c.args.graph.now c.args.finish.now c.args.trampoline c.index-signed.result.now
      c.index-signed.ensures c.requires.numbered;
}

pub add_trampoline-requires-clause-held : goal.add_trampoline-requires-clause-held
add_trampoline-requires-clause-held c =
    trampoline_within c.args.graph.now c.args.finish.now c.args.trampoline c.index-signed.result.now
    c.trampoline_of-entry.result c.index-signed.ensures c.trampoline_of-entry.ensures c.requires.fits

pub returns-clause-closed : goal.returns-clause-closed
returns-clause-closed c =
    let f = c.args.finish.now in
    ok_then c.add_trampoline.result
    (λ is. subst (λ (h : Finish). Closed c.args.graph.now f h (id.Trampoline c.args.trampoline)) (sym is)
    (closed_trampoline c.args.graph.now f c.args.trampoline c.index-signed.result.now c.trampoline_of-entry.result
    c.index-signed.ensures c.trampoline_of-entry.ensures c.requires.fits c.requires.held c.requires.numbered
    c.requires.fresh)) c.add_trampoline.ensures.ok

pub returns-clause-full : goal.returns-clause-full
unfolding IsFull
returns-clause-full c = c.add_trampoline.ensures.full
