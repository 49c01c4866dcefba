use Rattle.std.proofs.Common.{refl}
use Rattle.pc_spec_plan.specs.PlanView as plan
use Rattle.pc_dfg.specs.Numbers.{slots_of}
use Rattle.pc_dfg_linearize.specs.Added.{IsFull}
use Rattle.pc_dfg_linearize.proofs.ClosedSlotLemmas.{definition_closed, slot_held, slot_numbered, slot_ready, slot_within}
use Rattle.pc_dfg_linearize.proofs.ClosedSlotLemmas.{ok_then}
use Rattle.pc_dfg_linearize.proofs.close.slots.close_post_return.Goals as goal

pub index-requires : goal.index-requires
unfolding slots_of
index-requires c = slot_within c.args.graph.now plan.post_return c.args.post_return.0 _ c.requires.can

pub def_of-requires-clause-ready : goal.def_of-requires-clause-ready
unfolding slots_of
def_of-requires-clause-ready c =
    slot_ready c.args.graph.now plan.post_return c.args.post_return.0 _ c.index.result.now c.requires.can
    c.index.ensures

pub def_of-requires-clause-numbered : goal.def_of-requires-clause-numbered
unfolding slots_of
def_of-requires-clause-numbered c =
    slot_numbered c.args.graph.now plan.post_return c.args.post_return.0 c.args.finish.now c.index.result.now
    c.requires.numbered c.index.ensures

pub fill_post_return-requires : goal.fill_post_return-requires
fill_post_return-requires c = record {
  held = slot_held c.args.graph.now plan.post_return c.args.post_return.0 c.args.finish.now c.requires.fits
      c.requires.can;
}

pub returns-clause-closed : goal.returns-clause-closed
unfolding slots_of
returns-clause-closed c =
    ok_then c.fill_post_return.result (λ is. definition_closed c.args.graph.now plan.post_return c.args.post_return.0
    c.args.finish.now _ _ c.index.result.now c.in_ok-def.def c.requires.held c.requires.can c.requires.numbered
    c.requires.fits c.requires.fresh c.index.ensures is refl c.in_ok-def.ensures) c.fill_post_return.ensures.ok

pub returns-clause-full : goal.returns-clause-full
unfolding IsFull
returns-clause-full c = c.fill_post_return.ensures.full
