use Rattle.std.proofs.Common.{◌≡◌}
use Rattle.pc_spec_plan.specs.PlanView as plan
use Rattle.pc_dfg.specs.Numbers.{memory_def}
use Rattle.pc_dfg_linearize.specs.Added.{IsFull}
use Rattle.pc_dfg_linearize.specs.Converted.{export_in}
use Rattle.pc_dfg_linearize.proofs.ClosedSlotLemmas.{slot_closed, slot_held, slot_ready, memory_at, memory_made, memory_view}
use Rattle.pc_dfg_linearize.proofs.ClosedSlotLemmas.{memory_within, ok_then, ok_value}
use Rattle.pc_dfg_linearize.proofs.close.slots.close_memory.Goals as goal

pub index-requires : goal.index-requires
index-requires c = memory_within c.args.graph.now _ c.args.memory c.requires.can

pub export_of-requires : goal.export_of-requires
export_of-requires c =
    let at = memory_at c.args.graph.now c.args.memory.0 c.index.result.now c.index.ensures in
    record {
      made = memory_made c.args.graph.now _ c.index.result.now
          (slot_ready c.args.graph.now plan.memory c.args.memory.0 _ (memory_def c.index.result.now) c.requires.can at);
    }

pub fill_memory-requires : goal.fill_memory-requires
fill_memory-requires c = record {
  held = slot_held c.args.graph.now plan.memory c.args.memory.0 c.args.finish.now c.requires.fits c.requires.can;
}

pub returns-clause-closed : goal.returns-clause-closed
returns-clause-closed c =
    let at = memory_at c.args.graph.now c.args.memory.0 c.index.result.now c.index.ensures in
    let export = ok_value (λ e. e ≡ export_in c.args.finish.now c.index.result.now) c.export_of.result
    c.in_ok-export.export c.in_ok-export.was c.export_of.ensures in
    ok_then c.fill_memory.result (λ is. slot_closed c.args.graph.now plan.memory c.args.memory.0 c.args.finish.now _ _
    (memory_def c.index.result.now) c.requires.held c.requires.can c.requires.numbered c.requires.fits
    c.requires.fresh at is
    (memory_view c.args.graph.now c.args.finish.now c.index.result.now c.in_ok-export.export export))
    c.fill_memory.ensures.ok

pub returns-clause-full : goal.returns-clause-full
unfolding IsFull
returns-clause-full c = c.fill_memory.ensures.full
