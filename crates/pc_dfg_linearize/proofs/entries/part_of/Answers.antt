use Rattle.std.specs.Prelude.{[]}
use Rattle.pc_dfg.specs.declared.ids.CallbackId.{CallbackId}
use Rattle.pc_dfg.specs.declared.ids.MemoryId.{MemoryId}
use Rattle.pc_dfg.specs.declared.ids.PostReturnId.{PostReturnId}
use Rattle.std.proofs.lemmas.List.Elements.{All-head}
use Rattle.pc_spec_plan.specs.PlanView as plan
use Rattle.pc_dfg_linearize.specs.Parts.{HasNumber, options_id}
use Rattle.pc_dfg_linearize.proofs.EntryLemmas.{slot_there, maybe_there, options_there, part_is}
use Rattle.pc_dfg_linearize.proofs.entries.part_of.Goals as goal

pub at-requires : goal.at-requires
at-requires c = record {
  numbered = slot_there c.args.finish.now plan.memory c.in-Memory.memory.0
      (part_is c.args.finish.now _ _ c.in-Memory.is c.requires.numbered);
}

pub at_any-requires : goal.at_any-requires
at_any-requires c = record {
  numbered = maybe_there c.args.finish.now (λ (x : MemoryId). x.0) plan.memory c.in-MaybeMemory.memory
      (part_is c.args.finish.now _ _ c.in-MaybeMemory.is c.requires.numbered);
}

pub at-requires-in-Table : goal.at-requires-in-Table
at-requires-in-Table c = record {
  numbered = slot_there c.args.finish.now plan.table c.in-Table.table.0
      (part_is c.args.finish.now _ _ c.in-Table.is c.requires.numbered);
}

pub at_any-requires-in-Callback : goal.at_any-requires-in-Callback
at_any-requires-in-Callback c = record {
  numbered = maybe_there c.args.finish.now (λ (x : CallbackId). x.0) plan.callback c.in-Callback.callback
      (part_is c.args.finish.now _ _ c.in-Callback.is c.requires.numbered);
}

pub at_any-requires-in-PostReturn : goal.at_any-requires-in-PostReturn
at_any-requires-in-PostReturn c = record {
  numbered = maybe_there c.args.finish.now (λ (x : PostReturnId). x.0) plan.post_return c.in-PostReturn.post_return
      (part_is c.args.finish.now _ _ c.in-PostReturn.is c.requires.numbered);
}

pub at-requires-in-Options : goal.at-requires-in-Options
at-requires-in-Options c = record {
  numbered = options_there c.args.finish.now c.in-Options.options.0
      (All-head (HasNumber c.args.finish.now) (options_id c.in-Options.options.0) []
      (part_is c.args.finish.now _ _ c.in-Options.is c.requires.numbered));
}
