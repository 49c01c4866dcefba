use Rattle.std.proofs.Common.{sym, ap, ◌∙◌}
use Rattle.std.specs.Option.{option_copied}
use Rattle.pc_test_adapt_graph.proofs.HeldLemmas.{has_plan}
use Rattle.pc_test_adapt_graph.proofs.plans.plan_of.Goals as goal

pub plan_adapter-requires : goal.plan_adapter-requires
plan_adapter-requires c = record {
  held = has_plan c.args.graph.now c.args.types.now c.args.id c.in_ok-get.field-0.now
      (sym c.get.ensures ∙ ap option_copied c.in_ok-get.was) (c.is_typed.ensures c.if-not-is_typed.false);
}
