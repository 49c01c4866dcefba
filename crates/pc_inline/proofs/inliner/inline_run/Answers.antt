use Rattle.std.proofs.Common.{refl}
use Rattle.pc_inline.proofs.RunLemmas.{gains_nothing, run_unfed}
use Rattle.pc_inline.proofs.inliner.inline_run.Goals as goal

pub inline_named-requires-clause-named : goal.inline_named-requires-clause-named
inline_named-requires-clause-named c = record {
  modules = c.in_ok-names.ensures.modules;
  table = c.in_ok-names.ensures.table;
  bodies = c.in_ok-names.ensures.bodies;
  distinct = c.are_distinct.ensures;
  paths = refl;
}

pub returns-in_err-names-clause-inlines : goal.returns-in_err-names-clause-inlines
returns-in_err-names-clause-inlines c body stands = run_unfed _ _ _ _ body _ _ c.from_residual.ensures.1

pub returns-in_err-names-clause-adds : goal.returns-in_err-names-clause-adds
returns-in_err-names-clause-adds c = gains_nothing _ _ _
