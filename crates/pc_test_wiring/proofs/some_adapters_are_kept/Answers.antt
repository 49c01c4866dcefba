use Rattle.pc_test_wiring.proofs.Quiet.{async_is_kept, context_is_used, handle_is_kept, load_is_quiet}
use Rattle.pc_test_wiring.proofs.some_adapters_are_kept.Goals as goal

pub returns-clause-lowered_async : goal.returns-clause-lowered_async
returns-clause-lowered_async c = async_is_kept

pub returns-clause-takes_handle : goal.returns-clause-takes_handle
returns-clause-takes_handle c = handle_is_kept

pub returns-clause-uses_context : goal.returns-clause-uses_context
returns-clause-uses_context c = context_is_used

pub returns-clause-loads : goal.returns-clause-loads
returns-clause-loads c = load_is_quiet
