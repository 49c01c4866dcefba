use Rattle.pc_spec_wiring.specs.FunctionTypes.{has_handle, is_async_type}
use Rattle.pc_confined.proofs.ReachLemmas.{threads_kept}
use Rattle.pc_confined.proofs.confined_logs_keep_threads.Goals as goal

pub returns : goal.returns
returns c log nodes = threads_kept is_async_type has_handle log nodes
