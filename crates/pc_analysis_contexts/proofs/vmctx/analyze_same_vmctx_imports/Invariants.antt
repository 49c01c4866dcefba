use Rattle.pc_analysis_contexts.proofs.RecordLemmas.{AreWritten}
use Rattle.pc_analysis_contexts.proofs.vmctx.analyze_same_vmctx_imports.Given as goal

abbrev pub invariant-loop-place : goal.invariant-loop-place
invariant-loop-place l = AreWritten l.dfg l.fn.modules l.place l.modules
