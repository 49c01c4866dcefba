use Rattle.pc_analysis_reads.proofs.ReadLemmas.{transparent_as_read}
use Rattle.pc_analysis_reads.proofs.adapters_are_transparent_as_read.Goals as goal

pub returns : goal.returns
returns c t types g w nodes who lift lower stands exports exported fits typed k v at =
    transparent_as_read t types g w nodes who lift lower stands exports exported fits typed k v at
