use Rattle.pc_spec_reading.proofs.UncountedLemmas.{counted_or_past}
use Rattle.pc_spec_reading.proofs.laws.totals_change_nothing.Goals as goal

pub returns : goal.returns
returns c = counted_or_past
