use Rattle.std.proofs.Common.{◌-◌}
use Rattle.pc_inline_state.proofs.host_items.HostItems.export_of.Given as goal

abbrev pub decreases-loop-begin : goal.decreases-loop-begin
decreases-loop-begin l = l.end - l.begin
