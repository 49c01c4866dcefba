use Rattle.std.proofs.Common.{◌&&◌, ◌||◌}
use Rattle.std.specs.Prelude.{not}
use Rattle.pc_analysis_transparent.specs.Opened.{keeps_out}
use Rattle.pc_analysis_transparent.proofs.transparent.is_transparent.Goals as goal

pub returns : goal.returns
unfolding keeps_out
returns c who lift lower typed =
    let x = c.args.adapter.now in
    λ i.
    ((c.is_plain-lift.ensures who lift typed.lift_tree i && c.is_plain-lower.ensures who lower typed.lower_tree i)
    && not (x.lift_options.async_ || x.lower_options.async_)) && not (c.contains-is_opaque.ensures i)
