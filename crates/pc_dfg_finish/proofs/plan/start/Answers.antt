use Rattle.std.proofs.Common.{◌≡◌, length, replicate, None, ap, ◌∙◌}
use Rattle.pc_dfg_linearize.specs.declared.state.Numbers.{Numbers}
use Rattle.pc_dfg_finish.specs.Whole.{no_numbers}
use Rattle.pc_dfg_finish.proofs.plan.start.Goals as goal

pub returns : goal.returns
returns c =
    let g = c.args.graph.now in
    let same : c.no_others.new.numbers ≡ no_numbers g =
    c.in_ok-no_others.ensures ∙ ap (λ (n : Numbers). record n {
      options = replicate (length g.options) None;
      lowerings = replicate (length g.trampolines) None;
      trampolines = replicate (length g.trampolines) None;
      adapter_modules = replicate (length g.adapter_modules) None;
    }) c.in_ok-no_slots.ensures in
    cc
