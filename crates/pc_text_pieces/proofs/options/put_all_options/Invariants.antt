use Rattle.std.proofs.Common.{◌≡◌, ◌++◌, map, drop}
use Rattle.pc_spec_plan.specs.Text.{numbered, options_line}
use Rattle.pc_info.specs.Options.{options_view}
use Rattle.pc_text_pieces.proofs.options.put_all_options.Given as goal

abbrev pub invariant-loop-n : goal.invariant-loop-n
invariant-loop-n l =
    l.out.items ++ numbered options_line l.n (map options_view (drop l.n l.all))
    ≡ l.fn.out.items ++ numbered options_line 0 (map options_view l.all)
