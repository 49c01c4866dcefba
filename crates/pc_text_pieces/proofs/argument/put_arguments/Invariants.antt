use Rattle.std.proofs.Common.{◌≡◌, ◌++◌, drop}
use Rattle.std.specs.List.{flat_map}
use Rattle.pc_spec_plan.specs.Text.{listed, named_definitions}
use Rattle.pc_info.specs.Definitions.{arguments_view}
use Rattle.pc_text_pieces.specs.Joined.{joined}
use Rattle.pc_text_pieces.proofs.argument.put_arguments.Given as goal

abbrev pub invariant-loop-place : goal.invariant-loop-place
invariant-loop-place l =
    l.out.items ++ joined l.are_first (named_definitions (flat_map arguments_view (drop l.place l.args)))
    ≡ l.fn.out.items ++ listed (named_definitions (flat_map arguments_view l.args))
