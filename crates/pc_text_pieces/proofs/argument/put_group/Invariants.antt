use Rattle.std.proofs.Common.{◌≡◌, ◌++◌, map, drop}
use Rattle.pc_spec_plan.specs.Text.{named_definitions}
use Rattle.pc_info.specs.Definitions.{argument_view}
use Rattle.pc_text_pieces.specs.Joined.{joined}
use Rattle.pc_text_pieces.proofs.argument.put_group.Given as goal

abbrev pub invariant-loop-place : goal.invariant-loop-place
invariant-loop-place l =
    l.out.items ++ joined l.is_first (named_definitions (map (argument_view l.module_name) (drop l.place l.args)))
    ≡ l.fn.out.items ++ joined l.are_first (named_definitions (map (argument_view l.module_name) l.args))
