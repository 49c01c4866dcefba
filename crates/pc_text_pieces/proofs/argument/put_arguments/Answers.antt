use Rattle.std.proofs.Common.{ap, ◌++◌}
use Rattle.std.specs.List.{flat_map}
use Rattle.pc_spec_plan.specs.Text.{named_definitions}
use Rattle.pc_info.specs.Definitions.{arguments_view}
use Rattle.pc_text_pieces.proofs.Arguments.{group_done}
use Rattle.pc_text_pieces.proofs.Joining.{joined-first}
use Rattle.pc_text_pieces.proofs.argument.put_arguments.Goals as goal

pub loop-place-init : goal.loop-place-init
loop-place-init c =
    ap (λ l. c.args.out.now.items ++ l) (joined-first (named_definitions (flat_map arguments_view c.args.args.now)))

pub loop-place-preserved : goal.loop-place-preserved
loop-place-preserved c =
    group_done _ _ _ c.loop-place.are_first _ c.args.args.now c.loop-place.place _ c.entry_at.ensures
    c.in_ok-put_group.ensures c.loop-place.invariant c.next_are_first-are_first.ensures
