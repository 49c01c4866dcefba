use Rattle.pc_info.specs.Definitions.{argument_view}
use Rattle.pc_text_pieces.proofs.Arguments.{argument_done}
use Rattle.pc_text_pieces.proofs.argument.put_group.Goals as goal

pub loop-place-preserved : goal.loop-place-preserved
loop-place-preserved c =
    argument_done (argument_view c.args.module_name.now) _ _ _ _ c.loop-place.is_first c.args.args.now
    c.loop-place.place _ c.entry_at.ensures c.in_ok-put_separator.ensures c.in_ok-put_argument.ensures
    c.loop-place.invariant
