use Rattle.pc_inline_exports.proofs.PartLemmas.{made_finds, memory_finds}
use Rattle.pc_inline_exports.proofs.part.part_at.Goals as goal

pub returns-in_err-made_part-in-Instance-clause-finds : goal.returns-in_err-made_part-in-Instance-clause-finds
returns-in_err-made_part-in-Instance-clause-finds c =
    memory_finds c.args.context.now.table.now _ c.args.state.now c.args.state.now _ _ _ c.from_residual.ensures.1

pub returns-in_ok-made_part-in-Instance-clause-finds : goal.returns-in_ok-made_part-in-Instance-clause-finds
returns-in_ok-made_part-in-Instance-clause-finds c =
    made_finds c.args.context.now.table.now _ c.args.state.now _ _ _ c.in-Instance.is _ _
    c.in_ok-made_part-in-Instance.ensures
