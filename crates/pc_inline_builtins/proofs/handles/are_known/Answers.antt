use Rattle.pc_inline_builtins.proofs.HandleLemmas.{handles_within}
use Rattle.pc_inline_builtins.proofs.handles.are_known.Goals as goal

pub resource_table-requires : goal.resource_table-requires
resource_table-requires c =
    let x = c.requires.typed in record { held = handles_within c.args.types.now x.0 c.args.handles x.1 x.2 }
