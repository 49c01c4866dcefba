use Rattle.std.proofs.Common.{ap, ◌++◌, map}
use Rattle.pc_spec_plan.specs.Text.{definitions}
use Rattle.pc_info.specs.Definitions.{def_view}
use Rattle.pc_text_pieces.proofs.Joining.{joined-first}
use Rattle.pc_text_pieces.proofs.definition.put_definitions.Goals as goal

pub loop-def-init : goal.loop-def-init
loop-def-init c =
    ap (λ l. c.args.out.now.items ++ l) (joined-first (definitions (map def_view c.args.defs.now)))
