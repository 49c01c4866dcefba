use Rattle.std.proofs.Common.{◌≡◌, ◌++◌, map, drop}
use Rattle.pc_spec_plan.specs.Text.{definitions, listed}
use Rattle.pc_info.specs.Definitions.{def_view}
use Rattle.pc_text_pieces.specs.Joined.{joined}
use Rattle.pc_text_pieces.proofs.definition.put_definitions.Given as goal

abbrev pub invariant-loop-def : goal.invariant-loop-def
invariant-loop-def l =
    l.out.items ++ joined l.is_first (definitions (map def_view (drop l.def-index l.defs)))
    ≡ l.fn.out.items ++ listed (definitions (map def_view l.defs))
