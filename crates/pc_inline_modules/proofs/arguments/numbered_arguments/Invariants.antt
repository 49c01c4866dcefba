use Rattle.std.proofs.Common.{Some, take}
use Rattle.pc_entity.specs.Lists.{map_all}
use Rattle.pc_spec_reading.specs.Arguments.{static_argument}
use Rattle.pc_spec_reading.specs.Scope.{Scope}
use Rattle.pc_inline_names.specs.Both.{Both}
use Rattle.pc_inline_state.specs.Found.{ArgumentsStand}
use Rattle.pc_inline_state.specs.Frames.{FrameStands}
use Rattle.pc_inline_state.specs.Tables.{tables_of}
use Rattle.pc_inline_modules.proofs.arguments.numbered_arguments.Given as goal

abbrev pub invariant-loop-place : goal.invariant-loop-place
invariant-loop-place l =
    (s : Scope) → FrameStands l.fn.context.modules (tables_of l.fn.state) l.fn.frame s
    → Both (ArgumentsStand l.fn.context.modules (tables_of l.fn.state)) (Some l.defs)
    (map_all (static_argument l.fn.context.modules s l.fn.args) (take l.place l.fn.imports))
