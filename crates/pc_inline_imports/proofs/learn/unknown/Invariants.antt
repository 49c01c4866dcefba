use Rattle.std.proofs.Common.{◌≡◌, take}
use Rattle.std.specs.Prelude.{filter}
use Rattle.pc_inline_imports.specs.Learns.{is_free}
use Rattle.pc_inline_imports.proofs.learn.unknown.Given as goal

-- those among the first that aren't known are kept
abbrev pub invariant-loop-one : goal.invariant-loop-one
invariant-loop-one l =
    l.kept ≡ filter (is_free l.state.types.resources.known) (take l.one-index l.found)
