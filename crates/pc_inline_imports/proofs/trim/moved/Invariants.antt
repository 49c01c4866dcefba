use Rattle.std.proofs.Common.{◌≡◌, map, take}
use Rattle.pc_inline_imports.specs.Trims.{moved_by}
use Rattle.pc_inline_imports.proofs.trim.moved.Given as goal

-- the first are moved
abbrev pub invariant-loop-one : goal.invariant-loop-one
invariant-loop-one l = l.moved ≡ map (moved_by l.numbers) (take l.one-index l.found)
