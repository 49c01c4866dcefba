use Rattle.std.proofs.Common.{◌≡◌, ◌+◌, take}
use Rattle.pc_inline_imports.specs.Learns.{IsRegistered, Registers}
use Rattle.pc_inline_imports.proofs.learn.register_all.Given as goal

-- the first are known
abbrev pub invariant-loop-one : goal.invariant-loop-one
invariant-loop-one l =
    Registers l.context.table.now l.fn.state l.fn.frame l.state l.frame
    × IsRegistered l.first (take l.one-index l.found) l.fn.state l.state
    × (l.number ≡ l.first + l.one-index)
