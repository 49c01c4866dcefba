-- Numbers that are cut where a total is full.
use Rattle.std.specs.Prelude.{ℕ, min}
use Rattle.pc_spec_reading.specs.World.{full}

-- a number, cut at the one that a total may not reach
abbrev pub capped : ℕ → ℕ
capped n = min n full
