-- What a reading is but for its total.
use Rattle.std.specs.Prelude.{None}
use Rattle.pc_spec_reading.specs.Outcome.{Outcome, done, and_then}
use Rattle.pc_spec_reading.specs.Reading.{Reading}
use Rattle.pc_spec_reading.specs.Scope.{Moment}
use Rattle.pc_spec_reading.specs.World.{World}

-- the end of a reading without the total that it came to
abbrev pub uncounted : Outcome Reading → Outcome Reading
uncounted o = and_then o (λ (r : Reading). done (record r { total = None }))

-- a world whose total isn't counted
abbrev pub bare_world : World → World
bare_world w = record w { total = None }

-- a moment in such a world
abbrev pub bare : Moment → Moment
bare now = record now { world = bare_world now.world }
