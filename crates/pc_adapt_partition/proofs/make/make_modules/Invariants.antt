use Rattle.std.specs.Prelude.{◌≡◌, ℕ, take}
use Rattle.pc_spec_adapt.specs.Asked.{FunctionFacts}
use Rattle.pc_adapt.specs.Imports.{is_transparent}
use Rattle.pc_adapt_partition.specs.Facts.{AreFacts}
use Rattle.pc_adapt_partition.specs.Made.{Makes, sum_of}
use Rattle.pc_adapt_partition.proofs.make.make_modules.Given as goal

abbrev pub invariant-loop-place : goal.invariant-loop-place
invariant-loop-place l =
    (l.first ≡ sum_of (take l.place l.lengths))
    × ((lift lower : ℕ → FunctionFacts) → AreFacts l.types l.initial.graph.adapters lift lower
    → Makes lift lower (is_transparent l.initial.graph) l.initial.graph l.graph l.initial.modules l.modules
    (take l.place l.lengths))
