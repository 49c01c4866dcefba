use Rattle.std.specs.Prelude.{ℕ}
use Rattle.pc_spec_adapt.specs.Asked.{FunctionFacts}
use Rattle.pc_adapt.specs.Imports.{is_transparent}
use Rattle.pc_adapt_partition.specs.Facts.{AreFacts}
use Rattle.pc_adapt_partition.specs.Gathered.{Gathers}
use Rattle.pc_adapt_partition.specs.Parts.{parts_of, slice}
use Rattle.pc_adapt_partition.proofs.gather.gather.Given as goal

abbrev pub invariant-loop-place : goal.invariant-loop-place
invariant-loop-place l =
    (lift lower : ℕ → FunctionFacts) → AreFacts l.types l.initial.graph.adapters lift lower
    → Gathers l.initial.graph l.graph l.first
    (parts_of lift lower (is_transparent l.initial.graph) l.first
    (slice l.first l.place l.initial.graph.adapters)) l.group
