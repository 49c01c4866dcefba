use Rattle.std.specs.Prelude.{◌≡◌, ◌++◌}
use Rattle.pc_dfg.specs.Grows.{Grows}
use Rattle.pc_dfg.specs.Ordered.{IsOrdered}
use Rattle.pc_adapt_partition.specs.Parts.{functions_from}
use Rattle.pc_adapt_partition.proofs.close.place_adapters.Given as goal

abbrev pub invariant-loop-place : goal.invariant-loop-place
invariant-loop-place l =
    (l.graph ≡ record l.initial.graph {
      adapter_partitionings = l.initial.graph.adapter_partitionings
          ++ functions_from l.adapter_module.0 l.function l.place;
    })
    × Grows l.initial.graph l.graph
    × (IsOrdered l.initial.graph → IsOrdered l.graph)
