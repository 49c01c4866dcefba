use Rattle.pc_test_adapt_graph.proofs.HeldLemmas.{trees_of_two}
use Rattle.pc_test_adapt_graph.proofs.partitions.partition.Goals as goal

pub partition_adapter_modules-requires-clause-typed : goal.partition_adapter_modules-requires-clause-typed
partition_adapter_modules-requires-clause-typed c =
    trees_of_two c.args.types.now c.args.graph.now c.requires.two
    (c.are_of_two.ensures c.if-not-are_of_two.false)
