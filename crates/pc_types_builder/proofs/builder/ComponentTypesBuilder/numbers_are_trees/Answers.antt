use Rattle.pc_types_convert.proofs.OneNumber.{one_number}
use Rattle.pc_types_convert.proofs.OneTree.{one_tree}
use Rattle.pc_types_builder.proofs.builder.ComponentTypesBuilder.numbers_are_trees.Goals as goal

pub returns : goal.returns
returns c = λ who apart. record {
  one_number = one_number c.args.self.now c.types_are_distinct.ensures.distinct who apart;
  one_tree = one_tree c.args.self.now who;
}
