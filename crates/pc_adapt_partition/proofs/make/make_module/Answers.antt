use Rattle.std.proofs.lemmas.Result.{on_ok_weaker}
use Rattle.pc_adapt_partition.proofs.StepLemmas.{gathered_fit, gathered_many, module_added}
use Rattle.pc_adapt_partition.proofs.MostLemmas.{closed_most, gathered_most}
use Rattle.pc_adapt_partition.proofs.make.make_module.Goals as goal

pub close-requires-clause-functions : goal.close-requires-clause-functions
close-requires-clause-functions c =
    gathered_fit c.args.types.now c.args.graph.now c.gather.new.graph c.args.first c.args.many c.in_ok-group.group
    c.requires.known c.requires.range c.in_ok-group.ensures.gathers

pub close-requires-clause-all : goal.close-requires-clause-all
close-requires-clause-all c =
    gathered_many c.args.types.now c.args.graph.now c.gather.new.graph c.args.first c.args.many c.in_ok-group.group
    c.requires.known c.requires.range c.in_ok-group.ensures.gathers

pub returns-clause-adds : goal.returns-clause-adds
returns-clause-adds c =
    on_ok_weaker c.close.result
    (λ closes lift lower facts.
    module_added c.args.types.now c.args.graph.now c.gather.new.graph c.args.first c.args.many
    c.in_ok-group.group c.requires.known c.requires.range c.in_ok-group.ensures.gathers c.close.new.graph
    c.args.modules.now c.close.new.modules c.requires.ordered closes lift lower facts)
    c.close.ensures.closes

pub returns-in_err-group-clause-few : goal.returns-in_err-group-clause-few
returns-in_err-group-clause-few c =
    gathered_most c.args.many c.args.graph.now c.gather.new.graph c.args.modules.now c.gather.ensures.few

pub returns-clause-few : goal.returns-clause-few
returns-clause-few c =
    closed_most c.args.many c.args.graph.now c.gather.new.graph c.close.new.graph c.args.modules.now
    c.close.new.modules c.gather.ensures.few c.close.ensures.few
