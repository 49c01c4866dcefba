use Rattle.pc_adapt.proofs.FactLemmas.{facts_are}
use Rattle.pc_adapt.proofs.facts.facts_of_function.Goals as goal

pub returns : goal.returns
returns c who tree has =
    facts_are c.args.types.now who c.args.ty c.func-function.result.now c.tuple_facts.result
    c.tuple_facts-2.result tree c.func-function.ensures.is (c.tuple_facts.ensures who) (c.tuple_facts-2.ensures who) has
