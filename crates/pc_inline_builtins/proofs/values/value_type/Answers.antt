use Rattle.pc_inline_builtins.proofs.TypeLemmas.{value_answer}
use Rattle.pc_inline_builtins.proofs.values.value_type.Goals as goal

pub returns-in-Type_-clause-answers : goal.returns-in-Type_-clause-answers
returns-in-Type_-clause-answers c s knows =
    value_answer _ _ s _ _ c.in-Type_.is _ (c.defined_type.ensures.answers s knows)
