use Rattle.pc_inline_resources.specs.Walked.{is_value}
use Rattle.pc_inline_resources.proofs.arguments.take_resources.Goals as goal

pub register_all-requires-clause-start : goal.register_all-requires-clause-start
register_all-requires-clause-start c = (c.requires.value.0, is_value c.requires.value.1)

pub returns-clause-steps : goal.returns-clause-steps
returns-clause-steps c v is = c.register_all.ensures.steps v (is_value is)
