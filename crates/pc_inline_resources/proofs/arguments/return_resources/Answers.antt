use Rattle.pc_spec_reading.specs.Value.{instance_value, made_instance}
use Rattle.pc_inline_resources.specs.Walked.{is_exports}
use Rattle.pc_inline_resources.proofs.TakenLemmas.{a_tree, returned_steps}
use Rattle.pc_inline_resources.proofs.arguments.return_resources.Goals as goal

pub register_all-requires-clause-start : goal.register_all-requires-clause-start
register_all-requires-clause-start c =
    (instance_value (made_instance c.requires.members.0 a_tree), is_exports c.requires.members.1)

pub returns-clause-steps : goal.returns-clause-steps
returns-clause-steps c vs members =
    returned_steps _ _ _ _ _ _ _ _ vs
    (c.register_all.ensures.steps (instance_value (made_instance vs a_tree)) (is_exports members))
