use Rattle.pc_inline_resources.proofs.AlongLemmas.{met_missing, met_steps}
use Rattle.pc_inline_resources.proofs.arguments.register_met.Goals as goal

pub returns-in-Some-clause-steps : goal.returns-in-Some-clause-steps
returns-in-Some-clause-steps c find p met =
    met_steps find _ _ _ _ _ _ c.args.met p met _ c.in-Some.is _ c.register.ensures.steps

pub returns-in-None-clause-steps : goal.returns-in-None-clause-steps
returns-in-None-clause-steps c find p met = met_missing find _ _ _ _ _ _ c.args.met p met c.in-None.is
