use Rattle.std.proofs.Common.{sym, ap, ◌∙◌}
use Rattle.pc_dfg.specs.Names.{each_of, in_effect, in_instance, in_resource}
use Rattle.pc_adapt_groups.proofs.GivesLemmas.{gives_nothing}
use Rattle.pc_adapt_groups.proofs.effects.of_effect.Goals as goal

pub returns-in-None : goal.returns-in-None
unfolding in_effect
returns-in-None c =
    gives_nothing c.args.reaches.now _
    (ap (in_effect c.args.graph.now) c.in-Instance.is ∙ ap (each_of in_instance) (sym c.in-None.ensures))

pub returns-in-None-get : goal.returns-in-None-get
unfolding in_effect
returns-in-None-get c =
    gives_nothing c.args.reaches.now _
    (ap (in_effect c.args.graph.now) c.in-Resource.is ∙ ap (each_of in_resource) (sym c.in-None-get.ensures))
