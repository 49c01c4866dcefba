use Rattle.std.proofs.Common.{ap, sym, ◌∙◌}
use Rattle.pc_dfg.specs.Names.{each_of, in_instance, in_resource}
use Rattle.pc_dfg.specs.declared.instance.Instance.{Instance}
use Rattle.pc_dfg.specs.declared.instance.Resource.{Resource}
use Rattle.pc_analysis_transparent.specs.Context.{uses_context}
use Rattle.pc_analysis_transparent.specs.Opened.{by_effect, when}
use Rattle.pc_analysis_transparent.proofs.SetLemmas.{with_nothing}
use Rattle.pc_analysis_transparent.proofs.opaque.mark_effect.Goals as goal

pub returns-in-None : goal.returns-in-None
unfolding by_effect
returns-in-None c =
    with_nothing _ _ (ap (by_effect c.args.graph.now) c.in-Instance.is
    ∙ ap (each_of (λ (x : Instance). when (uses_context (in_instance x)) _)) (sym c.in-None.ensures))

pub returns-in-None-get : goal.returns-in-None-get
unfolding by_effect
returns-in-None-get c =
    with_nothing _ _ (ap (by_effect c.args.graph.now) c.in-Resource.is
    ∙ ap (each_of (λ (r : Resource). when (uses_context (in_resource r)) r.instance.0)) (sym c.in-None-get.ensures))
