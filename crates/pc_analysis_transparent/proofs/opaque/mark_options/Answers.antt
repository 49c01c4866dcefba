use Rattle.std.proofs.Common.{ap, sym}
use Rattle.pc_dfg.specs.declared.options.CanonicalOptions.{CanonicalOptions}
use Rattle.std.specs.Prelude.{[], ◌∷◌}
use Rattle.pc_dfg.specs.Names.{each_of}
use Rattle.pc_analysis_transparent.proofs.SetLemmas.{with_nothing}
use Rattle.pc_analysis_transparent.proofs.opaque.mark_options.Goals as goal

pub returns-in-None : goal.returns-in-None
returns-in-None c =
    with_nothing _ _ (ap (each_of (λ (o : CanonicalOptions). o.instance.0 ∷ [])) (sym c.in-None.ensures))
