-- What side effects do stays as the graph grows, and is one thing.
use Rattle.std.proofs.Common.{◌≡◌, List, ap, subst, sym, ◌∙◌}
use Rattle.std.proofs.lemmas.Option.{same_Some}
use Rattle.pc_spec_plan.specs.Log as log
use Rattle.pc_trampoline.specs.declared.part.Mark.{Mark}
use Rattle.pc_dfg.specs.declared.dfg.ComponentDfg.{ComponentDfg}
use Rattle.pc_dfg.specs.declared.instance.Instance.{Instance}
use Rattle.pc_dfg.specs.declared.instance.SideEffect.{SideEffect}
use Rattle.pc_dfg.specs.Effects.{Argument, host_arguments, MeansArgument, MeansInstance, means_static, means_host}
use Rattle.pc_dfg.specs.Effects.{MeansEffect, means_made, means_declared, EffectsMean}
use Rattle.pc_dfg.specs.Grows.{Grows}
use Rattle.pc_dfg.specs.Lists as list
use Rattle.pc_dfg.specs.Means.{Means, MeansMaybe}
use Rattle.pc_dfg.proofs.GrowLemmas.{kept}
use Rattle.pc_dfg.proofs.KeptLemmas.{means_kept, maybe_kept}
use Rattle.pc_dfg.proofs.UniqueLemmas.{means_unique, maybe_unique, path_unique}
use Rattle.pc_dfg.proofs.ZipLemmas.{zip_more, zip_unique}

module _ (g h : ComponentDfg) (grows : Grows g h) where
  argument_kept : (a : Argument) (x : log.NamedArgument Mark) → MeansArgument g a x → MeansArgument h a x
  argument_kept a x m = record {
    module_name = m.module_name;
    name = m.name;
    value = means_kept g h grows m.value;
  }

  instance_kept : {x : Instance} {v : log.Instantiation Mark} → MeansInstance g x v → MeansInstance h x v
  instance_kept (means_static {args = args} {vs = vs} zip) =
      means_static (zip_more (Means g) (Means h) (λ x y m. means_kept g h grows m) args vs zip)
  instance_kept (means_host {args = args} {vs = vs} path zip) =
      means_host (kept g h grows list.imports _ _ path)
      (zip_more (MeansArgument g) (MeansArgument h) argument_kept (host_arguments args) vs zip)

  -- a side effect does what it did
  pub effect_kept : {e : SideEffect} {v : log.Entry Mark} → MeansEffect g e v → MeansEffect h e v
  effect_kept (means_made at m) = means_made (kept g h grows list.instances _ _ at) (instance_kept m)
  effect_kept (means_declared at m) =
      means_declared (kept g h grows list.resources _ _ at) (maybe_kept g h grows m)

module _ (g : ComponentDfg) where
  argument_unique : (a : Argument) (x y : log.NamedArgument Mark) → MeansArgument g a x → MeansArgument g a y → x ≡ y
  argument_unique a x y m n =
      let core = m.module_name ∙ sym n.module_name in
      let name = m.name ∙ sym n.name in
      let value = means_unique g m.value n.value in
      λ i. record { module_name = core i; name = name i; value = value i }

  instance_unique : {x : Instance} {v w : log.Instantiation Mark} → MeansInstance g x v → MeansInstance g x w → v ≡ w
  instance_unique (means_static {m = m} {args = args} {vs = vs} a) (means_static {vs = ws} b) =
      ap (log.of_static m.0) (zip_unique (Means g) (λ x y z. means_unique g) args vs ws a b)
  instance_unique (means_host {r = r} {args = args} {path = p} {vs = vs} a b) (means_host {path = q} {vs = ws} c d) =
      let path = path_unique g r.0 p q a c in
      let values = zip_unique (MeansArgument g) argument_unique (host_arguments args) vs ws b d in
      λ i. log.of_host (path i) (values i)

  -- a side effect does one thing
  effect_unique : {e : SideEffect} {v w : log.Entry Mark} → MeansEffect g e v → MeansEffect g e w → v ≡ w
  effect_unique (means_made {x = x} {c = c} p a) (means_made {x = y} {v = u} q b) =
      let same = same_Some x y (sym p ∙ q) in
      let one = instance_unique a (subst (λ z. MeansInstance g z u) (sym same) b) in
      ap (λ z. log.instantiated z c.0) one
  effect_unique (means_declared {x = x} p a) (means_declared {x = y} {v = u} q b) =
      let same = same_Some x y (sym p ∙ q) in
      let one = maybe_unique g a (subst (λ z. MeansMaybe g z.dtor u) (sym same) b) in
      λ i. log.declared_resource (same i).rep (one i) (same i).instance.0

  -- the side effects have one trace
  pub one_trace : (t u : List (log.Entry Mark)) → EffectsMean g t → EffectsMean g u → t ≡ u
  unfolding EffectsMean
  one_trace t u a b = zip_unique (MeansEffect g) (λ e v w. effect_unique) g.side_effects t u a b
