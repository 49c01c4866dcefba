-- No module of adapters is instantiated twice.
use Rattle.std.proofs.Common.{◌≡◌, ℕ, List, map, take, None, Some, option_map, refl, sym, ap, ◌∙◌}
use Rattle.std.specs.Prelude.{slice_get, count_by}
use Rattle.std.proofs.lemmas.Option.{same_Some, slice_get-map}
use Rattle.pc_entity.specs.Lists.{AreDistinct}
use Rattle.pc_spec_plan.specs.Counts.{makes_instance}
use Rattle.pc_spec_plan.specs.PlanView as plan
use Rattle.pc_dfg.specs.declared.dfg.ComponentDfg.{ComponentDfg}
use Rattle.pc_dfg_linearize.specs.declared.state.Finish.{Finish}
use Rattle.pc_info.specs.Slots.{MakesAdapters}
use Rattle.pc_dfg_finish.specs.Apart.{module_of}
use Rattle.pc_dfg_linearize.specs.Numbers.{number_at}
use Rattle.pc_dfg_linearize.specs.Plan.{steps_view}
use Rattle.pc_info.specs.Slots.{AtMostOne}
use Rattle.pc_dfg_linearize.specs.Sound.{IsSound}
use Rattle.pc_dfg_finish.proofs.SealedLemmas.{one_place}
use Rattle.pc_dfg_finish.proofs.StandingLemmas.{adapters_behind}

-- the module that a step instantiates
abbrev instantiated : plan.Initializer → ℕ
instantiated (plan.instantiate_static m args c) = m
instantiated s = 0

module _ (g : ComponentDfg) (h : Finish) (sound : IsSound g h) where
  -- a module of adapters of the graph becomes the instance of a step
  record IsOfGraph (j m : ℕ) : Type 0 where
    entry : ℕ
    number : number_at h.numbers.adapter_modules entry ≡ Some (count_by makes_instance (take j (steps_view h)))
    at : slice_get (map module_of g.adapter_modules) entry ≡ Some (record { 0 = m })

  of_graph : (j m : ℕ) (args : List plan.Definition)
      → slice_get (steps_view h) j ≡ Some (plan.instantiate_static m args None) → IsOfGraph j m
  of_graph j m args at =
      let k = adapters_behind g h sound j m args at in
      let n = count_by makes_instance (take j (steps_view h)) in
      let is = sound.are_steps.modules k.0 n k.1 in
      let s = plan.instantiate_static m args None in
      let place = one_place makes_instance (steps_view h) is.step.place j _ s is.step.at refl at refl
      is.step.number_of_it in
      let same = same_Some _ s (sym is.step.at ∙ ap (slice_get (steps_view h)) place ∙ at) in
      let number : is.what.0.0 ≡ m = ap instantiated same in
      record {
        entry = k.0;
        number = k.1;
        at = slice_get-map module_of g.adapter_modules k.0 ∙ ap (option_map module_of) is.at
            ∙ ap (λ i. Some (record { 0 = i })) number;
      }

  -- so no two steps instantiate one
  pub adapters_once : AreDistinct (map module_of g.adapter_modules) → (m : ℕ)
      → AtMostOne (MakesAdapters m) (steps_view h)
  adapters_once distinct m i j (plan.instantiate_static a args None) (plan.instantiate_static b others None) at at' is
      is' =
      let x = of_graph i m args (at ∙ ap (λ z. Some (plan.instantiate_static z args None)) is) in
      let y = of_graph j m others (at' ∙ ap (λ z. Some (plan.instantiate_static z others None)) is') in
      let entry = distinct x.entry y.entry (record { 0 = m }) x.at y.at in
      let count = same_Some _ _ (sym x.number ∙ ap (number_at h.numbers.adapter_modules) entry ∙ y.number) in
      one_place makes_instance (steps_view h) i j _ _ at refl at' refl count
  adapters_once distinct m i j (plan.instantiate_static a args None) y at at' is is' = absurd is'
  adapters_once distinct m i j x y at at' is is' = absurd is
