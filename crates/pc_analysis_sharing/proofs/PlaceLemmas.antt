-- A core instance of a graph, and one of its modules of adapters, stands at some place among all of them, and has some
-- number in the plan of the graph.
use Rattle.std.proofs.Common.{◌≡◌, ◌+◌, ℕ, List, [], ◌∷◌, length, map, Option, None, Some}
use Rattle.std.proofs.Common.{refl, option_map, sym, ap, subst, ◌∙◌, arith}
use Rattle.std.specs.Prelude.{slice_get}
use Rattle.std.specs.List.{AllZip}
use Rattle.std.proofs.lemmas.List.{length-map}
use Rattle.std.proofs.lemmas.Option.{none-some, same_Some, slice_get-map, slice_get_within}
use Rattle.pc_entity.proofs.Growing.{slice_get-append}
use Rattle.pc_numbers.specs.declared.component_entity.StaticModuleIndex.{StaticModuleIndex}
use Rattle.pc_numbers.specs.declared.entity_index.EntityIndex.{EntityIndex}
use Rattle.pc_types.specs.declared.module_record.ModuleRecord.{ModuleRecord}
use Rattle.pc_spec_plan.specs.CoreValue.{by_index}
use Rattle.pc_spec_plan.specs.PlanView as plan
use Rattle.pc_info.specs.declared.component.ComponentTranslation.{ComponentTranslation}
use Rattle.pc_info.specs.Standing.{steps_in}
use Rattle.pc_spec_wiring.specs.Origin.{Core, PlanEnd, core_of, cores_in, cores_of, given_by, of_host}
use Rattle.pc_spec_wiring.specs.Sharing.{plan_home}
use Rattle.pc_dfg.specs.declared.core_def.CoreDef.{CoreDef}
use Rattle.pc_dfg.specs.declared.dfg.ComponentDfg.{ComponentDfg}
use Rattle.pc_dfg.specs.declared.ids.AdapterModuleId.{AdapterModuleId}
use Rattle.pc_dfg.specs.declared.instance.Instance.{Instance}
use Rattle.pc_dfg.specs.declared.instance.Instance.TheVariants as source
use Rattle.pc_dfg_linearize.specs.Once.{Origin, of_instance, of_module}
use Rattle.pc_dfg_finish.specs.Renumbered.{Becomes, Instantiates, IsRenumbered, adapter_becomes, export_becomes}
use Rattle.pc_dfg_finish.specs.Renumbered.{flags_become, from_host, from_module, intrinsic_becomes, source_of}
use Rattle.pc_dfg_finish.specs.Renumbered.{trampoline_becomes}
use Rattle.pc_analysis_origins.specs.Renumbered.{AreRenumbered, SameCore, SameGiven, both_homeless, both_of_component}
use Rattle.pc_analysis_origins.specs.Renumbered.{same_end, same_item}
use Rattle.pc_analysis_contexts.specs.Cores.{adapter_in, core_in, given_in, graph_cores, graph_home}
use Rattle.pc_analysis_contexts.specs.Cores.{instance_core, module_core}
use Rattle.pc_analysis_sharing.proofs.CoreLemmas.{behind, made_at}

-- what a function makes of what is there comes from it
pub mapped_from : {A B : Type 0} (f : A → B) (o : Option A) (y : B) → option_map f o ≡ Some y
    → (x : A) × (o ≡ Some x) × (f x ≡ y)
mapped_from f None y is = absurd (none-some y is)
mapped_from f (Some x) y is = (x, refl, same_Some (f x) y is)

-- a module of adapters with its arguments, as what a core instance is made of
abbrev pub module_source : StaticModuleIndex × List CoreDef → Instance
module_source x = source.Static x.0 x.1

module _ (g : ComponentDfg) where
  -- where it stands among all of them
  abbrev pub place_of : Origin → ℕ
  place_of (of_instance k) = k
  place_of (of_module m) = length g.instances + m

  -- what there is has a place of its own
  pub one_place : (x y : Origin) (a b : Instance) → source_of g x ≡ Some a → source_of g y ≡ Some b
      → place_of x ≡ place_of y → x ≡ y
  one_place (of_instance k) (of_instance l) a b there here same = ap of_instance same
  one_place (of_instance k) (of_module m) a b there here same =
      let within = slice_get_within g.instances k a there in
      absurd (omega (arith, within, same))
  one_place (of_module m) (of_instance k) a b there here same =
      let within = slice_get_within g.instances k b here in
      absurd (omega (arith, within, same))
  one_place (of_module m) (of_module l) a b there here same =
      let same_module : m ≡ l = omega (arith, same) in
      ap of_module same_module

  module _ (records : List ModuleRecord) where
    -- there stands its core instance
    pub core_at : (x : Origin) (a : Instance) → source_of g x ≡ Some a
        → slice_get (graph_cores g records) (place_of x) ≡ Some (instance_core g records a)
    unfolding graph_cores
    core_at (of_instance k) a there =
        slice_get-append (map (instance_core g records) g.instances) (map (module_core g records) g.adapter_modules) k
        (instance_core g records a)
        (slice_get-map (instance_core g records) g.instances k ∙ ap (option_map (instance_core g records)) there)
    core_at (of_module m) a there =
        let xs = map (instance_core g records) g.instances in
        let ys = map (module_core g records) g.adapter_modules in
        let x = mapped_from module_source (slice_get g.adapter_modules m) a there in
        let long = length-map g.instances (instance_core g records) in
        behind xs ys m (length g.instances + m) (omega (arith, long)) ∙ slice_get-map (module_core g records) g.adapter_modules m
        ∙ ap (option_map (module_core g records)) x.1 ∙ ap (λ z. Some (instance_core g records z)) x.2

module _ (g : ComponentDfg) (p : ComponentTranslation) (are : IsRenumbered g p) where
  -- a core instance of the graph is this one of the plan
  abbrev pub Is : (place number : ℕ) → Type 0
  Is n k = (x : Origin) × (place_of g x ≡ n) × (are.number_of x ≡ Some k)

  -- what is given in the graph is what is given in the plan
  same_given : (d : CoreDef) (e : plan.Definition) → Becomes g are.number_of d e
      → SameGiven graph_home plan_home Is (given_in g d) (given_by e)
  same_given d e (export_becomes {e = x} {n = n} is) = same_item (of_instance x.instance.0, refl, is)
  same_given d e flags_become = same_end (both_homeless refl refl)
  same_given d e trampoline_becomes = same_end (both_of_component refl refl)
  same_given d e intrinsic_becomes = same_end (both_of_component refl refl)
  same_given d e (adapter_becomes {a = a} {p = q} {n = n} at is) =
      subst (λ (o : Option (AdapterModuleId × EntityIndex)). SameGiven graph_home plan_home Is
      (adapter_in (length g.instances) a.0 o) (given_by (plan.export n (by_index q.1)))) (sym at)
      (same_item (of_module q.0.0, refl, is))

  all_given : (ds : List CoreDef) (es : List plan.Definition) → AllZip (Becomes g are.number_of) ds es
      → AllZip (SameGiven graph_home plan_home Is) (map (given_in g) ds) (map given_by es)
  all_given [] [] zip = tt
  all_given [] (e ∷ es) zip = absurd zip
  all_given (d ∷ ds) [] zip = absurd zip
  all_given (d ∷ ds) (e ∷ es) zip = (same_given d e zip.0, all_given ds es zip.1)

  module _ (records : List ModuleRecord) where
    -- a step makes one core instance, which is that of the graph
    pub made_by : (a : Instance) (s : plan.Initializer) → Instantiates g are.number_of a s
        → (d : Core PlanEnd) × (cores_of records s ≡ d ∷ [])
        × SameCore graph_home plan_home Is (instance_core g records a) d
    unfolding SameCore
    made_by a s (from_module {m = m} {args = args} {made = made} zip) =
        (core_of m.0 (slice_get records m.0) made, refl, by (slice_get records m.0))
      where
        by : (o : Option ModuleRecord)
            → SameCore graph_home plan_home Is (core_in m.0 o (map (given_in g) args)) (core_of m.0 o made)
        by None = tt
        by (Some r) = (refl, refl, all_given args made zip)
    made_by a s from_host = (of_host, refl, tt)

    -- so the core instances of the graph are those of the plan under other numbers
    pub cores_renumbered : AreRenumbered graph_home plan_home Is (graph_cores g records) (cores_in records (steps_in p))
    cores_renumbered = record {
      one_right = λ n k l first second.
          let a = are.made first.0 k first.2 in
          let b = are.made second.0 l second.2 in
          let same = one_place g first.0 second.0 a.what b.what a.from b.from (first.1 ∙ sym second.1) in
          same_Some k l (sym first.2 ∙ ap are.number_of same ∙ second.2);
      one_left = λ n o k first second.
          sym first.1 ∙ ap (place_of g) (are.given.once first.0 second.0 k first.2 second.2) ∙ second.1;
      same = λ n k is.
          let made = are.made is.0 k is.2 in
          let d = made_by made.what made.step made.does in (
            instance_core g records made.what,
            d.0,
            ap (slice_get (graph_cores g records)) (sym is.1) ∙ core_at g records is.0 made.what made.from,
            ap (slice_get (cores_in records (steps_in p))) (sym made.number_of_it)
                ∙ made_at records (steps_in p) made.place made.step d.0 made.at d.1,
            d.2,
          );
    }
