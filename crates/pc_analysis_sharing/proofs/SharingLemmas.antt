-- What is recorded over the core instances of a graph holds over those of its plan.
use Rattle.std.proofs.Common.{◌≡◌, ◌<◌, ◌+◌, inl, inr, ℕ, List, length, map, take, Option, None, Some, refl}
use Rattle.std.proofs.Common.{true, sym, ap, option_map, subst, ◌∙◌, arith}
use Rattle.std.specs.Prelude.{count_by, slice_get}
use Rattle.std.proofs.lemmas.List.{length-map}
use Rattle.std.proofs.lemmas.Option.{same_Some, slice_get-map, slice_get_within}
use Rattle.pc_entity.specs.Lists.{AreDistinct}
use Rattle.pc_numbers.specs.declared.component_entity.StaticModuleIndex.{StaticModuleIndex}
use Rattle.pc_types.specs.declared.module_record.ModuleRecord.{ModuleRecord}
use Rattle.pc_types.specs.declared.parsed.CoreKind.TheVariants as kind
use Rattle.pc_types.specs.Record.{imported}
use Rattle.pc_spec_plan.specs.Counts.{makes_instance}
use Rattle.pc_spec_plan.specs.PlanView as plan
use Rattle.pc_trampoline.specs.declared.part.Mark.{Mark}
use Rattle.pc_info.specs.declared.component.ComponentTranslation.{ComponentTranslation}
use Rattle.pc_info.specs.declared.module.ModuleTranslation.{ModuleTranslation}
use Rattle.pc_info.specs.Modules.{handed_in_view}
use Rattle.pc_info.specs.Standing.{steps_in}
use Rattle.pc_info.specs.View.{view}
use Rattle.pc_spec_wiring.specs.Exported.{is_exported}
use Rattle.pc_spec_wiring.specs.Facts.{IsInPlan, RecordsSharing}
use Rattle.pc_spec_wiring.specs.Known.{arguments_in}
use Rattle.pc_spec_wiring.specs.Origin.{Core, Given, PlanEnd, cores_in, of_host, of_record}
use Rattle.pc_spec_wiring.specs.Sharing.{ArePartitioned, plan_home}
use Rattle.pc_dfg.specs.declared.core_def.CoreDef.{CoreDef}
use Rattle.pc_dfg.specs.declared.dfg.ComponentDfg.{ComponentDfg}
use Rattle.pc_dfg.specs.declared.instance.Instance.{Instance}
use Rattle.pc_dfg.specs.declared.instance.Instance.TheVariants as source
use Rattle.pc_dfg_linearize.specs.Once.{Origin, of_instance, of_module}
use Rattle.pc_dfg_linearize.specs.Wired.{IsWired}
use Rattle.pc_dfg_finish.specs.Apart.{module_of}
use Rattle.pc_dfg_finish.specs.Finishes.{Finishes}
use Rattle.pc_dfg_finish.specs.Renumbered.{Instantiates, IsRenumbered, from_host, from_module, source_of}
use Rattle.pc_dfg_finish.proofs.SealedLemmas.{one_place}
use Rattle.pc_analysis_origins.specs.Renumbered.{HasAll}
use Rattle.pc_analysis_origins.proofs.RenumberedLemmas.{partitioned_there}
use Rattle.pc_analysis_contexts.specs.Cores.{GraphEnd, core_in, given_in, graph_cores, graph_home, instance_core}
use Rattle.pc_analysis_contexts.specs.Cores.{is_exported_in, module_core}
use Rattle.pc_analysis_contexts.specs.Recorded.{RecordsContexts}
use Rattle.pc_analysis_sharing.proofs.CoreLemmas.{as_many, before, found_in, in_either, instantiation}
use Rattle.pc_analysis_sharing.proofs.PlaceLemmas.{Is, cores_renumbered, mapped_from, module_source, place_of}

-- the module of a core instance, and no number of the host's
abbrev number_or : {E : Type 0} → ℕ → Core E → ℕ
number_or n (of_record m r given) = m
number_or n of_host = n

-- the module that a core instance of the graph is made of
abbrev number_in : Instance → Option ℕ
number_in (source.Static m args) = Some m.0
number_in (source.Import r args) = None

-- the module of which a step makes an instance
abbrev instantiated : plan.Initializer → ℕ
instantiated (plan.instantiate_static m args c) = m
instantiated s = 0

module _ (g : ComponentDfg) (number_of : Origin → Option ℕ) where
  -- a step that makes a core instance makes one
  makes_one : (a : Instance) (s : plan.Initializer) → Instantiates g number_of a s → makes_instance s ≡ true
  makes_one a s (from_module {m = n} zip) = refl
  makes_one a s from_host = refl

  -- of a module only where that is what the core instance is made of
  made_of : (a : Instance) (s : plan.Initializer) → Instantiates g number_of a s → (m : ℕ)
      (args : List plan.Definition) (c : Option ℕ) → s ≡ plan.instantiate_static m args c → number_in a ≡ Some m
  made_of a s (from_module {m = n} zip) m args c same = ap (λ t. Some (instantiated t)) same
  made_of a s from_host m args c same = absurd (cc same)

-- a core instance that can be seen through has its module's number
of_number : (m n : ℕ) (o : Option ModuleRecord) (given : List (Given GraphEnd)) (r : ModuleRecord)
    (others : List (Given GraphEnd)) → core_in n o given ≡ of_record m r others → n ≡ m
of_number m n None given r others same = absurd (cc same)
of_number m n (Some s) given r others same = ap (number_or 0) same

module _ (g : ComponentDfg) (p : ComponentTranslation) (are : IsRenumbered g p) (ms : List ModuleTranslation)
    (wired : IsWired g ms) (apart : AreDistinct (map module_of g.adapter_modules))
    (counted : p.component.num_runtime_instances ≡ count_by makes_instance (steps_in p))
    (modules : List ModuleTranslation) (kept : handed_in_view modules ≡ handed_in_view ms) (m : ℕ)
    (records : List ModuleRecord) (there : IsInPlan (view p modules) records m) where
  -- a module of adapters that the plan has was made
  module _ (j : ℕ) (x : StaticModuleIndex × List CoreDef) (at : slice_get g.adapter_modules j ≡ Some x)
      (is : x.0.0 ≡ m) where
    -- it wasn't handed in
    not_handed_in : m < length (handed_in_view ms) → ⊥
    not_handed_in within =
        let behind = (wired.adapter_modules j x at).behind in
        absurd (omega (arith, within, behind, is))

    -- what makes an instance of it is made of it
    of_it : (y : Origin) (a : Instance) → source_of g y ≡ Some a → number_in a ≡ Some m → y ≡ of_module j
    of_it (of_instance i) (source.Static n args) from number =
        let held = wired.arguments i n args from in
        let within = slice_get_within (handed_in_view ms) n.0 held.0 held.1 in
        absurd (not_handed_in (subst (λ k. k < length (handed_in_view ms)) (same_Some n.0 m number) within))
    of_it (of_instance i) (source.Import r args) from number = absurd (cc number)
    of_it (of_module l) a from number =
        let y = mapped_from module_source (slice_get g.adapter_modules l) a from in
        let same_number : y.0.0.0 ≡ x.0.0 =
        same_Some y.0.0.0 m (ap number_in y.2 ∙ number) ∙ sym is in
        let same : y.0.0 ≡ x.0 = λ i. record { 0 = same_number i } in
        ap of_module (apart l j x.0
        (slice_get-map module_of g.adapter_modules l ∙ ap (option_map module_of) y.1 ∙ ap (λ z. Some z) same)
        (slice_get-map module_of g.adapter_modules j ∙ ap (option_map module_of) at))

    its_number : (k : ℕ) × (are.number_of (of_module j) ≡ Some k)
    its_number = elim there [
      | inl within ↦ absurd (not_handed_in (subst (λ (l : List ModuleRecord). m < length l) kept within))
      | inr made ↦
          let found = found_in (arguments_in m) (steps_in p) made.0 made.1 in
          let step = instantiation m found.what made.0 found.gives in
          let makes = ap makes_instance step.1 in
          let k = count_by makes_instance (take found.place (steps_in p)) in
          let within = before makes_instance (steps_in p) found.place found.what found.at makes in
          let y = are.given.given k (omega (arith, within, counted)) in
          let by = are.made y.0 k y.1 in
          let place = one_place makes_instance (steps_in p) by.place found.place by.step found.what by.at
          (makes_one g are.number_of by.what by.step by.does) found.at makes by.number_of_it in
          let same = same_Some by.step found.what (sym by.at ∙ ap (slice_get (steps_in p)) place ∙ found.at) in
          let is_it = of_it y.0 by.what by.from
          (made_of g are.number_of by.what by.step by.does m made.0 step.0 (same ∙ step.1)) in
          (k, ap are.number_of (sym is_it) ∙ y.1)
    ]

  -- each instance of the module in the graph is one in the plan
  to_right : (n : ℕ) (r : ModuleRecord) (given : List (Given GraphEnd))
      → slice_get (graph_cores g records) n ≡ Some (of_record m r given) → (k : ℕ) × Is g p are n k
  unfolding graph_cores
  to_right n r given at =
      let xs = map (instance_core g records) g.instances in
      let ys = map (module_core g records) g.adapter_modules in
      let long = length-map g.instances (instance_core g records) in
      elim (in_either xs ys n (of_record m r given) at) [
        | inl first ↦
            let within = slice_get_within xs n (of_record m r given) first in
            let k = are.all n (omega (arith, within, long)) in
            (k.0, (of_instance n, refl, k.1))
        | inr second ↦
            let x = mapped_from (module_core g records) (slice_get g.adapter_modules second.0) (of_record m r given)
            (sym (slice_get-map (module_core g records) g.adapter_modules second.0) ∙ second.2) in
            let number = of_number m x.0.0.0 (slice_get records x.0.0.0) (map (given_in g) x.0.1) r given x.2 in
            let k = its_number second.0 x.0 x.1 number in
            (k.0, (of_module second.0, ap (λ l. l + second.0) (sym long) ∙ second.1, k.1))
      ]

  -- and the other way round
  to_left : (k : ℕ) (r : ModuleRecord) (given : List (Given PlanEnd))
      → slice_get (cores_in records (steps_in p)) k ≡ Some (of_record m r given) → (n : ℕ) × Is g p are n k
  to_left k r given at =
      let within = slice_get_within (cores_in records (steps_in p)) k (of_record m r given) at in
      let long = as_many records (steps_in p) in
      let y = are.given.given k (omega (arith, within, long, counted)) in
      (place_of g y.0, (y.0, refl, y.1))

  has_all : HasAll graph_home plan_home (Is g p are) (graph_cores g records) (cores_in records (steps_in p)) m
  has_all = record { to_right = to_right; to_left = to_left }

  -- so what partitions its imports in the graph does in the plan
  pub partitioned_in_plan : (r : ModuleRecord) (recorded : ℕ → Option ℕ)
      → is_exported_in g m ≡ is_exported (view p modules) m → RecordsContexts g records m r recorded
      → RecordsSharing (view p modules) records m r recorded
  partitioned_in_plan r recorded exported records_it = record {
    representative = records_it.representative;
    partitioned =
        subst (λ b. ArePartitioned plan_home (cores_in records (steps_in p)) b m (imported r kind.Func)
        records_it.representative) exported
        (partitioned_there graph_home plan_home (Is g p are) (graph_cores g records)
        (cores_in records (steps_in p)) (cores_renumbered g p are records) m has_all (is_exported_in g m)
        (imported r kind.Func) records_it.representative records_it.partitioned);
    exact = records_it.exact;
  }

-- what is recorded over a graph holds over its plan
pub sharing : (g : ComponentDfg) (converted : ℕ → Mark) (p : ComponentTranslation) (ms modules : List ModuleTranslation)
    → Finishes g converted p → IsWired g ms → AreDistinct (map module_of g.adapter_modules)
    → handed_in_view modules ≡ handed_in_view ms
    → (records : List ModuleRecord) (m : ℕ) (r : ModuleRecord) (recorded : ℕ → Option ℕ)
    → is_exported_in g m ≡ is_exported (view p modules) m → IsInPlan (view p modules) records m
    → RecordsContexts g records m r recorded → RecordsSharing (view p modules) records m r recorded
sharing g converted p ms modules finishes wired apart kept records m r recorded exported there records_it =
    let counted = ap (λ (c : plan.Counts). c.runtime_instances) (finishes.counts ms) in
    partitioned_in_plan g p finishes.renumbered ms wired apart counted modules kept m records there r recorded exported
    records_it
