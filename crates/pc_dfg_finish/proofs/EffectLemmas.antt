-- A side effect whose arguments have their numbers is done by its step.
use Rattle.std.proofs.Common.{◌≡◌, ◌<◌, ◌+◌, ◌++◌, ℕ, List, [], ◌∷◌, length, map, All, Option, Some, refl, sym}
use Rattle.std.proofs.Common.{ap, subst, ◌∙◌, arith}
use Rattle.std.specs.Option.{option_to_list}
use Rattle.std.specs.Prelude.{option_map, slice_get}
use Rattle.std.specs.List.{AllZip, Contains, flat_map}
use Rattle.std.proofs.lemmas.List.{append-nil}
use Rattle.std.proofs.lemmas.List.Elements.{All-nil, All-weaker}
use Rattle.std.proofs.lemmas.Option.{same_Some}
use Rattle.pc_dfg.specs.declared.ids.InstanceId.{InstanceId}
use Rattle.pc_numbers.specs.declared.runtime.DefinedResourceIndex.{DefinedResourceIndex}
use Rattle.pc_numbers.specs.declared.runtime.RuntimeComponentInstanceIndex.{RuntimeComponentInstanceIndex}
use Rattle.pc_numbers.specs.declared.runtime.RuntimeInstanceIndex.{RuntimeInstanceIndex}
use Rattle.pc_spec_plan.specs.CoreValue.{CoreValue, MaybeValue}
use Rattle.pc_spec_plan.specs.Log as log
use Rattle.pc_spec_plan.specs.Log.{Entry, Instantiation, NamedArgument, declared_resource}
use Rattle.pc_spec_plan.specs.Machine.{State, add_instance, step}
use Rattle.pc_spec_plan.specs.PlanView as plan
use Rattle.pc_trampoline.specs.declared.part.Mark.{Mark}
use Rattle.pc_info.specs.declared.core_def.CoreDef.{CoreDef as PlanDef}
use Rattle.pc_info.specs.declared.initializer.GlobalInitializer.{GlobalInitializer}
use Rattle.pc_info.specs.declared.initializer.GlobalInitializer.TheVariants as init
use Rattle.pc_info.specs.declared.initializer.InstantiateModule.{InstantiateModule}
use Rattle.pc_info.specs.declared.initializer.InstantiateModule.TheVariants as plan_source
use Rattle.pc_info.specs.declared.initializer.Resource.{Resource as PlanResource}
use Rattle.pc_info.specs.declared.module.ModuleTranslation.{ModuleTranslation}
use Rattle.pc_info.specs.Definitions.{def_view, resource_view, source_view}
use Rattle.pc_dfg.specs.declared.core_def.CoreDef.{CoreDef}
use Rattle.pc_dfg.specs.declared.dfg.ComponentDfg.{ComponentDfg}
use Rattle.pc_dfg.specs.declared.instance.Instance.{Instance}
use Rattle.pc_dfg.specs.declared.instance.Resource.{Resource}
use Rattle.pc_dfg.specs.declared.instance.SideEffect.TheVariants as effect
use Rattle.pc_dfg.specs.Effects.{Argument, MeansArgument, MeansEffect, MeansInstance, host_arguments, means_declared}
use Rattle.pc_dfg.specs.Effects.{means_host}
use Rattle.pc_dfg.specs.Effects.{means_made, means_static}
use Rattle.pc_dfg.specs.Held.{HeldEffect, HoldsEntry}
use Rattle.pc_dfg.specs.Lists as list
use Rattle.pc_dfg.specs.Means.{Means, MeansMaybe, means_none, means_some}
use Rattle.pc_dfg.specs.Names.{each_of, if_any, in_effect, in_instance, in_resource}
use Rattle.pc_dfg.specs.Ordered.{IsOrdered}
use Rattle.pc_dfg_linearize.specs.declared.id.Id.{Id}
use Rattle.pc_dfg_linearize.specs.declared.id.Id.TheVariants as id
use Rattle.pc_dfg_linearize.specs.declared.state.Counts.{Counts}
use Rattle.pc_dfg_linearize.specs.declared.state.Finish.{Finish}
use Rattle.pc_dfg_linearize.specs.Arguments.{CanNumber, HasMeaning, IsNumbered, OnlyFromThese}
use Rattle.pc_dfg_linearize.specs.Closed.{Fits}
use Rattle.pc_dfg_linearize.specs.Grouped.{IsGrouped}
use Rattle.pc_dfg_linearize.specs.Made.{IsDone, IsNext, Makes, Prepares, PreparesAny, instance_in, with_instance}
use Rattle.pc_dfg_linearize.specs.Made.{with_resource}
use Rattle.pc_dfg_linearize.specs.Parts.{HasNumber, in_def, number_of}
use Rattle.pc_info.specs.Slots.{definitions_in}
use Rattle.pc_dfg_linearize.specs.Plan.{Extends, slot_count}
use Rattle.pc_dfg_linearize.specs.Reached.{Reached, all_linked}
use Rattle.pc_dfg_linearize.specs.Wired.{IsWired, Occurs}
use Rattle.pc_dfg_linearize.specs.Stages.{AddsEffect}
use Rattle.pc_dfg_linearize.specs.Steps.{IsConvertible}
use Rattle.pc_dfg_linearize.proofs.AllLemmas.{all_cons, all_one}
use Rattle.pc_dfg_finish.specs.Instantiated.{AreInstantiated, StayInstantiated}
use Rattle.pc_dfg_finish.proofs.ArgumentLemmas.{all_can_still}
use Rattle.pc_dfg_linearize.proofs.CountLemmas.{CountsOne, counts_more}
use Rattle.pc_dfg_linearize.proofs.SoundLemmas.{continues_sound, none_more, passes}
use Rattle.pc_dfg_linearize.specs.Sound.{HasPassed, IsSound}
use Rattle.pc_dfg_linearize.proofs.FillLemmas.{instance_fills, resource_fills}
use Rattle.pc_dfg_finish.proofs.HereLemmas.{finish_with}
use Rattle.pc_dfg_finish.proofs.InstanceLemmas.{instance_reached}
use Rattle.pc_dfg_finish.proofs.InstantiatedLemmas.{continues_instantiated, instance_instantiated}
use Rattle.pc_dfg_finish.proofs.InstantiatedLemmas.{resource_instantiated}
use Rattle.pc_dfg_finish.proofs.NextLemmas.{next_held, next_instance, next_occurs, next_ready, next_resource}
use Rattle.pc_dfg_linearize.proofs.PartLemmas.{all_made}
use Rattle.pc_dfg_finish.proofs.PushedLemmas.{length_pushed}
use Rattle.pc_dfg_linearize.proofs.RepresentedLemmas.{represents_aside}
use Rattle.pc_dfg_finish.proofs.ResolveLemmas.{Resolves, each_resolves, host_goes, static_goes}
use Rattle.pc_dfg_finish.proofs.ResourceLemmas.{declare, resource_goes, resource_reached}
use Rattle.pc_dfg_linearize.proofs.StepNameLemmas.{adds_keep, destructor_named, instance_named, names_front, names_last}
use Rattle.pc_dfg_linearize.proofs.OneStepLemmas.{instance_steps, resource_steps}
use Rattle.pc_dfg_finish.proofs.StageLemmas.{adds_instance, adds_resource, all_convertible, instance_number, resource_number}

-- no number is given by a step that fills no slot
number_aside : (f : Finish) (steps : List GlobalInitializer) (instances : List RuntimeInstanceIndex) (counts : Counts)
    (resources : List RuntimeComponentInstanceIndex) (y : Id)
    → number_of (record f { steps = steps; instances = instances; counts = counts; resources = resources }) y
    ≡ number_of f y
unfolding number_of
number_aside f steps instances counts resources (id.Memory n) = refl
number_aside f steps instances counts resources y = refl

only_aside : (g : ComponentDfg) (old f : Finish) (steps : List GlobalInitializer)
    (instances : List RuntimeInstanceIndex) (counts : Counts) (resources : List RuntimeComponentInstanceIndex)
    (xs : List Id) → OnlyFromThese g old f xs
    → OnlyFromThese g old (record f { steps = steps; instances = instances; counts = counts; resources = resources }) xs
only_aside g old f steps instances counts resources xs only y has =
    only y (has.0, sym (number_aside f steps instances counts resources y) ∙ has.1)

-- what had its number has it still
has_aside : (f : Finish) (steps : List GlobalInitializer) (instances : List RuntimeInstanceIndex) (counts : Counts)
    (resources : List RuntimeComponentInstanceIndex) (y : Id) → HasNumber f y
    → HasNumber (record f { steps = steps; instances = instances; counts = counts; resources = resources }) y
has_aside f steps instances counts resources y has =
    (has.0, number_aside f steps instances counts resources y ∙ has.1)

here_aside : (g : ComponentDfg) (f : Finish) (steps : List GlobalInitializer) (instances : List RuntimeInstanceIndex)
    (counts : Counts) (resources : List RuntimeComponentInstanceIndex) (ds : List CoreDef) → All (IsNumbered g f) ds
    → All (HasNumber (record f { steps = steps; instances = instances; counts = counts; resources = resources }))
    (flat_map (in_def g) ds)
here_aside g f steps instances counts resources ds all =
    let later : Finish = record f { steps = steps; instances = instances; counts = counts; resources = resources } in
    all_made (HasNumber later) (IsNumbered g f) (in_def g)
    (λ d each. All-weaker (HasNumber f) (HasNumber later) (has_aside f steps instances counts resources) (in_def g d)
    each)
    ds all

-- the lists of numbers are as long as they were
fits_here : (g : ComponentDfg) (f : Finish) (steps : List GlobalInitializer) (instances : List RuntimeInstanceIndex)
    (count : ℕ) (owners : List RuntimeComponentInstanceIndex) → Fits g f
    → Fits g (finish_with f steps instances count owners)
fits_here g f steps instances count owners fits = record {
  memories = fits.memories;
  tables = fits.tables;
  reallocs = fits.reallocs;
  callbacks = fits.callbacks;
  post_returns = fits.post_returns;
  options = fits.options;
  lowerings = fits.lowerings;
  trampolines = fits.trampolines;
  adapter_modules = fits.adapter_modules;
  intrinsics = fits.intrinsics;
  signatures = fits.signatures;
}

-- the slots are as many as they were
slots_stay : (f : Finish) (steps : List GlobalInitializer) (instances : List RuntimeInstanceIndex) (count : ℕ)
    (owners : List RuntimeComponentInstanceIndex) (k : plan.SlotKind)
    → slot_count (finish_with f steps instances count owners) k ≡ slot_count f k + 0
slots_stay f steps instances count owners plan.memory = omega arith
slots_stay f steps instances count owners plan.table = omega arith
slots_stay f steps instances count owners plan.realloc = omega arith
slots_stay f steps instances count owners plan.callback = omega arith
slots_stay f steps instances count owners plan.post_return = omega arith

-- a step that makes a core instance is counted as one
instance_counts : (f : Finish) (m : InstantiateModule) (c : RuntimeComponentInstanceIndex)
    → CountsOne f (with_instance f m c) (init.InstantiateModule m (Some c))
instance_counts f (plan_source.Static n args) c = record {
  steps = refl;
  instances = refl;
  lowerings = omega arith;
  slots =
      let later = with_instance f (plan_source.Static n args) c in
      slots_stay f later.steps later.instances (f.counts.instances + 1) f.resources;
  resources = omega arith;
}
instance_counts f (plan_source.Import r args) c = record {
  steps = refl;
  instances = refl;
  lowerings = omega arith;
  slots =
      let later = with_instance f (plan_source.Import r args) c in
      slots_stay f later.steps later.instances (f.counts.instances + 1) f.resources;
  resources = omega arith;
}

-- and so is one that declares a resource
resource_counts : (f : Finish) (r : PlanResource) → CountsOne f (with_resource f r) (init.Resource r)
resource_counts f r = record {
  steps = refl;
  instances = omega arith;
  lowerings = omega arith;
  slots = let later = with_resource f r in slots_stay f later.steps f.instances f.counts.instances later.resources;
  resources = length_pushed f.resources r.instance;
}

module _ (g : ComponentDfg) where
  zip_means : (ds : List CoreDef) (vs : List (CoreValue Mark)) → AllZip (Means g) ds vs → All (HasMeaning g) ds
  zip_means [] vs zip = All-nil (HasMeaning g)
  zip_means (d ∷ ds) [] zip = absurd zip
  zip_means (d ∷ ds) (v ∷ vs) zip = all_cons (HasMeaning g) d ds (v, zip.0) (zip_means ds vs zip.1)

  zip_named : (xs : List Argument) (vs : List (NamedArgument Mark)) → AllZip (MeansArgument g) xs vs
      → All (HasMeaning g) (map (λ (a : Argument). a.1.1) xs)
  zip_named [] vs zip = All-nil (HasMeaning g)
  zip_named (a ∷ xs) [] zip = absurd zip
  zip_named (a ∷ xs) (v ∷ vs) zip =
      all_cons (HasMeaning g) a.1.1 (map (λ (b : Argument). b.1.1) xs) (v.value, zip.0.value) (zip_named xs vs zip.1)

  -- the arguments of an instance have values
  instance_values : {x : Instance} {v : Instantiation Mark} → MeansInstance g x v → All (HasMeaning g) (in_instance x)
  unfolding in_instance
  instance_values (means_static {args = args} {vs = vs} zip) = zip_means args vs zip
  instance_values (means_host {args = args} {vs = vs} path zip) = zip_named (host_arguments args) vs zip

  -- a destructor has a value
  maybe_values : {o : Option CoreDef} {v : MaybeValue Mark} → MeansMaybe g o v → All (HasMeaning g) (if_any o)
  maybe_values means_none = All-nil (HasMeaning g)
  maybe_values (means_some {d = d} {v = v} m) = all_one (HasMeaning g) d (v, m)

-- the step of a core instance
instance_goes : {g : ComponentDfg} {ms : List ModuleTranslation} {f : Finish} {s : State Mark}
    {trace : List (Entry Mark)} {p : plan.PlanView Mark} (wired : IsWired g ms) (reached : Reached g ms f s trace)
    (extends : Extends g ms f p) → IsOrdered g → (k : ℕ) (x : Instance) (v : Instantiation Mark) (m : InstantiateModule)
    (c : ℕ) → slice_get g.instances k ≡ Some x → MeansInstance g x v → m ≡ instance_in g f x
    → c < g.num_runtime_component_instances → All (Resolves wired reached extends) (in_instance x)
    → step p all_linked s (source_view m (Some (record { 0 = c }))) ≡ Some (add_instance s v (Some c))
unfolding instance_in in_instance
instance_goes {s = s} {p = p} wired reached extends ordered k x v m c at
    (means_static {m = n} {args = args} {vs = vs} zip) is
    within all =
    subst (λ z. step p all_linked s (source_view z (Some (record { 0 = c }))) ≡ Some (add_instance s v (Some c)))
    (sym is)
    (static_goes wired reached extends k n args c vs at within all zip)
instance_goes {s = s} {p = p} wired reached extends ordered k x v m c at
    (means_host {r = r} {args = args} {path = path} {vs = vs} has zip) is within all =
    subst (λ z. step p all_linked s (source_view z (Some (record { 0 = c }))) ≡ Some (add_instance s v (Some c)))
    (sym is)
    (host_goes wired reached extends ordered.held r args c path vs has within all zip)

module _ (g : ComponentDfg) (ordered : IsOrdered g) (grouped : IsGrouped g) (old new : Finish) where
  module _ (i : InstanceId) (c : RuntimeComponentInstanceIndex) (next : IsNext g old (effect.Instance i c))
      (x : Instance)
      (at : slice_get g.instances i.0 ≡ Some x) (m : InstantiateModule) (prepares : Prepares g old new x m) where
    abbrev made : Finish
    made = with_instance new m c

    -- what the instance names
    in_it : in_effect g (effect.Instance i c) ≡ in_instance x
    unfolding in_effect
    in_it = ap (each_of in_instance) at

    -- its number is the next
    at_next : slice_get g.instances (length new.instances) ≡ Some x
    at_next =
        let number = next_instance g ordered old (effect.Instance i c) next i.0 refl in
        ap (slice_get g.instances) (ap length prepares.numbers.continues.instances ∙ sym number) ∙ at

    within : c.0 < g.num_runtime_component_instances
    unfolding HeldEffect
    within = (next_held g ordered old (effect.Instance i c) next).1

    goes : (ms : List ModuleTranslation) → IsWired g ms → (v : Instantiation Mark) → MeansInstance g x v
        → (trace : List (Entry Mark)) → (s : State Mark) → (reached : Reached g ms new s trace)
        → (p : plan.PlanView Mark) → Extends g ms new p
        → step p all_linked s (source_view m (Some c)) ≡ Some (add_instance s v (Some c.0))
    goes ms wired v means trace s reached p extends =
        let occurs = subst (All (Occurs g)) in_it (next_occurs g ordered old (effect.Instance i c) next) in
        let can = subst (All (CanNumber g (length old.instances))) in_it
        (next_ready g ordered old (effect.Instance i c) next grouped) in
        let still = all_can_still g old new prepares.numbers.continues (in_instance x) can in
        instance_goes wired reached extends ordered (length new.instances) x v m c.0 at_next means prepares.is within
        (each_resolves wired reached extends (in_instance x) occurs still prepares.numbers.here)

    makes_it : (ms : List ModuleTranslation) → IsWired g ms → (v : Instantiation Mark) → MeansInstance g x v
        → Makes g ms old made (log.instantiated v c.0 ∷ [])
    makes_it ms wired v means s trace reached =
        let grown = prepares.numbers.goes ms wired (instance_values g means) s trace reached in
        record {
          state = add_instance grown.state v (Some c.0);
          reached = instance_reached g new grown.state m c x v at_next means ms trace grown.reached
              (goes ms wired v means trace grown.state grown.reached);
        }

    makes : (ms : List ModuleTranslation) (entry : Entry Mark) → IsWired g ms
        → MeansEffect g (effect.Instance i c) entry → Makes g ms old made (entry ∷ [])
    makes ms entry wired (means_made {x = y} {v = v} there means) =
        makes_it ms wired v (subst (λ z. MeansInstance g z v) (same_Some y x (sym there ∙ at)) means)

    -- its arguments can be converted
    convertible : All (IsConvertible g new) (in_instance x)
    convertible =
        let can = subst (All (CanNumber g (length old.instances))) in_it
        (next_ready g ordered old (effect.Instance i c) next grouped) in
        all_convertible g new (in_instance x)
        (all_can_still g old new prepares.numbers.continues (in_instance x) can) prepares.numbers.here

    -- the plan is sound with it
    instance_sound : IsSound g new → IsSound g made
    instance_sound sound = record {
      counts = counts_more new made (init.InstantiateModule m (Some c)) (instance_counts new m c) sound.counts;
      fills = instance_fills new sound.fills made.steps;
      represents = represents_aside g new sound.represents prepares.numbers.continues.fits made.steps made.instances
          made.counts new.resources (names_front new.steps (init.InstantiateModule m (Some c) ∷ []));
      are_steps = instance_steps g new sound.counts sound.fills sound.are_steps x m c prepares.is convertible
          (λ y k at. instance_number g old new prepares.numbers.continues m c y ∙ at)
          (instance_fills new sound.fills made.steps);
    }

    instance_passed : IsSound g old → HasPassed g old → HasPassed g made
    instance_passed sound passed =
        let continues = prepares.numbers.continues in
        let now = continues_sound g old new continues sound in
        passes g new made
        (record {
          stay = λ y k has. number_aside new made.steps made.instances made.counts new.resources y ∙ has;
          more = init.InstantiateModule m (Some c) ∷ [];
          steps = refl;
          made = record { 0 = new.counts.instances } ∷ [];
          instances = refl;
        })
        (instance_sound now) (none_more (length new.options)) (none_more (length new.trampolines))
        (continues.passed sound passed)

    -- so the instance is made
    pub instance_done : IsDone g old made (effect.Instance i c)
    instance_done =
        let continues = prepares.numbers.continues in
        let long = length_pushed new.instances (record { 0 = new.counts.instances }) in
        let same = ap length continues.instances in
        record {
          fits = fits_here g new made.steps made.instances (new.counts.instances + 1) new.resources continues.fits;
          counts = λ before. counts_more new made (init.InstantiateModule m (Some c)) (instance_counts new m c)
              (continues.counts before);
          fills = λ before. instance_fills new (continues.fills before) made.steps;
          represents = λ before.
              represents_aside g new (continues.represents before) continues.fits made.steps made.instances
              made.counts new.resources
              (names_front new.steps (init.InstantiateModule m (Some c) ∷ []));
          are_steps = λ before filled are.
              instance_steps g new (continues.counts before) (continues.fills filled)
              (continues.are_steps before filled are) x m c prepares.is convertible
              (λ y k at. instance_number g old new continues m c y ∙ at)
              (instance_fills new (continues.fills filled) made.steps);
          passed = instance_passed;
          adds = subst (λ ds. AddsEffect old made (flat_map (in_def g) ds)) (sym in_it)
              (adds_instance g old new continues x m c prepares.is);
          only = subst (λ ds. OnlyFromThese g old made (flat_map (in_def g) ds)) (sym in_it)
              (only_aside g old new made.steps made.instances made.counts new.resources _ prepares.numbers.only);
          numbered = λ y has.
              has_aside new made.steps made.instances made.counts new.resources y (continues.numbered y has);
          stay = λ y k has.
              number_aside new made.steps made.instances made.counts new.resources y ∙ continues.stay y k has;
          keeps = λ d named.
              names_front new.steps (init.InstantiateModule m (Some c) ∷ []) d
              (adds_keep old new continues.steps d named);
          named = λ y k d inside number is.
              names_last new.steps (init.InstantiateModule m (Some c)) d
              (subst (λ z. Contains (definitions_in (init.InstantiateModule z (Some c))) d) (sym prepares.is)
              (instance_named g new x (Some c) y k d
              (subst (λ ds. Contains (flat_map (in_def g) ds) y) in_it inside)
              (sym (number_aside new made.steps made.instances made.counts new.resources y) ∙ number) is));
          here = subst (λ ds. All (HasNumber made) (flat_map (in_def g) ds)) (sym in_it)
              (here_aside g new made.steps made.instances made.counts new.resources (in_instance x)
              prepares.numbers.here);
          instances = omega (arith, long, same);
          resources = continues.resources ∙ sym (append-nil old.resources);
          makes = makes;
        }

    -- whatever the plan is called
    pub made_done : (h : Finish) → h ≡ made → IsDone g old h (effect.Instance i c)
    made_done h is = subst (λ z. IsDone g old z (effect.Instance i c)) (sym is) instance_done

    -- each core instance so far is made by its step, this one too
    pub instance_stays : (h : Finish) → h ≡ made → StayInstantiated g old h
    instance_stays h is counts are =
        let continues = prepares.numbers.continues in
        subst (AreInstantiated g) (sym is)
        (instance_instantiated g new (continues.counts counts) x m c at_next prepares.is convertible
        (λ y k at. instance_number g old new continues m c y ∙ at) (continues_instantiated g old new continues are))

  module _ (n : DefinedResourceIndex) (next : IsNext g old (effect.Resource n)) (x : Resource)
      (at : slice_get g.resources n.0 ≡ Some x) (d : Option PlanDef) (prepares : PreparesAny g old new x.dtor d) where
    -- the resource of the plan
    abbrev pub resource : PlanResource
    resource = record { index = n; rep = x.rep; dtor = d; instance = x.instance }

    abbrev declared : Finish
    declared = with_resource new resource

    -- what the resource names
    in_resource_here : in_effect g (effect.Resource n) ≡ if_any x.dtor
    unfolding in_effect in_resource
    in_resource_here = ap (each_of in_resource) at

    -- its component instance has begun
    begun : x.instance.0 < g.num_runtime_component_instances
    unfolding HoldsEntry
    begun = (ordered.held list.resources n.0 x at).component_instance

    resource_goes_on : (ms : List ModuleTranslation) → IsWired g ms → (v : MaybeValue Mark) → MeansMaybe g x.dtor v
        → (trace : List (Entry Mark)) → (s : State Mark) → (reached : Reached g ms new s trace)
        → (p : plan.PlanView Mark) → Extends g ms new p
        → step p all_linked s (resource_view resource) ≡ Some (declare s x.rep v x.instance.0)
    resource_goes_on ms wired v means trace s reached p extends =
        let occurs = subst (All (Occurs g)) in_resource_here (next_occurs g ordered old (effect.Resource n) next) in
        let can = subst (All (CanNumber g (length old.instances))) in_resource_here
        (next_ready g ordered old (effect.Resource n) next grouped) in
        let still = all_can_still g old new prepares.numbers.continues (if_any x.dtor) can in
        let number = next_resource g ordered old (effect.Resource n) next n.0 refl
        ∙ sym (ap length prepares.numbers.continues.resources) in
        let all = each_resolves wired reached extends (if_any x.dtor) occurs still prepares.numbers.here in
        subst (λ z. step p all_linked s (resource_view (record resource { dtor = z })) ≡ Some
        (declare s x.rep v x.instance.0))
        (sym prepares.is) (resource_goes s x.rep v x.instance.0 wired reached extends n.0 x.dtor number begun means all)

    declares_it : (ms : List ModuleTranslation) → IsWired g ms → (v : MaybeValue Mark) → MeansMaybe g x.dtor v
        → Makes g ms old declared (declared_resource x.rep v x.instance.0 ∷ [])
    declares_it ms wired v means s trace reached =
        let grown = prepares.numbers.goes ms wired (maybe_values g means) s trace reached in
        record {
          state = declare grown.state x.rep v x.instance.0;
          reached = resource_reached g ms new grown.state trace resource v grown.reached
              (resource_goes_on ms wired v means trace grown.state grown.reached);
        }

    declares : (ms : List ModuleTranslation) (entry : Entry Mark) → IsWired g ms
        → MeansEffect g (effect.Resource n) entry → Makes g ms old declared (entry ∷ [])
    declares ms entry wired (means_declared {x = y} {v = v} there means) =
        let same = same_Some x y (sym at ∙ there) in
        subst (λ z. Makes g ms old declared (declared_resource z.rep v z.instance.0 ∷ [])) same
        (declares_it ms wired v (subst (λ z. MeansMaybe g z.dtor v) (sym same) means))

    -- its destructor can be converted
    convertible_destructor : All (IsConvertible g new) (if_any x.dtor)
    convertible_destructor =
        let can = subst (All (CanNumber g (length old.instances))) in_resource_here
        (next_ready g ordered old (effect.Resource n) next grouped) in
        all_convertible g new (if_any x.dtor)
        (all_can_still g old new prepares.numbers.continues (if_any x.dtor) can) prepares.numbers.here

    -- the plan is sound with it
    resource_sound : IsSound g new → IsSound g declared
    resource_sound sound = record {
      counts = counts_more new declared (init.Resource resource) (resource_counts new resource) sound.counts;
      fills = resource_fills new sound.fills declared.steps declared.resources;
      represents = represents_aside g new sound.represents prepares.numbers.continues.fits declared.steps new.instances
          new.counts declared.resources (names_front new.steps (init.Resource resource ∷ []));
      are_steps = resource_steps g new sound.counts sound.fills sound.are_steps resource x.dtor prepares.is
          convertible_destructor (λ y k at. resource_number g old new prepares.numbers.continues resource y ∙ at)
          (resource_fills new sound.fills declared.steps declared.resources);
    }

    resource_passed : IsSound g old → HasPassed g old → HasPassed g declared
    resource_passed sound passed =
        let continues = prepares.numbers.continues in
        let now = continues_sound g old new continues sound in
        passes g new declared
        (record {
          stay = λ y k has.
              number_aside new declared.steps new.instances new.counts declared.resources y ∙ has;
          more = init.Resource resource ∷ [];
          steps = refl;
          made = [];
          instances = sym (append-nil new.instances);
        })
        (resource_sound now) (none_more (length new.options)) (none_more (length new.trampolines))
        (continues.passed sound passed)

    -- so the resource is declared
    pub resource_done : IsDone g old declared (effect.Resource n)
    resource_done =
        let continues = prepares.numbers.continues in
        let same = ap length continues.instances in
        let owners = continues.resources in
        record {
          fits = fits_here g new declared.steps new.instances new.counts.instances declared.resources continues.fits;
          counts = λ before. counts_more new declared (init.Resource resource) (resource_counts new resource)
              (continues.counts before);
          fills = λ before. resource_fills new (continues.fills before) declared.steps declared.resources;
          represents = λ before.
              represents_aside g new (continues.represents before) continues.fits declared.steps new.instances
              new.counts declared.resources
              (names_front new.steps (init.Resource resource ∷ []));
          are_steps = λ before filled are.
              resource_steps g new (continues.counts before) (continues.fills filled)
              (continues.are_steps before filled are) resource x.dtor prepares.is convertible_destructor
              (λ y k at. resource_number g old new continues resource y ∙ at)
              (resource_fills new (continues.fills filled) declared.steps declared.resources);
          passed = resource_passed;
          adds = subst (λ ds. AddsEffect old declared (flat_map (in_def g) ds)) (sym in_resource_here)
              (adds_resource g old new continues resource x.dtor prepares.is);
          only = subst (λ ds. OnlyFromThese g old declared (flat_map (in_def g) ds)) (sym in_resource_here)
              (only_aside g old new declared.steps new.instances new.counts declared.resources _ prepares.numbers.only);
          numbered = λ y has.
              has_aside new declared.steps new.instances new.counts declared.resources y (continues.numbered y has);
          stay = λ y k has.
              number_aside new declared.steps new.instances new.counts declared.resources y ∙ continues.stay y k has;
          keeps = λ d named.
              names_front new.steps (init.Resource resource ∷ []) d (adds_keep old new continues.steps d named);
          named = λ y k d inside number is.
              names_last new.steps (init.Resource resource) d
              (subst (λ z. Contains (option_to_list (option_map def_view z)) d) (sym prepares.is)
              (destructor_named g new x.dtor y k d
              (subst (λ ds. Contains (flat_map (in_def g) ds) y) in_resource_here inside)
              (sym (number_aside new declared.steps new.instances new.counts declared.resources y) ∙ number) is));
          here = subst (λ ds. All (HasNumber declared) (flat_map (in_def g) ds)) (sym in_resource_here)
              (here_aside g new declared.steps new.instances new.counts declared.resources (if_any x.dtor)
              prepares.numbers.here);
          instances = omega (arith, same);
          resources = λ j. owners j ++ each_of (λ (y : Resource). y.instance ∷ []) (sym at j);
          makes = declares;
        }

    -- whatever the plan is called
    pub declared_done : (h : Finish) → h ≡ declared → IsDone g old h (effect.Resource n)
    declared_done h is = subst (λ z. IsDone g old z (effect.Resource n)) (sym is) resource_done

    -- each core instance so far is made by its step
    pub resource_stays : (h : Finish) → h ≡ declared → StayInstantiated g old h
    resource_stays h is counts are =
        let continues = prepares.numbers.continues in
        subst (AreInstantiated g) (sym is)
        (resource_instantiated g new resource (λ y k at. resource_number g old new continues resource y ∙ at)
        (continues_instantiated g old new continues are))
