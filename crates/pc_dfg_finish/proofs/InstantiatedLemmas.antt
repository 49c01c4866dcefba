-- Each core instance that was made has a step, with the definitions that its arguments have become; it stays the same
-- while the plan grows.
use Rattle.std.proofs.Common.{◌≡◌, inl, inr, ℕ, List, [], ◌∷◌, length, map, take, All, Option, None, Some}
use Rattle.std.proofs.Common.{option_map, refl, sym, ap, subst, ◌∙◌, arith}
use Rattle.std.specs.Prelude.{count_by, slice_get, unwrap_or}
use Rattle.std.specs.List.{AllZip}
use Rattle.std.proofs.lemmas.List.{append-nil, take-append-le, take_all}
use Rattle.std.proofs.lemmas.List.Elements.{All-head, All-tail}
use Rattle.std.proofs.lemmas.Option.{slice_get_within}
use Rattle.pc_entity.proofs.Growing.{slice_get-append, slice_get-append_seam}
use Rattle.pc_entity.proofs.LookupLemmas.{found_at}
use Rattle.pc_numbers.specs.declared.component_entity.StaticModuleIndex.{StaticModuleIndex}
use Rattle.pc_numbers.specs.declared.entity_index.EntityIndex.{EntityIndex}
use Rattle.pc_numbers.specs.declared.runtime.RuntimeComponentInstanceIndex.{RuntimeComponentInstanceIndex}
use Rattle.pc_numbers.specs.declared.runtime.RuntimeInstanceIndex.{RuntimeInstanceIndex}
use Rattle.pc_spec_plan.specs.CoreValue.{by_index}
use Rattle.pc_spec_plan.specs.Counts.{makes_instance}
use Rattle.pc_spec_plan.specs.PlanView as plan
use Rattle.pc_info.specs.declared.initializer.GlobalInitializer.TheVariants as init
use Rattle.pc_info.specs.declared.initializer.InstantiateModule.{InstantiateModule}
use Rattle.pc_info.specs.declared.initializer.Resource.{Resource as PlanResource}
use Rattle.pc_info.specs.Definitions.{def_view, initializer_view, item_view, source_view}
use Rattle.pc_dfg.specs.declared.core_def.CoreDef.{CoreDef}
use Rattle.pc_dfg.specs.declared.core_def.CoreDef.TheVariants as def
use Rattle.pc_dfg.specs.declared.dfg.ComponentDfg.{ComponentDfg}
use Rattle.pc_dfg.specs.declared.ids.AdapterModuleId.{AdapterModuleId}
use Rattle.pc_dfg.specs.declared.instance.Instance.{Instance}
use Rattle.pc_dfg.specs.declared.instance.Instance.TheVariants as source
use Rattle.pc_dfg.specs.Names.{in_instance}
use Rattle.pc_dfg_linearize.specs.declared.state.Finish.{Finish}
use Rattle.pc_dfg_linearize.specs.Closed.{Continues}
use Rattle.pc_dfg_linearize.specs.Converted.{adapter_def, def_in}
use Rattle.pc_dfg_linearize.specs.Made.{instance_in, with_instance, with_resource}
use Rattle.pc_dfg_linearize.specs.Once.{Origin, Stay, number_in_run, of_instance, of_module}
use Rattle.pc_dfg_linearize.specs.Parts.{number_of}
use Rattle.pc_dfg_linearize.specs.Plan.{steps_view}
use Rattle.pc_dfg_linearize.specs.Ready.{IsReadyDef}
use Rattle.pc_dfg_linearize.specs.Sound.{CountsSteps, IsLater}
use Rattle.pc_dfg_linearize.specs.Steps.{AreSteps, IsConvertible}
use Rattle.pc_dfg_linearize.proofs.DefLemmas.{numbered_module}
use Rattle.pc_dfg_linearize.proofs.FillLemmas.{in_run, mapped_back, pushed_back}
use Rattle.pc_dfg_linearize.proofs.SoundLemmas.{continues_later}
use Rattle.pc_dfg_linearize.proofs.ThereLemmas.{KeepsInstances, run_stays}
use Rattle.pc_dfg_finish.specs.Instantiated.{AreInstantiated, IsInstantiated}
use Rattle.pc_dfg_finish.specs.Renumbered.{Becomes, Instantiates, adapter_becomes, export_becomes, flags_become}
use Rattle.pc_dfg_finish.specs.Renumbered.{from_host, from_module, intrinsic_becomes, trampoline_becomes}
use Rattle.pc_dfg_finish.proofs.SealedLemmas.{view_later}

module _ (g : ComponentDfg) where
  module _ (f : Finish) where
    -- a definition that can be converted has become what it is converted to
    becomes : (d : CoreDef) → IsConvertible g f d → Becomes g (number_in_run f) d (def_view (def_in g f d))
    unfolding def_in IsReadyDef number_of
    becomes (def.Export e) can =
        let found = found_at f.instances e.instance.0 can.ready in
        subst (λ (o : Option RuntimeInstanceIndex). Becomes g (number_in_run f) (def.Export e)
        (plan.export (unwrap_or o (record { 0 = 0 })).0 (item_view e.item))) (sym found.1)
        (export_becomes (ap (option_map in_run) found.1))
    becomes (def.InstanceFlags c) can = flags_become
    becomes (def.Trampoline t) can = trampoline_becomes
    becomes (def.UnsafeIntrinsic s i) can = intrinsic_becomes
    becomes (def.Adapter a) can =
        let found = found_at g.adapter_partitionings a.0 can.ready in
        let has = numbered_module g f a found.0 found.1 can.numbered in
        subst (λ (o : Option (AdapterModuleId × EntityIndex)). Becomes g (number_in_run f) (def.Adapter a)
        (def_view (adapter_def f o))) (sym found.1)
        (subst (λ (o : Option ℕ). Becomes g (number_in_run f) (def.Adapter a)
        (plan.export (unwrap_or o 0) (by_index found.0.1))) (sym has.1) (adapter_becomes found.1 has.1))

    all_become : (ds : List CoreDef) → All (IsConvertible g f) ds
        → AllZip (Becomes g (number_in_run f)) ds (map def_view (map (def_in g f) ds))
    all_become [] all = tt
    all_become (d ∷ ds) all = (
      becomes d (All-head (IsConvertible g f) d ds all),
      all_become ds (All-tail (IsConvertible g f) d ds all),
    )

    -- so a step makes the core instance that it is made for
    instantiates : (x : Instance) → All (IsConvertible g f) (in_instance x) → (c : RuntimeComponentInstanceIndex)
        → Instantiates g (number_in_run f) x (source_view (instance_in g f x) (Some c))
    unfolding in_instance instance_in
    instantiates (source.Static m args) can c = from_module (all_become args can)
    instantiates (source.Import r args) can c = from_host

    -- and that of a module of adapters has its step
    pub module_instantiated : AreSteps g f → (m n : ℕ) → number_in_run f (of_module m) ≡ Some n
        → IsInstantiated g f (of_module m) n
    module_instantiated are m n is =
        let made = are.modules m n is in
        record {
          what = source.Static made.what.0 made.what.1;
          from = ap (option_map (λ (x : StaticModuleIndex × List CoreDef). source.Static x.0 x.1)) made.at;
          step = plan.instantiate_static made.what.0.0 (map def_view (map (def_in g f) made.what.1)) None;
          place = made.step.place;
          at = made.step.at;
          number_of_it = made.step.number_of_it;
          does = from_module (all_become made.what.1 made.convertible);
        }

  module _ (number later : Origin → Option ℕ)
      (stay : (x : Origin) (n : ℕ) → number x ≡ Some n → later x ≡ Some n) where
    -- it has become the same where numbers stay
    becomes_later : (d : CoreDef) (p : plan.Definition) → Becomes g number d p → Becomes g later d p
    becomes_later d p (export_becomes {e = e} {n = n} is) = export_becomes (stay (of_instance e.instance.0) n is)
    becomes_later d p flags_become = flags_become
    becomes_later d p trampoline_becomes = trampoline_becomes
    becomes_later d p intrinsic_becomes = intrinsic_becomes
    becomes_later d p (adapter_becomes {p = q} {n = n} at is) = adapter_becomes at (stay (of_module q.0.0) n is)

    all_later : (ds : List CoreDef) (ps : List plan.Definition) → AllZip (Becomes g number) ds ps
        → AllZip (Becomes g later) ds ps
    all_later [] [] zip = tt
    all_later [] (p ∷ ps) zip = absurd zip
    all_later (d ∷ ds) [] zip = absurd zip
    all_later (d ∷ ds) (p ∷ ps) zip = (becomes_later d p zip.0, all_later ds ps zip.1)

    instantiates_later : (x : Instance) (s : plan.Initializer) → Instantiates g number x s → Instantiates g later x s
    instantiates_later x s (from_module {args = args} {made = made} zip) = from_module (all_later args made zip)
    instantiates_later x s from_host = from_host

  module _ (a b : Finish) (later : IsLater a b) where
    keeps : KeepsInstances a b
    keeps k n at = ap (λ l. slice_get l k) later.instances ∙ slice_get-append a.instances later.made k n at

    -- what was made by its step is
    stays_instantiated : (x : Origin) (n : ℕ) → IsInstantiated g a x n → IsInstantiated g b x n
    stays_instantiated x n is =
        let view = view_later a b later in
        let more = map initializer_view later.more in
        let within = slice_get_within (steps_view a) is.place is.step is.at in
        record {
          what = is.what;
          from = is.from;
          step = is.step;
          place = is.place;
          at = ap (λ l. slice_get l is.place) view ∙ slice_get-append (steps_view a) more is.place is.step is.at;
          number_of_it = ap (λ l. count_by makes_instance (take is.place l)) view
              ∙ ap (count_by makes_instance) (take-append-le is.place (steps_view a) more (omega (arith, within)))
              ∙ is.number_of_it;
          does = instantiates_later (number_in_run a) (number_in_run b) (run_stays a b later.stay keeps) is.what is.step
              is.does;
        }

    -- so are all, where no core instance of the graph is made
    all_stay : b.instances ≡ a.instances → AreInstantiated g a → AreInstantiated g b
    all_stay none are k n is =
        stays_instantiated (of_instance k) n
        (are k n (ap (λ l. option_map in_run (slice_get l k)) (sym none) ∙ is))

  -- numbers that are given make no core instance of the graph
  pub continues_instantiated : (a b : Finish) → Continues g a b → AreInstantiated g a → AreInstantiated g b
  continues_instantiated a b continues = all_stay a b (continues_later g a b continues) continues.instances

  -- the step that makes one more
  module _ (f : Finish) (counts : CountsSteps f) (x : Instance) (m : InstantiateModule)
      (c : RuntimeComponentInstanceIndex) (at : slice_get g.instances (length f.instances) ≡ Some x)
      (is : m ≡ instance_in g f x) (can : All (IsConvertible g f) (in_instance x)) (stay : Stay f (with_instance f m c))
    where
      abbrev with_it : Finish
      with_it = with_instance f m c

      abbrev its_number : RuntimeInstanceIndex
      its_number = record { 0 = f.counts.instances }

      abbrev with_it_later : IsLater f with_it
      with_it_later = record {
        stay = stay;
        more = init.InstantiateModule m (Some c) ∷ [];
        steps = refl;
        made = its_number ∷ [];
        instances = refl;
      }

      newest : IsInstantiated g with_it (of_instance (length f.instances)) f.counts.instances
      newest =
          let xs = steps_view f in
          let s = source_view m (Some c) in
          let view = view_later f with_it with_it_later in
          let stays = run_stays f with_it stay (keeps f with_it with_it_later) in
          record {
            what = x;
            from = at;
            step = s;
            place = length xs;
            at = ap (λ l. slice_get l (length xs)) view ∙ slice_get-append_seam xs s [];
            number_of_it = ap (λ l. count_by makes_instance (take (length xs) l)) view
                ∙ ap (count_by makes_instance)
                (take-append-le (length xs) xs (s ∷ []) (omega arith) ∙ take_all (length xs) xs (omega arith))
                ∙ counts.instances;
            does = instantiates_later (number_in_run f) (number_in_run with_it) stays x s
                (subst (λ z. Instantiates g (number_in_run f) x (source_view z (Some c))) (sym is)
                (instantiates f x can c));
          }

      pub instance_instantiated : AreInstantiated g f → AreInstantiated g with_it
      instance_instantiated are k n numbered =
          let r = mapped_back in_run (slice_get with_it.instances k) n numbered in
          elim (pushed_back f.instances its_number r.0 k r.1) [
            | inl last ↦
                subst (λ j. IsInstantiated g with_it (of_instance j) n) last.0
                (subst (IsInstantiated g with_it (of_instance (length f.instances))) (ap in_run last.1 ∙ r.2) newest)
            | inr old ↦
                stays_instantiated f with_it with_it_later (of_instance k) n
                (are k n (ap (option_map in_run) old ∙ ap Some r.2))
          ]

  -- a step that declares a resource makes none
  pub resource_instantiated : (f : Finish) (r : PlanResource) → Stay f (with_resource f r) → AreInstantiated g f
      → AreInstantiated g (with_resource f r)
  resource_instantiated f r stay =
      all_stay f (with_resource f r)
      (record {
        stay = stay;
        more = init.Resource r ∷ [];
        steps = refl;
        made = [];
        instances = sym (append-nil f.instances);
      })
      refl
