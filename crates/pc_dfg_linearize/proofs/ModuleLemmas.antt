-- The instance of a module of adapters that is made.
use Rattle.std.proofs.Common.{◌≡◌, ◌<◌, ◌≤◌, ◌+◌, ℕ, suc, Bool, true, List, [], ◌∷◌, ◌++◌, length, map, take, All}
use Rattle.std.proofs.Common.{Option, None, Some, refl, sym, ap, subst, ◌∙◌, inl, inr, arith}
use Rattle.std.specs.Prelude.{slice_get, count_by, is_some, Contains}
use Rattle.std.specs.List.{AllZip, flat_map, list_all}
use Rattle.std.proofs.lemmas.List.{length-append, length-set}
use Rattle.std.proofs.lemmas.List.Elements.{All-nil, All-cons, All-head, All-tail, All-contains_itself, All-weaker}
use Rattle.std.proofs.lemmas.Option.{same_Some, slice_get_within}
use Rattle.pc_entity.specs.Lists.{map_all}
use Rattle.pc_entity.proofs.Growing.{slice_get-append, slice_get-append_seam}
use Rattle.pc_entity.proofs.MapAll.{map_all_cons}
use Rattle.pc_dfg.specs.declared.ids.AdapterModuleId.{AdapterModuleId}
use Rattle.pc_numbers.specs.declared.component_entity.StaticModuleIndex.{StaticModuleIndex}
use Rattle.pc_spec_plan.specs.CoreValue.{CoreValue}
use Rattle.pc_spec_plan.specs.Log.{Entry, of_static}
use Rattle.pc_spec_plan.specs.Machine.{State, RuntimeInstance, add_instance, has_places}
use Rattle.pc_spec_plan.specs.Machine.{resolve, step}
use Rattle.pc_spec_plan.specs.PlanView as plan
use Rattle.pc_trampoline.specs.declared.part.Mark.{Mark}
use Rattle.pc_info.specs.declared.core_def.CoreDef.{CoreDef as PlanDef}
use Rattle.pc_info.specs.declared.initializer.GlobalInitializer.{GlobalInitializer}
use Rattle.pc_info.specs.declared.initializer.GlobalInitializer.TheVariants as init
use Rattle.pc_info.specs.declared.initializer.InstantiateModule.TheVariants as source
use Rattle.pc_info.specs.declared.module.ModuleTranslation.{ModuleTranslation}
use Rattle.pc_info.specs.Definitions.{def_view, initializer_view}
use Rattle.pc_info.specs.Modules.{handed_in_view}
use Rattle.pc_dfg.specs.declared.core_def.CoreDef.{CoreDef}
use Rattle.pc_dfg.specs.declared.dfg.ComponentDfg.{ComponentDfg}
use Rattle.pc_dfg.specs.Means.{Means}
use Rattle.pc_dfg.specs.Names.{each_of}
use Rattle.pc_dfg_linearize.specs.declared.id.Id.TheVariants as id
use Rattle.pc_dfg_linearize.specs.declared.state.Finish.{Finish}
use Rattle.pc_dfg_linearize.specs.Added.{add_module}
use Rattle.pc_dfg_linearize.specs.Closed.{Closed, Fits}
use Rattle.pc_dfg_linearize.specs.Converted.{def_in}
use Rattle.pc_dfg_linearize.specs.Once.{Notes}
use Rattle.pc_dfg_linearize.specs.Parts.{HasNumber, in_def, number_of, parts}
use Rattle.pc_dfg_linearize.specs.Represented.{AreNamed}
use Rattle.pc_dfg_linearize.specs.Plan.{Extends, counted_slots, slot_count}
use Rattle.pc_dfg_linearize.specs.Reached.{all_linked, Filled, Gains, Placed, Reached}
use Rattle.pc_dfg_linearize.specs.Ready.{CanClose, IsReadyDef}
use Rattle.pc_dfg_linearize.specs.Wired.{IsWired, IsWiredModule, Occurs, in_a_module, records_of}
use Rattle.pc_dfg_linearize.specs.Steps.{IsConvertible}
use Rattle.pc_dfg_linearize.proofs.CountLemmas.{CountsOne, count_by-push}
use Rattle.pc_dfg_linearize.proofs.DefLemmas.{adapters_at, def_resolves}
use Rattle.pc_dfg_linearize.proofs.EntryLemmas.{all_front, all_back}
use Rattle.pc_dfg_linearize.proofs.GainLemmas.{before_stays}
use Rattle.pc_dfg_linearize.proofs.SoundLemmas.{none_more}
use Rattle.pc_dfg_linearize.proofs.GrownLemmas.{continues_step, grown_step, resolves_stay}
use Rattle.pc_dfg_linearize.proofs.FillLemmas.{module_fills}
use Rattle.pc_dfg_linearize.proofs.NoteLemmas.{module_noted, notes_here, notes_numbered, notes_only}
use Rattle.pc_dfg_linearize.proofs.NumberLemmas.{number_back}
use Rattle.pc_dfg_linearize.proofs.OneStepLemmas.{module_steps}
use Rattle.pc_dfg_linearize.proofs.RepresentedLemmas.{notes_stay, represents_still}
use Rattle.pc_dfg_linearize.proofs.StepNameLemmas.{defs_named, names_front, names_last}

-- as many values as definitions
zip_length : {A B : Type 0} (R : A → B → Type 0) (xs : List A) (ys : List B) → AllZip R xs ys → length ys ≡ length xs
zip_length R [] [] zip = refl
zip_length R [] (y ∷ ys) zip = absurd zip
zip_length R (x ∷ xs) [] zip = absurd zip
zip_length R (x ∷ xs) (y ∷ ys) zip = ap suc (zip_length R xs ys zip.1)

-- all of a list are all of its first items
take_all : {A : Type 0} (xs : List A) → take (length xs) xs ≡ xs
take_all [] = refl
take_all (x ∷ xs) = ap (λ l. x ∷ l) (take_all xs)

-- what each definition depends on has its number
pub each_numbered : (g : ComponentDfg) (f : Finish) (ds : List CoreDef) → All (HasNumber f) (flat_map (in_def g) ds)
    → All (λ (d : CoreDef). All (HasNumber f) (in_def g d)) ds
each_numbered g f [] all = All-nil (λ (d : CoreDef). All (HasNumber f) (in_def g d))
each_numbered g f (d ∷ ds) all =
    All-cons (λ (d : CoreDef). All (HasNumber f) (in_def g d)) d ds
    (all_front (HasNumber f) (in_def g d) (flat_map (in_def g) ds) all)
    (each_numbered g f ds (all_back (HasNumber f) (in_def g d) (flat_map (in_def g) ds) all))

module _ {g : ComponentDfg} {ms : List ModuleTranslation} {f : Finish} {s : State Mark} {trace : List (Entry Mark)}
    {p : plan.PlanView Mark} (wired : IsWired g ms) (reached : Reached g ms f s trace) (extends : Extends g ms f p)
  where
    -- definitions stand for their values, in order
    pub defs_resolve : (ds : List CoreDef) (vs : List (CoreValue Mark)) → AllZip (Means g) ds vs → All (Occurs g) ds
        → All (IsReadyDef g (length f.instances)) ds → All (λ (d : CoreDef). All (HasNumber f) (in_def g d)) ds
        → map_all (resolve p s) (map def_view (map (def_in g f) ds)) ≡ Some vs
    defs_resolve [] [] zip occurs ready numbered = refl
    defs_resolve [] (v ∷ vs) zip occurs ready numbered = absurd zip
    defs_resolve (d ∷ ds) [] zip occurs ready numbered = absurd zip
    defs_resolve (d ∷ ds) (v ∷ vs) zip occurs ready numbered =
        let made = IsReadyDef g (length f.instances) in
        let has = λ (d : CoreDef). All (HasNumber f) (in_def g d) in
        map_all_cons (resolve p s) (def_view (def_in g f d)) (map def_view (map (def_in g f) ds)) v vs
        (def_resolves wired (All-head (Occurs g) d ds occurs) reached zip.0 (All-head made d ds ready)
        (All-head has d ds numbered) extends)
        (defs_resolve ds vs zip.1 (All-tail (Occurs g) d ds occurs) (All-tail made d ds ready)
        (All-tail has d ds numbered))

-- whether an instance was made for a component instance
abbrev is_owned : RuntimeInstance Mark → Bool
is_owned m = is_some m.component_instance

module _ (g : ComponentDfg) (f : Finish) (m : AdapterModuleId) (x : StaticModuleIndex × List CoreDef)
    (at : slice_get g.adapter_modules m.0 ≡ Some x) (fits : Fits g f) where
  -- the arguments as the plan has them
  abbrev arguments : List PlanDef
  arguments = map (def_in g f) x.1

  -- a plan with the instance
  abbrev with_module : Finish
  with_module = add_module m.0 x.0 arguments f

  -- the step that makes it
  abbrev made_by : GlobalInitializer
  made_by = init.InstantiateModule (source.Static x.0 arguments) None

  pub module_within : m.0 < length f.numbers.adapter_modules
  module_within = subst (λ (n : ℕ). m.0 < n) (sym fits.adapter_modules) (slice_get_within g.adapter_modules m.0 x at)

  noted : Notes f with_module (id.AdapterModule m) f.counts.instances
  noted = module_noted f m.0 x.0 arguments module_within

  same_count : (k : plan.SlotKind) → slot_count with_module k ≡ slot_count f k
  same_count plan.memory = refl
  same_count k = refl

  module_back : (ms : List ModuleTranslation) (p : plan.PlanView Mark) → Extends g ms with_module p → Extends g ms f p
  module_back ms p e = record {
    has = e.has;
    import_types = e.import_types;
    imports = e.imports;
    imported = e.imported;
    options = e.options;
    trampolines = e.trampolines;
    intrinsics = e.intrinsics;
    instances = omega (arith, e.instances);
    lowerings = e.lowerings;
    slots = λ k. subst (λ (n : ℕ). n ≤ counted_slots p k) (same_count k) (e.slots k);
    resources = e.resources;
  }

  module_counts : CountsOne f with_module made_by
  module_counts = record {
    steps = refl;
    instances = refl;
    lowerings = omega arith;
    slots = λ k. none _ _ (same_count k);
    resources = omega arith;
  }
    where
      none : (a b : ℕ) → b ≡ a → b ≡ a + 0
      none a b h = omega (arith, h)

  module _ (s : State Mark) (vs : List (CoreValue Mark)) (zip : AllZip (Means g) x.1 vs) where
    -- the instance, and a state with it
    abbrev instance : RuntimeInstance Mark
    instance = record { instantiation = of_static x.0.0 vs; component_instance = None }

    abbrev with_instance : State Mark
    with_instance = add_instance s (of_static x.0.0 vs) None

    module_gains : Gains s with_instance
    module_gains = record {
      more = instance ∷ [];
      instances = refl;
      unowned = All-cons (λ (m : RuntimeInstance Mark). m.component_instance ≡ None) instance [] refl
          (All-nil (λ (m : RuntimeInstance Mark). m.component_instance ≡ None));
      lowerings = λ n y here. here;
      slots = λ k n y here. here;
      resources = refl;
    }

    module_placed : Placed g f s → Placed g with_module with_instance
    module_placed placed = record {
      count = length-append s.instances (instance ∷ []) ∙ ap (λ (n : ℕ). n + 1) placed.count;
      next =
          ap (count_by is_owned) (take_all (s.instances ++ instance ∷ []))
          ∙ zero_more _ _ (count_by-push is_owned s.instances instance)
          ∙ sym (ap (count_by is_owned) (take_all s.instances)) ∙ placed.next;
      instance = λ k n here.
          let q = placed.instance k n here in
          let within = slice_get_within s.instances n.0 q.0 q.3 in (
            q.0,
            q.1,
            q.2,
            slice_get-append s.instances (instance ∷ []) n.0 q.0 q.3,
            q.4,
            before_stays s with_instance module_gains n.0 (omega (arith, within)) ∙ q.5,
            q.6,
            q.7,
          );
      adapter_module = λ k n numbered.
          elim (number_back f.numbers.adapter_modules m.0 f.counts.instances module_within k n numbered)
          as (λ _. (y : StaticModuleIndex × List CoreDef) × (ws : List (CoreValue Mark))
          × (slice_get g.adapter_modules k ≡ Some y) × AllZip (Means g) y.1 ws
          × (slice_get (s.instances ++ instance ∷ []) n
          ≡ Some (record { instantiation = of_static y.0.0 ws; component_instance = None }))) [
            | inl new ↦ (
              x,
              vs,
              ap (slice_get g.adapter_modules) (sym new.0) ∙ at,
              zip,
              subst (λ (i : ℕ). slice_get (s.instances ++ instance ∷ []) i ≡ Some instance) (placed.count ∙ new.1)
                  (slice_get-append_seam s.instances instance []),
            )
            | inr old ↦
                let q = placed.adapter_module k n old in
                (q.0, q.1, q.2, q.3, slice_get-append s.instances (instance ∷ []) n _ q.4)
          ];
    }
      where
        zero_more : (a b : ℕ) → a ≡ b + 0 → a ≡ b
        zero_more a b h = omega (arith, h)

    module_filled : Filled g f s → Filled g with_module with_instance
    module_filled filled = record {
      lowerings = filled.lowerings;
      slots = λ k. filled.slots k ∙ sym (same_count k);
      resources = filled.resources;
      lowering = filled.lowering;
      slot = filled.slot;
    }

    -- the step goes, since the module is there and its arguments stand for these values
    module_step : (ms : List ModuleTranslation) (p : plan.PlanView Mark) → IsWiredModule g ms m.0 x → Extends g ms f p
        → map_all (resolve p s) (map def_view arguments) ≡ Some vs
        → step p all_linked s (initializer_view made_by) ≡ Some with_instance
    module_step ms p w e args =
        let there = adapters_at g ms p x.0.0 e.has w.behind
        (subst (λ (n : ℕ). x.0.0 < length (handed_in_view ms) + n) (sym e.has.adapter_modules) w.there) in
        let places : list_all (has_places (length vs)) (records_of g ms x.0.0) ≡ true =
        ap (λ (n : ℕ). list_all (has_places n) (records_of g ms x.0.0)) (zip_length (Means g) x.1 vs zip) ∙ w.places in
        rw (there, args, places) refl

  -- what stands among the arguments occurs in the graph
  module_occurs : All (Occurs g) x.1
  module_occurs =
      All-weaker (Contains x.1) (Occurs g) (λ d here. in_a_module m.0 x at here) x.1 (All-contains_itself x.1)

  -- its step names the trampolines and intrinsics among its arguments
  module_named : AreNamed f with_module.steps (parts g (id.AdapterModule m))
  unfolding parts
  module_named y n e inside number is =
      let within = subst (λ (o : Option (StaticModuleIndex × List CoreDef)).
      Contains (each_of (λ (z : StaticModuleIndex × List CoreDef). flat_map (in_def g) z.1) o) y) at inside in
      names_last f.steps made_by e (defs_named g f x.1 y n e within number is)

  -- its arguments can be converted
  module_convertible : All (IsReadyDef g (length f.instances)) x.1
      → All (HasNumber f) (parts g (id.AdapterModule m)) → All (IsConvertible g f) x.1
  unfolding parts
  module_convertible ready all j d below =
      let numbered = each_numbered g f x.1 (subst (λ (o : Option (StaticModuleIndex × List CoreDef)).
      All (HasNumber f) (each_of (λ (y : StaticModuleIndex × List CoreDef). flat_map (in_def g) y.1) o)) at all) in
      record { ready = ready j d below; numbered = numbered j d below }

  -- a module of adapters gets its number
  pub closed_module : All (IsReadyDef g (length f.instances)) x.1 → All (HasNumber f) (parts g (id.AdapterModule m))
      → number_of f (id.AdapterModule m) ≡ None → Closed g f with_module (id.AdapterModule m)
  unfolding number_of parts
  closed_module ready all fresh = record {
    continues = continues_step g f with_module made_by module_counts refl
        (notes_numbered f with_module (id.AdapterModule m) f.counts.instances noted)
        (notes_stay f with_module (id.AdapterModule m) f.counts.instances noted fresh)
        (record {
          memories = fits.memories;
          tables = fits.tables;
          reallocs = fits.reallocs;
          callbacks = fits.callbacks;
          post_returns = fits.post_returns;
          options = fits.options;
          lowerings = fits.lowerings;
          trampolines = fits.trampolines;
          adapter_modules =
              length-set f.numbers.adapter_modules m.0 (Some f.counts.instances) ∙ fits.adapter_modules;
          intrinsics = fits.intrinsics;
          signatures = fits.signatures;
        }) refl refl (λ fills. module_fills f fills m.0 x.0 arguments module_within fresh)
        (λ is. represents_still g f with_module
        (notes_stay f with_module (id.AdapterModule m) f.counts.instances noted fresh) is (id.AdapterModule m)
        f.counts.instances noted all refl refl refl refl refl is.intrinsics (names_front f.steps (made_by ∷ []))
        module_named)
        (λ c h h' is. module_steps g f c h is m.0 x at (module_convertible ready all) module_within
        (notes_stay f with_module (id.AdapterModule m) f.counts.instances noted fresh) h')
        (none_more (length f.options)) (none_more (length f.trampolines));
    here = notes_here f with_module (id.AdapterModule m) f.counts.instances noted;
    only = notes_only f with_module (id.AdapterModule m) f.counts.instances noted g;
    goes = λ ms wired valued s trace reached.
        let w = wired.adapter_modules m.0 x at in
        let vs = w.values in
        let numbered = each_numbered g f x.1
        (subst (λ (o : Option (StaticModuleIndex × List CoreDef)).
        All (HasNumber f) (each_of (λ (y : StaticModuleIndex × List CoreDef). flat_map (in_def g) y.1) o)) at all) in
        grown_step g ms f with_module s (with_instance s vs w.means) made_by trace refl (module_gains s vs w.means)
        (module_back ms)
        (λ p e. module_step s vs w.means ms p w (module_back ms p e)
        (defs_resolve wired reached (module_back ms p e) x.1 vs w.means module_occurs ready numbered))
        (module_placed s vs w.means reached.placed) (module_filled s vs w.means reached.filled)
        (resolves_stay g ms f with_module s (with_instance s vs w.means) (module_gains s vs w.means) refl refl
        (module_back ms) reached.resolves)
        reached;
  }

-- a module that can be closed is there
pub module_can : (g : ComponentDfg) (made : ℕ) (m : AdapterModuleId) → CanClose g made (id.AdapterModule m)
    → m.0 < length g.adapter_modules
unfolding CanClose
module_can g made m can = slice_get_within g.adapter_modules m.0 can.0 can.1

-- its arguments are ready
pub module_ready : (g : ComponentDfg) (made : ℕ) (m : AdapterModuleId) (x : StaticModuleIndex × List CoreDef)
    → CanClose g made (id.AdapterModule m) → slice_get g.adapter_modules m.0 ≡ Some x → All (IsReadyDef g made) x.1
unfolding CanClose
module_ready g made m x can at =
    subst (λ (y : StaticModuleIndex × List CoreDef). All (IsReadyDef g made) y.1) (same_Some can.0 x (sym can.1 ∙ at))
    can.2

-- so it gets its number by its step, whose arguments are those of the graph as the plan has them
pub module_closed : (g : ComponentDfg) (f h : Finish) (m : AdapterModuleId) (x : StaticModuleIndex × List CoreDef)
    (ds : List CoreDef) (args : List PlanDef) → CanClose g (length f.instances) (id.AdapterModule m)
    → slice_get g.adapter_modules m.0 ≡ Some x → Fits g f → All (HasNumber f) (parts g (id.AdapterModule m))
    → number_of f (id.AdapterModule m) ≡ None → ds ≡ x.1 → args ≡ map (def_in g f) ds
    → h ≡ add_module m.0 x.0 args f → Closed g f h (id.AdapterModule m)
module_closed g f h m x ds args can at fits all fresh lent same is =
    subst (λ (z : Finish). Closed g f z (id.AdapterModule m))
    (sym (is ∙ ap (λ (l : List PlanDef). add_module m.0 x.0 l f) (same ∙ ap (map (def_in g f)) lent)))
    (closed_module g f m x at fits (module_ready g (length f.instances) m x can at) all fresh)

-- and what they depend on has its number
pub module_numbered : (g : ComponentDfg) (f : Finish) (m : AdapterModuleId) (x : StaticModuleIndex × List CoreDef)
    → All (HasNumber f) (parts g (id.AdapterModule m)) → slice_get g.adapter_modules m.0 ≡ Some x
    → All (λ (d : CoreDef). All (HasNumber f) (in_def g d)) x.1
unfolding parts
module_numbered g f m x all at =
    each_numbered g f x.1 (subst (λ (o : Option (StaticModuleIndex × List CoreDef)). All (HasNumber f)
    (each_of (λ (y : StaticModuleIndex × List CoreDef). flat_map (in_def g) y.1) o)) at all)
