-- The instances that are found are those that the steps of a plan make.
use Rattle.std.proofs.Common.{◌≡◌, ◌<◌, ◌≤◌, ◌+◌, ◌⊎◌, ℕ, zero, suc, Bool, true, false, List, [], ◌∷◌, ◌++◌, inl, inr}
use Rattle.std.proofs.Common.{length, Some, Option, refl, sym, ap, subst, ◌∙◌, arith, take, cond, add-one}
use Rattle.std.specs.Prelude.{slice_get, count_by, map, option_map}
use Rattle.std.specs.List.{Contains, flat_map}
use Rattle.std.proofs.lemmas.Bool.{cases_lt}
use Rattle.std.proofs.lemmas.List.{length-append, length-map}
use Rattle.std.proofs.Math.Seq.{take-length}
use Rattle.std.proofs.lemmas.List.Concat.{flat_map-cons}
use Rattle.std.proofs.lemmas.List.Sums.{count_by_more_no, count_by_more_yes, sum_by-cons, sum_by-take-le}
use Rattle.std.proofs.lemmas.Option.{get_or_from_slice_get, none-some, same_Some, slice_get-map, slice_get_within}
use Rattle.pc_entity.proofs.Growing.{slice_get-append, slice_get-append_seam}
use Rattle.pc_entity.proofs.LookupLemmas.{found_at}
use Rattle.pc_numbers.specs.declared.component_entity.StaticModuleIndex.{StaticModuleIndex}
use Rattle.pc_numbers.specs.declared.runtime.RuntimeComponentInstanceIndex.{RuntimeComponentInstanceIndex}
use Rattle.pc_types.specs.declared.module_record.ModuleRecord.{ModuleRecord}
use Rattle.pc_spec_plan.specs.Counts.{makes_instance}
use Rattle.pc_spec_plan.specs.PlanView as plan
use Rattle.pc_info.specs.declared.core_def.CoreDef.{CoreDef}
use Rattle.pc_info.specs.declared.initializer.GlobalInitializer.{GlobalInitializer}
use Rattle.pc_info.specs.declared.initializer.GlobalInitializer.TheVariants as init
use Rattle.pc_info.specs.declared.initializer.InstantiateModule.TheVariants as module_source
use Rattle.pc_info.specs.Definitions.{def_view, initializer_view, owner_view, source_view}
use Rattle.pc_info.specs.Slots.{step_definitions}
use Rattle.pc_spec_wiring.specs.Origin.{Core, PlanEnd, core_of, cores_in, cores_of, given_by, of_host, of_record}
use Rattle.pc_analysis_imports.specs.declared.source.Instance.{Instance}
use Rattle.pc_analysis_imports.specs.declared.source.Instance.TheVariants as instance
use Rattle.pc_analysis_imports.specs.declared.source.Source.{Source}
use Rattle.pc_analysis_imports.specs.Followed.{instances_after, source_of, with_step}
use Rattle.pc_analysis_imports.specs.Known.{CanBeFollowed}
use Rattle.pc_analysis_imports.proofs.FoldLemmas.{after_next, after_none, contained}
use Rattle.pc_analysis_imports.proofs.FollowedLemmas.{AreFollowed, Matches, Tells, def_tells, is_host, is_static}

-- one more is counted
counted_one : (p : plan.Initializer → Bool) (t : plan.Initializer) (ts : List plan.Initializer) → p t ≡ true
    → count_by p (t ∷ ts) ≡ suc (count_by p ts)
counted_one p t ts is =
    sum_by-cons (λ j. cond (p j) 1 0) t ts ∙ ap (λ b. cond b 1 0 + count_by p ts) is ∙ omega arith

counted_none : (p : plan.Initializer → Bool) (t : plan.Initializer) (ts : List plan.Initializer) → p t ≡ false
    → count_by p (t ∷ ts) ≡ count_by p ts
counted_none p t ts is =
    sum_by-cons (λ j. cond (p j) 1 0) t ts ∙ ap (λ b. cond b 1 0 + count_by p ts) is ∙ omega arith

module _ (records : List ModuleRecord) where
  -- the core instance that a step makes has as many before it as steps before make
  pub core_at : (ss : List plan.Initializer) (i : ℕ) (s : plan.Initializer) (core : Core PlanEnd)
      → slice_get ss i ≡ Some s → cores_of records s ≡ core ∷ []
      → slice_get (cores_in records ss) (count_by makes_instance (take i ss)) ≡ Some core
  unfolding cores_in
  core_at [] i s core at is = absurd (none-some s at)
  core_at (t ∷ ts) zero s core at is =
      ap (λ l. slice_get l 0)
      (flat_map-cons (cores_of records) t ts
      ∙ ap (λ l. l ++ flat_map (cores_of records) ts) (ap (cores_of records) (same_Some t s at) ∙ is))
  core_at (t ∷ ts) (suc i) s core at is =
      ap (λ l. slice_get l (count_by makes_instance (t ∷ take i ts))) (flat_map-cons (cores_of records) t ts)
      ∙ by (core_at ts i s core at is) t
    where
      by : slice_get (flat_map (cores_of records) ts) (count_by makes_instance (take i ts)) ≡ Some core
          → (u : plan.Initializer)
          → slice_get (cores_of records u ++ flat_map (cores_of records) ts) (count_by makes_instance (u ∷ take i ts))
          ≡ Some core
      by rest (plan.instantiate_static m args c) =
          ap (slice_get (core_of m (slice_get records m) args ∷ flat_map (cores_of records) ts))
          (counted_one makes_instance (plan.instantiate_static m args c) (take i ts) refl)
          ∙ rest
      by rest (plan.instantiate_import r args c) =
          ap (slice_get (of_host ∷ flat_map (cores_of records) ts))
          (counted_one makes_instance (plan.instantiate_import r args c) (take i ts) refl)
          ∙ rest
      by rest (plan.lower_import n r) =
          ap (slice_get (flat_map (cores_of records) ts))
          (counted_none makes_instance (plan.lower_import n r) (take i ts) refl)
          ∙ rest
      by rest (plan.extract k n d) =
          ap (slice_get (flat_map (cores_of records) ts))
          (counted_none makes_instance (plan.extract k n d) (take i ts) refl)
          ∙ rest
      by rest (plan.declare_resource n rep d c) =
          ap (slice_get (flat_map (cores_of records) ts))
          (counted_none makes_instance (plan.declare_resource n rep d c) (take i ts) refl)
          ∙ rest

module _ (records : List ModuleRecord) (inits : List GlobalInitializer) (is_exported : ℕ → Bool)
    (ok : CanBeFollowed records (map initializer_view inits)) where
  abbrev steps : List plan.Initializer
  steps = map initializer_view inits

  abbrev made_by : ℕ → List Instance
  made_by i = instances_after records [] (take i inits)

  abbrev count_to : ℕ → ℕ
  count_to i = count_by makes_instance (take i steps)

  step_at : (i : ℕ) (x : GlobalInitializer) → slice_get inits i ≡ Some x → slice_get steps i ≡ Some (initializer_view x)
  step_at i x at = slice_get-map initializer_view inits i ∙ ap (option_map initializer_view) at

  -- what a definition is that a step is given, by the instances before it
  step_tells : (i : ℕ) (x : GlobalInitializer) → slice_get inits i ≡ Some x
      → AreFollowed records steps is_exported (count_to i) (made_by i) → makes_instance (initializer_view x) ≡ true
      → (d : CoreDef) → Contains (step_definitions (initializer_view x)) (def_view d)
      → Tells records steps is_exported (def_view d) (source_of records (made_by i) d)
  step_tells i x at followed makes d inside =
      def_tells records steps is_exported (count_to i) (made_by i) followed d
      (λ r item is.
      ok.earlier i r (initializer_view x) item (step_at i x at) makes
      (subst (Contains (step_definitions (initializer_view x))) is inside))

  more_counts : (i : ℕ) (x : GlobalInitializer) → slice_get inits i ≡ Some x
      → makes_instance (initializer_view x) ≡ true → count_to (i + 1) ≡ count_to i + 1
  more_counts i x at makes =
      count_by_more_yes makes_instance steps i (initializer_view x)
      (slice_get_within steps i (initializer_view x) (step_at i x at))
      (ap makes_instance
      (get_or_from_slice_get steps i (initializer_view x) (initializer_view x) (step_at i x at)) ∙ makes)

  same_counts : (i : ℕ) (x : GlobalInitializer) → slice_get inits i ≡ Some x
      → makes_instance (initializer_view x) ≡ false → count_to (i + 1) ≡ count_to i
  same_counts i x at none =
      count_by_more_no makes_instance steps i (initializer_view x)
      (slice_get_within steps i (initializer_view x) (step_at i x at))
      (ap makes_instance
      (get_or_from_slice_get steps i (initializer_view x) (initializer_view x) (step_at i x at)) ∙ none)

  -- one instance more
  added : (n : ℕ) (now : List Instance) (y : Instance) (core : Core PlanEnd)
      → AreFollowed records steps is_exported n now → slice_get (cores_in records steps) n ≡ Some core
      → Matches records steps is_exported core y → AreFollowed records steps is_exported (n + 1) (now ++ y ∷ [])
  added n now y core followed there is = record {
    count = omega (arith, length-append now (y ∷ []), followed.count);
    match_ = λ k z at. by k z at (cases_lt k n);
  }
    where
      by : (k : ℕ) (z : Instance) → slice_get (now ++ y ∷ []) k ≡ Some z → (k < n) ⊎ (n ≤ k)
          → (c : Core PlanEnd) × (slice_get (cores_in records steps) k ≡ Some c) × Matches records steps is_exported c z
      by k z at (inl less) =
          let found = found_at now k (omega (arith, less, followed.count)) in
          followed.match_ k z
          (found.1 ∙ ap Some (same_Some found.0 z (sym (slice_get-append now (y ∷ []) k found.0 found.1) ∙ at)))
      by k z at (inr many) =
          let within = slice_get_within (now ++ y ∷ []) k z at in
          let last : k ≡ n = omega (arith, within, many, length-append now (y ∷ []), followed.count) in
          let seam : slice_get (now ++ y ∷ []) k ≡ Some y =
          ap (slice_get (now ++ y ∷ [])) (omega (arith, last, followed.count)) ∙ slice_get-append_seam now y [] in
          let same : y ≡ z = same_Some y z (sym seam ∙ at) in (
            core,
            ap (slice_get (cores_in records steps)) last ∙ there,
            subst (Matches records steps is_exported core) same is,
          )

  -- what is found at each place of mapped lists
  told_args : (i : ℕ) (x : GlobalInitializer) → slice_get inits i ≡ Some x
      → AreFollowed records steps is_exported (count_to i) (made_by i) → makes_instance (initializer_view x) ≡ true
      → (args : List CoreDef) → step_definitions (initializer_view x) ≡ map def_view args
      → (p : ℕ) (d : plan.Definition) (s : Source) → slice_get (map def_view args) p ≡ Some d
      → slice_get (map (source_of records (made_by i)) args) p ≡ Some s → Tells records steps is_exported d s
  told_args i x at followed makes args are p d s here is =
      let within = slice_get_within (map def_view args) p d here in
      let found = found_at args p (omega (arith, within, length-map args def_view)) in
      let a = found.0 in
      let def_is : def_view a ≡ d =
      same_Some (def_view a) d (sym (slice_get-map def_view args p ∙ ap (option_map def_view) found.1) ∙ here) in
      let source_is : source_of records (made_by i) a ≡ s =
      same_Some (source_of records (made_by i) a) s
      (sym (slice_get-map (source_of records (made_by i)) args p
      ∙ ap (option_map (source_of records (made_by i))) found.1) ∙ is) in
      let inside : Contains (step_definitions (initializer_view x)) (def_view a) =
      subst (λ l. Contains l (def_view a)) (sym are)
      (contained (map def_view args) p (def_view a)
      (slice_get-map def_view args p ∙ ap (option_map def_view) found.1)) in
      let told = step_tells i x at followed makes a inside in
      subst (λ q. Tells records steps is_exported q s) def_is
      (subst (Tells records steps is_exported (def_view a)) source_is told)

  made_static : (i : ℕ) (m : StaticModuleIndex) (args : List CoreDef) (c : Option RuntimeComponentInstanceIndex)
      → slice_get inits i ≡ Some (init.InstantiateModule (module_source.Static m args) c)
      → AreFollowed records steps is_exported (count_to i) (made_by i)
      → AreFollowed records steps is_exported (count_to i + 1)
      (made_by i ++ instance.Static m (map (source_of records (made_by i)) args) ∷ [])
  made_static i m args c at followed =
      let s : plan.Initializer = plan.instantiate_static m.0 (map def_view args) (owner_view c) in
      let x : GlobalInitializer = init.InstantiateModule (module_source.Static m args) c in
      let there = step_at i x at in
      let held = found_at records m.0 (ok.held m.0 (map def_view args) (owner_view c) (contained steps i s there)) in
      let core : cores_of records s ≡ of_record m.0 held.0 (map given_by (map def_view args)) ∷ [] =
      ap (λ o. core_of m.0 o (map def_view args) ∷ []) held.1 in
      added (count_to i) (made_by i) (instance.Static m (map (source_of records (made_by i)) args))
      (of_record m.0 held.0 (map given_by (map def_view args))) followed
      (core_at records steps i s (of_record m.0 held.0 (map given_by (map def_view args))) there core)
      (is_static (map def_view args) held.1
      (length-map args (source_of records (made_by i)) ∙ sym (length-map args def_view))
      (told_args i x at followed refl args refl))

  -- the instances after each step
  followed_to : (i : ℕ) → i ≤ length inits → AreFollowed records steps is_exported (count_to i) (made_by i)
  followed_to zero few = record {
    count = ap length (after_none records []);
    match_ = λ k x at. absurd (none-some x (sym (ap (λ l. slice_get l k) (after_none records [])) ∙ at));
  }
  followed_to (suc i) few =
      let found = found_at inits i (omega (arith, few)) in
      subst (λ n. AreFollowed records steps is_exported (count_to n) (made_by n)) (add-one i)
      (by (followed_to i (omega (arith, few))) found.0 found.1)
    where
      same : AreFollowed records steps is_exported (count_to i) (made_by i) → (x : GlobalInitializer) → slice_get inits i ≡ Some x → makes_instance (initializer_view x) ≡ false
          → with_step records (made_by i) x ≡ made_by i
          → AreFollowed records steps is_exported (count_to (i + 1)) (made_by (i + 1))
      same before x at none keeps =
          subst (λ n. AreFollowed records steps is_exported n (made_by (i + 1))) (sym (same_counts i x at none))
          (subst (AreFollowed records steps is_exported (count_to i)) (sym (after_next records [] inits i x at ∙ keeps))
          before)

      more : (x : GlobalInitializer) (y : Instance) → slice_get inits i ≡ Some x
          → makes_instance (initializer_view x) ≡ true → with_step records (made_by i) x ≡ made_by i ++ y ∷ []
          → AreFollowed records steps is_exported (count_to i + 1) (made_by i ++ y ∷ [])
          → AreFollowed records steps is_exported (count_to (i + 1)) (made_by (i + 1))
      more x y at makes adds followed =
          subst (λ n. AreFollowed records steps is_exported n (made_by (i + 1))) (sym (more_counts i x at makes))
          (subst (AreFollowed records steps is_exported (count_to i + 1))
          (sym (after_next records [] inits i x at ∙ adds)) followed)

      by : AreFollowed records steps is_exported (count_to i) (made_by i) → (x : GlobalInitializer)
          → slice_get inits i ≡ Some x → AreFollowed records steps is_exported (count_to (i + 1)) (made_by (i + 1))
      by before (init.InstantiateModule (module_source.Static m args) c) at =
          more (init.InstantiateModule (module_source.Static m args) c)
          (instance.Static m (map (source_of records (made_by i)) args)) at refl refl (made_static i m args c at before)
      by before (init.InstantiateModule (module_source.Import r args) c) at =
          more (init.InstantiateModule (module_source.Import r args) c) instance.Host at refl refl
          (added (count_to i) (made_by i) instance.Host of_host before
          (core_at records steps i (source_view (module_source.Import r args) c) of_host
          (step_at i (init.InstantiateModule (module_source.Import r args) c) at) refl) is_host)
      by before (init.LowerImport n r) at = same before (init.LowerImport n r) at refl refl
      by before (init.ExtractMemory e) at = same before (init.ExtractMemory e) at refl refl
      by before (init.ExtractRealloc e) at = same before (init.ExtractRealloc e) at refl refl
      by before (init.ExtractCallback e) at = same before (init.ExtractCallback e) at refl refl
      by before (init.ExtractPostReturn e) at = same before (init.ExtractPostReturn e) at refl refl
      by before (init.ExtractTable e) at = same before (init.ExtractTable e) at refl refl
      by before (init.Resource r) at = same before (init.Resource r) at refl refl

  -- the instances of the whole plan
  pub followed_all : AreFollowed records steps is_exported (count_by makes_instance steps)
      (instances_after records [] inits)
  followed_all =
      subst (λ n. AreFollowed records steps is_exported n (instances_after records [] inits))
      (ap (count_by makes_instance) (ap (λ n. take n steps) (sym (length-map inits initializer_view)) ∙ take-length steps))
      (subst (λ l. AreFollowed records steps is_exported (count_to (length inits)) (instances_after records [] l))
      (take-length inits) (followed_to (length inits) (omega arith)))

  -- what an argument of an instance is found to be tells what it refers to
  pub told : (i : ℕ) (x : GlobalInitializer) → slice_get inits i ≡ Some x
      → makes_instance (initializer_view x) ≡ true → (d : CoreDef)
      → Contains (step_definitions (initializer_view x)) (def_view d)
      → Tells records steps is_exported (def_view d) (source_of records (instances_after records [] inits) d)
  told i x at makes d inside =
      def_tells records steps is_exported (count_by makes_instance steps) (instances_after records [] inits)
      followed_all d
      (λ r item is.
      let few = ok.earlier i r (initializer_view x) item (step_at i x at) makes
      (subst (Contains (step_definitions (initializer_view x))) is inside) in
      omega (arith, few, sum_by-take-le (λ j. cond (makes_instance j) 1 0) steps i))
