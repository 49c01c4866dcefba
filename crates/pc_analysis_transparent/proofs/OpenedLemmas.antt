-- What is in the lists of opaque component instances.
use Rattle.std.proofs.Common.{◌≡◌, ◌⊎◌, ℕ, zero, suc, Bool, true, false, ◌||◌, List, [], ◌∷◌, ◌++◌, inl, inr, Some}
use Rattle.std.proofs.Common.{refl, sym, ap}
use Rattle.std.proofs.Common.{subst, ◌∙◌, arith, true≢false}
use Rattle.std.specs.Prelude.{Option, None, slice_get}
use Rattle.std.specs.List.{Contains, flat_map}
use Rattle.std.proofs.lemmas.List.Elements.{Contains-append_cases, Contains-append_left, Contains-append_right}
use Rattle.pc_numbers.specs.declared.runtime.ResourceIndex.{ResourceIndex}
use Rattle.pc_types.specs.TypeTree.{Identity, TypeTree}
use Rattle.pc_types_lists.specs.Types.{Types}
use Rattle.pc_parsed.specs.Mark.{of_type}
use Rattle.pc_spec_plan.specs.PlanView as plan
use Rattle.pc_spec_wiring.specs.FunctionTypes.{is_async_type}
use Rattle.pc_trampoline.specs.declared.part.Mark.{Mark}
use Rattle.pc_dfg.specs.declared.adapter.Adapter.{Adapter}
use Rattle.pc_dfg.specs.declared.core_def.CoreDef.{CoreDef}
use Rattle.pc_dfg.specs.declared.dfg.ComponentDfg.{ComponentDfg}
use Rattle.pc_dfg.specs.declared.export.Export.{Export}
use Rattle.pc_dfg.specs.declared.export.Export.TheVariants as item
use Rattle.pc_dfg.specs.declared.instance.SideEffect.{SideEffect}
use Rattle.pc_dfg.specs.declared.instance.SideEffect.TheVariants as effect
use Rattle.pc_dfg.specs.declared.options.CanonicalOptions.{CanonicalOptions}
use Rattle.pc_dfg.specs.Names.{each_of, in_entry, in_instance, in_resource, in_side}
use Rattle.pc_dfg.specs.Numbers.{SignedTrampoline, options_entry, trampoline_entry}
use Rattle.pc_analysis_transparent.specs.Context.{is_context_def, uses_context}
use Rattle.pc_analysis_transparent.specs.Opaque.{AreTyped, IsOpaqueIn, IsUsedIn, as_argument, as_destructor, as_export}
use Rattle.pc_analysis_transparent.specs.Opaque.{as_lifted, as_lower_option, declares_builtin, lowers_async}
use Rattle.pc_analysis_transparent.specs.Opaque.{lowers_host}
use Rattle.pc_analysis_transparent.specs.Opaque.{uses_slots}
use Rattle.pc_analysis_transparent.specs.Opened.{by_adapter, by_effect, by_entry, by_export, by_trampoline, in_lift}
use Rattle.pc_analysis_transparent.specs.Opened.{in_options, is_async_in, opened, when}
use Rattle.pc_analysis_transparent.proofs.ContextLemmas.{used_by, user_of}
use Rattle.pc_analysis_transparent.proofs.SetLemmas.{made_of, made_there, none_listed}
use Rattle.pc_analysis_transparent.proofs.TypeLemmas.{async_told}

-- a list of one number has that alone
only : (n c : ℕ) → Contains (n ∷ []) c → n ≡ c
only n c (zero, below, is) = is
only n c (suc k, below, is) = absurd (omega (arith, below))

one_there : (n c : ℕ) → n ≡ c → Contains (n ∷ []) c
one_there n c is = (0, omega arith, is)

-- where a number stands only if something holds, it holds
when_in : (b : Bool) (n c : ℕ) → Contains (when b n) c → (b ≡ true) × (n ≡ c)
when_in true n c inside = (refl, only n c inside)
when_in false n c inside = absurd (none_listed c inside)

when_there : (b : Bool) (n c : ℕ) → b ≡ true → n ≡ c → Contains (when b n) c
when_there true n c holds is = one_there n c is
when_there false n c holds is = absurd (true≢false (sym holds))

-- what is made of what is there
each_in : {A B : Type 0} (f : A → List B) (o : Option A) (y : B) → Contains (each_of f o) y
    → (x : A) × (o ≡ Some x) × Contains (f x) y
each_in f None y inside = absurd (none_listed y inside)
each_in f (Some x) y inside = (x, refl, inside)

each_there : {A B : Type 0} (f : A → List B) (o : Option A) (x : A) (y : B) → o ≡ Some x → Contains (f x) y
    → Contains (each_of f o) y
each_there f o x y is inside = subst (λ p. Contains (each_of f p) y) (sym is) inside

-- one of two holds
or_cases : (a b : Bool) → (a || b) ≡ true → (a ≡ true) ⊎ (b ≡ true)
or_cases true b h = inl refl
or_cases false b h = inr h

or_left : (a b : Bool) → a ≡ true → (a || b) ≡ true
or_left true b h = refl
or_left false b h = absurd (true≢false (sym h))

or_right : (a b : Bool) → b ≡ true → (a || b) ≡ true
or_right true b h = refl
or_right false b h = h

module _ (g : ComponentDfg) (lift : ℕ → TypeTree) where
  -- a trampoline makes its component instance opaque
  by_made : (t : ℕ) (x : SignedTrampoline) (c : ℕ) → slice_get g.trampolines t ≡ Some x
      → (e : plan.TrampolineEntry Mark) → trampoline_entry x ≡ e → Contains (by_entry g e) c → IsOpaqueIn g lift c
  by_made t x c at (plan.lowers r s ty n) is inside =
      let found = each_in (λ (o : CanonicalOptions). o.instance.0 ∷ []) (slice_get g.options n) c inside in
      lowers_host t at is found.1 (only found.0.instance.0 c found.2)
  by_made t x c at (plan.builtin k symbol i ps) is inside =
      declares_builtin t at (is ∙ ap (λ j. plan.builtin k symbol j ps) (only i c inside))
  by_made t x c at (plan.helper k symbol ps) is inside = absurd (none_listed c inside)

  -- a side effect does
  by_done : (k : ℕ) (e : SideEffect) (c : ℕ) → slice_get g.side_effects k ≡ Some e → Contains (by_effect g e) c
      → IsOpaqueIn g lift c
  unfolding by_effect
  by_done k (effect.Instance i o) c at inside =
      let found = each_in (λ x. when (uses_context (in_instance x)) o.0) (slice_get g.instances i.0) c inside in
      let both = when_in (uses_context (in_instance found.0)) o.0 c found.2 in
      let user = user_of (in_instance found.0) both.0 in
      uses_slots (as_argument k at both.1 found.1 user.1) user.2
  by_done k (effect.Resource n) c at inside =
      let found =
      each_in (λ r. when (uses_context (in_resource r)) r.instance.0) (slice_get g.resources n.0) c inside in
      let both = when_in (uses_context (in_resource found.0)) found.0.instance.0 c found.2 in
      let user = user_of (in_resource found.0) both.0 in
      uses_slots (as_destructor k at found.1 both.1 user.1) user.2

  -- an export does
  by_exported : (k : ℕ) (e : Export) (c : ℕ) → slice_get g.export_items k ≡ Some e → Contains (by_export g e) c
      → IsOpaqueIn g lift c
  unfolding by_export
  by_exported k (item.LiftedFunction ty f n) c at inside =
      let test : CanonicalOptions → Bool = λ o. uses_context (f ∷ in_entry g (options_entry o)) in
      let found = each_in (λ (o : CanonicalOptions). when (test o) o.instance.0) (slice_get g.options n.0) c inside in
      let both = when_in (test found.0) found.0.instance.0 c found.2 in
      let user = user_of (f ∷ in_entry g (options_entry found.0)) both.0 in
      uses_slots (as_export k at found.1 both.1 user.1) user.2
  by_exported k (item.ImportedFunction ty r) c at inside = absurd (none_listed c inside)
  by_exported k (item.ModuleStatic ty m) c at inside = absurd (none_listed c inside)
  by_exported k (item.ModuleImport ty r) c at inside = absurd (none_listed c inside)
  by_exported k (item.Instance ty es) c at inside = absurd (none_listed c inside)
  by_exported k (item.Type_ ty) c at inside = absurd (none_listed c inside)

  module _ (b : Types) (who : ResourceIndex → Identity) (lower : ℕ → TypeTree)
      (typed : AreTyped b who g lift lower) where
    abbrev made : List ℕ
    made = flat_map (by_trampoline g) g.trampolines

    abbrev fused : List ℕ
    fused = flat_map (by_adapter b) g.adapters

    abbrev done : List ℕ
    done = flat_map (by_effect g) g.side_effects

    abbrev exported : List ℕ
    exported = flat_map (by_export g) g.export_items

    told : (k : ℕ) (x : Adapter) → slice_get g.adapters k ≡ Some x
        → is_async_in b x.lift_ty.0 ≡ is_async_type (of_type (lift k))
    told k x at = async_told b who x.lift_ty (lift k) (typed k x at).lift_tree

    -- an adapter does
    by_fused : (k : ℕ) (x : Adapter) (c : ℕ) → slice_get g.adapters k ≡ Some x → Contains (by_adapter b x) c
        → IsOpaqueIn g lift c
    unfolding by_adapter
    by_fused k x c at inside =
        let lowers = is_async_in b x.lift_ty.0 || uses_context (in_side x.lower_options) in
        let lifts = uses_context (x.func ∷ in_side x.lift_options) in
        elim (Contains-append_cases (when lowers x.lower_options.instance.0) (when lifts x.lift_options.instance.0) c
        inside) [
          | inl first ↦
              let both = when_in lowers x.lower_options.instance.0 c first in
              elim (or_cases (is_async_in b x.lift_ty.0) (uses_context (in_side x.lower_options)) both.0) [
                | inl async ↦ lowers_async k at both.1 (sym (told k x at) ∙ async)
                | inr uses ↦
                    let user = user_of (in_side x.lower_options) uses in
                    uses_slots (as_lower_option k at both.1 user.1) user.2
              ]
          | inr second ↦
              let both = when_in lifts x.lift_options.instance.0 c second in
              let user = user_of (x.func ∷ in_side x.lift_options) both.0 in
              uses_slots (as_lifted k at both.1 user.1) user.2
        ]

    -- a component instance that is listed is opaque
    pub opaque_if_opened : (c : ℕ) → Contains (opened g b) c → IsOpaqueIn g lift c
    unfolding opened by_trampoline
    opaque_if_opened c inside =
        elim (Contains-append_cases ((made ++ fused) ++ done) exported c inside) [
          | inl front ↦ elim (Contains-append_cases (made ++ fused) done c front) [
            | inl early ↦ elim (Contains-append_cases made fused c early) [
              | inl first ↦
                  let of = made_of (by_trampoline g) g.trampolines c first in
                  by_made of.0 of.1 c of.2 (trampoline_entry of.1) refl of.3
              | inr second ↦
                  let of = made_of (by_adapter b) g.adapters c second in
                  by_fused of.0 of.1 c of.2 of.3
            ]
            | inr third ↦
                let of = made_of (by_effect g) g.side_effects c third in
                by_done of.0 of.1 c of.2 of.3
          ]
          | inr last ↦
              let of = made_of (by_export g) g.export_items c last in
              by_exported of.0 of.1 c of.2 of.3
        ]

    -- what a trampoline, an adapter, a side effect or an export makes opaque is listed
    from_made : (c t : ℕ) (x : SignedTrampoline) → slice_get g.trampolines t ≡ Some x
        → Contains (by_entry g (trampoline_entry x)) c → Contains (opened g b) c
    unfolding opened by_trampoline
    from_made c t x at inside =
        Contains-append_left ((made ++ fused) ++ done) exported c (Contains-append_left (made ++ fused) done c
        (Contains-append_left made fused c (made_there (by_trampoline g) g.trampolines t x c at inside)))

    from_fused : (c k : ℕ) (x : Adapter) → slice_get g.adapters k ≡ Some x → Contains (by_adapter b x) c
        → Contains (opened g b) c
    unfolding opened
    from_fused c k x at inside =
        Contains-append_left ((made ++ fused) ++ done) exported c (Contains-append_left (made ++ fused) done c
        (Contains-append_right made fused c (made_there (by_adapter b) g.adapters k x c at inside)))

    from_done : (c k : ℕ) (e : SideEffect) → slice_get g.side_effects k ≡ Some e → Contains (by_effect g e) c
        → Contains (opened g b) c
    unfolding opened
    from_done c k e at inside =
        Contains-append_left ((made ++ fused) ++ done) exported c (Contains-append_right (made ++ fused) done c
        (made_there (by_effect g) g.side_effects k e c at inside))

    from_exported : (c k : ℕ) (e : Export) → slice_get g.export_items k ≡ Some e → Contains (by_export g e) c
        → Contains (opened g b) c
    unfolding opened
    from_exported c k e at inside =
        Contains-append_right ((made ++ fused) ++ done) exported c
        (made_there (by_export g) g.export_items k e c at inside)

    -- where an instance uses a function of a context it is listed
    used_is_opened : (c : ℕ) (d : CoreDef) → IsUsedIn g c d → is_context_def d ≡ true → Contains (opened g b) c
    unfolding by_adapter by_effect by_export
    used_is_opened c d (as_argument e {i} {o} {x} at owner made inside) is =
        from_done c e (effect.Instance i o) at
        (each_there (λ x. when (uses_context (in_instance x)) o.0) (slice_get g.instances i.0) x c made
        (when_there (uses_context (in_instance x)) o.0 c (used_by (in_instance x) d inside is) owner))
    used_is_opened c d (as_destructor e {n} {x} at made owner inside) is =
        from_done c e (effect.Resource n) at
        (each_there (λ r. when (uses_context (in_resource r)) r.instance.0) (slice_get g.resources n.0) x c made
        (when_there (uses_context (in_resource x)) x.instance.0 c (used_by (in_resource x) d inside is) owner))
    used_is_opened c d (as_lifted k {x} at owner inside) is =
        let lifts = uses_context (x.func ∷ in_side x.lift_options) in
        from_fused c k x at (Contains-append_right _ (when lifts x.lift_options.instance.0) c
        (when_there lifts x.lift_options.instance.0 c
        (used_by (x.func ∷ in_side x.lift_options) d inside is) owner))
    used_is_opened c d (as_lower_option k {x} at owner inside) is =
        let lowers = is_async_in b x.lift_ty.0 || uses_context (in_side x.lower_options) in
        from_fused c k x at (Contains-append_left (when lowers x.lower_options.instance.0) _ c
        (when_there lowers x.lower_options.instance.0 c
        (or_right (is_async_in b x.lift_ty.0) (uses_context (in_side x.lower_options))
        (used_by (in_side x.lower_options) d inside is)) owner))
    used_is_opened c d (as_export e {ty} {f} {n} {o} at held owner inside) is =
        let test : CanonicalOptions → Bool = λ p. uses_context (f ∷ in_entry g (options_entry p)) in
        from_exported c e (item.LiftedFunction ty f n) at
        (each_there (λ (p : CanonicalOptions). when (test p) p.instance.0) (slice_get g.options n.0) o c held
        (when_there (test o) o.instance.0 c
        (used_by (f ∷ in_entry g (options_entry o)) d inside is) owner))

    -- an opaque component instance is listed
    pub opened_if_opaque : (c : ℕ) → IsOpaqueIn g lift c → Contains (opened g b) c
    unfolding by_adapter
    opened_if_opaque c (lowers_host t {r} {n} {x} {s} {ty} {o} at is held owner) =
        from_made c t x at (subst (λ e. Contains (by_entry g e) c) (sym is)
        (each_there (λ (o : CanonicalOptions). o.instance.0 ∷ []) (slice_get g.options n) o c held
        (one_there o.instance.0 c owner)))
    opened_if_opaque c (declares_builtin t {x} {k} {symbol} {ps} at is) =
        from_made c t x at (subst (λ e. Contains (by_entry g e) c) (sym is) (one_there c c refl))
    opened_if_opaque c (lowers_async k {x} at owner async) =
        let lowers = is_async_in b x.lift_ty.0 || uses_context (in_side x.lower_options) in
        from_fused c k x at (Contains-append_left (when lowers x.lower_options.instance.0) _ c
        (when_there lowers x.lower_options.instance.0 c
        (or_left (is_async_in b x.lift_ty.0) (uses_context (in_side x.lower_options)) (told k x at ∙ async)) owner))
    opened_if_opaque c (uses_slots {d} used is) = used_is_opened c d used is
