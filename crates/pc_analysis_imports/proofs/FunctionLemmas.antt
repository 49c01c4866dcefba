-- Which function imports are known.
use Rattle.std.proofs.Common.{◌≡◌, ◌+◌, ℕ, zero, suc, Bool, List, [], ◌∷◌, inl, inr, length, Some, None}
use Rattle.std.proofs.Common.{Option, refl, sym, ap, subst, ◌∙◌, arith, unwrap_or}
use Rattle.std.specs.Prelude.{◌↔◌, slice_get, option_map}
use Rattle.std.proofs.lemmas.Option.{none-some, same_Some}
use Rattle.pc_numbers.specs.declared.component_entity.StaticModuleIndex.{StaticModuleIndex}
use Rattle.pc_numbers.specs.declared.module_entity.ModuleInternedTypeIndex.{ModuleInternedTypeIndex}
use Rattle.pc_numbers.specs.declared.runtime.TrampolineIndex.{TrampolineIndex}
use Rattle.pc_types.specs.declared.intrinsic.UnsafeIntrinsic.{UnsafeIntrinsic}
use Rattle.pc_types.specs.declared.module_record.ModuleRecord.{ModuleRecord}
use Rattle.pc_types.specs.declared.parsed.CoreKind.{CoreKind}
use Rattle.pc_types.specs.declared.parsed.CoreKind.TheVariants as kind
use Rattle.pc_types.specs.declared.trampoline.TrampolineKind.TheVariants as trampoline_kind
use Rattle.pc_types.specs.IntrinsicType.{intrinsic_place}
use Rattle.pc_spec_plan.specs.PlanView as plan
use Rattle.pc_trampoline.specs.declared.part.Mark.{Mark}
use Rattle.pc_trampoline.specs.declared.trampoline.Trampoline.TheVariants as trampoline
use Rattle.pc_trampoline.specs.Parts.{parts_of}
use Rattle.pc_trampoline.specs.View.{PlanTrampoline, entry_view}
use Rattle.pc_info.specs.declared.component.ComponentTranslation.{ComponentTranslation}
use Rattle.pc_info.specs.Standing.{steps_in, trampolines_in}
use Rattle.pc_info.specs.View.{no_signature, trampolines_view}
use Rattle.pc_spec_facts.specs.Recorded.{function_of}
use Rattle.pc_spec_wiring.specs.Known.{IsGiven, IsKnownFunction, KnownFunction, a_defined, a_function}
use Rattle.pc_spec_wiring.specs.Known.{an_intrinsic, enters_call, exits_call, known_enter, known_exit, known_function}
use Rattle.pc_spec_wiring.specs.Known.{known_intrinsic, known_trap, the_flags, traps}
use Rattle.pc_dfg.specs.declared.instantiations.AbstractInstantiations.{AbstractInstantiations}
use Rattle.pc_analysis_imports.specs.declared.source.Source.{Source}
use Rattle.pc_analysis_imports.specs.declared.source.Source.TheVariants as source
use Rattle.pc_analysis_imports.specs.Exported.{is_exported_in}
use Rattle.pc_analysis_imports.specs.Imports.{func_from, func_of_held, func_of_trampoline}
use Rattle.pc_analysis_imports.specs.Known.{CanBeFollowed}
use Rattle.pc_analysis_imports.specs.Ways.{AreWays}
use Rattle.pc_analysis_imports.proofs.FollowedLemmas.{Tells, intrinsic_in, known_in, trampoline_in}
use Rattle.pc_analysis_imports.proofs.MarkLemmas.{known_module, known_parts}
use Rattle.pc_analysis_imports.proofs.GivenLemmas.{found_source, given_told, told_given_or_none}

-- a trampoline of a plan under the core signature of its place
abbrev signed_at : List ModuleInternedTypeIndex → ℕ → PlanTrampoline → plan.TrampolineEntry Mark
signed_at signatures n t = entry_view (unwrap_or (slice_get signatures n) no_signature) t

-- the entries of trampolines are those of each
view_at : (signatures : List ModuleInternedTypeIndex) (ts : List PlanTrampoline) (n i : ℕ)
    → slice_get (trampolines_view n signatures ts) i ≡ option_map (signed_at signatures (n + i)) (slice_get ts i)
view_at signatures [] n i = refl
view_at signatures (t ∷ ts) n zero =
    let same : n ≡ n + 0 = omega arith in
    ap (λ (m : ℕ). Some (signed_at signatures m t)) same
view_at signatures (t ∷ ts) n (suc i) =
    let same : n + 1 + i ≡ n + suc i = omega arith in
    view_at signatures ts (n + 1) i ∙ ap (λ (m : ℕ). option_map (signed_at signatures m) (slice_get ts i)) same

-- what an entry is known to be
abbrev known_entry : plan.TrampolineEntry Mark → Option KnownFunction
known_entry (plan.helper trampoline_kind.EnterSyncCall symbol parts) = Some enters_call
known_entry (plan.helper trampoline_kind.ExitSyncCall symbol parts) = Some exits_call
known_entry (plan.helper trampoline_kind.Trap (code ∷ []) parts) = Some (traps code)
known_entry e = None

-- the entry of a trampoline is known to be what the trampoline is
entry_known : (s : ModuleInternedTypeIndex) (t : PlanTrampoline)
    → option_map function_of (func_of_trampoline t) ≡ known_entry (entry_view s t)
unfolding parts_of
entry_known s trampoline.EnterSyncCall = refl
entry_known s t = refl

-- the source of a definition, from what it is known by
known_back : (s : Source) (m : ℕ) (k : CoreKind) (n : ℕ) → known_in s ≡ Some (a_defined m k n)
    → (i : StaticModuleIndex) × (s ≡ source.Defined i k n) × (i.0 ≡ m)
known_back (source.Defined i j q) m k n h =
    let parts = known_parts i.0 m j k q n (same_Some (a_defined i.0 j q) (a_defined m k n) h) in
    (i, (λ z. source.Defined i (sym parts.1 z) (sym parts.2 z)), sym parts.0)
known_back (source.Flags c) m k n h =
    absurd (none-some m (ap known_module (same_Some (the_flags c.0) (a_defined m k n) h)))
known_back (source.Trampoline t) m k n h = absurd (none-some (a_defined m k n) h)
known_back (source.Intrinsic t) m k n h = absurd (none-some (a_defined m k n) h)
known_back source.Unknown m k n h = absurd (none-some (a_defined m k n) h)

trampoline_back : (s : Source) (t : ℕ) → trampoline_in s ≡ Some t
    → (i : TrampolineIndex) × (s ≡ source.Trampoline i) × (i.0 ≡ t)
trampoline_back (source.Trampoline i) t h = (i, refl, same_Some i.0 t h)
trampoline_back (source.Defined i j q) t h = absurd (none-some t h)
trampoline_back (source.Flags c) t h = absurd (none-some t h)
trampoline_back (source.Intrinsic i) t h = absurd (none-some t h)
trampoline_back source.Unknown t h = absurd (none-some t h)

intrinsic_back : (s : Source) (t : ℕ) → intrinsic_in s ≡ Some t
    → (i : UnsafeIntrinsic) × (s ≡ source.Intrinsic i) × (intrinsic_place i ≡ t)
intrinsic_back (source.Intrinsic i) t h = (i, refl, same_Some (intrinsic_place i) t h)
intrinsic_back (source.Trampoline i) t h = absurd (none-some t h)
intrinsic_back (source.Defined i j q) t h = absurd (none-some t h)
intrinsic_back (source.Flags c) t h = absurd (none-some t h)
intrinsic_back source.Unknown t h = absurd (none-some t h)

module _ (p : ComponentTranslation) (records : List ModuleRecord) (ok : CanBeFollowed records (steps_in p))
    (ways : List AbstractInstantiations) (ways_count : length ways ≡ length records)
    (are_ways : AreWays (is_exported_in p.component.export_items) p.component.initializers ways) where
  abbrev exported : ℕ → Bool
  exported = is_exported_in p.component.export_items

  abbrev KnownAs : (m f : ℕ) → KnownFunction → Type 0
  KnownAs = IsKnownFunction records (steps_in p) exported (trampolines_in p)

  abbrev GivenTo : (m f : ℕ) → plan.Definition → Type 0
  GivenTo m = IsGiven records (steps_in p) exported m kind.Func

  trampoline_at : (t : ℕ)
      → slice_get (trampolines_in p) t
      ≡ option_map (signed_at p.component.trampolines (0 + t)) (slice_get p.trampolines t)
  trampoline_at t = view_at p.component.trampolines p.trampolines 0 t

  -- an entry that is given is known as what it is
  entry_as : (m f t : ℕ) (e : plan.TrampolineEntry Mark) (y : KnownFunction) → GivenTo m f (plan.trampoline t)
      → slice_get (trampolines_in p) t ≡ Some e → known_entry e ≡ Some y → KnownAs m f y
  entry_as m f t (plan.helper trampoline_kind.EnterSyncCall symbol parts) y g at is =
      subst (KnownAs m f) (same_Some enters_call y is) (known_enter g at)
  entry_as m f t (plan.helper trampoline_kind.ExitSyncCall symbol parts) y g at is =
      subst (KnownAs m f) (same_Some exits_call y is) (known_exit g at)
  entry_as m f t (plan.helper trampoline_kind.Trap (code ∷ []) parts) y g at is =
      subst (KnownAs m f) (same_Some (traps code) y is) (known_trap g at)
  entry_as m f t e y g at is = absurd (none-some y is)

  -- a function import is known as what is found
  from_source : (m f : ℕ) (y : KnownFunction) (d : plan.Definition) (s : Source) → GivenTo m f d
      → Tells records (steps_in p) exported d s → option_map function_of (func_from p.trampolines s) ≡ Some y
      → KnownAs m f y
  from_source m f y d (source.Defined i kind.Func n) g tells h =
      subst (KnownAs m f) (same_Some (a_function i.0 n) y h)
      (known_function g ((tells.refers (a_defined i.0 kind.Func n)).0 refl))
  from_source m f y d (source.Defined i kind.Table n) g tells h = absurd (none-some y h)
  from_source m f y d (source.Defined i kind.Memory n) g tells h = absurd (none-some y h)
  from_source m f y d (source.Defined i kind.Global n) g tells h = absurd (none-some y h)
  from_source m f y d (source.Defined i kind.Tag n) g tells h = absurd (none-some y h)
  from_source m f y d (source.Flags c) g tells h = absurd (none-some y h)
  from_source m f y d (source.Trampoline t) g tells h = by (slice_get p.trampolines t.0) refl h
    where
      given : GivenTo m f (plan.trampoline t.0)
      given = subst (GivenTo m f) ((tells.trampolines t.0).0 refl) g

      by : (o : Option PlanTrampoline) → slice_get p.trampolines t.0 ≡ o
          → option_map function_of (func_of_held o) ≡ Some y → KnownAs m f y
      by None none h = absurd (none-some y h)
      by (Some x) here h =
          entry_as m f t.0 (signed_at p.component.trampolines (0 + t.0) x) y given
          (trampoline_at t.0 ∙ ap (option_map (signed_at p.component.trampolines (0 + t.0))) here)
          (sym (entry_known (unwrap_or (slice_get p.component.trampolines (0 + t.0)) no_signature) x) ∙ h)
  from_source m f y d (source.Intrinsic i) g tells h =
      subst (KnownAs m f) (same_Some (an_intrinsic (intrinsic_place i)) y h)
      (known_intrinsic (subst (GivenTo m f) ((tells.intrinsics (intrinsic_place i)).0 refl) g))
  from_source m f y d source.Unknown g tells h = absurd (none-some y h)

  -- a trampoline that is given is found as what its entry is
  from_entry : (s : Source) (t : ℕ) (e : plan.TrampolineEntry Mark) → trampoline_in s ≡ Some t
      → slice_get (trampolines_in p) t ≡ Some e
      → option_map function_of (func_from p.trampolines s) ≡ known_entry e
  from_entry s t e is at =
      let back = trampoline_back s t is in
      ap (λ q. option_map function_of (func_from p.trampolines q)) back.1
      ∙ ap (λ n. option_map function_of (func_of_held (slice_get p.trampolines n))) back.2
      ∙ by (slice_get p.trampolines t) refl
    where
      by : (o : Option PlanTrampoline) → slice_get p.trampolines t ≡ o
          → option_map function_of (func_of_held o) ≡ known_entry e
      by None none =
          absurd (none-some e
          (sym (trampoline_at t ∙ ap (option_map (signed_at p.component.trampolines (0 + t))) none) ∙ at))
      by (Some x) here =
          entry_known (unwrap_or (slice_get p.component.trampolines (0 + t)) no_signature) x
          ∙ ap known_entry (same_Some (signed_at p.component.trampolines (0 + t) x) e
          (sym (trampoline_at t ∙ ap (option_map (signed_at p.component.trampolines (0 + t))) here) ∙ at))

  -- a known function is found
  function_found : (m : ℕ) (r : ModuleRecord) (f : ℕ) (y : KnownFunction) → slice_get records m ≡ Some r
      → KnownAs m f y
      → option_map function_of
      (func_from p.trampolines (found_source p records ok ways ways_count are_ways m r kind.Func f)) ≡ Some y
  function_found m r f y at (known_enter {t} {symbol} {parts} g there) =
      from_entry _ t (plan.helper trampoline_kind.EnterSyncCall symbol parts)
      (((given_told p records ok ways ways_count are_ways m r kind.Func f (plan.trampoline t) at g).trampolines t).1
      refl) there
  function_found m r f y at (known_exit {t} {symbol} {parts} g there) =
      from_entry _ t (plan.helper trampoline_kind.ExitSyncCall symbol parts)
      (((given_told p records ok ways ways_count are_ways m r kind.Func f (plan.trampoline t) at g).trampolines t).1
      refl) there
  function_found m r f y at (known_trap {t} {code} {parts} g there) =
      from_entry _ t (plan.helper trampoline_kind.Trap (code ∷ []) parts)
      (((given_told p records ok ways ways_count are_ways m r kind.Func f (plan.trampoline t) at g).trampolines t).1
      refl) there
  function_found m r f y at (known_intrinsic {i} g) =
      let found = intrinsic_back _ i
      (((given_told p records ok ways ways_count are_ways m r kind.Func f (plan.intrinsic i) at g).intrinsics i).1
      refl) in
      ap (λ q. option_map function_of (func_from p.trampolines q)) found.1
      ∙ ap (λ n. Some (an_intrinsic n)) found.2
  function_found m r f y at (known_function {d} {m = q} {n} g refers) =
      let found = known_back _ q kind.Func n
      (((given_told p records ok ways ways_count are_ways m r kind.Func f d at g).refers (a_defined q kind.Func n)).1
      refers) in
      ap (λ z. option_map function_of (func_from p.trampolines z)) found.1
      ∙ ap (λ k. Some (a_function k n)) found.2

  -- a known function
  pub function_exactly : (m : ℕ) (r : ModuleRecord) (f : ℕ) (y : KnownFunction) → slice_get records m ≡ Some r
      → (option_map function_of
      (func_from p.trampolines (found_source p records ok ways ways_count are_ways m r kind.Func f)) ≡ Some y)
      ↔ KnownAs m f y
  function_exactly m r f y at = (into, function_found m r f y at)
    where
      into : option_map function_of
          (func_from p.trampolines (found_source p records ok ways ways_count are_ways m r kind.Func f)) ≡ Some y
          → KnownAs m f y
      into h = elim (told_given_or_none p records ok ways ways_count are_ways m r kind.Func f at) [
        | inl none ↦
            absurd (none-some y (sym (ap (λ q. option_map function_of (func_from p.trampolines q)) none) ∙ h))
        | inr g ↦ from_source m f y g.0 _ g.1 g.2 h
      ]
