-- What a plan has is what the reading declares and makes, and intrinsics have the signatures that it gives them.
use Rattle.std.proofs.Common.{◌≡◌, ◌<◌, ◌≤◌, ◌+◌, inl, inr, ℕ, zero, suc, Bool, true, false, List, [], ◌∷◌, ◌++◌, length}
use Rattle.std.proofs.Common.{map, Option, None, Some, cond, refl, sym, ap, subst, ◌∙◌, append_assoc, arith, true≢false}
use Rattle.std.specs.Prelude.{count_by, option_and_then, option_map, slice_get}
use Rattle.std.proofs.lemmas.List.{length-append}
use Rattle.std.specs.List.{AllZip, Contains, cons_option, filter_map}
use Rattle.std.proofs.lemmas.List.Sums.{sum_by-append, sum_by-cons}
use Rattle.std.proofs.lemmas.Option.{none-some, same_Some, slice_get_within}
use Rattle.pc_entity.specs.Lists.{AreDistinct}
use Rattle.pc_entity.specs.declared.packed_option.PackedOption.{PackedOption}
use Rattle.pc_entity.specs.declared.packed_option.PackedOption.TheVariants as packed
use Rattle.pc_types_lists.specs.Types.{Types}
use Rattle.pc_numbers.specs.declared.module_entity.ModuleInternedTypeIndex.{ModuleInternedTypeIndex}
use Rattle.pc_numbers.specs.declared.runtime.ResourceIndex.{ResourceIndex}
use Rattle.pc_numbers.specs.declared.runtime.RuntimeComponentInstanceIndex.{RuntimeComponentInstanceIndex}
use Rattle.pc_numbers.specs.declared.runtime.TrampolineIndex.{TrampolineIndex}
use Rattle.pc_types.specs.declared.intrinsic.UnsafeIntrinsic.{UnsafeIntrinsic}
use Rattle.pc_types.specs.declared.module_record.ModuleRecord.{ModuleRecord}
use Rattle.pc_types.specs.declared.parsed.TypeTable.{TypeTable}
use Rattle.pc_types.specs.declared.parsed.CoreFuncSig.{CoreFuncSig}
use Rattle.pc_types.specs.declared.parsed.CoreKind.{CoreKind}
use Rattle.pc_types.specs.IntrinsicType.{intrinsic_place}
use Rattle.pc_types.specs.TypeTree.{Identity}
use Rattle.pc_spec_plan.specs.CoreValue.{CoreValue, map_value}
use Rattle.pc_spec_plan.specs.Machine.{State}
use Rattle.pc_spec_plan.specs.PlanView as plan
use Rattle.pc_spec_plan.specs.PlanView.{TrampolineEntry, builtin, lowers}
use Rattle.pc_spec_plan.specs.Log.{Entry, declared, declared_resource, instantiated, made, map_entry, needed, trace}
use Rattle.pc_trampoline.specs.declared.part.Mark.{Mark}
use Rattle.pc_trampoline.specs.declared.part.Mark.TheVariants as mark
use Rattle.pc_info.specs.declared.component.ComponentTranslation.{ComponentTranslation}
use Rattle.pc_info.specs.declared.module.ModuleTranslation.{ModuleTranslation}
use Rattle.pc_trampoline.specs.View.{PlanTrampoline}
use Rattle.pc_info.specs.View.{intrinsic_view, trampolines_view, view}
use Rattle.pc_parsed.specs.Mark as reading
use Rattle.pc_spec_reading.specs.Reading.{Reading}
use Rattle.pc_spec_reading.specs.World.{AddedIntrinsic}
use Rattle.pc_dfg.specs.declared.core_def.CoreDef.TheVariants as def
use Rattle.pc_dfg.specs.declared.dfg.ComponentDfg.{ComponentDfg}
use Rattle.pc_dfg.specs.declared.instance.Resource.{Resource}
use Rattle.pc_dfg.specs.declared.instance.SideEffect.{SideEffect}
use Rattle.pc_dfg.specs.Grows.{Grows, HasIntrinsic}
use Rattle.pc_dfg.specs.Lists as list
use Rattle.pc_dfg.specs.Means.{Means, MeansTrampoline, means_trampoline}
use Rattle.pc_dfg.specs.Numbers.{SignedTrampoline, trampoline_entry}
use Rattle.pc_dfg.specs.Effects.{MeansEffect, means_declared, means_made}
use Rattle.pc_dfg.specs.Ordered.{declared_by}
use Rattle.pc_dfg.proofs.GrowLemmas.{kept}
use Rattle.pc_dfg.proofs.KeptLemmas.{means_kept}
use Rattle.pc_dfg.proofs.UniqueLemmas.{means_unique}
use Rattle.pc_dfg_finish.specs.Finishes.{Finishes, StandsForOne}
use Rattle.pc_dfg_finish.specs.Headed.{is_headed}
use Rattle.pc_adapt_define.specs.Only.{AddsOwn, IsHelperEntry}
use Rattle.pc_adapt_partition.proofs.ToldLemmas.{inside, place_of}
use Rattle.pc_inline.specs.Inlines.{GraphStands}
use Rattle.pc_inline_canon.proofs.MarkLemmas.{value_twice}
use Rattle.pc_inline_state.proofs.HoldsLemmas.{reads_fit, so}
use Rattle.pc_inline_state.specs.Tables.{IsItem, is_intrinsic}
use Rattle.pc_inline_state.specs.Fits.{Fits}
use Rattle.pc_inline_state.specs.Holds.{Holds, ReadsAs, number_of, whole_of}
use Rattle.pc_inline_state.specs.Worlds.{EffectStands}
use Rattle.pc_translate.proofs.WiredLemmas.{occurring_item}
use Rattle.pc_translate.specs.Asked.{AreSigned, Declares, HasDeclared, HasSignature, resource_owner}
use Rattle.pc_translate.specs.Partitioned.{IsPartitioned}

-- the owner of a resource has no marks
owner_mapped : {τ υ : Type 0} (f : τ → υ) (e : Entry τ) → resource_owner (map_entry f e) ≡ resource_owner e
owner_mapped f (instantiated i c) = refl
owner_mapped f (declared_resource representation destructor c) = refl
owner_mapped f (declared v) = refl
owner_mapped f (made v) = refl
owner_mapped f (needed path) = refl

-- the component instance that a graph has for the resource of this number
abbrev owner_at : List Resource → ℕ → Option ℕ
owner_at rs n = option_map (λ (x : Resource). x.instance.0) (slice_get rs n)

-- that of the resource that a side effect declares, if it declares one
abbrev effect_owner : ComponentDfg → SideEffect → Option ℕ
effect_owner g e = option_and_then (owner_at g.resources) (declared_by e)

-- an entry has the owner of the side effect that does it
owner_meant : (g : ComponentDfg) (e : SideEffect) (x : Entry Mark) → MeansEffect g e x
    → resource_owner x ≡ effect_owner g e
owner_meant g e x (means_made at means) = refl
owner_meant g e x (means_declared {x = y} at means) =
    sym (ap (option_map (λ (x : Resource). x.instance.0)) at)

-- so have all
owners_meant : (types : Types) (g : ComponentDfg) (es : List SideEffect) (xs : List (Entry reading.Mark))
    → AllZip (EffectStands types g) es xs → filter_map resource_owner xs ≡ filter_map (effect_owner g) es
owners_meant types g [] [] h = refl
owners_meant types g [] (x ∷ xs) h = absurd h
owners_meant types g (e ∷ es) [] h = absurd h
owners_meant types g (e ∷ es) (x ∷ xs) h =
    let one : resource_owner x ≡ effect_owner g e = ap resource_owner (sym h.0.is)
    ∙ owner_mapped (whole_of types (Fits g)) h.0.numbered ∙ sym (owner_mapped (number_of types (Fits g)) h.0.numbered)
    ∙ owner_meant g e (map_entry (number_of types (Fits g)) h.0.numbered) h.0.means in
    let rest = owners_meant types g es xs h.1 in
    λ i. cons_option (one i) (rest i)

-- the owners of effects are those of the resources that these declare
owners_declared : (g : ComponentDfg) (es : List SideEffect)
    → filter_map (effect_owner g) es ≡ filter_map (owner_at g.resources) (filter_map declared_by es)
owners_declared g [] = refl
owners_declared g (e ∷ es) = by (declared_by e) (owners_declared g es)
  where
    by : (o : Option ℕ)
        → filter_map (effect_owner g) es ≡ filter_map (owner_at g.resources) (filter_map declared_by es)
        → cons_option (option_and_then (owner_at g.resources) o) (filter_map (effect_owner g) es)
        ≡ filter_map (owner_at g.resources) (cons_option o (filter_map declared_by es))
    by None rest = rest
    by (Some n) rest = ap (cons_option (owner_at g.resources n)) rest

-- what stands behind others
behind_others : {A : Type 0} (pre xs : List A) (x : A) → slice_get (pre ++ x ∷ xs) (length pre) ≡ Some x
behind_others [] xs x = refl
behind_others (y ∷ pre) xs x = behind_others pre xs x

-- resources behind others, each by its number in order, have their owners in order
owners_counted : (pre rs : List Resource) (ns : List ℕ) → length ns ≡ length rs
    → ((i k : ℕ) → slice_get ns i ≡ Some k → k ≡ length pre + i)
    → filter_map (owner_at (pre ++ rs)) ns ≡ map (λ (x : Resource). x.instance.0) rs
owners_counted pre [] [] same each = refl
owners_counted pre [] (n ∷ ns) same each = absurd (omega (arith, same))
owners_counted pre (r ∷ rs) [] same each = absurd (omega (arith, same))
owners_counted pre (r ∷ rs) (n ∷ ns) same each =
    let here : n ≡ length pre = each 0 n refl ∙ (omega arith) in
    let first : owner_at (pre ++ r ∷ rs) n ≡ Some r.instance.0 =
    ap (owner_at (pre ++ r ∷ rs)) here ∙ ap (option_map (λ (x : Resource). x.instance.0)) (behind_others pre rs r) in
    let seam : (pre ++ r ∷ []) ++ rs ≡ pre ++ r ∷ rs = append_assoc pre (r ∷ []) rs in
    let rest : filter_map (owner_at (pre ++ r ∷ rs)) ns ≡ map (λ (x : Resource). x.instance.0) rs =
    subst (λ all. filter_map (owner_at all) ns ≡ map (λ (x : Resource). x.instance.0) rs) seam
    (owners_counted (pre ++ r ∷ []) rs ns (omega (arith, same)) (later n ns each)) in
    λ i. cons_option (first i) (rest i)
  where
    later : (n : ℕ) (ns : List ℕ) → ((i k : ℕ) → slice_get (n ∷ ns) i ≡ Some k → k ≡ length pre + i) → (i k : ℕ)
        → slice_get ns i ≡ Some k → k ≡ length (pre ++ r ∷ []) + i
    later n ns each i k at =
        let here = each (suc i) k at in
        let long = length-append pre (r ∷ []) in
        omega (arith, here, long)

-- what declares a resource is an effect
owners_traced : {τ : Type 0} (log : List (Entry τ))
    → filter_map resource_owner log ≡ filter_map resource_owner (trace log)
owners_traced [] = refl
owners_traced (instantiated i c ∷ log) = owners_traced log
owners_traced (declared_resource representation destructor c ∷ log) = ap (λ cs. c ∷ cs) (owners_traced log)
owners_traced (declared v ∷ log) = owners_traced log
owners_traced (made v ∷ log) = owners_traced log
owners_traced (needed path ∷ log) = owners_traced log

-- the owners of resources, by number
owners_mapped : (rs : List Resource)
    → map (λ (c : RuntimeComponentInstanceIndex). c.0) (map (λ (x : Resource). x.instance) rs)
    ≡ map (λ (x : Resource). x.instance.0) rs
owners_mapped [] = refl
owners_mapped (r ∷ rs) = ap (λ (ns : List ℕ). r.instance.0 ∷ ns) (owners_mapped rs)

-- an item that is an intrinsic has the signature that the graph has for it
pub signed_item : (ms : List ModuleRecord) (g : ComponentDfg) (k : CoreKind) (s : ModuleInternedTypeIndex)
    (i : UnsafeIntrinsic) → IsItem ms g k (def.UnsafeIntrinsic s i) → HasIntrinsic g (intrinsic_place i) s
signed_item ms g k s i (is_intrinsic has) = has

-- a packed option whose mark is there holds a number
packed_holds : (x : PackedOption ModuleInternedTypeIndex) (m : Mark) → intrinsic_view x ≡ Some m
    → (s : ModuleInternedTypeIndex) × (x ≡ packed.Some s)
packed_holds packed.None m h = absurd (none-some m h)
packed_holds (packed.Some s) m h = (s, refl)

-- a signature is held under the mark of its number
held_under : (types : Types) (reads : (ResourceIndex → Identity) → Type 0) (s : ModuleInternedTypeIndex)
    (signature : CoreFuncSig) (m : Mark) → slice_get types.signatures s.0 ≡ Some signature → mark.Signature s ≡ m
    → Holds types reads m (reading.of_signature signature)
unfolding Holds
held_under types reads s signature m holds is =
    subst (λ n. Holds types reads n (reading.of_signature signature)) is holds

-- what stands in a mapped list
behind_mapped : {A B : Type 0} (f : A → B) (xs : List A) (n : ℕ) (y : B) → slice_get (map f xs) n ≡ Some y
    → (x : A) × (slice_get xs n ≡ Some x) × (f x ≡ y)
behind_mapped f [] n y at = absurd (none-some y at)
behind_mapped f (x ∷ xs) zero y at = (x, refl, same_Some (f x) y at)
behind_mapped f (x ∷ xs) (suc n) y at = behind_mapped f xs n y at

-- a trampoline that stands at another place too has its value there
moved : (h : ComponentDfg) (k j : TrampolineIndex) (x : SignedTrampoline) (v : CoreValue Mark)
    → slice_get h.trampolines k.0 ≡ Some x → slice_get h.trampolines j.0 ≡ Some x → Means h (def.Trampoline k) v
    → Means h (def.Trampoline j) v
moved h k j x v there here (means_trampoline at means) =
    means_trampoline here
    (subst (λ (y : SignedTrampoline). MeansTrampoline h (trampoline_entry y) v) (same_Some _ x (sym at ∙ there)) means)

-- a helper is none of the component itself
helper_headless : (e : TrampolineEntry Mark) → IsHelperEntry e → is_headed e ≡ false
helper_headless (lowers index s ty o) helper = absurd helper
helper_headless (builtin k symbol c ps) helper = absurd helper
helper_headless (plan.helper k symbol ps) helper = refl

-- what stands behind others stands behind them at its own place
at_behind : {A : Type 0} (xs ys : List A) (k : ℕ) (y : A) → slice_get ys k ≡ Some y
    → slice_get (xs ++ ys) (length xs + k) ≡ Some y
at_behind [] ys k y at = let none : 0 + k ≡ k = omega arith in ap (slice_get ys) none ∙ at
at_behind (x ∷ xs) ys k y at =
    let next : length (x ∷ xs) + k ≡ suc (length xs + k) = omega arith in
    ap (slice_get (x ∷ xs ++ ys)) next ∙ at_behind xs ys k y at

-- no more of a list pass a test than it has
passed_few : {A : Type 0} (p : A → Bool) (xs : List A) → count_by p xs ≤ length xs
passed_few p [] = omega arith
passed_few {A} p (x ∷ xs) = by (p x) refl (passed_few p xs)
  where
    by : (b : Bool) → p x ≡ b → count_by p xs ≤ length xs → count_by p (x ∷ xs) ≤ length (x ∷ xs)
    by true is rest =
        let one = sum_by-cons (λ (y : A). cond (p y) 1 0) x xs ∙ (λ i. cond (is i) 1 0 + count_by p xs) in
        omega (arith, one, rest)
    by false is rest =
        let one = sum_by-cons (λ (y : A). cond (p y) 1 0) x xs ∙ (λ i. cond (is i) 1 0 + count_by p xs) in
        omega (arith, one, rest)

-- none is counted where none passes
none_pass : {A : Type 0} (p : A → Bool) (xs : List A) → ((k : ℕ) (x : A) → slice_get xs k ≡ Some x → p x ≡ false)
    → count_by p xs ≡ 0
none_pass p [] none = refl
none_pass {A} p (x ∷ xs) none =
    let rest = none_pass p xs (λ k y at. none (suc k) y at) in
    let first = none zero x refl in
    sum_by-cons (λ (y : A). cond (p y) 1 0) x xs ∙ (λ i. cond (first i) 1 0 + rest i)

-- a trampoline that is seen is one of the plan
viewed_within : (n : ℕ) (ss : List ModuleInternedTypeIndex) (ts : List PlanTrampoline) (k : ℕ) (x : TrampolineEntry Mark)
    → slice_get (trampolines_view n ss ts) k ≡ Some x → k < length ts
viewed_within n ss [] k x at = absurd (none-some x at)
viewed_within n ss (t ∷ ts) zero x at = omega arith
viewed_within n ss (t ∷ ts) (suc k) x at = let rest = viewed_within (n + 1) ss ts k x at in omega (arith, rest)

-- whether a trampoline of a graph is one of the component itself
abbrev is_own : SignedTrampoline → Bool
is_own x = is_headed (trampoline_entry x)

module _ (g h : ComponentDfg) (grows : Grows g h) (own : AddsOwn g h) where
  -- such a trampoline was there before
  own_before : (n : ℕ) (x : SignedTrampoline) → slice_get h.trampolines n ≡ Some x → is_own x ≡ true
      → (j : ℕ) × (slice_get g.trampolines j ≡ Some x)
  own_before n x at is =
      elim (own.trampolines x (inside h.trampolines n x at))
      as (λ _. (j : ℕ) × (slice_get g.trampolines j ≡ Some x)) [
        | inl before ↦ place_of g.trampolines x before
        | inr helper ↦ absurd (true≢false (sym is ∙ helper_headless (trampoline_entry x) helper))
      ]

  -- a trampoline that the graph has got is none
  new_helper : AreDistinct h.trampolines → (n : ℕ) (x : SignedTrampoline) → length g.trampolines ≤ n
      → slice_get h.trampolines n ≡ Some x → is_own x ≡ false
  new_helper distinct n x behind at = by (is_own x) refl
    where
      by : (b : Bool) → is_own x ≡ b → is_own x ≡ false
      by false is = is
      by true is =
          let before = own_before n x at is in
          let same = distinct n before.0 x at (kept g h grows list.trampolines before.0 x before.1) in
          absurd (omega (arith, behind, same, slice_get_within g.trampolines before.0 x before.1))

  -- so there are no more than before
  few_own : AreDistinct h.trampolines → count_by is_own h.trampolines ≤ length g.trampolines
  few_own distinct =
      let all = grows.lists list.trampolines in
      let both : count_by is_own (g.trampolines ++ all.more) ≡ count_by is_own g.trampolines + count_by is_own all.more =
      sum_by-append (λ (y : SignedTrampoline). cond (is_own y) 1 0) g.trampolines all.more in
      let none : count_by is_own all.more ≡ 0 =
      none_pass is_own all.more (λ k x at.
      new_helper distinct (length g.trampolines + k) x (omega arith)
      (ap (λ (ts : List SignedTrampoline). slice_get ts (length g.trampolines + k)) all.is
      ∙ at_behind g.trampolines all.more k x at)) in
      let same = ap (count_by is_own) all.is in
      omega (arith, passed_few is_own g.trampolines, both, none, same)

module _ (t : TypeTable) (types : Types) (ms : List ModuleRecord) (g h : ComponentDfg) (r : Reading)
    (converted : ℕ → Mark) (plan : ComponentTranslation) (modules : List ModuleTranslation)
    (stands : GraphStands t ms types g r) (partitioned : IsPartitioned ms r types g h modules)
    (finished : Finishes h converted plan) where
  -- what stands for one of the graph, and is no helper, has the value of an entry that declares it, and its signature
  declared_as : (s : State Mark) (n : ℕ) (one : StandsForOne h plan modules s n) (j : ℕ)
      → slice_get g.trampolines j ≡ Some one.entry → HasDeclared types plan modules s r n
  declared_as s n one j at =
      let x = stands.world.are_declared j one.entry at in
      let grows = partitioned.keeps.grows in
      let reads = ReadsAs r.imported_resources in
      let as_read = so types (Fits g) reads (reads_fit g r.imported_resources stands.world.imported_resources) in
      let whole = value_twice as_read (whole_of types reads) x.stands.numbered ∙ x.stands.is in
      let here : TrampolineIndex = record { 0 = j } in
      let same = moved h one.trampoline here one.entry one.value one.at
      (kept g h grows list.trampolines j one.entry at) one.means in
      record {
        value = map_value as_read x.stands.numbered;
        resolves = one.resolves ∙ ap Some (means_unique h same (means_kept g h grows x.stands.means)
            ∙ sym (value_twice as_read (number_of types reads) x.stands.numbered));
        entry = subst (λ v. Contains r.log (declared v)) (sym whole) x.entry;
        signature = one.entry.0;
        stands_under = one.signature;
        signed = subst (HasSignature types one.entry.0) (sym whole) x.signed;
      }

  pub declared_one : (s : State Mark) (n : ℕ) (x : TrampolineEntry Mark)
      → slice_get (view plan modules).trampolines n ≡ Some x → is_headed x ≡ true → StandsForOne h plan modules s n
      → HasDeclared types plan modules s r n
  declared_one s n x at headed one =
      let before = own_before g h partitioned.keeps.grows partitioned.keeps.own one.trampoline.0 one.entry one.at
      (sym (one.headed x at) ∙ headed) in
      declared_as s n one before.0 before.1

  pub declares : (last : State Mark)
      → ((n : ℕ) → n < length plan.trampolines → StandsForOne h plan modules last n)
      → Declares types plan modules last r
  declares last each = record {
    few =
        let less = finished.few_headed in
        let own = few_own g h partitioned.keeps.grows partitioned.keeps.own partitioned.interned.trampolines in
        let few = stands.world.few_trampolines in
        omega (arith, less, own, few);
    trampolines = λ n x at headed. declared_one last n x at headed (each n (behind_view n x at));
    as_many = finished.signatures;
    resources = ap (map (λ (c : RuntimeComponentInstanceIndex). c.0)) finished.resources
        ∙ ap (λ (x : ComponentDfg). map (λ (c : RuntimeComponentInstanceIndex). c.0)
        (map (λ (y : Resource). y.instance) x.resources)) partitioned.keeps.rest
        ∙ owners_mapped g.resources
        ∙ sym (owners_traced r.log ∙ owners_meant types g g.side_effects (trace r.log) stands.world.effects
        ∙ owners_declared g g.side_effects
        ∙ owners_counted [] g.resources (filter_map declared_by g.side_effects) stands.ordered.resources.all
        (λ i k at. stands.ordered.resources.each i k at ∙ (omega arith)));
  }
    where
      -- each trampoline that is seen is one of the plan
      behind_view : (n : ℕ) (x : TrampolineEntry Mark) → slice_get (view plan modules).trampolines n ≡ Some x
          → n < length plan.trampolines
      behind_view n x at = viewed_within 0 plan.component.trampolines plan.trampolines n x at

  -- an intrinsic that the graph has under a signature was added with it
  added_signed : (n : ℕ) (m : Mark) (s : ModuleInternedTypeIndex) (place : ℕ) → place ≡ n → mark.Signature s ≡ m
      → HasIntrinsic g place s
      → (i : AddedIntrinsic) × Contains r.intrinsics i × (i.place ≡ n)
      × Holds types (ReadsAs r.imported_resources) m (reading.of_signature i.signature)
  added_signed n m s place here is has =
      let added = stands.world.intrinsics.only place s has in (
        added.0,
        added.1,
        added.2 ∙ here,
        held_under types (ReadsAs r.imported_resources) s added.0.signature m added.3.holds is,
      )

  pub signs : AreSigned types (view plan modules) r
  signs n m at =
      let x = behind_mapped intrinsic_view plan.component.unsafe_intrinsics n (Some m) at in
      let s = packed_holds x.0 m x.2 in
      let o = finished.intrinsics n s.0 (x.1 ∙ ap Some s.1) in
      let item = occurring_item g stands.plain ms stands.items
      (partitioned.occurs (def.UnsafeIntrinsic s.0 o.0) refl o.2) in
      added_signed n m s.0 (intrinsic_place o.0) o.1
      (same_Some (mark.Signature s.0) m (ap intrinsic_view (sym s.1) ∙ x.2))
      (signed_item ms g item.0 s.0 o.0 item.1)
