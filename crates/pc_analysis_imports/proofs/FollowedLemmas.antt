-- What an argument is found to be is what it refers to.
use Rattle.std.proofs.Common.{◌≡◌, ◌<◌, ◌≤◌, ◌+◌, ◌-◌, ℕ, Bool, true, false, List, [], ◌∷◌, inl, inr}
use Rattle.std.proofs.Common.{length, Some, None, Option, refl, sym, ap, subst, ◌∙◌, arith, true≢false}
use Rattle.std.specs.Prelude.{◌↔◌, slice_get, count_by, map, nat_lt, if◌then◌else◌, option_map}
use Rattle.std.proofs.Common.{ap₂, cond}
use Rattle.std.proofs.lemmas.Bool.{cases_lt, le-ltb, lt-ltb, ltb-true}
use Rattle.std.proofs.lemmas.List.Sums.{sum_by-cons}
use Rattle.std.proofs.lemmas.Option.{none-some, same_Some, slice_get-map, slice_get_within}
use Rattle.pc_entity.proofs.LookupLemmas.{found_at}
use Rattle.pc_numbers.specs.declared.component_entity.StaticModuleIndex.{StaticModuleIndex}
use Rattle.pc_numbers.specs.declared.entity_index.EntityIndex.{EntityIndex}
use Rattle.pc_types.specs.declared.module_record.ModuleRecord.{ModuleRecord}
use Rattle.pc_types.specs.declared.parsed.CoreEntity.{CoreEntity}
use Rattle.pc_types.specs.declared.parsed.CoreKind.{CoreKind}
use Rattle.pc_types.specs.Record.{defined, entity_at, has_entity, import_place, imported, imports_kind, index_kind}
use Rattle.pc_types.specs.Record.{index_number, places_from}
use Rattle.pc_types.specs.IntrinsicType.{intrinsic_place}
use Rattle.pc_spec_plan.specs.CoreValue.{ExportedItem, by_index, by_name}
use Rattle.pc_spec_plan.specs.PlanView as plan
use Rattle.pc_info.specs.declared.core_def.CoreDef.{CoreDef}
use Rattle.pc_info.specs.declared.core_def.CoreDef.TheVariants as def
use Rattle.pc_info.specs.declared.core_def.ExportItem.{ExportItem}
use Rattle.pc_info.specs.declared.core_def.ExportItem.TheVariants as item
use Rattle.pc_info.specs.Definitions.{def_view, item_view}
use Rattle.pc_spec_wiring.specs.Known.{Known, Refers, a_defined, defined_entity, refers_to_defined, refers_to_flags}
use Rattle.pc_spec_wiring.specs.Known.{the_flags}
use Rattle.pc_spec_wiring.specs.Origin.{ComesFrom, Core, Given, PlanEnd, cores_in, defined_in, from_item}
use Rattle.pc_spec_wiring.specs.Origin.{IsFrom, given_by, imported_there, its_own, of_host, of_record}
use Rattle.pc_analysis_imports.specs.declared.source.Instance.{Instance}
use Rattle.pc_analysis_imports.specs.declared.source.Instance.TheVariants as instance
use Rattle.pc_analysis_imports.specs.declared.source.Source.{Source}
use Rattle.pc_analysis_imports.specs.declared.source.Source.TheVariants as source
use Rattle.pc_analysis_imports.specs.Followed.{defined_source, held_source, item_source}
use Rattle.pc_analysis_imports.specs.Followed.{placed_source, seen_through, source_of}
use Rattle.pc_analysis_imports.proofs.OriginLemmas.{end_is_ended, entity_back, host_none, item_comes}
use Rattle.pc_analysis_imports.proofs.OriginLemmas.{kind_at, name_none, number_at, origin_entity, origin_module}
use Rattle.pc_analysis_imports.proofs.OriginLemmas.{own_only, refers_as, there_only}

-- what a source is known by
abbrev pub known_in : Source → Option Known
known_in (source.Defined m k n) = Some (a_defined m.0 k n)
known_in (source.Flags c) = Some (the_flags c.0)
known_in s = None

-- the trampoline that a source is
abbrev pub trampoline_in : Source → Option ℕ
trampoline_in (source.Trampoline t) = Some t.0
trampoline_in s = None

-- the intrinsic that it is
abbrev pub intrinsic_in : Source → Option ℕ
intrinsic_in (source.Intrinsic i) = Some (intrinsic_place i)
intrinsic_in s = None

-- as many imports of a kind have a place as there are
pub places_count : (k : CoreKind) (first : ℕ) (is : List (List ℕ × List ℕ × CoreEntity))
    → length (places_from k first is) ≡ count_by (imports_kind k) is
places_count k first [] = refl
places_count k first (i ∷ is) =
    by (imports_kind k i) (places_from k (first + 1) is)
    ∙ ap (λ n. cond (imports_kind k i) 1 0 + n) (places_count k (first + 1) is)
    ∙ sym (sum_by-cons (λ j. cond (imports_kind k j) 1 0) i is)
  where
    by : (b : Bool) (places : List ℕ) → length (if b then first ∷ places else places) ≡ cond b 1 0 + length places
    by true places = omega arith
    by false places = omega arith

-- an entity that isn't imported has a number behind those that are
pub not_imported : (r : ModuleRecord) (e : EntityIndex) → import_place r e ≡ None
    → imported r (index_kind e) ≤ index_number e
not_imported r e none = elim (cases_lt (index_number e) (imported r (index_kind e))) [
  | inl less ↦
      let within : index_number e < length (places_from (index_kind e) 0 r.imports) =
      omega (arith, less, places_count (index_kind e) 0 r.imports) in
      let found = found_at (places_from (index_kind e) 0 r.imports) (index_number e) within in
      absurd (none-some found.0 (sym none ∙ found.1))
  | inr many ↦ many
]

-- the discriminants of a definition
abbrev is_item : plan.Definition → Bool
is_item (plan.export r i) = true
is_item d = false

abbrev is_flags : plan.Definition → Bool
is_flags (plan.flags c) = true
is_flags d = false

abbrev is_trampoline : plan.Definition → Bool
is_trampoline (plan.trampoline t) = true
is_trampoline d = false

abbrev number_in : plan.Definition → Option ℕ
number_in (plan.export r i) = None
number_in (plan.flags c) = Some c
number_in (plan.trampoline t) = Some t
number_in (plan.intrinsic i) = Some i

abbrev is_defined : Known → Bool
is_defined (a_defined m k n) = true
is_defined (the_flags c) = false

-- seen through an import only an entity that a module defines stays
through_known : (s : Source) (x : Known) → known_in (seen_through (Some s)) ≡ Some x
    → (known_in s ≡ Some x) × (is_defined x ≡ true)
through_known (source.Defined m k n) x h = (h, sym (ap is_defined (same_Some (a_defined m.0 k n) x h)))
through_known (source.Flags c) x h = absurd (none-some x h)
through_known (source.Trampoline t) x h = absurd (none-some x h)
through_known (source.Intrinsic i) x h = absurd (none-some x h)
through_known source.Unknown x h = absurd (none-some x h)

known_through : (s : Source) (m : ℕ) (k : CoreKind) (n : ℕ) → known_in s ≡ Some (a_defined m k n)
    → known_in (seen_through (Some s)) ≡ Some (a_defined m k n)
known_through (source.Defined i j q) m k n h = h
known_through (source.Flags c) m k n h =
    absurd (true≢false (sym (ap is_defined (same_Some (the_flags c.0) (a_defined m k n) h))))
known_through (source.Trampoline t) m k n h = absurd (none-some (a_defined m k n) h)
known_through (source.Intrinsic i) m k n h = absurd (none-some (a_defined m k n) h)
known_through source.Unknown m k n h = absurd (none-some (a_defined m k n) h)

-- a source is neither a trampoline nor an intrinsic
abbrev IsPlain : Source → Type 0
IsPlain s = (trampoline_in s ≡ None) × (intrinsic_in s ≡ None)

through_plain : (o : Option Source) → IsPlain (seen_through o)
through_plain None = (refl, refl)
through_plain (Some (source.Defined m k n)) = (refl, refl)
through_plain (Some (source.Flags c)) = (refl, refl)
through_plain (Some (source.Trampoline t)) = (refl, refl)
through_plain (Some (source.Intrinsic i)) = (refl, refl)
through_plain (Some source.Unknown) = (refl, refl)

defined_plain : (i : StaticModuleIndex) (r : ModuleRecord) (e : EntityIndex) → IsPlain (defined_source i r e)
defined_plain i r e =
    by (nat_lt (index_number e) (imported r (index_kind e)))
    (nat_lt (index_number e - imported r (index_kind e)) (defined r (index_kind e)))
  where
    by : (a b : Bool) → IsPlain (if a then source.Unknown
        else (if b then source.Defined i (index_kind e) (index_number e - imported r (index_kind e))
        else source.Unknown))
    by true b = (refl, refl)
    by false true = (refl, refl)
    by false false = (refl, refl)

module _ (records : List ModuleRecord) (steps : List plan.Initializer) (is_exported : ℕ → Bool) where
  -- a source tells what a definition refers to, and which trampoline or intrinsic it is
  pub record Tells (d : plan.Definition) (s : Source) : Type 0 where
    pub refers : (x : Known) → (known_in s ≡ Some x) ↔ Refers records steps is_exported d x
    pub trampolines : (t : ℕ) → (trampoline_in s ≡ Some t) ↔ (d ≡ plan.trampoline t)
    pub intrinsics : (i : ℕ) → (intrinsic_in s ≡ Some i) ↔ (d ≡ plan.intrinsic i)

  abbrev cores : List (Core PlanEnd)
  cores = cores_in records steps

  abbrev Ref : plan.Definition → Known → Type 0
  Ref = Refers records steps is_exported

  -- an end that is no flags refers to nothing
  end_refers : (d : plan.Definition) (x : Known) → is_item d ≡ false → Ref d x
      → (c : ℕ) × (d ≡ plan.flags c) × (x ≡ the_flags c)
  end_refers (plan.export r i) x ends h = absurd (true≢false ends)
  end_refers (plan.flags c) (a_defined m k n) ends h =
      let f = refers_as records steps is_exported h in
      absurd (true≢false (sym (end_is_ended (cores_in records steps) _ _ f.3)))
  end_refers (plan.flags c) (the_flags q) ends h = (q, refers_as records steps is_exported h, refl)
  end_refers (plan.trampoline t) (a_defined m k n) ends h =
      let f = refers_as records steps is_exported h in
      absurd (true≢false (sym (end_is_ended (cores_in records steps) _ _ f.3)))
  end_refers (plan.trampoline t) (the_flags q) ends h = (q, refers_as records steps is_exported h, refl)
  end_refers (plan.intrinsic t) (a_defined m k n) ends h =
      let f = refers_as records steps is_exported h in
      absurd (true≢false (sym (end_is_ended (cores_in records steps) _ _ f.3)))
  end_refers (plan.intrinsic t) (the_flags q) ends h = (q, refers_as records steps is_exported h, refl)

  -- what refers to a definition of a module comes from there
  defined_refers : (d : plan.Definition) (x : Known) → Ref d x → is_defined x ≡ true
      → (m : ℕ) × (k : CoreKind) × (j : ℕ) × (r : ModuleRecord) × (inst : ℕ) × (x ≡ a_defined m k j)
      × (slice_get records m ≡ Some r) × IsFrom cores (given_by d) (defined_in inst m (defined_entity r k j))
  defined_refers d (a_defined m k j) h is =
      let f = refers_as records steps is_exported h in
      (m, k, j, f.0, f.1, refl, f.2, f.3)
  defined_refers d (the_flags c) h is = absurd (true≢false (sym is))

  -- an item refers to something that a module defines
  item_refers : (n : ℕ) (e : EntityIndex) (x : Known) → Ref (plan.export n (by_index e)) x
      → (m : ℕ) × (k : CoreKind) × (j : ℕ) × (r : ModuleRecord) × (inst : ℕ) × (x ≡ a_defined m k j)
      × (slice_get records m ≡ Some r) × ComesFrom cores n e (defined_in inst m (defined_entity r k j))
  item_refers n e (a_defined m k j) h =
      let f = refers_as records steps is_exported h in
      (m, k, j, f.0, f.1, refl, f.2, item_comes cores n e _ f.3)
  item_refers n e (the_flags c) h = absurd (true≢false (ap is_item (refers_as records steps is_exported h)))

  -- the source of an entity that the module of its instance doesn't import
  own_tells : (n : ℕ) (i : StaticModuleIndex) (r : ModuleRecord) (given : List (Given PlanEnd)) (e : EntityIndex)
      → slice_get cores n ≡ Some (of_record i.0 r given) → slice_get records i.0 ≡ Some r → import_place r e ≡ None
      → (x : Known) → (known_in (defined_source i r e) ≡ Some x) ↔ Ref (plan.export n (by_index e)) x
  own_tells n i r given e at held none x = (
    λ h. into (nat_lt (index_number e - imported r (index_kind e)) (defined r (index_kind e))) refl (sym pick ∙ h),
    λ h. pick ∙ back h,
  )
    where
      behind : imported r (index_kind e) ≤ index_number e
      behind = not_imported r e none

      pick : known_in (defined_source i r e)
          ≡ known_in (if nat_lt (index_number e - imported r (index_kind e)) (defined r (index_kind e))
          then source.Defined i (index_kind e) (index_number e - imported r (index_kind e)) else source.Unknown)
      pick =
          ap (λ b. known_in (if b then source.Unknown
          else (if nat_lt (index_number e - imported r (index_kind e)) (defined r (index_kind e))
          then source.Defined i (index_kind e) (index_number e - imported r (index_kind e)) else source.Unknown)))
          (le-ltb (index_number e) (imported r (index_kind e)) behind)

      into : (b : Bool) → nat_lt (index_number e - imported r (index_kind e)) (defined r (index_kind e)) ≡ b
          → known_in (if b then source.Defined i (index_kind e) (index_number e - imported r (index_kind e))
          else source.Unknown) ≡ Some x → Ref (plan.export n (by_index e)) x
      into true is h =
          let number : imported r (index_kind e) + (index_number e - imported r (index_kind e)) ≡ index_number e =
          omega (arith, behind) in
          let less = ltb-true (index_number e - imported r (index_kind e)) (defined r (index_kind e)) is in
          let has : has_entity r e ≡ true =
          lt-ltb (index_number e) (imported r (index_kind e) + defined r (index_kind e)) (omega (arith, behind, less)) in
          let there : e ≡ defined_entity r (index_kind e) (index_number e - imported r (index_kind e)) =
          sym (ap (entity_at (index_kind e)) number ∙ entity_back e) in
          subst (Ref (plan.export n (by_index e)))
          (same_Some (a_defined i.0 (index_kind e) (index_number e - imported r (index_kind e))) x h)
          (refers_to_defined {instance = n} {r = r} held
          (from_item (subst (λ y. ComesFrom cores n e (defined_in n i.0 y)) there (its_own at none has))))
      into false is h = absurd (none-some x h)

      back : Ref (plan.export n (by_index e)) x
          → known_in (if nat_lt (index_number e - imported r (index_kind e)) (defined r (index_kind e))
          then source.Defined i (index_kind e) (index_number e - imported r (index_kind e)) else source.Unknown)
          ≡ Some x
      back h =
          let f = item_refers n e x h in
          let m = f.0 in
          let k = f.1 in
          let j = f.2 in
          let q = f.3 in
          let own = own_only cores n i.0 r given e _ at none f.7 in
          let modules : m ≡ i.0 = ap origin_module own.0 in
          let entities : defined_entity q k j ≡ e = same_Some (defined_entity q k j) e (ap origin_entity own.0) in
          let records_one : q ≡ r = same_Some q r (sym f.6 ∙ ap (slice_get records) modules ∙ held) in
          let kinds : k ≡ index_kind e = sym (kind_at k (imported q k + j)) ∙ ap index_kind entities in
          let numbers : index_number e ≡ imported q k + j =
          sym (ap index_number entities) ∙ number_at k (imported q k + j) in
          let counts : imported q k ≡ imported r (index_kind e) = ap₂ imported records_one kinds in
          let place : index_number e - imported r (index_kind e) ≡ j = omega (arith, numbers, counts) in
          let inside = ltb-true (index_number e) (imported r (index_kind e) + defined r (index_kind e)) own.1 in
          let less : nat_lt (index_number e - imported r (index_kind e)) (defined r (index_kind e)) ≡ true =
          lt-ltb (index_number e - imported r (index_kind e)) (defined r (index_kind e)) (omega (arith, behind, inside)) in
          ap (λ b. known_in (if b
          then source.Defined i (index_kind e) (index_number e - imported r (index_kind e)) else source.Unknown)) less
          ∙ (λ z. Some (a_defined (sym modules z) (sym kinds z) (place z)))
          ∙ ap Some (sym f.5)

  -- the source of one that it imports
  there_tells : (n p : ℕ) (i : StaticModuleIndex) (r : ModuleRecord) (args : List plan.Definition)
      (sources : List Source) (e : EntityIndex) → slice_get cores n ≡ Some (of_record i.0 r (map given_by args))
      → import_place r e ≡ Some p → length sources ≡ length args
      → ((q : ℕ) (d : plan.Definition) (s : Source) → slice_get args q ≡ Some d → slice_get sources q ≡ Some s
      → Tells d s)
      → (x : Known) → (known_in (seen_through (slice_get sources p)) ≡ Some x) ↔ Ref (plan.export n (by_index e)) x
  there_tells n p i r args sources e at there count tells x =
      by (slice_get args p) refl (slice_get sources p) refl
    where
      given_at : slice_get (map given_by args) p ≡ option_map given_by (slice_get args p)
      given_at = slice_get-map given_by args p

      by : (a : Option plan.Definition) → slice_get args p ≡ a → (b : Option Source) → slice_get sources p ≡ b
          → (known_in (seen_through b) ≡ Some x) ↔ Ref (plan.export n (by_index e)) x
      by None none b is = (
        λ h. absurd (no_source b is h),
        λ h.
            let f = item_refers n e x h in
            let from = there_only cores n i.0 p r (map given_by args) e _ at there f.7 in
            absurd (none-some from.0 (sym (given_at ∙ ap (option_map given_by) none) ∙ from.1)),
      )
        where
          no_source : (b : Option Source) → slice_get sources p ≡ b → known_in (seen_through b) ≡ Some x → ⊥
          no_source None is h = none-some x h
          no_source (Some s) is h =
              let within = slice_get_within sources p s is in
              let found = found_at args p (omega (arith, within, count)) in
              none-some found.0 (sym none ∙ found.1)
      by (Some d) here None is =
          let within = slice_get_within args p d here in
          let found = found_at sources p (omega (arith, within, count)) in
          absurd (none-some found.0 (sym is ∙ found.1))
      by (Some d) here (Some s) is = (
        λ h.
            let direct = through_known s x h in
            let f = defined_refers d x (((tells p d s here is).refers x).0 direct.0) direct.1 in
            subst (Ref (plan.export n (by_index e))) (sym f.5)
            (refers_to_defined {instance = f.4} {r = f.3} f.6
            (from_item (imported_there at there (given_at ∙ ap (option_map given_by) here) f.7))),
        λ h.
            let f = item_refers n e x h in
            let from = there_only cores n i.0 p r (map given_by args) e _ at there f.7 in
            let same : from.0 ≡ given_by d =
            same_Some from.0 (given_by d) (sym from.1 ∙ given_at ∙ ap (option_map given_by) here) in
            let direct : Ref d (a_defined f.0 f.1 f.2) =
            refers_to_defined {instance = f.4} {r = f.3} f.6
            (subst (λ g. IsFrom cores g (defined_in f.4 f.0 (defined_entity f.3 f.1 f.2))) same from.2) in
            known_through s f.0 f.1 f.2 (((tells p d s here is).refers (a_defined f.0 f.1 f.2)).1 direct)
            ∙ ap Some (sym f.5),
      )

  -- a core instance of a module with the sources of what it is given, or one of the host
  pub data Matches : Core PlanEnd → Instance → Type 0 where
    is_static : {i : StaticModuleIndex} {r : ModuleRecord} (args : List plan.Definition) {sources : List Source}
        → slice_get records i.0 ≡ Some r → length sources ≡ length args
        → ((p : ℕ) (d : plan.Definition) (s : Source) → slice_get args p ≡ Some d → slice_get sources p ≡ Some s
        → Tells d s) → Matches (of_record i.0 r (map given_by args)) (instance.Static i sources)
    is_host : Matches of_host instance.Host

  -- a plain source tells what an item refers to
  item_told : (n : ℕ) (i : ExportedItem) (s : Source) → IsPlain s
      → ((x : Known) → (known_in s ≡ Some x) ↔ Ref (plan.export n i) x) → Tells (plan.export n i) s
  item_told n i s plain refers = record {
    refers = refers;
    trampolines = λ t.
        (λ h. absurd (none-some t (sym plain.0 ∙ h)), λ h. absurd (true≢false (ap is_item h)));
    intrinsics = λ t.
        (λ h. absurd (none-some t (sym plain.1 ∙ h)), λ h. absurd (true≢false (ap is_item h)));
  }

  -- nothing is known where nothing is referred to
  nothing_told : (n : ℕ) (i : ExportedItem) → ((x : Known) → Ref (plan.export n i) x → ⊥)
      → Tells (plan.export n i) source.Unknown
  nothing_told n i none =
      item_told n i source.Unknown (refl, refl) (λ x. (λ h. absurd (none-some x h), λ h. absurd (none x h)))

  name_refers : (n : ℕ) (name : List ℕ) (x : Known) → Ref (plan.export n (by_name name)) x → ⊥
  name_refers n name (a_defined m k j) h =
      let f = refers_as records steps is_exported h in
      name_none cores n name _ f.3
  name_refers n name (the_flags c) h = true≢false (ap is_item (refers_as records steps is_exported h))

  -- an item of an instance
  item_tells : (n : ℕ) (core : Core PlanEnd) (x : Instance) → slice_get cores n ≡ Some core → Matches core x
      → (j : ExportItem EntityIndex) → Tells (plan.export n (item_view j)) (item_source records (Some x) j)
  item_tells n core x at is_host (item.Name name) = nothing_told n (by_name name) (name_refers n name)
  item_tells n core x at is_host (item.Index e) =
      nothing_told n (by_index e)
      (λ y h. host_none cores n e _ at (item_refers n e y h).7)
  item_tells n core x at (is_static args held count tells) (item.Name name) =
      nothing_told n (by_name name) (name_refers n name)
  item_tells n core x at (is_static {i} {r} args {sources} held count tells) (item.Index e) =
      subst (λ o. Tells (plan.export n (by_index e)) (held_source i o sources e)) (sym held)
      (by (import_place r e) refl)
    where
      by : (o : Option ℕ) → import_place r e ≡ o
          → Tells (plan.export n (by_index e)) (placed_source i r sources e o)
      by None none =
          item_told n (by_index e) (defined_source i r e) (defined_plain i r e)
          (own_tells n i r (map given_by args) e at held none)
      by (Some p) there =
          item_told n (by_index e) (seen_through (slice_get sources p)) (through_plain (slice_get sources p))
          (there_tells n p i r args sources e at there count tells)

  -- so many instances match the first core instances of the plan
  pub record AreFollowed (n : ℕ) (instances : List Instance) : Type 0 where
    pub count : length instances ≡ n
    pub match_ : (k : ℕ) (x : Instance) → slice_get instances k ≡ Some x
        → (core : Core PlanEnd) × (slice_get cores k ≡ Some core) × Matches core x

  -- a definition that names one of these instances at most
  pub def_tells : (n : ℕ) (instances : List Instance) → AreFollowed n instances → (d : CoreDef)
      → ((r : ℕ) (i : ExportedItem) → def_view d ≡ plan.export r i → r < n)
      → Tells (def_view d) (source_of records instances d)
  unfolding source_of
  def_tells n instances followed (def.Export e) before =
      let within : e.instance.0 < length instances =
      omega (arith, before e.instance.0 (item_view e.item) refl, followed.count) in
      let found = found_at instances e.instance.0 within in
      let is = followed.match_ e.instance.0 found.0 found.1 in
      subst (λ o. Tells (plan.export e.instance.0 (item_view e.item)) (item_source records o e.item)) (sym found.1)
      (item_tells e.instance.0 is.0 found.0 is.1 is.2 e.item)
  def_tells n instances followed (def.InstanceFlags c) before = record {
    refers = λ x. (
      λ h. subst (Ref (plan.flags c.0)) (same_Some (the_flags c.0) x h) refers_to_flags,
      λ h.
          let f = end_refers (plan.flags c.0) x refl h in
          ap (λ q. Some (the_flags q)) (same_Some c.0 f.0 (ap number_in f.1)) ∙ ap Some (sym f.2),
    );
    trampolines = λ t. (λ h. absurd (none-some t h), λ h. absurd (true≢false (ap is_flags h)));
    intrinsics = λ t. (λ h. absurd (none-some t h), λ h. absurd (true≢false (ap is_flags h)));
  }
  def_tells n instances followed (def.Trampoline t) before = record {
    refers = λ x. (
      λ h. absurd (none-some x h),
      λ h. absurd (true≢false (sym (ap is_flags (end_refers (plan.trampoline t.0) x refl h).1))),
    );
    trampolines = λ q. (
      λ h. ap plan.trampoline (same_Some t.0 q h),
      λ h. ap number_in h,
    );
    intrinsics = λ q. (λ h. absurd (none-some q h), λ h. absurd (true≢false (ap is_trampoline h)));
  }
  def_tells n instances followed (def.UnsafeIntrinsic i) before = record {
    refers = λ x. (
      λ h. absurd (none-some x h),
      λ h. absurd (true≢false (sym (ap is_flags (end_refers (plan.intrinsic (intrinsic_place i)) x refl h).1))),
    );
    trampolines = λ q. (λ h. absurd (none-some q h), λ h. absurd (true≢false (sym (ap is_trampoline h))));
    intrinsics = λ q. (
      λ h. ap plan.intrinsic (same_Some (intrinsic_place i) q h),
      λ h. ap number_in h,
    );
  }
