-- Indexes of modules.
use Rattle.std.proofs.Common.{◌≡◌, ◌≤◌, ◌+◌, ◌-◌, ℕ, Bool, true, false, List, [], ◌∷◌, length, count_by}
use Rattle.std.proofs.Common.{None, Some, if◌then◌else◌, refl, sym, ap, subst, ◌∙◌, arith, cond, inl, inr}
use Rattle.std.proofs.Common.{◌⊎◌, ◌++◌, zero, suc, take, length-append}
use Rattle.std.specs.Prelude.{nat_le, nat_lt, ◌&&◌, option_map, slice_get}
use Rattle.std.proofs.lemmas.Bool.{cases_lt}
use Rattle.std.proofs.lemmas.Bool.Decides.{nat_tests}
use Rattle.std.proofs.lemmas.List.Sums.{sum_by-cons}
use Rattle.std.proofs.lemmas.Option.{none-some, same_Some, slice_get-map, slice_get_within}
use Rattle.pc_entity.proofs.Growing.{take-next}
use Rattle.pc_entity.proofs.LookupLemmas.{found_at}
use Rattle.pc_numbers.specs.declared.entity_index.EntityIndex.{EntityIndex}
use Rattle.pc_types.specs.declared.module_record.ModuleRecord.{ModuleRecord}
use Rattle.pc_types.specs.declared.parsed.CoreEntity.{CoreEntity}
use Rattle.pc_types.specs.declared.parsed.CoreKind.{CoreKind}
use Rattle.pc_types.specs.declared.parsed.CoreKind.TheVariants as kind
use Rattle.pc_types.specs.ByKind.{of_kind}
use Rattle.pc_types.specs.Record.{defined, has_entity, import_place, imported, imports_kind, index_kind, index_number}
use Rattle.pc_types.specs.Record.{places_from}
use Rattle.pc_info.specs.declared.module.ModuleTranslation.{ModuleTranslation}
use Rattle.pc_info.specs.Modules.{module_view}
use Rattle.pc_analysis_contexts.specs.declared.import_index.ImportIndex.{ImportIndex}
use Rattle.pc_analysis_contexts.specs.Indexed.{AreIndexes, IsIndex, defines, place_in}
use Rattle.pc_analysis_contexts.specs.Recorded.{HaveFewImports, records_of}
use Rattle.pc_analysis_contexts.specs.Shared.{HaveFew}

-- as many imports of a kind have a place as there are
pub places_count : (k : CoreKind) (first : ℕ) (is : List (List ℕ × List ℕ × CoreEntity))
    → length (places_from k first is) ≡ count_by (imports_kind k) is
places_count k first [] = refl
places_count k first (i ∷ is) =
    by (imports_kind k i) (places_from k (first + 1) is)
    ∙ ap (λ n. cond (imports_kind k i) 1 0 + n) (places_count k (first + 1) is)
    ∙ sym (sum_by-cons (λ j. cond (imports_kind k j) 1 0) i is)
  where
    by : (b : Bool) (places : List ℕ) → length (if b then first ∷ places else places) ≡ cond b 1 0 + length places
    by true places = omega arith
    by false places = omega arith

-- at most all imports are of a kind
pub places_few : (k : CoreKind) (first : ℕ) (is : List (List ℕ × List ℕ × CoreEntity))
    → length (places_from k first is) ≤ length is
places_few k first [] = omega arith
places_few k first (i ∷ is) = by (imports_kind k i) (places_few k (first + 1) is)
  where
    by : (b : Bool) → length (places_from k (first + 1) is) ≤ length is
        → length (if b then first ∷ places_from k (first + 1) is else places_from k (first + 1) is)
        ≤ length (i ∷ is)
    by true few = omega (arith, few)
    by false few = omega (arith, few)

-- nothing stands from the end of a list on
pub none_past : {A : Type 0} (xs : List A) (i : ℕ) → slice_get xs i ≡ None → length xs ≤ i
none_past xs i none = elim (cases_lt i (length xs)) [
  | inl within ↦
      let f = found_at xs i within in
      absurd (none-some f.0 (sym none ∙ f.1))
  | inr past ↦ past
]

-- a number from so many on is below so many more
tests_agree : (i n d : ℕ) → i ≤ n → (nat_le i n && nat_lt (n - i) d) ≡ nat_lt n (i + d)
tests_agree i n d past = grind (arith, nat_tests)

module _ (r : ModuleRecord) (s : ImportIndex) (index : IsIndex r s) (e : EntityIndex) where
  -- the place by an index is that by the record
  pub place_is : place_in s e ≡ import_place r e
  place_is = ap (λ xs. slice_get xs (index_number e)) (index.places (index_kind e))

  -- what isn't imported is defined where the module has it
  pub defines_is : import_place r e ≡ None → defines s e ≡ has_entity r e
  defines_is none =
      let k = index_kind e in
      let n = index_number e in
      let many : length (of_kind s.places k) ≡ imported r k =
      ap length (index.places k) ∙ places_count k 0 r.imports in
      ap (λ d. nat_le (length (of_kind s.places k)) n && nat_lt (n - length (of_kind s.places k)) d) (index.counts k)
      ∙ tests_agree (length (of_kind s.places k)) n (defined r k)
      (none_past (of_kind s.places k) n (place_is ∙ none))
      ∙ ap (λ i. nat_lt n (i + defined r k)) many

-- a module that has a record has an index
pub index_of : (records : List ModuleRecord) (indexes : List ImportIndex) (m : ℕ) (r : ModuleRecord)
    → AreIndexes records indexes → slice_get records m ≡ Some r
    → (s : ImportIndex) × (slice_get indexes m ≡ Some s) × IsIndex r s
index_of records indexes m r all at =
    let f = found_at indexes m (omega (arith, all.count, slice_get_within records m r at)) in
    (f.0, f.1, all.each m r f.0 at f.1)

-- and one that has an index has a record
pub record_of : (records : List ModuleRecord) (indexes : List ImportIndex) (m : ℕ) (s : ImportIndex)
    → AreIndexes records indexes → slice_get indexes m ≡ Some s
    → (r : ModuleRecord) × (slice_get records m ≡ Some r) × IsIndex r s
record_of records indexes m s all at =
    let f = found_at records m (omega (arith, all.count, slice_get_within indexes m s at)) in
    (f.0, f.1, all.each m f.0 s f.1 at)

-- no module has no index
pub indexes_none : AreIndexes [] []
indexes_none = record { count = refl; each = λ m r s at found. absurd (none-some r at) }

-- what is found in a list with one item more is that item, or was found before
pub get_pushed : {A : Type 0} (xs : List A) (y : A) (i : ℕ) (z : A) → slice_get (xs ++ y ∷ []) i ≡ Some z
    → (slice_get xs i ≡ Some z) ⊎ ((i ≡ length xs) × (y ≡ z))
get_pushed [] y zero z at = inr (refl, same_Some y z at)
get_pushed [] y (suc i) z at = absurd (none-some z at)
get_pushed (x ∷ xs) y zero z at = inl at
get_pushed (x ∷ xs) y (suc i) z at =
    elim (get_pushed xs y i z at) [ inl old ↦ inl old | inr new ↦ inr (ap suc new.0, new.1) ]

-- one module more has one
pub indexes_more : (records : List ModuleRecord) (i : ℕ) (r : ModuleRecord) (s : ImportIndex)
    (indexes : List ImportIndex) → slice_get records i ≡ Some r → IsIndex r s → AreIndexes (take i records) indexes
    → AreIndexes (take (i + 1) records) (indexes ++ s ∷ [])
indexes_more records i r s indexes at is are =
    subst (λ rs. AreIndexes rs (indexes ++ s ∷ [])) (sym (take-next records i r at)) (record {
      count =
          let front : List ModuleRecord = take i records in
          omega (arith, length-append indexes (s ∷ []), length-append front (r ∷ []), are.count);
      each = λ m t u at_t at_u.
          by m t u (get_pushed (take i records) r m t at_t) (get_pushed indexes s m u at_u);
    })
  where
    by : (m : ℕ) (t : ModuleRecord) (u : ImportIndex)
        → (slice_get (take i records) m ≡ Some t) ⊎ ((m ≡ length (take i records)) × (r ≡ t))
        → (slice_get indexes m ≡ Some u) ⊎ ((m ≡ length indexes) × (s ≡ u)) → IsIndex t u
    by m t u (inl old) (inl found) = are.each m t u old found
    by m t u (inl old) (inr last) =
        absurd (omega (arith, slice_get_within (take i records) m t old, last.0, are.count))
    by m t u (inr last) (inl found) =
        absurd (omega (arith, slice_get_within indexes m u found, last.0, are.count))
    by m t u (inr last) (inr here) = subst (λ x. IsIndex x u) last.1 (subst (IsIndex r) here.1 is)

-- modules with few imports import few functions
pub few_functions : (records : List ModuleRecord) (indexes : List ImportIndex) → AreIndexes records indexes
    → HaveFewImports records → HaveFew indexes
few_functions records indexes all few m s at =
    let x = record_of records indexes m s all at in
    omega (arith, few m x.0 x.1, places_few kind.Func 0 (x.0).imports, ap length (x.2.places kind.Func))

-- a module imports at most as many functions as it has imports
pub imported_few : (r : ModuleRecord) → imported r kind.Func ≤ length r.imports
imported_few r = omega (arith, places_count kind.Func 0 r.imports, places_few kind.Func 0 r.imports)

-- the record of a module by number
pub record_at : (modules : List ModuleTranslation) (m : ℕ) (x : ModuleTranslation) → slice_get modules m ≡ Some x
    → slice_get (records_of modules) m ≡ Some x.«module»
record_at modules m x at = slice_get-map module_view modules m ∙ ap (option_map module_view) at
