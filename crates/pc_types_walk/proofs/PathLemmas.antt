-- The paths of an entry of a sound table, by those of the entries before it.
use Rattle.std.proofs.Common.{◌≡◌, ◌<◌, ◌+◌, ℕ, zero, suc, Bool, true, false, List, [], ◌∷◌, ◌++◌, length, take, map}
use Rattle.std.proofs.Common.{Option, Some, None, refl, sym, ap, ◌∙◌, subst, arith, true≢false, if◌then◌else◌}
use Rattle.std.specs.Prelude.{slice_get, unwrap_or}
use Rattle.std.specs.List.{flat_map, list_all}
use Rattle.std.proofs.lemmas.List.{append_assoc, append-nil, length-append, length-take}
use Rattle.std.proofs.lemmas.Option.{none-some, same_Some, slice_get_within}
use Rattle.pc_entity.specs.Lists.{Kept, names_of}
use Rattle.pc_entity.proofs.Elements.{and_true}
use Rattle.pc_entity.proofs.Growing.{append_kept, kept_refl, kept_trans, slice_get-append_seam}
use Rattle.pc_entity.proofs.LookupLemmas.{found_at}
use Rattle.pc_types.specs.declared.parsed.DeclType.{DeclType}
use Rattle.pc_types.specs.declared.parsed.DeclType.TheVariants as entry
use Rattle.pc_types.specs.declared.parsed.Entity.{Entity}
use Rattle.pc_types.specs.declared.parsed.Entity.TheVariants as entity
use Rattle.pc_types.specs.declared.parsed.TypeTable.{TypeTable}
use Rattle.pc_types.specs.Names.{distinct_names}
use Rattle.pc_types.specs.Table.{EntryFault, bad_entry, entry_fault, fault_from, fault_or, holds_value, is_instance}
use Rattle.pc_types.specs.Table.{is_some_and, is_sound_entity, is_sound_entry, table_fault, value_entry}
use Rattle.pc_spec_reading.specs.Resource.{ResourcePath, entity_paths, entry_paths, export_paths, paths_from, under}
use Rattle.pc_types_walk.specs.Leads.{paths_of}
use Rattle.pc_types_walk.specs.Walks.{exports_of}

-- each item of a list has P
abbrev pub Each : {A : Type 0} → (A → Type 0) → List A → Type 0
Each P [] = Unit {0}
Each P (x ∷ xs) = P x × Each P xs

-- what follows of each
pub each_more : {A : Type 0} (P Q : A → Type 0) → ((x : A) → P x → Q x) → (xs : List A) → Each P xs → Each Q xs
each_more P Q more [] h = tt
each_more P Q more (x ∷ xs) h = (more x h.0, each_more P Q more xs h.1)

-- the same of the item at a place
pub each_at : {A : Type 0} (P : A → Type 0) (xs : List A) → Each P xs → (i : ℕ) (x : A) → slice_get xs i ≡ Some x → P x
each_at P [] h i x at = absurd (none-some x at)
each_at P (y ∷ xs) h zero x at = subst P (same_Some y x at) h.0
each_at P (y ∷ xs) h (suc i) x at = each_at P xs h.1 i x at

-- an entry without a fault is sound
unfaulted : (t : TypeTable) (earlier : List DeclType) (e : DeclType) → entry_fault t earlier e ≡ None
    → is_sound_entry t earlier e ≡ true
unfaulted t earlier e h = by (is_sound_entry t earlier e) (holds_value e) h
  where
    by : (sound value : Bool)
        → (if sound then (if value then Some value_entry else None) else Some bad_entry) ≡ None → sound ≡ true
    by true value k = refl
    by false value k = absurd (none-some bad_entry (sym k))

-- where no entry has a fault, this one has none, and those after it have none
no_fault_here : (n : ℕ) (f : Option EntryFault) (later : Option (ℕ × EntryFault)) → fault_or n f later ≡ None
    → (f ≡ None) × (later ≡ None)
no_fault_here n None later h = (refl, h)
no_fault_here n (Some f) later h = absurd (none-some (n, f) (sym h))

-- the same of the entries after some
sound_from : (t : TypeTable) (earlier es : List DeclType) (k : ℕ) (e : DeclType) → fault_from t earlier es ≡ None
    → slice_get es k ≡ Some e → is_sound_entry t (earlier ++ take k es) e ≡ true
sound_from t earlier [] k e sound at = absurd (none-some e at)
sound_from t earlier (f ∷ es) zero e sound at =
    subst (λ g. is_sound_entry t (earlier ++ []) g ≡ true) (same_Some f e at)
    (subst (λ l. is_sound_entry t l f ≡ true) (sym (append-nil earlier))
    (unfaulted t earlier f
    (no_fault_here (length earlier) (entry_fault t earlier f) (fault_from t (earlier ++ f ∷ []) es) sound).0))
sound_from t earlier (f ∷ es) (suc k) e sound at =
    subst (λ l. is_sound_entry t l e ≡ true) (append_assoc earlier (f ∷ []) (take k es))
    (sound_from t (earlier ++ f ∷ []) es k e
    (no_fault_here (length earlier) (entry_fault t earlier f) (fault_from t (earlier ++ f ∷ []) es) sound).1 at)

-- each item passes a test
each_passed : {A : Type 0} (test : A → Bool) (xs : List A) → list_all test xs ≡ true → Each (λ x. test x ≡ true) xs
each_passed test [] h = tt
each_passed test (x ∷ xs) h =
    let both = and_true (test x) (list_all test xs) h in
    (both.0, each_passed test xs both.1)

-- the exports of a sound entry are sound
sound_exports : (t : TypeTable) (earlier : List DeclType) (e : DeclType) → is_sound_entry t earlier e ≡ true
    → Each (λ (x : List ℕ × Entity). is_sound_entity earlier x.1 ≡ true) (exports_of e)
sound_exports t earlier entry.Resource h = tt
sound_exports t earlier (entry.Func params result is_async) h = tt
sound_exports t earlier (entry.Val v) h = tt
sound_exports t earlier (entry.Record fields) h = tt
sound_exports t earlier (entry.Variant cases) h = tt
sound_exports t earlier (entry.List v) h = tt
sound_exports t earlier (entry.Tuple vs) h = tt
sound_exports t earlier (entry.Flags names) h = tt
sound_exports t earlier (entry.Enum names) h = tt
sound_exports t earlier (entry.Option v) h = tt
sound_exports t earlier (entry.Result ok err) h = tt
sound_exports t earlier (entry.Own n) h = tt
sound_exports t earlier (entry.Borrow n) h = tt
sound_exports t earlier (entry.Stream v) h = tt
sound_exports t earlier (entry.Future v) h = tt
sound_exports t earlier (entry.Instance exports) h =
    each_passed (λ (x : List ℕ × Entity). is_sound_entity earlier x.1) exports
    (and_true (list_all (λ (x : List ℕ × Entity). is_sound_entity earlier x.1) exports)
    (distinct_names (names_of exports)) h).0
sound_exports t earlier (entry.Component imports exports) h = tt
sound_exports t earlier (entry.Module imports exports) h = tt

-- an instance type is among the entries before
abbrev pub IsEarlier : ℕ → Entity → Type 0
IsEarlier k (entity.Instance n) = n < k
IsEarlier k _ = Unit {0}

-- a sound entity names an instance type before
sound_earlier : (earlier : List DeclType) (e : Entity) → is_sound_entity earlier e ≡ true → IsEarlier (length earlier) e
sound_earlier earlier (entity.Func n) h = tt
sound_earlier earlier (entity.Instance n) h = by (slice_get earlier n) refl h
  where
    by : (o : Option DeclType) → slice_get earlier n ≡ o → is_some_and is_instance o ≡ true → n < length earlier
    by None at k = absurd (true≢false (sym k))
    by (Some e) at k = slice_get_within earlier n e at
sound_earlier earlier (entity.Component n) h = tt
sound_earlier earlier (entity.Module n) h = tt
sound_earlier earlier (entity.Type_ n) h = tt
sound_earlier earlier entity.Value h = tt

-- a lower bound serves as well
earlier_more : (i k : ℕ) → ((n : ℕ) → n < i → n < k) → (e : Entity) → IsEarlier i e → IsEarlier k e
earlier_more i k more (entity.Func n) h = tt
earlier_more i k more (entity.Instance n) h = more n h
earlier_more i k more (entity.Component n) h = tt
earlier_more i k more (entity.Module n) h = tt
earlier_more i k more (entity.Type_ n) h = tt
earlier_more i k more entity.Value h = tt

-- the exports of an entry of a sound table name instance types before it
pub exports_earlier : (t : TypeTable) → table_fault t ≡ None → (k : ℕ) (e : DeclType) → slice_get t.types k ≡ Some e
    → Each (λ (x : List ℕ × Entity). IsEarlier k x.1) (exports_of e)
exports_earlier t sound k e at =
    each_more (λ (x : List ℕ × Entity). is_sound_entity (take k t.types) x.1 ≡ true)
    (λ (x : List ℕ × Entity). IsEarlier k x.1)
    (λ x h. earlier_more (length (take k t.types)) k (λ n less. omega (arith, less, length-take k t.types)) x.1
    (sound_earlier (take k t.types) x.1 h))
    (exports_of e) (sound_exports t (take k t.types) e (sound_from t [] t.types k e sound at))

module _ (t : TypeTable) where
  -- the paths of earlier entries stay as later ones are made
  paths_kept : (earlier : List (List ResourcePath)) (es : List DeclType) → Kept earlier (paths_from t earlier es)
  paths_kept earlier [] = kept_refl earlier
  paths_kept earlier (e ∷ es) =
      kept_trans earlier (earlier ++ entry_paths t earlier e ∷ [])
      (paths_from t (earlier ++ entry_paths t earlier e ∷ []) es)
      (append_kept earlier (entry_paths t earlier e ∷ [])) (paths_kept (earlier ++ entry_paths t earlier e ∷ []) es)

  -- there are paths of as many entries as stand in front, which are kept, and those of the entry are made from them
  paths_at : (earlier : List (List ResourcePath)) (es : List DeclType) (k : ℕ) (e : DeclType) → slice_get es k ≡ Some e
      → (before : List (List ResourcePath)) × (length before ≡ length earlier + k)
      × Kept before (paths_from t earlier es)
      × (slice_get (paths_from t earlier es) (length earlier + k) ≡ Some (entry_paths t before e))
  paths_at earlier [] k e at = absurd (none-some e at)
  paths_at earlier (f ∷ es) zero e at = (
    earlier,
    omega arith,
    paths_kept earlier (f ∷ es),
    paths_kept (earlier ++ entry_paths t earlier f ∷ []) es (length earlier + 0) (entry_paths t earlier e)
        (subst (λ m. slice_get (earlier ++ entry_paths t earlier f ∷ []) m ≡ Some (entry_paths t earlier e))
        (omega arith)
        (slice_get-append_seam earlier (entry_paths t earlier f) []
        ∙ ap (λ g. Some (entry_paths t earlier g)) (same_Some f e at))),
  )
  paths_at earlier (f ∷ es) (suc k) e at =
      let next = paths_at (earlier ++ entry_paths t earlier f ∷ []) es k e at in (
        next.0,
        next.1 ∙ grow,
        next.2,
        subst (λ m. slice_get (paths_from t earlier (f ∷ es)) m ≡ Some (entry_paths t next.0 e)) grow next.3,
      )
    where
      grow : length (earlier ++ entry_paths t earlier f ∷ []) + k ≡ length earlier + suc k
      grow = omega (arith, length-append earlier (entry_paths t earlier f ∷ []))

  -- there are as many as entries
  paths_count : (earlier : List (List ResourcePath)) (es : List DeclType)
      → length (paths_from t earlier es) ≡ length earlier + length es
  paths_count earlier [] = omega arith
  paths_count earlier (e ∷ es) =
      let more = paths_count (earlier ++ entry_paths t earlier e ∷ []) es in
      omega (arith, more, length-append earlier (entry_paths t earlier e ∷ []))

  -- the paths of an entry are those of its exports
  entry_is : (earlier : List (List ResourcePath)) (e : DeclType)
      → entry_paths t earlier e ≡ flat_map (export_paths t earlier) (exports_of e)
  entry_is earlier entry.Resource = refl
  entry_is earlier (entry.Func params result is_async) = refl
  entry_is earlier (entry.Val v) = refl
  entry_is earlier (entry.Record fields) = refl
  entry_is earlier (entry.Variant cases) = refl
  entry_is earlier (entry.List v) = refl
  entry_is earlier (entry.Tuple vs) = refl
  entry_is earlier (entry.Flags names) = refl
  entry_is earlier (entry.Enum names) = refl
  entry_is earlier (entry.Option v) = refl
  entry_is earlier (entry.Result ok err) = refl
  entry_is earlier (entry.Own n) = refl
  entry_is earlier (entry.Borrow n) = refl
  entry_is earlier (entry.Stream v) = refl
  entry_is earlier (entry.Future v) = refl
  entry_is earlier (entry.Instance exports) = refl
  entry_is earlier (entry.Component imports exports) = refl
  entry_is earlier (entry.Module imports exports) = refl

  -- those of an entity before are the same among those in front and among all
  entity_kept : (before all : List (List ResourcePath)) → Kept before all → (e : Entity) → IsEarlier (length before) e
      → entity_paths t before e ≡ entity_paths t all e
  entity_kept before all kept (entity.Func n) h = refl
  entity_kept before all kept (entity.Instance n) h =
      let f = found_at before n h in
      ap (λ o. unwrap_or o []) f.1 ∙ sym (ap (λ o. unwrap_or o []) (kept n f.0 f.1))
  entity_kept before all kept (entity.Component n) h = refl
  entity_kept before all kept (entity.Module n) h = refl
  entity_kept before all kept (entity.Type_ n) h = refl
  entity_kept before all kept entity.Value h = refl

  -- those of some exports
  exports_kept : (before all : List (List ResourcePath)) → Kept before all → (xs : List (List ℕ × Entity))
      → Each (λ (x : List ℕ × Entity). IsEarlier (length before) x.1) xs
      → flat_map (export_paths t before) xs ≡ flat_map (export_paths t all) xs
  exports_kept before all kept [] h = refl
  exports_kept before all kept (x ∷ xs) h =
      let here = entity_kept before all kept x.1 h.0 in
      let later = exports_kept before all kept xs h.1 in
      λ i. map (under x.0) (here i) ++ later i

  -- the paths of an entry of a sound table
  pub paths_are : table_fault t ≡ None → (k : ℕ) (e : DeclType) → slice_get t.types k ≡ Some e
      → paths_of t k ≡ flat_map (export_paths t (paths_from t [] t.types)) (exports_of e)
  paths_are sound k e at =
      let x = paths_at [] t.types k e at in
      let count : length x.0 ≡ k = omega (arith, x.1) in
      ap (λ o. unwrap_or o [])
      (subst (λ m. slice_get (paths_from t [] t.types) m ≡ Some (entry_paths t x.0 e)) (omega arith) x.3)
      ∙ entry_is x.0 e
      ∙ exports_kept x.0 (paths_from t [] t.types) x.2 (exports_of e)
      (subst (λ m. Each (λ (y : List ℕ × Entity). IsEarlier m y.1) (exports_of e)) (sym count)
      (exports_earlier t sound k e at))

  -- a number past the table has none
  pub paths_past : (k : ℕ) → slice_get t.types k ≡ None → paths_of t k ≡ []
  paths_past k past = by (slice_get (paths_from t [] t.types) k) refl
    where
      by : (o : Option (List ResourcePath)) → slice_get (paths_from t [] t.types) k ≡ o → unwrap_or o [] ≡ []
      by None at = refl
      by (Some ps) at =
          let within = slice_get_within (paths_from t [] t.types) k ps at in
          let f = found_at t.types k (omega (arith, within, paths_count [] t.types)) in
          absurd (none-some f.0 (sym past ∙ f.1))
