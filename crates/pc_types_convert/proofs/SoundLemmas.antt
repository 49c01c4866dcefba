-- What a sound table says of the parts of its entries.
use Rattle.std.proofs.Common.{◌≡◌, ℕ, ◌<◌, Bool, true, false, List, [], ◌∷◌, ◌++◌, length, take, zero, suc, Option}
use Rattle.std.proofs.Common.{Some, None, refl, sym, subst, arith, true≢false, ◌&&◌, if◌then◌else◌}
use Rattle.std.specs.Prelude.{slice_get}
use Rattle.std.specs.List.{list_all, flat_map}
use Rattle.std.proofs.lemmas.Bool.{ltb-true}
use Rattle.std.proofs.lemmas.List.{append_assoc, append-nil, length-take}
use Rattle.std.proofs.lemmas.Option.{none-some, same_Some, slice_get_within}
use Rattle.pc_entity.proofs.Elements.{and_true}
use Rattle.pc_entity.specs.Lists.{names_of}
use Rattle.pc_types.specs.declared.parsed.DeclType.{DeclType}
use Rattle.pc_types.specs.declared.parsed.DeclType.TheVariants as entry
use Rattle.pc_types.specs.declared.parsed.Entity.{Entity}
use Rattle.pc_types.specs.declared.parsed.Entity.TheVariants as entity
use Rattle.pc_types.specs.declared.parsed.TypeTable.{TypeTable}
use Rattle.pc_types.specs.declared.parsed.ValType.{ValType}
use Rattle.pc_types.specs.declared.parsed.ValType.TheVariants as val
use Rattle.pc_types.specs.Names.{distinct_names}
use Rattle.pc_types.specs.Table.{EntryFault, entry_fault, fault_or, fault_from, table_fault, is_none_or, is_some_and}
use Rattle.pc_types.specs.Table.{is_sound_entry, is_sound_val, is_sound_entity, holds_value, is_resource}
use Rattle.pc_types.specs.Table.{is_defined_type}
use Rattle.pc_types_convert.specs.Needed.{Each, parts_of, val_parts, maybe_parts, field_parts, case_parts, entity_parts}
use Rattle.pc_types_convert.specs.Needed.{extern_parts}
use Rattle.pc_types_convert.proofs.AmongLemmas.{each_append, each_more}

-- an entry without a fault is sound and holds no component value
unfaulted : (t : TypeTable) (earlier : List DeclType) (e : DeclType) → entry_fault t earlier e ≡ None
    → (is_sound_entry t earlier e ≡ true) × (holds_value e ≡ false)
unfaulted t earlier e h = by (is_sound_entry t earlier e) (holds_value e) h
  where
    by : (sound value : Bool)
        → (if sound then (if value then Some EntryFault.value_entry else None) else Some EntryFault.bad_entry) ≡ None
        → (sound ≡ true) × (value ≡ false)
    by true true k = absurd (none-some EntryFault.value_entry (sym k))
    by true false k = (refl, refl)
    by false value k = absurd (none-some EntryFault.bad_entry (sym k))

-- where no entry has a fault, this one has none, and those after it have none
no_fault_here : (n : ℕ) (f : Option EntryFault) (later : Option (ℕ × EntryFault)) → fault_or n f later ≡ None
    → (f ≡ None) × (later ≡ None)
no_fault_here n None later h = (refl, h)
no_fault_here n (Some f) later h = absurd (none-some (n, f) (sym h))

-- the same of the entries after some
sound_from : (t : TypeTable) (earlier es : List DeclType) (k : ℕ) (e : DeclType) → fault_from t earlier es ≡ None
    → slice_get es k ≡ Some e → (is_sound_entry t (earlier ++ take k es) e ≡ true) × (holds_value e ≡ false)
sound_from t earlier [] k e none at = absurd (none-some e at)
sound_from t earlier (f ∷ es) zero e none at =
    let here = unfaulted t earlier f
    (no_fault_here (length earlier) (entry_fault t earlier f) (fault_from t (earlier ++ f ∷ []) es) none).0 in
    subst (λ g. (is_sound_entry t (earlier ++ []) g ≡ true) × (holds_value g ≡ false)) (same_Some f e at)
    (subst (λ l. is_sound_entry t l f ≡ true) (sym (append-nil earlier)) here.0, here.1)
sound_from t earlier (f ∷ es) (suc k) e none at =
    let later =
    (no_fault_here (length earlier) (entry_fault t earlier f) (fault_from t (earlier ++ f ∷ []) es) none).1 in
    let there = sound_from t (earlier ++ f ∷ []) es k e later at in
    (subst (λ l. is_sound_entry t l e ≡ true) (append_assoc earlier (f ∷ []) (take k es)) there.0, there.1)

-- each entry of a sound table is sound after the earlier ones, and holds no component value
pub sound_at : (t : TypeTable) (k : ℕ) (e : DeclType) → table_fault t ≡ None → slice_get t.types k ≡ Some e
    → (is_sound_entry t (take k t.types) e ≡ true) × (holds_value e ≡ false)
sound_at t k e none at = sound_from t [] t.types k e none at

-- what passes a test is there
pub found_by : {A : Type 0} (p : A → Bool) (o : Option A) → is_some_and p o ≡ true → (x : A) × (o ≡ Some x)
    × (p x ≡ true)
found_by p None h = absurd (true≢false (sym h))
found_by p (Some x) h = (x, refl, h)

-- what passes a test at a place stands within the list
found_within : {A : Type 0} (p : A → Bool) (xs : List A) (n : ℕ) → is_some_and p (slice_get xs n) ≡ true → n < length xs
found_within p xs n h =
    let f = found_by p (slice_get xs n) h in
    slice_get_within xs n f.0 f.1

-- the parts of items that pass a test have P, where those of each such item have
each_of_all : {A : Type 0} (P : ℕ → Type 0) (test : A → Bool) (parts : A → List ℕ)
    → ((x : A) → test x ≡ true → Each P (parts x)) → (xs : List A) → list_all test xs ≡ true
    → Each P (flat_map parts xs)
each_of_all P test parts one [] h = tt
each_of_all P test parts one (x ∷ xs) h =
    let both = and_true (test x) (list_all test xs) h in
    each_append P (parts x) (flat_map parts xs) (one x both.0) (each_of_all P test parts one xs both.1)

module _ (t : TypeTable) (earlier : List DeclType) where
  -- what a value type names
  val_below : (v : ValType) → is_sound_val earlier v ≡ true → Each (λ p. p < length earlier) (val_parts v)
  val_below (val.Prim p) h = tt
  val_below (val.Type_ n) h = (found_within is_defined_type earlier n h, tt)

  -- what one that may be left out names
  maybe_below : (v : Option ValType) → is_none_or (is_sound_val earlier) v ≡ true
      → Each (λ p. p < length earlier) (maybe_parts v)
  maybe_below None h = tt
  maybe_below (Some v) h = val_below v h

  -- what an entity names
  entity_below : (e : Entity) → is_sound_entity earlier e ≡ true → Each (λ p. p < length earlier) (entity_parts e)
  entity_below (entity.Func n) h = (found_within _ earlier n h, tt)
  entity_below (entity.Instance n) h = (found_within _ earlier n h, tt)
  entity_below (entity.Component n) h = (found_within _ earlier n h, tt)
  entity_below (entity.Module n) h = (found_within _ earlier n h, tt)
  entity_below (entity.Type_ n) h = (ltb-true n (length earlier) h, tt)
  entity_below entity.Value h = tt

  -- what fields name
  fields_below : (fs : List (List ℕ × ValType))
      → (list_all (λ (f : List ℕ × ValType). is_sound_val earlier f.1) fs && distinct_names (names_of fs)) ≡ true
      → Each (λ p. p < length earlier) (flat_map field_parts fs)
  fields_below fs h =
      each_of_all (λ p. p < length earlier) (λ (f : List ℕ × ValType). is_sound_val earlier f.1) field_parts
      (λ f k. val_below f.1 k) fs
      (and_true (list_all (λ (f : List ℕ × ValType). is_sound_val earlier f.1) fs) (distinct_names (names_of fs)) h).0

  -- what cases name
  cases_below : (cs : List (List ℕ × Option ValType))
      →
      (list_all (λ (c : List ℕ × Option ValType). is_none_or (is_sound_val earlier) c.1) cs
      && distinct_names (names_of cs)) ≡ true
      → Each (λ p. p < length earlier) (flat_map case_parts cs)
  cases_below cs h =
      each_of_all (λ p. p < length earlier)
      (λ (c : List ℕ × Option ValType). is_none_or (is_sound_val earlier) c.1) case_parts
      (λ c k. maybe_below c.1 k) cs
      (and_true (list_all (λ (c : List ℕ × Option ValType). is_none_or (is_sound_val earlier) c.1) cs)
      (distinct_names (names_of cs)) h).0

  -- what named entities name
  externs_below : (es : List (List ℕ × Entity))
      → (list_all (λ (e : List ℕ × Entity). is_sound_entity earlier e.1) es && distinct_names (names_of es)) ≡ true
      → Each (λ p. p < length earlier) (flat_map extern_parts es)
  externs_below es h =
      each_of_all (λ p. p < length earlier) (λ (e : List ℕ × Entity). is_sound_entity earlier e.1) extern_parts
      (λ e k. entity_below e.1 k) es
      (and_true (list_all (λ (e : List ℕ × Entity). is_sound_entity earlier e.1) es) (distinct_names (names_of es)) h).0

  -- a sound entry names earlier entries
  pub parts_below : (e : DeclType) → is_sound_entry t earlier e ≡ true → Each (λ p. p < length earlier) (parts_of e)
  parts_below entry.Resource h = tt
  parts_below (entry.Func params result is_async) h =
      let both = and_true
      (list_all (λ (f : List ℕ × ValType). is_sound_val earlier f.1) params && distinct_names (names_of params))
      (is_none_or (is_sound_val earlier) result) h in
      each_append (λ p. p < length earlier) (flat_map field_parts params) (maybe_parts result)
      (fields_below params both.0) (maybe_below result both.1)
  parts_below (entry.Val v) h = val_below v h
  parts_below (entry.Record fields) h = fields_below fields h
  parts_below (entry.Variant cases) h = cases_below cases h
  parts_below (entry.List v) h = val_below v h
  parts_below (entry.Tuple vs) h = each_of_all (λ p. p < length earlier) (is_sound_val earlier) val_parts val_below vs h
  parts_below (entry.Flags names) h = tt
  parts_below (entry.Enum names) h = tt
  parts_below (entry.Option v) h = val_below v h
  parts_below (entry.Result ok err) h =
      let both = and_true (is_none_or (is_sound_val earlier) ok) (is_none_or (is_sound_val earlier) err) h in
      each_append (λ p. p < length earlier) (maybe_parts ok) (maybe_parts err) (maybe_below ok both.0)
      (maybe_below err both.1)
  parts_below (entry.Own n) h = (found_within is_resource earlier n h, tt)
  parts_below (entry.Borrow n) h = (found_within is_resource earlier n h, tt)
  parts_below (entry.Stream v) h = maybe_below v h
  parts_below (entry.Future v) h = maybe_below v h
  parts_below (entry.Instance exports) h = externs_below exports h
  parts_below (entry.Component imports exports) h =
      let both = and_true
      (list_all (λ (e : List ℕ × Entity). is_sound_entity earlier e.1) imports && distinct_names (names_of imports))
      (list_all (λ (e : List ℕ × Entity). is_sound_entity earlier e.1) exports && distinct_names (names_of exports))
      h in
      each_append (λ p. p < length earlier) (flat_map extern_parts imports) (flat_map extern_parts exports)
      (externs_below imports both.0) (externs_below exports both.1)
  parts_below (entry.Module imports exports) h = tt

-- an entry of a sound table names earlier ones
pub names_earlier : (t : TypeTable) (k : ℕ) → table_fault t ≡ None → (e : DeclType) → slice_get t.types k ≡ Some e
    → Each (λ p. p < k) (parts_of e)
names_earlier t k sound e at =
    each_more (λ p. p < length (take k t.types)) (λ p. p < k) (λ p h. omega (arith, h, length-take k t.types))
    (parts_of e)
    (parts_below t (take k t.types) e (sound_at t k e sound at).0)
