-- An entry that is the same in each component instance doesn't depend on one by itself, and its parts are the same too.
use Rattle.std.proofs.Common.{◌≡◌, ◌||◌, ℕ, Bool, true, false, List, [], ◌∷◌, Option, Some, None, refl, sym}
use Rattle.std.proofs.Common.{true≢false}
use Rattle.std.specs.Prelude.{is_some, option_and_then, slice_get}
use Rattle.std.specs.List.{flat_map, list_all, list_any}
use Rattle.pc_types.specs.declared.parsed.PrimType.TheVariants as prim
use Rattle.pc_types.specs.declared.parsed.ValType.{ValType}
use Rattle.pc_types.specs.declared.parsed.ValType.TheVariants as val
use Rattle.pc_types.specs.declared.parsed.DeclType.{DeclType}
use Rattle.pc_types.specs.declared.parsed.DeclType.TheVariants as entry
use Rattle.pc_types.specs.declared.parsed.Entity.{Entity}
use Rattle.pc_types.specs.declared.parsed.Entity.TheVariants as entity
use Rattle.pc_types.specs.declared.types.TypeDef.{TypeDef}
use Rattle.pc_entity.proofs.Elements.{and_true}
use Rattle.pc_types_convert.specs.Needed.{Each, IsDone, case_parts, entity_parts, extern_parts, field_parts, maybe_parts}
use Rattle.pc_types_convert.specs.Needed.{parts_of, val_parts}
use Rattle.pc_types_convert.specs.Plain.{is_plain_at, is_plain_case, is_plain_entity, is_plain_entry, is_plain_extern}
use Rattle.pc_types_convert.specs.Plain.{is_plain_field, is_plain_maybe, is_plain_val}
use Rattle.pc_types_convert.proofs.AmongLemmas.{each_append}
use Rattle.pc_types_builder.specs.Depends.{case_error, depends, field_error, is_error, maybe_error}

-- neither of two holds
neither : (a b : Bool) → a ≡ false → b ≡ false → (a || b) ≡ false
neither true b ha hb = absurd (true≢false ha)
neither false b ha hb = hb

module _ (plain : List (Option TypeDef)) where
  -- a type that is there is done
  there : (o : Option (Option TypeDef)) → is_some (option_and_then (λ d. d) o) ≡ true
      → (d : TypeDef) × (o ≡ Some (Some d))
  there None h = absurd (true≢false (sym h))
  there (Some None) h = absurd (true≢false (sym h))
  there (Some (Some d)) h = (d, refl)

  -- so an entry is
  at : (n : ℕ) → is_plain_at plain n ≡ true → IsDone plain n
  at n h = there (slice_get plain n) h

  -- what holds of the items of a list holds of the whole
  each_item : {A : Type 0} (good bad : A → Bool) (parts : A → List ℕ)
      → ((x : A) → good x ≡ true → (bad x ≡ false) × Each (IsDone plain) (parts x)) → (xs : List A)
      → list_all good xs ≡ true → (list_any bad xs ≡ false) × Each (IsDone plain) (flat_map parts xs)
  each_item good bad parts one [] h = (refl, tt)
  each_item good bad parts one (x ∷ xs) h =
      let both = and_true (good x) (list_all good xs) h in
      let here = one x both.0 in
      let rest = each_item good bad parts one xs both.1 in (
        neither (bad x) (list_any bad xs) here.0 rest.0,
        each_append (IsDone plain) (parts x) (flat_map parts xs) here.1 rest.1,
      )

  -- a value type
  plain_val : (v : ValType) → is_plain_val plain v ≡ true → (is_error v ≡ false) × Each (IsDone plain) (val_parts v)
  plain_val (val.Prim prim.ErrorContext) h = absurd (true≢false (sym h))
  plain_val (val.Prim p) h = (refl, tt)
  plain_val (val.Type_ n) h = (refl, (at n h, tt))

  -- one that may be left out
  plain_maybe : (v : Option ValType) → is_plain_maybe plain v ≡ true
      → (maybe_error v ≡ false) × Each (IsDone plain) (maybe_parts v)
  plain_maybe None h = (refl, tt)
  plain_maybe (Some v) h = plain_val v h

  -- an entity
  plain_entity : (e : Entity) → is_plain_entity plain e ≡ true → Each (IsDone plain) (entity_parts e)
  plain_entity (entity.Func n) h = (at n h, tt)
  plain_entity (entity.Instance n) h = (at n h, tt)
  plain_entity (entity.Component n) h = (at n h, tt)
  plain_entity (entity.Module n) h = (at n h, tt)
  plain_entity (entity.Type_ n) h = (at n h, tt)
  plain_entity entity.Value h = tt

  -- fields
  plain_fields : (fs : List (List ℕ × ValType)) → list_all (is_plain_field plain) fs ≡ true
      → (list_any field_error fs ≡ false) × Each (IsDone plain) (flat_map field_parts fs)
  plain_fields = each_item (is_plain_field plain) field_error field_parts (λ f. plain_val f.1)

  -- named entities
  plain_externs : (es : List (List ℕ × Entity)) → list_all (is_plain_extern plain) es ≡ true
      → Each (IsDone plain) (flat_map extern_parts es)
  plain_externs es h =
      (each_item (is_plain_extern plain) (λ e. false) extern_parts (λ e k. (refl, plain_entity e.1 k)) es h).1

  -- an entry
  pub plain_entry : (e : DeclType) → is_plain_entry plain e ≡ true
      → (depends e ≡ false) × Each (IsDone plain) (parts_of e)
  plain_entry entry.Resource h = absurd (true≢false (sym h))
  plain_entry (entry.Func params result is_async) h =
      let both = and_true (list_all (is_plain_field plain) params) (is_plain_maybe plain result) h in
      let here = plain_fields params both.0 in
      let rest = plain_maybe result both.1 in (
        neither (list_any field_error params) (maybe_error result) here.0 rest.0,
        each_append (IsDone plain) (flat_map field_parts params) (maybe_parts result) here.1 rest.1,
      )
  plain_entry (entry.Val v) h = plain_val v h
  plain_entry (entry.Record fields) h = plain_fields fields h
  plain_entry (entry.Variant cases) h =
      each_item (is_plain_case plain) case_error case_parts (λ c. plain_maybe c.1) cases h
  plain_entry (entry.List v) h = plain_val v h
  plain_entry (entry.Tuple vs) h = each_item (is_plain_val plain) is_error val_parts plain_val vs h
  plain_entry (entry.Flags names) h = (refl, tt)
  plain_entry (entry.Enum names) h = (refl, tt)
  plain_entry (entry.Option v) h = plain_val v h
  plain_entry (entry.Result ok err) h =
      let both = and_true (is_plain_maybe plain ok) (is_plain_maybe plain err) h in
      let here = plain_maybe ok both.0 in
      let rest = plain_maybe err both.1 in (
        neither (maybe_error ok) (maybe_error err) here.0 rest.0,
        each_append (IsDone plain) (maybe_parts ok) (maybe_parts err) here.1 rest.1,
      )
  plain_entry (entry.Own n) h = absurd (true≢false (sym h))
  plain_entry (entry.Borrow n) h = absurd (true≢false (sym h))
  plain_entry (entry.Stream v) h = absurd (true≢false (sym h))
  plain_entry (entry.Future v) h = absurd (true≢false (sym h))
  plain_entry (entry.Instance exports) h = (refl, plain_externs exports h)
  plain_entry (entry.Component imports exports) h =
      let both = and_true (list_all (is_plain_extern plain) imports) (list_all (is_plain_extern plain) exports) h in (
        refl,
        each_append (IsDone plain) (flat_map extern_parts imports) (flat_map extern_parts exports)
            (plain_externs imports both.0) (plain_externs exports both.1),
      )
  plain_entry (entry.Module imports exports) h = (refl, tt)
