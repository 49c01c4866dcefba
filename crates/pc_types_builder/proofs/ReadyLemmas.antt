-- What an entry of a sound table names is ready for its conversion, once it is done.
use Rattle.std.proofs.Common.{◌≡◌, ℕ, Bool, true, false, List, [], ◌∷◌, Option}
use Rattle.std.proofs.Common.{Some, None, refl, ap, ◌∙◌, arith, true≢false, ◌&&◌, ◌||◌}
use Rattle.std.specs.Prelude.{slice_get, map}
use Rattle.std.specs.List.{All, list_all, list_any, flat_map}
use Rattle.std.proofs.lemmas.List.Elements.{All-cons}
use Rattle.pc_entity.proofs.Elements.{and_true}
use Rattle.pc_entity.specs.Lists.{names_of}
use Rattle.pc_types.specs.declared.parsed.CoreEntity.{CoreEntity}
use Rattle.pc_types.specs.declared.parsed.DeclType.{DeclType}
use Rattle.pc_types.specs.declared.parsed.DeclType.TheVariants as entry
use Rattle.pc_types.specs.declared.parsed.Entity.{Entity}
use Rattle.pc_types.specs.declared.parsed.Entity.TheVariants as entity
use Rattle.pc_types.specs.declared.parsed.TypeTable.{TypeTable}
use Rattle.pc_types.specs.declared.parsed.ValType.{ValType}
use Rattle.pc_types.specs.declared.parsed.ValType.TheVariants as val
use Rattle.pc_types.specs.declared.types.TypeDef.{TypeDef}
use Rattle.pc_types.specs.Names.{are_distinct, distinct_names, same_pair}
use Rattle.pc_types.specs.Record.{is_typed}
use Rattle.pc_types.specs.Table.{is_none_or, is_some_and}
use Rattle.pc_types.specs.Table.{is_sound_entry, is_sound_val, holds_value, is_value, is_resource}
use Rattle.pc_types.specs.Table.{is_defined_type}
use Rattle.pc_types_convert.specs.Needed.{Each, parts_of, val_parts, maybe_parts, field_parts, case_parts, entity_parts}
use Rattle.pc_types_convert.specs.Needed.{extern_parts}
use Rattle.pc_types_convert.specs.Parts.{IsReady, MayBeReady, IsThere, HasHandles}
use Rattle.pc_types_builder.specs.Converted.{IsOfKind}
use Rattle.pc_types_convert.specs.Steps.{IsReadyEntry}
use Rattle.pc_types_convert.proofs.AmongLemmas.{each_front, each_back}
use Rattle.pc_types_convert.proofs.SoundLemmas.{found_by}
use Rattle.pc_types_builder.proofs.KindLemmas.{defined_kind, resource_kind}

-- an item of each that passes a test
all_of_all : {A : Type 0} (P : A → Type 0) (Q : ℕ → Type 0) (test : A → Bool) (parts : A → List ℕ)
    → ((x : A) → test x ≡ true → Each Q (parts x) → P x) → (xs : List A) → list_all test xs ≡ true
    → Each Q (flat_map parts xs) → All P xs
all_of_all P Q test parts one [] h q = λ k d below. absurd (omega (arith, below))
all_of_all P Q test parts one (x ∷ xs) h q =
    let both = and_true (test x) (list_all test xs) h in
    All-cons P x xs (one x both.0 (each_front Q (parts x) (flat_map parts xs) q))
    (all_of_all P Q test parts one xs both.1 (each_back Q (parts x) (flat_map parts xs) q))

-- each item of a list that passes a test passes it
all_passed : {A : Type 0} (test : A → Bool) (xs : List A) → list_all test xs ≡ true → All (λ x. test x ≡ true) xs
all_passed test [] h = λ k d below. absurd (omega (arith, below))
all_passed test (x ∷ xs) h =
    let both = and_true (test x) (list_all test xs) h in
    All-cons (λ y. test y ≡ true) x xs both.0 (all_passed test xs both.1)

-- neither of two tests passes
or_false : (a b : Bool) → (a || b) ≡ false → (a ≡ false) × (b ≡ false)
or_false true b h = absurd (true≢false h)
or_false false b h = (refl, h)

-- What is ready for the conversion of an entry: a part is done, with a type of its kind.
module _ (t : TypeTable) (earlier : List DeclType) (done : List (Option TypeDef)) where
  -- a part is done, with a type of its kind
  abbrev pub IsDonePart : ℕ → Type 0
  IsDonePart p =
      (d : TypeDef) × (slice_get done p ≡ Some (Some d))
      × ((f : DeclType) → slice_get earlier p ≡ Some f → IsOfKind f d)

  -- a value type
  val_ready : (v : ValType) → is_sound_val earlier v ≡ true → Each IsDonePart (val_parts v) → IsReady done v
  val_ready (val.Prim p) h q = tt
  val_ready (val.Type_ n) h q =
      let found = found_by is_defined_type (slice_get earlier n) h in
      let w = defined_kind found.0 q.0.0 found.2 (q.0.2 found.0 found.1) in
      (w.0, q.0.1 ∙ ap (λ d. Some (Some d)) w.1)

  -- one that may be left out
  maybe_ready : (v : Option ValType) → is_none_or (is_sound_val earlier) v ≡ true → Each IsDonePart (maybe_parts v)
      → MayBeReady done v
  maybe_ready None h q = tt
  maybe_ready (Some v) h q = val_ready v h q

  -- a resource whose handles are named
  handles_ready : (n : ℕ) → is_some_and is_resource (slice_get earlier n) ≡ true → IsDonePart n → HasHandles done n
  handles_ready n h q =
      let found = found_by is_resource (slice_get earlier n) h in
      let i = resource_kind found.0 q.0 found.2 (q.2 found.0 found.1) in
      (i.0, q.1 ∙ ap (λ d. Some (Some d)) i.1)

  -- an entity
  entity_ready : (e : Entity) → is_value e ≡ false → Each IsDonePart (entity_parts e) → IsThere done e
  entity_ready (entity.Func n) h q = (q.0.0, q.0.1)
  entity_ready (entity.Instance n) h q = (q.0.0, q.0.1)
  entity_ready (entity.Component n) h q = (q.0.0, q.0.1)
  entity_ready (entity.Module n) h q = (q.0.0, q.0.1)
  entity_ready (entity.Type_ n) h q = (q.0.0, q.0.1)
  entity_ready entity.Value h q = absurd (true≢false h)

  -- fields
  fields_ready : (fs : List (List ℕ × ValType))
      → (list_all (λ (f : List ℕ × ValType). is_sound_val earlier f.1) fs && distinct_names (names_of fs)) ≡ true
      → Each IsDonePart (flat_map field_parts fs) → All (λ (f : List ℕ × ValType). IsReady done f.1) fs
  fields_ready fs h q =
      all_of_all (λ (f : List ℕ × ValType). IsReady done f.1) IsDonePart
      (λ (f : List ℕ × ValType). is_sound_val earlier f.1) field_parts
      (λ f k r. val_ready f.1 k r) fs
      (and_true (list_all (λ (f : List ℕ × ValType). is_sound_val earlier f.1) fs) (distinct_names (names_of fs)) h).0 q

  -- cases
  cases_ready : (cs : List (List ℕ × Option ValType))
      →
      (list_all (λ (c : List ℕ × Option ValType). is_none_or (is_sound_val earlier) c.1) cs
      && distinct_names (names_of cs)) ≡ true
      → Each IsDonePart (flat_map case_parts cs) → All (λ (c : List ℕ × Option ValType). MayBeReady done c.1) cs
  cases_ready cs h q =
      all_of_all (λ (c : List ℕ × Option ValType). MayBeReady done c.1) IsDonePart
      (λ (c : List ℕ × Option ValType). is_none_or (is_sound_val earlier) c.1) case_parts
      (λ c k r. maybe_ready c.1 k r) cs
      (and_true (list_all (λ (c : List ℕ × Option ValType). is_none_or (is_sound_val earlier) c.1) cs)
      (distinct_names (names_of cs)) h).0 q

  -- named entities
  externs_ready : (es : List (List ℕ × Entity)) → list_any (λ (e : List ℕ × Entity). is_value e.1) es ≡ false
      → Each IsDonePart (flat_map extern_parts es) → All (λ (e : List ℕ × Entity). IsThere done e.1) es
  externs_ready [] h q = λ k d below. absurd (omega (arith, below))
  externs_ready (e ∷ es) h q =
      let both = or_false (is_value e.1) (list_any (λ (f : List ℕ × Entity). is_value f.1) es) h in
      All-cons (λ (f : List ℕ × Entity). IsThere done f.1) e es
      (entity_ready e.1 both.0 (each_front IsDonePart (extern_parts e) (flat_map extern_parts es) q))
      (externs_ready es both.1 (each_back IsDonePart (extern_parts e) (flat_map extern_parts es) q))

  -- a sound entry is ready where its parts are done
  pub ready_entry : (e : DeclType) → is_sound_entry t earlier e ≡ true → holds_value e ≡ false
      → Each IsDonePart (parts_of e) → IsReadyEntry t done e
  ready_entry entry.Resource h v q = tt
  ready_entry (entry.Func params result is_async) h v q =
      let both = and_true
      (list_all (λ (f : List ℕ × ValType). is_sound_val earlier f.1) params && distinct_names (names_of params))
      (is_none_or (is_sound_val earlier) result) h in (
        fields_ready params both.0 (each_front IsDonePart (flat_map field_parts params) (maybe_parts result) q),
        maybe_ready result both.1 (each_back IsDonePart (flat_map field_parts params) (maybe_parts result) q),
      )
  ready_entry (entry.Val x) h v q = val_ready x h q
  ready_entry (entry.Record fields) h v q = fields_ready fields h q
  ready_entry (entry.Variant cases) h v q = cases_ready cases h q
  ready_entry (entry.List x) h v q = val_ready x h q
  ready_entry (entry.Tuple vs) h v q =
      all_of_all (IsReady done) IsDonePart (is_sound_val earlier) val_parts val_ready vs h q
  ready_entry (entry.Flags names) h v q = tt
  ready_entry (entry.Enum names) h v q = tt
  ready_entry (entry.Option x) h v q = val_ready x h q
  ready_entry (entry.Result ok err) h v q =
      let both = and_true (is_none_or (is_sound_val earlier) ok) (is_none_or (is_sound_val earlier) err) h in (
        maybe_ready ok both.0 (each_front IsDonePart (maybe_parts ok) (maybe_parts err) q),
        maybe_ready err both.1 (each_back IsDonePart (maybe_parts ok) (maybe_parts err) q),
      )
  ready_entry (entry.Own n) h v q = handles_ready n h q.0
  ready_entry (entry.Borrow n) h v q = handles_ready n h q.0
  ready_entry (entry.Stream x) h v q = maybe_ready x h q
  ready_entry (entry.Future x) h v q = maybe_ready x h q
  ready_entry (entry.Instance exports) h v q = externs_ready exports v q
  ready_entry (entry.Component imports exports) h v q =
      let both = or_false (list_any (λ (e : List ℕ × Entity). is_value e.1) imports)
      (list_any (λ (e : List ℕ × Entity). is_value e.1) exports) v in (
        externs_ready imports both.0
            (each_front IsDonePart (flat_map extern_parts imports) (flat_map extern_parts exports) q),
        externs_ready exports both.1
            (each_back IsDonePart (flat_map extern_parts imports) (flat_map extern_parts exports) q),
      )
  ready_entry (entry.Module imports exports) h v q =
      let typed_imports = list_all (λ (i : List ℕ × List ℕ × CoreEntity). is_typed t i.2) imports in
      let typed_exports = list_all (λ (e : List ℕ × CoreEntity). is_typed t e.1) exports in
      let distinct_imports = are_distinct same_pair (map (λ (i : List ℕ × List ℕ × CoreEntity). (i.0, i.1)) imports) in
      let distinct_exports = distinct_names (names_of exports) in
      let both = and_true typed_imports typed_exports
      (and_true (typed_imports && typed_exports) distinct_imports
      (and_true (typed_imports && typed_exports && distinct_imports) distinct_exports h).0).0 in (
        all_passed (λ (i : List ℕ × List ℕ × CoreEntity). is_typed t i.2) imports both.0,
        all_passed (λ (e : List ℕ × CoreEntity). is_typed t e.1) exports both.1,
      )
