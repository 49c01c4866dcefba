-- Each entry of a sound table has a tree, whatever is known.
use Rattle.std.proofs.Common.{◌≡◌, ℕ, zero, suc, List, [], ◌∷◌, ◌++◌, length, Option, Some, None, Bool, true, false}
use Rattle.std.proofs.Common.{◌⊎◌, inl, inr, refl, sym, ap, ◌∙◌, subst, arith, true≢false}
use Rattle.std.specs.Prelude.{slice_get, option_and_then, if◌then◌else◌, ◌||◌}
use Rattle.std.specs.List.{list_all, list_any}
use Rattle.std.proofs.lemmas.Bool.{ltb-true}
use Rattle.std.proofs.lemmas.List.{append_assoc, append-nil, length-append}
use Rattle.std.proofs.lemmas.Option.{none-some, same_Some}
use Rattle.pc_entity.specs.Lists.{map_all}
use Rattle.pc_entity.proofs.Elements.{and_true}
use Rattle.pc_entity.proofs.Growing.{slice_get-append, slice_get-append_seam}
use Rattle.pc_entity.proofs.LookupLemmas.{found_at}
use Rattle.pc_entity.proofs.MapAll.{map_all_cons}
use Rattle.pc_types.specs.declared.parsed.CoreEntity.{CoreEntity}
use Rattle.pc_types.specs.declared.parsed.CoreEntity.TheVariants as core
use Rattle.pc_types.specs.declared.parsed.DeclType.{DeclType}
use Rattle.pc_types.specs.declared.parsed.DeclType.TheVariants as entry
use Rattle.pc_types.specs.declared.parsed.Entity.{Entity}
use Rattle.pc_types.specs.declared.parsed.Entity.TheVariants as entity
use Rattle.pc_types.specs.declared.parsed.PrimType.TheVariants as prim
use Rattle.pc_types.specs.declared.parsed.TypeTable.{TypeTable}
use Rattle.pc_types.specs.declared.parsed.ValType.{ValType}
use Rattle.pc_types.specs.declared.parsed.ValType.TheVariants as val
use Rattle.pc_types.specs.Record.{is_typed}
use Rattle.pc_types.specs.Table.{EntryFault, fault_from, fault_or, holds_value}
use Rattle.pc_types.specs.Table.{is_defined_type, is_func, is_instance, is_component, is_module, is_resource, is_value}
use Rattle.pc_types.specs.Table.{is_none_or, is_some_and, is_sound_entity, is_sound_entry, is_sound_val, table_fault}
use Rattle.pc_types.specs.TypeTree.{Identity, Resource, TypeTree, Fields, Cases, Trees, MaybeTree, CoreTree}
use Rattle.pc_types.specs.TypeTree.{primitive, error_context, record_of, variant_of, list_of, tuple_of, flags_of}
use Rattle.pc_types.specs.TypeTree.{enum_of, option_of, result_of, own_of, borrow_of, stream_of, future_of, func_of}
use Rattle.pc_types.specs.TypeTree.{instance_of, component_of, module_of, resource_of, no_fields, and_field, no_cases}
use Rattle.pc_types.specs.TypeTree.{and_case, no_trees, and_tree, no_tree, a_tree, core_func, core_table, core_memory}
use Rattle.pc_types.specs.TypeTree.{core_global, core_tag, core_tree, module_import_tree, module_export_tree}
use Rattle.pc_types.specs.TypeTree.{own_tree, borrow_tree, resource_from, identity_of, earlier_tree, val_tree}
use Rattle.pc_types.specs.TypeTree.{maybe_tree, entity_tree, fields_tree, externs_tree, cases_tree, vals_tree}
use Rattle.pc_types.specs.TypeTree.{entry_tree, trees_from, tree_of}
use Rattle.pc_spec_reading.specs.Scope.{Scope}
use Rattle.pc_spec_reading.specs.Types.{has_entry, tree_if, type_tree}

-- the tree of a resource is one of a resource
abbrev IsOfResource : DeclType → TypeTree → Type 0
IsOfResource e tree = is_resource e ≡ true → (r : Resource) × (tree ≡ resource_of r)

-- an entry has its tree at its number among these
record HasPlaced (trees : List (Option TypeTree)) (n : ℕ) (e : DeclType) : Type 0 where
  pub tree : TypeTree
  pub there : slice_get trees n ≡ Some (Some tree)
  pub resource : IsOfResource e tree

-- each of these entries has
abbrev HavePlaced : List DeclType → List (Option TypeTree) → Type 0
HavePlaced earlier trees = (n : ℕ) (e : DeclType) → slice_get earlier n ≡ Some e → HasPlaced trees n e

-- what passes a test is there
pub found_by : {A : Type 0} (p : A → Bool) (o : Option A) → is_some_and p o ≡ true
    → (x : A) × (o ≡ Some x) × (p x ≡ true)
found_by p None h = absurd (true≢false (sym h))
found_by p (Some x) h = (x, refl, h)

-- neither of two tests passes
or_false : (a b : Bool) → (a || b) ≡ false → (a ≡ false) × (b ≡ false)
or_false true b h = absurd (true≢false h)
or_false false b h = (refl, h)

-- what is found in a list with one item more was there, or is that item
pub in_push : {A : Type 0} (xs : List A) (y : A) (n : ℕ) (x : A) → slice_get (xs ++ y ∷ []) n ≡ Some x
    → (slice_get xs n ≡ Some x) ⊎ ((n ≡ length xs) × (y ≡ x))
in_push [] y zero x h = inr (refl, same_Some y x h)
in_push [] y (suc n) x h = absurd (none-some x h)
in_push (z ∷ xs) y zero x h = inl h
in_push (z ∷ xs) y (suc n) x h = elim (in_push xs y n x h) as
    (λ _. (slice_get xs n ≡ Some x) ⊎ ((suc n ≡ suc (length xs)) × (y ≡ x))) [
      | inl old ↦ inl old
      | inr new ↦ inr (ap suc new.0, new.1)
    ]

module _ (known : List (ℕ × Identity)) (c : ℕ) (t : TypeTable) where
  -- an entity of a core module has a tree
  core_has : (e : CoreEntity) → is_typed t e ≡ true → (tree : CoreTree) × (core_tree t e ≡ Some tree)
  core_has (core.Func s) h =
      let found = found_at t.core_funcs s (ltb-true s (length t.core_funcs) h) in
      (core_func found.0, rw found.1 refl)
  core_has core.Table h = (core_table, refl)
  core_has (core.Memory wide) h = (core_memory wide, refl)
  core_has core.Global h = (core_global, refl)
  core_has core.Tag h = (core_tag, refl)

  -- so has each item of a list, where each that passes a test has
  all_have : {A B : Type 0} (f : A → Option B) (p : A → Bool) → ((x : A) → p x ≡ true → (y : B) × (f x ≡ Some y))
      → (xs : List A) → list_all p xs ≡ true → (ys : List B) × (map_all f xs ≡ Some ys)
  all_have f p each [] h = ([], refl)
  all_have f p each (x ∷ xs) h =
      let both = and_true (p x) (list_all p xs) h in
      let first = each x both.0 in
      let rest = all_have f p each xs both.1 in
      (first.0 ∷ rest.0, map_all_cons f x xs first.0 rest.0 first.1 rest.1)

  -- a sound entry has a tree, where the earlier ones have theirs
  module _ (earlier : List DeclType) (trees : List (Option TypeTree)) (are : HavePlaced earlier trees) where
    -- an earlier entry
    earlier_has : (n : ℕ) (e : DeclType) → slice_get earlier n ≡ Some e
        → (tree : TypeTree) × (earlier_tree known c t trees n ≡ Some tree)
    earlier_has n e at = let x = are n e at in (x.tree, ap (option_and_then (λ o. o)) x.there)

    -- an earlier entry that passes a test
    tested_has : (p : DeclType → Bool) (n : ℕ) → is_some_and p (slice_get earlier n) ≡ true
        → (tree : TypeTree) × (earlier_tree known c t trees n ≡ Some tree)
    tested_has p n h = let f = found_by p (slice_get earlier n) h in earlier_has n f.0 f.1

    -- an earlier resource
    resource_has : (n : ℕ) → is_some_and is_resource (slice_get earlier n) ≡ true
        → (r : Resource) × (earlier_tree known c t trees n ≡ Some (resource_of r))
    resource_has n h =
        let f = found_by is_resource (slice_get earlier n) h in
        let x = are n f.0 f.1 in
        let r = x.resource f.2 in
        (r.0, ap (option_and_then (λ o. o)) x.there ∙ ap (λ (y : TypeTree). Some y) r.1)

    -- a value type
    val_has : (v : ValType) → is_sound_val earlier v ≡ true
        → (tree : TypeTree) × (val_tree known c t trees v ≡ Some tree)
    val_has (val.Prim prim.Bool) h = (primitive prim.Bool, refl)
    val_has (val.Prim prim.S8) h = (primitive prim.S8, refl)
    val_has (val.Prim prim.U8) h = (primitive prim.U8, refl)
    val_has (val.Prim prim.S16) h = (primitive prim.S16, refl)
    val_has (val.Prim prim.U16) h = (primitive prim.U16, refl)
    val_has (val.Prim prim.S32) h = (primitive prim.S32, refl)
    val_has (val.Prim prim.U32) h = (primitive prim.U32, refl)
    val_has (val.Prim prim.S64) h = (primitive prim.S64, refl)
    val_has (val.Prim prim.U64) h = (primitive prim.U64, refl)
    val_has (val.Prim prim.F32) h = (primitive prim.F32, refl)
    val_has (val.Prim prim.F64) h = (primitive prim.F64, refl)
    val_has (val.Prim prim.Char) h = (primitive prim.Char, refl)
    val_has (val.Prim prim.String) h = (primitive prim.String, refl)
    val_has (val.Prim prim.ErrorContext) h = (error_context c, refl)
    val_has (val.Type_ n) h = tested_has is_defined_type n h

    -- a value type that may be left out
    maybe_has : (v : Option ValType) → is_none_or (is_sound_val earlier) v ≡ true
        → (tree : MaybeTree) × (maybe_tree known c t trees v ≡ Some tree)
    maybe_has None h = (no_tree, refl)
    maybe_has (Some v) h = let x = val_has v h in (a_tree x.0, rw x.1 refl)

    -- named value types
    fields_have : (fs : List (List ℕ × ValType))
        → list_all (λ (f : List ℕ × ValType). is_sound_val earlier f.1) fs ≡ true
        → (tree : Fields) × (fields_tree known c t trees fs ≡ Some tree)
    fields_have [] h = (no_fields, refl)
    fields_have (f ∷ fs) h =
        let both = and_true _ _ h in
        let x = val_has f.1 both.0 in
        let y = fields_have fs both.1 in
        (and_field f.0 x.0 y.0, rw (x.1, y.1) refl)

    -- named value types that may be left out
    cases_have : (xs : List (List ℕ × Option ValType))
        → list_all (λ (x : List ℕ × Option ValType). is_none_or (is_sound_val earlier) x.1) xs ≡ true
        → (tree : Cases) × (cases_tree known c t trees xs ≡ Some tree)
    cases_have [] h = (no_cases, refl)
    cases_have (x ∷ xs) h =
        let both = and_true _ _ h in
        let y = maybe_has x.1 both.0 in
        let z = cases_have xs both.1 in
        (and_case x.0 y.0 z.0, rw (y.1, z.1) refl)

    -- value types
    vals_have : (vs : List ValType) → list_all (is_sound_val earlier) vs ≡ true
        → (tree : Trees) × (vals_tree known c t trees vs ≡ Some tree)
    vals_have [] h = (no_trees, refl)
    vals_have (v ∷ vs) h =
        let both = and_true _ _ h in
        let x = val_has v both.0 in
        let y = vals_have vs both.1 in
        (and_tree x.0 y.0, rw (x.1, y.1) refl)

    -- an entity that is no component value
    entity_has : (e : Entity) → is_sound_entity earlier e ≡ true → is_value e ≡ false
        → (tree : TypeTree) × (entity_tree known c t trees e ≡ Some tree)
    entity_has (entity.Func n) h v = tested_has is_func n h
    entity_has (entity.Instance n) h v = tested_has is_instance n h
    entity_has (entity.Component n) h v = tested_has is_component n h
    entity_has (entity.Module n) h v = tested_has is_module n h
    entity_has (entity.Type_ n) h v =
        let f = found_at earlier n (ltb-true n (length earlier) h) in earlier_has n f.0 f.1
    entity_has entity.Value h v = absurd (true≢false v)

    -- named entities
    externs_have : (es : List (List ℕ × Entity))
        → list_all (λ (e : List ℕ × Entity). is_sound_entity earlier e.1) es ≡ true
        → list_any (λ (e : List ℕ × Entity). is_value e.1) es ≡ false
        → (tree : Fields) × (externs_tree known c t trees es ≡ Some tree)
    externs_have [] h v = (no_fields, refl)
    externs_have (e ∷ es) h v =
        let both = and_true _ _ h in
        let none = or_false _ _ v in
        let x = entity_has e.1 both.0 none.0 in
        let y = externs_have es both.1 none.1 in
        (and_field e.0 x.0 y.0, rw (x.1, y.1) refl)

    -- an entry has a tree
    abbrev Has : DeclType → Type 0
    Has e = (tree : TypeTree) × (entry_tree known c t trees e ≡ Some tree) × IsOfResource e tree

    -- the type of a module
    module_has : (imports : List (List ℕ × List ℕ × CoreEntity)) (exports : List (List ℕ × CoreEntity))
        → is_sound_entry t earlier (entry.Module imports exports) ≡ true → Has (entry.Module imports exports)
    module_has imports exports sound =
        let h1 = and_true _ _ sound in
        let h2 = and_true _ _ h1.0 in
        let h3 = and_true _ _ h2.0 in
        let is = all_have (module_import_tree t) (λ (i : List ℕ × List ℕ × CoreEntity). is_typed t i.2)
        (λ i h. let tree = core_has i.2 h in ((i.0, i.1, tree.0), rw tree.1 refl)) imports h3.0 in
        let es = all_have (module_export_tree t) (λ (x : List ℕ × CoreEntity). is_typed t x.1)
        (λ x h. let tree = core_has x.1 h in ((x.0, tree.0), rw tree.1 refl)) exports h3.1 in
        (module_of is.0 es.0, rw (is.1, es.1) refl, λ r. absurd (true≢false (sym r)))

    -- an entry that is sound and holds no component value
    entry_has : (e : DeclType) → is_sound_entry t earlier e ≡ true → holds_value e ≡ false → Has e
    entry_has entry.Resource h v =
        let r = resource_from c (length trees) (identity_of known (length trees)) in
        (resource_of r, refl, λ _. (r, refl))
    entry_has (entry.Func params result is_async) h v =
        let both = and_true _ _ h in
        let x = fields_have params (and_true _ _ both.0).0 in
        let y = maybe_has result both.1 in
        (func_of x.0 y.0 is_async, rw (x.1, y.1) refl, λ r. absurd (true≢false (sym r)))
    entry_has (entry.Val w) h v = let x = val_has w h in (x.0, x.1, λ r. absurd (true≢false (sym r)))
    entry_has (entry.Record fields) h v =
        let x = fields_have fields (and_true _ _ h).0 in
        (record_of x.0, rw x.1 refl, λ r. absurd (true≢false (sym r)))
    entry_has (entry.Variant cases) h v =
        let x = cases_have cases (and_true _ _ h).0 in
        (variant_of x.0, rw x.1 refl, λ r. absurd (true≢false (sym r)))
    entry_has (entry.List w) h v =
        let x = val_has w h in (list_of x.0, rw x.1 refl, λ r. absurd (true≢false (sym r)))
    entry_has (entry.Tuple vs) h v =
        let x = vals_have vs h in (tuple_of x.0, rw x.1 refl, λ r. absurd (true≢false (sym r)))
    entry_has (entry.Flags names) h v = (flags_of names, refl, λ r. absurd (true≢false (sym r)))
    entry_has (entry.Enum names) h v = (enum_of names, refl, λ r. absurd (true≢false (sym r)))
    entry_has (entry.Option w) h v =
        let x = val_has w h in (option_of x.0, rw x.1 refl, λ r. absurd (true≢false (sym r)))
    entry_has (entry.Result ok err) h v =
        let both = and_true _ _ h in
        let x = maybe_has ok both.0 in
        let y = maybe_has err both.1 in
        (result_of x.0 y.0, rw (x.1, y.1) refl, λ r. absurd (true≢false (sym r)))
    entry_has (entry.Own n) h v =
        let x = resource_has n h in
        (own_of x.0, ap (option_and_then own_tree) x.1, λ r. absurd (true≢false (sym r)))
    entry_has (entry.Borrow n) h v =
        let x = resource_has n h in
        (borrow_of x.0, ap (option_and_then borrow_tree) x.1, λ r. absurd (true≢false (sym r)))
    entry_has (entry.Stream w) h v =
        let x = maybe_has w h in (stream_of x.0 c, rw x.1 refl, λ r. absurd (true≢false (sym r)))
    entry_has (entry.Future w) h v =
        let x = maybe_has w h in (future_of x.0 c, rw x.1 refl, λ r. absurd (true≢false (sym r)))
    entry_has (entry.Instance exports) h v =
        let x = externs_have exports (and_true _ _ h).0 v in
        (instance_of x.0, rw x.1 refl, λ r. absurd (true≢false (sym r)))
    entry_has (entry.Component imports exports) h v =
        let both = and_true _ _ h in
        let none = or_false _ _ v in
        let x = externs_have imports (and_true _ _ both.0).0 none.0 in
        let y = externs_have exports (and_true _ _ both.1).0 none.1 in
        (component_of x.0 y.0, rw (x.1, y.1) refl, λ r. absurd (true≢false (sym r)))
    entry_has (entry.Module imports exports) h v = module_has imports exports h

  -- one entry more has its tree
  push_placed : (earlier : List DeclType) (trees : List (Option TypeTree)) → length trees ≡ length earlier
      → HavePlaced earlier trees → (e : DeclType) → is_sound_entry t earlier e ≡ true → holds_value e ≡ false
      → HavePlaced (earlier ++ e ∷ []) (trees ++ entry_tree known c t trees e ∷ [])
  push_placed earlier trees same are e sound none n g at =
      let one = entry_has earlier trees are e sound none in
      elim (in_push earlier e n g at) as
      (λ _. HasPlaced (trees ++ entry_tree known c t trees e ∷ []) n g) [
        | inl old ↦ (
            let x = are n g old in
            record {
              tree = x.tree;
              there = slice_get-append trees _ n (Some x.tree) x.there;
              resource = x.resource;
            })
        | inr new ↦ record {
          tree = one.0;
          there = ap (slice_get (trees ++ entry_tree known c t trees e ∷ [])) (new.0 ∙ sym same)
              ∙ slice_get-append_seam trees (entry_tree known c t trees e) []
              ∙ ap (λ (o : Option TypeTree). Some o) one.1;
          resource = subst (λ d. IsOfResource d one.0) new.1 one.2;
        }
      ]

  -- an entry without a fault is sound and holds no component value, and those after it have no fault
  unfaulted : (earlier es : List DeclType) (e : DeclType) → fault_from t earlier (e ∷ es) ≡ None
      → (is_sound_entry t earlier e ≡ true) × (holds_value e ≡ false) × (fault_from t (earlier ++ e ∷ []) es ≡ None)
  unfaulted earlier es e h = by (is_sound_entry t earlier e) (holds_value e) h
    where
      by : (sound value : Bool)
          → fault_or (length earlier)
          (if sound then (if value then Some EntryFault.value_entry else None) else Some EntryFault.bad_entry)
          (fault_from t (earlier ++ e ∷ []) es) ≡ None
          → (sound ≡ true) × (value ≡ false) × (fault_from t (earlier ++ e ∷ []) es ≡ None)
      by true true k = absurd (none-some _ (sym k))
      by true false k = (refl, refl, k)
      by false value k = absurd (none-some _ (sym k))

  -- all entries have their trees
  placed_from : (earlier es : List DeclType) (trees : List (Option TypeTree)) → length trees ≡ length earlier
      → HavePlaced earlier trees → fault_from t earlier es ≡ None
      → HavePlaced (earlier ++ es) (trees_from known c t trees es)
  placed_from earlier [] trees same are none =
      subst (λ (es : List DeclType). HavePlaced es trees) (sym (append-nil earlier)) are
  placed_from earlier (e ∷ es) trees same are none =
      let one = entry_tree known c t trees e ∷ [] in
      let next = trees ++ one in
      let here = unfaulted earlier es e none in
      let long : length next ≡ length (earlier ++ e ∷ []) =
      omega (arith, same, length-append trees one, length-append earlier (e ∷ [])) in
      subst (λ (all : List DeclType). HavePlaced all (trees_from known c t next es))
      (append_assoc earlier (e ∷ []) es)
      (placed_from (earlier ++ e ∷ []) es next long (push_placed earlier trees same are e here.0 here.1) here.2)

-- each entry of a sound table has a tree
has_tree : (t : TypeTable) → table_fault t ≡ None → (known : List (ℕ × Identity)) (c n : ℕ) (e : DeclType)
    → slice_get t.types n ≡ Some e → (tree : TypeTree) × (tree_of known c t n ≡ Some tree)
has_tree t sound known c n e at =
    let x = placed_from known c t [] t.types [] refl (λ k d h. absurd (none-some d h)) sound n e at in
    (x.tree, ap (option_and_then (λ o. o)) x.there)

-- each that passes a test
pub tested_tree : (t : TypeTable) → table_fault t ≡ None → (test : DeclType → Bool) (known : List (ℕ × Identity))
    (c n : ℕ) → has_entry t test n ≡ true → (tree : TypeTree) × (tree_of known c t n ≡ Some tree)
tested_tree t sound test known c n has =
    let f = found_by test (slice_get t.types n) has in has_tree t sound known c n f.0 f.1

-- the tree of an instance type
pub instance_tree : (t : TypeTable) → table_fault t ≡ None → (s : Scope) (n : ℕ) → has_entry t is_instance n ≡ true
    → (tree : TypeTree) × (tree_if t is_instance s n ≡ Some tree)
unfolding tree_if type_tree
instance_tree t sound s n has =
    let x = tested_tree t sound is_instance s.known s.component_instance n has in (x.0, rw (has) x.1)
