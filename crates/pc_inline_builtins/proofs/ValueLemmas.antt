-- In a sound table the entries of defined types are value types.
use Rattle.std.proofs.Common.{◌≡◌, ℕ, zero, suc, List, [], ◌∷◌, ◌++◌, length, Option, Some, None, Bool, true, false}
use Rattle.std.proofs.Common.{◌⊎◌, inl, inr, refl, sym, ap, ◌∙◌, subst, arith, true≢false}
use Rattle.std.specs.Prelude.{slice_get, option_and_then, if◌then◌else◌}
use Rattle.std.specs.Option.{option_map}
use Rattle.std.proofs.lemmas.List.{append_assoc, append-nil, length-append}
use Rattle.std.proofs.lemmas.Option.{none-some, same_Some, slice_get_within}
use Rattle.pc_entity.proofs.Growing.{slice_get-append_seam}
use Rattle.pc_numbers.specs.declared.runtime.ResourceIndex.{ResourceIndex}
use Rattle.pc_types.specs.declared.parsed.DeclType.{DeclType}
use Rattle.pc_types.specs.declared.parsed.DeclType.TheVariants as entry
use Rattle.pc_types.specs.declared.parsed.PrimType.{PrimType}
use Rattle.pc_types.specs.declared.parsed.PrimType.TheVariants as prim
use Rattle.pc_types.specs.declared.parsed.TypeTable.{TypeTable}
use Rattle.pc_types.specs.declared.parsed.ValType.TheVariants as val
use Rattle.pc_types.specs.declared.types.InterfaceType.{InterfaceType}
use Rattle.pc_types.specs.declared.types.TypeDef.{TypeDef}
use Rattle.pc_types.specs.declared.types.TypeDef.TheVariants as def
use Rattle.pc_types.specs.Table.{bad_entry, fault_from, fault_or, holds_value, is_defined_type, is_some_and}
use Rattle.pc_types.specs.Table.{is_sound_entry, table_fault, value_entry}
use Rattle.pc_types.specs.TypeTree.{Identity, TypeTree, borrow_of, borrow_tree, component_of, declared}
use Rattle.pc_types.specs.TypeTree.{entry_tree, error_context, func_of, instance_of, list_of, module_of}
use Rattle.pc_types.specs.TypeTree.{enum_of, flags_of, future_of, option_of, own_of, own_tree, primitive}
use Rattle.pc_types.specs.TypeTree.{record_of, resource_of, result_of, stream_of, tree_of, trees_from, tuple_of, val_tree}
use Rattle.pc_types.specs.TypeTree.{variant_of}
use Rattle.pc_types_lists.specs.Trees.{HasTree}
use Rattle.pc_types_lists.specs.Types.{Types}
use Rattle.pc_types_builder.specs.Trees.{IsEntry, identities}
use Rattle.pc_spec_reading.specs.Types.{has_entry}

-- whether a tree is that of a value type
abbrev is_of_value : TypeTree → Bool
is_of_value (resource_of r) = false
is_of_value (func_of params result is_async) = false
is_of_value (instance_of exports) = false
is_of_value (component_of imports exports) = false
is_of_value (module_of imports exports) = false
is_of_value tree = true

-- what is made of something that may be missing is a value type
made_value : {A : Type 0} (f : A → TypeTree) → ((x : A) → is_of_value (f x) ≡ true) → (o : Option A) (tree : TypeTree)
    → option_map f o ≡ Some tree → is_of_value tree ≡ true
made_value f each None tree is = absurd (none-some tree is)
made_value f each (Some x) tree is = subst (λ y. is_of_value y ≡ true) (same_Some (f x) tree is) (each x)

-- and of two such things
made_both : {A B : Type 0} (f : A → B → TypeTree) → ((x : A) (y : B) → is_of_value (f x y) ≡ true) → (o : Option A)
    (p : Option B) (tree : TypeTree) → option_and_then (λ x. option_map (f x) p) o ≡ Some tree
    → is_of_value tree ≡ true
made_both f each None p tree is = absurd (none-some tree is)
made_both f each (Some x) p tree is = made_value (f x) (each x) p tree is

-- a handle is
own_value : (o : Option TypeTree) (tree : TypeTree) → option_and_then own_tree o ≡ Some tree → is_of_value tree ≡ true
own_value None tree is = absurd (none-some tree is)
own_value (Some (resource_of r)) tree is = subst (λ y. is_of_value y ≡ true) (same_Some (own_of r) tree is) refl
own_value (Some x) tree is = absurd (none-some tree is)

borrow_value : (o : Option TypeTree) (tree : TypeTree) → option_and_then borrow_tree o ≡ Some tree
    → is_of_value tree ≡ true
borrow_value None tree is = absurd (none-some tree is)
borrow_value (Some (resource_of r)) tree is = subst (λ y. is_of_value y ≡ true) (same_Some (borrow_of r) tree is) refl
borrow_value (Some x) tree is = absurd (none-some tree is)

-- what is found by a test passes it
found_by : {A : Type 0} (p : A → Bool) (o : Option A) → is_some_and p o ≡ true → (x : A) × (o ≡ Some x) × (p x ≡ true)
found_by p None h = absurd (true≢false (sym h))
found_by p (Some x) h = (x, refl, h)

-- the tree that stands at a number
at_number : (o : Option (Option TypeTree)) (tree : TypeTree) → option_and_then (λ x. x) o ≡ Some tree
    → o ≡ Some (Some tree)
at_number None tree is = absurd (none-some tree is)
at_number (Some x) tree is = ap Some is

-- what is found in a list with one item more was there, or is that item
in_push : {A : Type 0} (xs : List A) (y : A) (n : ℕ) (x : A) → slice_get (xs ++ y ∷ []) n ≡ Some x
    → (slice_get xs n ≡ Some x) ⊎ ((n ≡ length xs) × (y ≡ x))
in_push [] y zero x h = inr (refl, same_Some y x h)
in_push [] y (suc n) x h = absurd (none-some x h)
in_push (z ∷ xs) y zero x h = inl h
in_push (z ∷ xs) y (suc n) x h = elim (in_push xs y n x h) as
    (λ _. (slice_get xs n ≡ Some x) ⊎ ((suc n ≡ suc (length xs)) × (y ≡ x))) [
      | inl old ↦ inl old
      | inr new ↦ inr (ap suc new.0, new.1)
    ]

module _ (known : List (ℕ × Identity)) (c : ℕ) (t : TypeTable) where
  -- the entries of defined types among these have trees of value types
  abbrev AreValues : List DeclType → List (Option TypeTree) → Type 0
  AreValues earlier trees =
      (n : ℕ) (e : DeclType) (tree : TypeTree) → slice_get earlier n ≡ Some e → is_defined_type e ≡ true
      → slice_get trees n ≡ Some (Some tree) → is_of_value tree ≡ true

  -- a primitive
  prim_value : (p : PrimType) (trees : List (Option TypeTree)) (tree : TypeTree)
      → val_tree known c t trees (val.Prim p) ≡ Some tree → is_of_value tree ≡ true
  prim_value prim.ErrorContext trees tree is =
      subst (λ y. is_of_value y ≡ true) (same_Some (error_context c) tree is) refl
  prim_value p trees tree is = subst (λ y. is_of_value y ≡ true) (same_Some (primitive p) tree is) refl

  module _ (earlier : List DeclType) (trees : List (Option TypeTree)) (are : AreValues earlier trees) where
    -- a sound entry of a defined type
    entry_value : (e : DeclType) → is_sound_entry t earlier e ≡ true → is_defined_type e ≡ true → (tree : TypeTree)
        → entry_tree known c t trees e ≡ Some tree → is_of_value tree ≡ true
    entry_value entry.Resource sound h tree is = absurd (true≢false (sym h))
    entry_value (entry.Func params result is_async) sound h tree is = absurd (true≢false (sym h))
    entry_value (entry.Val (val.Prim p)) sound h tree is = prim_value p trees tree is
    entry_value (entry.Val (val.Type_ n)) sound h tree is =
        let f = found_by is_defined_type (slice_get earlier n) sound in
        are n f.0 tree f.1 f.2 (at_number (slice_get trees n) tree is)
    entry_value (entry.Record fields) sound h tree is = made_value record_of (λ x. refl) _ tree is
    entry_value (entry.Variant cases) sound h tree is = made_value variant_of (λ x. refl) _ tree is
    entry_value (entry.List v) sound h tree is = made_value list_of (λ x. refl) _ tree is
    entry_value (entry.Tuple vs) sound h tree is = made_value tuple_of (λ x. refl) _ tree is
    entry_value (entry.Flags names) sound h tree is =
        subst (λ y. is_of_value y ≡ true) (same_Some (flags_of names) tree is) refl
    entry_value (entry.Enum names) sound h tree is =
        subst (λ y. is_of_value y ≡ true) (same_Some (enum_of names) tree is) refl
    entry_value (entry.Option v) sound h tree is = made_value option_of (λ x. refl) _ tree is
    entry_value (entry.Result ok err) sound h tree is = made_both result_of (λ x y. refl) _ _ tree is
    entry_value (entry.Own n) sound h tree is = own_value _ tree is
    entry_value (entry.Borrow n) sound h tree is = borrow_value _ tree is
    entry_value (entry.Stream v) sound h tree is = made_value (λ p. stream_of p c) (λ x. refl) _ tree is
    entry_value (entry.Future v) sound h tree is = made_value (λ p. future_of p c) (λ x. refl) _ tree is
    entry_value (entry.Instance exports) sound h tree is = absurd (true≢false (sym h))
    entry_value (entry.Component imports exports) sound h tree is = absurd (true≢false (sym h))
    entry_value (entry.Module imports exports) sound h tree is = absurd (true≢false (sym h))

    -- with one entry more
    push_values : length trees ≡ length earlier → (e : DeclType) → is_sound_entry t earlier e ≡ true
        → AreValues (earlier ++ e ∷ []) (trees ++ entry_tree known c t trees e ∷ [])
    push_values same e sound n g tree at h is =
        elim (in_push earlier e n g at) as (λ _. is_of_value tree ≡ true) [
          | inl old ↦ are n g tree old h
              (elim (in_push trees (entry_tree known c t trees e) n (Some tree) is)
              as (λ _. slice_get trees n ≡ Some (Some tree)) [
                | inl before ↦ before
                | inr last ↦ absurd (omega (arith, last.0, same, slice_get_within earlier n g old))
              ])
          | inr new ↦ entry_value e sound (subst (λ d. is_defined_type d ≡ true) (sym new.1) h) tree
              (same_Some (entry_tree known c t trees e) (Some tree)
              (sym (slice_get-append_seam trees (entry_tree known c t trees e) [])
              ∙ ap (slice_get (trees ++ entry_tree known c t trees e ∷ [])) (same ∙ sym new.0) ∙ is))
        ]

  -- an entry without a fault is sound, and those after it have no fault
  unfaulted : (earlier es : List DeclType) (e : DeclType) → fault_from t earlier (e ∷ es) ≡ None
      → (is_sound_entry t earlier e ≡ true) × (fault_from t (earlier ++ e ∷ []) es ≡ None)
  unfaulted earlier es e h = by (is_sound_entry t earlier e) (holds_value e) h
    where
      by : (sound value : Bool)
          → fault_or (length earlier)
          (if sound then (if value then Some value_entry else None) else Some bad_entry)
          (fault_from t (earlier ++ e ∷ []) es) ≡ None
          → (sound ≡ true) × (fault_from t (earlier ++ e ∷ []) es ≡ None)
      by true true k = absurd (none-some _ (sym k))
      by true false k = (refl, k)
      by false value k = absurd (none-some _ (sym k))

  -- all entries of defined types
  values_from : (earlier es : List DeclType) (trees : List (Option TypeTree)) → length trees ≡ length earlier
      → AreValues earlier trees → fault_from t earlier es ≡ None
      → AreValues (earlier ++ es) (trees_from known c t trees es)
  values_from earlier [] trees same are none =
      subst (λ (es : List DeclType). AreValues es trees) (sym (append-nil earlier)) are
  values_from earlier (e ∷ es) trees same are none =
      let one = entry_tree known c t trees e ∷ [] in
      let next = trees ++ one in
      let here = unfaulted earlier es e none in
      let long : length next ≡ length (earlier ++ e ∷ []) =
      omega (arith, same, length-append trees one, length-append earlier (e ∷ [])) in
      subst (λ (all : List DeclType). AreValues all (trees_from known c t next es))
      (append_assoc earlier (e ∷ []) es)
      (values_from (earlier ++ e ∷ []) es next long (push_values earlier trees are same e here.0) here.1)

  -- the tree of a number that is one of a defined type
  defined_value : table_fault t ≡ None → (n : ℕ) → has_entry t is_defined_type n ≡ true → (tree : TypeTree)
      → tree_of known c t n ≡ Some tree → is_of_value tree ≡ true
  defined_value sound n has tree is =
      let f = found_by is_defined_type (slice_get t.types n) has in
      values_from [] t.types [] refl (λ k e x at. absurd (none-some e at)) sound n f.0 tree f.1 f.2
      (at_number _ tree is)

-- a type with the tree of a value type is a value type
value_type : (b : Types) (who : ResourceIndex → Identity) (d : TypeDef) (tree : TypeTree) → HasTree b who d tree
    → is_of_value tree ≡ true → (w : InterfaceType) × (d ≡ def.Interface w)
value_type b who d (primitive p) h is = (_, h.1)
value_type b who d (error_context c) h is = (_, h.1)
value_type b who d (record_of fs) h is = (_, h.2)
value_type b who d (variant_of cs) h is = (_, h.2)
value_type b who d (list_of x) h is = (_, h.2)
value_type b who d (tuple_of xs) h is = (_, h.2)
value_type b who d (flags_of names) h is = (_, h.1)
value_type b who d (enum_of names) h is = (_, h.1)
value_type b who d (option_of x) h is = (_, h.2)
value_type b who d (result_of ok err) h is = (_, h.2)
value_type b who d (own_of r) h is = (_, h.1)
value_type b who d (borrow_of r) h is = (_, h.1)
value_type b who d (stream_of x c) h is = (_, h.2)
value_type b who d (future_of x c) h is = (_, h.2)
value_type b who d tree h is = absurd (true≢false (sym is))

-- the type of an entry that is a defined type is a value type
pub defined_interface : (b : Types) (t : TypeTable) → table_fault t ≡ None → (n : ℕ) (d : TypeDef)
    → has_entry t is_defined_type n ≡ true → IsEntry b t n d → (w : InterfaceType) × (d ≡ def.Interface w)
defined_interface b t sound n d has is =
    let who = (λ (r : ResourceIndex). declared 0) in
    let x = is who in
    value_type b who d x.0 x.2
    (defined_value (identities who b.resources.known) b.resources.current.0 t sound n has x.0 x.1)
