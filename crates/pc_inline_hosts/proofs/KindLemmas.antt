-- An entry of a sound table is an instance type, or a module type, where its tree is that of one.
use Rattle.std.proofs.Common.{◌≡◌, ℕ, ◌<◌, Bool, true, false, List, [], ◌∷◌, take, zero, suc}
use Rattle.std.proofs.Common.{Option, None, Some, refl, sym, ap, ◌∙◌, arith, true≢false}
use Rattle.std.specs.Prelude.{slice_get, option_and_then}
use Rattle.std.specs.Option.{option_map}
use Rattle.std.proofs.lemmas.Option.{none-some, same_Some}
use Rattle.pc_entity.specs.Lists.{Kept}
use Rattle.pc_types.specs.declared.parsed.DeclType.{DeclType}
use Rattle.pc_types.specs.declared.parsed.DeclType.TheVariants as entry
use Rattle.pc_types.specs.declared.parsed.PrimType.TheVariants as prim
use Rattle.pc_types.specs.declared.parsed.TypeTable.{TypeTable}
use Rattle.pc_types.specs.declared.parsed.ValType.{ValType}
use Rattle.pc_types.specs.declared.parsed.ValType.TheVariants as val
use Rattle.pc_types.specs.Table.{is_defined_type, is_instance, is_module, is_some_and, is_sound_entry, is_sound_val}
use Rattle.pc_types.specs.Table.{table_fault}
use Rattle.pc_types.specs.TypeTree.{CoreTree, Fields, Identity, TypeTree, borrow_of, borrow_tree, component_of, enum_of}
use Rattle.pc_types.specs.TypeTree.{error_context, entry_tree, flags_of, func_of, future_of, instance_of, list_of}
use Rattle.pc_types.specs.TypeTree.{module_of, option_of, own_of, own_tree, primitive, record_of, resource_of}
use Rattle.pc_types.specs.TypeTree.{result_of}
use Rattle.pc_types.specs.TypeTree.{stream_of, tree_of, trees_from, tuple_of, val_tree, variant_of}
use Rattle.pc_types_convert.proofs.SoundLemmas.{found_by, sound_at}
use Rattle.pc_spec_reading.specs.Types.{has_entry}
use Rattle.pc_inline_hosts.proofs.FieldLemmas.{both_inv, earlier_kept, map_inv, no_tree_past, tree_at}

-- the tree of a type that values have
abbrev pub is_value_tree : TypeTree → Bool
is_value_tree (func_of params result is_async) = false
is_value_tree (instance_of exports) = false
is_value_tree (component_of imports exports) = false
is_value_tree (module_of imports exports) = false
is_value_tree (resource_of r) = false
is_value_tree _ = true

-- the tree of an instance type
abbrev pub is_instance_tree : TypeTree → Bool
is_instance_tree (instance_of exports) = true
is_instance_tree _ = false

-- that of a module type
abbrev pub is_module_tree : TypeTree → Bool
is_module_tree (module_of imports exports) = true
is_module_tree _ = false

-- a tree that was made passes a test that all that are made so pass
passes : {A : Type 0} (test : TypeTree → Bool) (f : A → TypeTree) (r : Bool) → ((x : A) → test (f x) ≡ r)
    → (o : Option A)
    (tree : TypeTree) → option_map f o ≡ Some tree → test tree ≡ r
passes test f r all o tree h =
    let x = map_inv f o tree h in
    ap test (sym x.2) ∙ all x.0

-- the same of two parts
pub both_pass : {A B : Type 0} (test : TypeTree → Bool) (g : A → B → TypeTree) (r : Bool)
    → ((x : A) (y : B) → test (g x y) ≡ r) → (o : Option A) (p : Option B) (tree : TypeTree)
    → option_and_then (λ x. option_map (g x) p) o ≡ Some tree → test tree ≡ r
both_pass test g r all o p tree h =
    let x = both_inv g o p tree h in
    ap test (sym x.4) ∙ all x.0 x.1

-- an owned handle is a value
own_value : (o : Option TypeTree) (tree : TypeTree) → option_and_then own_tree o ≡ Some tree → is_value_tree tree ≡ true
own_value None tree h = absurd (none-some tree h)
own_value (Some (resource_of r)) tree h = ap is_value_tree (sym (same_Some (own_of r) tree h))
own_value (Some _) tree h = absurd (none-some tree h)

-- so is a borrowed one
borrow_value : (o : Option TypeTree) (tree : TypeTree) → option_and_then borrow_tree o ≡ Some tree
    → is_value_tree tree ≡ true
borrow_value None tree h = absurd (none-some tree h)
borrow_value (Some (resource_of r)) tree h = ap is_value_tree (sym (same_Some (borrow_of r) tree h))
borrow_value (Some _) tree h = absurd (none-some tree h)

-- what stands at a place among the first of a list stands there in the list
pub taken_at : {A : Type 0} (xs : List A) (k n : ℕ) (x : A) → slice_get (take k xs) n ≡ Some x
    → (n < k) × (slice_get xs n ≡ Some x)
taken_at xs zero n x at = absurd (none-some x at)
taken_at [] (suc k) n x at = absurd (none-some x at)
taken_at (y ∷ xs) (suc k) zero x at = (omega arith, at)
taken_at (y ∷ xs) (suc k) (suc n) x at =
    let r = taken_at xs k n x at in (omega (arith, r.0), r.1)

module _ (known : List (ℕ × Identity)) (c : ℕ) (t : TypeTable) (sound : table_fault t ≡ None) where
  -- the tree of a value type is one that values have, where that holds of the earlier entries
  val_value : (n : ℕ) (v : ValType) (tree : TypeTree) (before : List (Option TypeTree))
      → Kept before (trees_from known c t [] t.types)
      → ((m : ℕ) (e : DeclType) → m < n → slice_get t.types m ≡ Some e → is_defined_type e ≡ true
      → tree_of known c t m ≡ Some tree → is_value_tree tree ≡ true)
      → is_sound_val (take n t.types) v ≡ true → val_tree known c t before v ≡ Some tree
      → is_value_tree tree ≡ true
  val_value n (val.Prim prim.ErrorContext) tree before kept earlier ok h =
      ap is_value_tree (sym (same_Some (error_context c) tree h))
  val_value n (val.Prim p) tree before kept earlier ok h = ap is_value_tree (sym (same_Some (primitive p) tree h))
  val_value n (val.Type_ m) tree before kept earlier ok h =
      let f = found_by is_defined_type (slice_get (take n t.types) m) ok in
      let there = taken_at t.types n m f.0 f.1 in
      earlier m f.0 there.0 there.1 f.2 (earlier_kept known c t before kept m tree h)

  -- the tree of a defined type is one that values have, so far as this many numbers
  value_below : (k n : ℕ) → n < k → (e : DeclType) (tree : TypeTree) → slice_get t.types n ≡ Some e
      → is_defined_type e ≡ true → tree_of known c t n ≡ Some tree → is_value_tree tree ≡ true
  value_below zero n within e tree at is got = absurd (omega (arith, within))
  value_below (suc k) n within e tree at is got =
      let x = tree_at known c t n e at in
      by (λ m d below there defined has. value_below k m (omega (arith, below, within)) d tree there defined has) e is
      (sound_at t n e sound at).0 x.0 x.1 (sym x.2 ∙ got)
    where
      by : ((m : ℕ) (d : DeclType) → m < n → slice_get t.types m ≡ Some d → is_defined_type d ≡ true
          → tree_of known c t m ≡ Some tree → is_value_tree tree ≡ true)
          → (d : DeclType) → is_defined_type d ≡ true → is_sound_entry t (take n t.types) d ≡ true
          → (before : List (Option TypeTree)) → Kept before (trees_from known c t [] t.types)
          → entry_tree known c t before d ≡ Some tree → is_value_tree tree ≡ true
      by earlier entry.Resource defined ok before kept h = absurd (true≢false (sym defined))
      by earlier (entry.Func params result is_async) defined ok before kept h = absurd (true≢false (sym defined))
      by earlier (entry.Instance exports) defined ok before kept h = absurd (true≢false (sym defined))
      by earlier (entry.Component imports exports) defined ok before kept h = absurd (true≢false (sym defined))
      by earlier (entry.Module imports exports) defined ok before kept h = absurd (true≢false (sym defined))
      by earlier (entry.Val v) defined ok before kept h = val_value n v tree before kept earlier ok h
      by earlier (entry.Record fields) defined ok before kept h =
          passes is_value_tree record_of true (λ x. refl) _ tree h
      by earlier (entry.Variant cases) defined ok before kept h =
          passes is_value_tree variant_of true (λ x. refl) _ tree h
      by earlier (entry.List v) defined ok before kept h = passes is_value_tree list_of true (λ x. refl) _ tree h
      by earlier (entry.Tuple vs) defined ok before kept h = passes is_value_tree tuple_of true (λ x. refl) _ tree h
      by earlier (entry.Flags names) defined ok before kept h =
          ap is_value_tree (sym (same_Some (flags_of names) tree h))
      by earlier (entry.Enum names) defined ok before kept h = ap is_value_tree (sym (same_Some (enum_of names) tree h))
      by earlier (entry.Option v) defined ok before kept h = passes is_value_tree option_of true (λ x. refl) _ tree h
      by earlier (entry.Result a b) defined ok before kept h =
          both_pass is_value_tree result_of true (λ x y. refl) _ _ tree h
      by earlier (entry.Own m) defined ok before kept h = own_value _ tree h
      by earlier (entry.Borrow m) defined ok before kept h = borrow_value _ tree h
      by earlier (entry.Stream v) defined ok before kept h =
          passes is_value_tree (λ p. stream_of p c) true (λ x. refl) _ tree h
      by earlier (entry.Future v) defined ok before kept h =
          passes is_value_tree (λ p. future_of p c) true (λ x. refl) _ tree h

  -- the tree of a defined type is one that values have
  pub value_tree : (n : ℕ) (e : DeclType) (tree : TypeTree) → slice_get t.types n ≡ Some e → is_defined_type e ≡ true
      → tree_of known c t n ≡ Some tree → is_value_tree tree ≡ true
  value_tree n e tree at is got = value_below (suc n) n (omega arith) e tree at is got

  -- such a tree is that of no instance and of no module
  not_instance : (tree : TypeTree) → is_value_tree tree ≡ true → is_instance_tree tree ≡ false
  not_instance (instance_of exports) h = absurd (true≢false (sym h))
  not_instance _ h = refl

  -- nor that of a module
  not_module : (tree : TypeTree) → is_value_tree tree ≡ true → is_module_tree tree ≡ false
  not_module (module_of imports exports) h = absurd (true≢false (sym h))
  not_module _ h = refl

  -- an entry is an instance type where its tree is that of one, and a module type likewise
  kinds_are : (n : ℕ) (tree : TypeTree) (e : DeclType) → slice_get t.types n ≡ Some e
      → tree_of known c t n ≡ Some tree
      → (is_instance_tree tree ≡ is_instance e) × (is_module_tree tree ≡ is_module e)
  kinds_are n tree e at got = by e at (tree_at known c t n e at)
    where
      defined : (d : DeclType) → slice_get t.types n ≡ Some d → is_defined_type d ≡ true
          → (is_instance_tree tree ≡ false) × (is_module_tree tree ≡ false)
      defined d there is =
          let v = value_tree n d tree there is got in (not_instance tree v, not_module tree v)

      by : (d : DeclType) → slice_get t.types n ≡ Some d
          → (before : List (Option TypeTree)) × Kept before (trees_from known c t [] t.types)
          × (tree_of known c t n ≡ entry_tree known c t before d)
          → (is_instance_tree tree ≡ is_instance d) × (is_module_tree tree ≡ is_module d)
      by entry.Resource there x =
          let s = same_Some _ tree (sym x.2 ∙ got) in
          (ap is_instance_tree (sym s), ap is_module_tree (sym s))
      by (entry.Func params result is_async) there x = (
        both_pass is_instance_tree (λ ps r. func_of ps r is_async) false (λ ps r. refl) _ _ tree (sym x.2 ∙ got),
        both_pass is_module_tree (λ ps r. func_of ps r is_async) false (λ ps r. refl) _ _ tree (sym x.2 ∙ got),
      )
      by (entry.Instance exports) there x = (
        passes is_instance_tree instance_of true (λ y. refl) _ tree (sym x.2 ∙ got),
        passes is_module_tree instance_of false (λ y. refl) _ tree (sym x.2 ∙ got),
      )
      by (entry.Component imports exports) there x = (
        both_pass is_instance_tree component_of false (λ i e. refl) _ _ tree (sym x.2 ∙ got),
        both_pass is_module_tree component_of false (λ i e. refl) _ _ tree (sym x.2 ∙ got),
      )
      by (entry.Module imports exports) there x = (
        both_pass is_instance_tree module_of false (λ i e. refl) _ _ tree (sym x.2 ∙ got),
        both_pass is_module_tree module_of true (λ i e. refl) _ _ tree (sym x.2 ∙ got),
      )
      by d there x = defined d there refl

  -- an entry that has a tree is there
  pub entry_there : (n : ℕ) (tree : TypeTree) → tree_of known c t n ≡ Some tree
      → (e : DeclType) × (slice_get t.types n ≡ Some e)
  entry_there n tree got = by (slice_get t.types n) refl
    where
      by : (o : Option DeclType) → slice_get t.types n ≡ o → (e : DeclType) × (slice_get t.types n ≡ Some e)
      by (Some e) at = (e, at)
      by None at = absurd (none-some tree (sym (no_tree_past known c t n at) ∙ got))

  -- an instance type
  pub instance_declared : (n : ℕ) (exports : Fields) → tree_of known c t n ≡ Some (instance_of exports)
      → has_entry t is_instance n ≡ true
  instance_declared n exports got =
      let e = entry_there n (instance_of exports) got in
      ap (is_some_and is_instance) e.1 ∙ sym (kinds_are n (instance_of exports) e.0 e.1 got).0

  -- a module type
  pub module_declared : (n : ℕ) (imports : List (List ℕ × List ℕ × CoreTree)) (exports : List (List ℕ × CoreTree))
      → tree_of known c t n ≡ Some (module_of imports exports) → has_entry t is_module n ≡ true
  module_declared n imports exports got =
      let e = entry_there n (module_of imports exports) got in
      ap (is_some_and is_module) e.1 ∙ sym (kinds_are n (module_of imports exports) e.0 e.1 got).1
