-- The tree of an instance type, field by field: each export has the tree of the entry that it names.
use Rattle.std.proofs.Common.{◌≡◌, ℕ, ◌+◌, ◌≤◌, List, [], ◌∷◌, ◌++◌, length, zero, suc, Option, None, Some, refl, sym}
use Rattle.std.proofs.Common.{ap, subst}
use Rattle.std.proofs.Common.{◌∙◌, arith, true, true≢false}
use Rattle.std.specs.Prelude.{slice_get, option_and_then}
use Rattle.std.specs.Option.{option_map}
use Rattle.std.specs.List.{AllZip}
use Rattle.std.proofs.lemmas.List.{length-append}
use Rattle.std.proofs.lemmas.Option.{none-some, same_Some, slice_get_past}
use Rattle.pc_entity.specs.Lists.{Kept, names_of}
use Rattle.pc_entity.proofs.Growing.{append_kept, kept_refl, kept_trans, slice_get-append_seam}
use Rattle.pc_types.specs.declared.parsed.DeclType.{DeclType}
use Rattle.pc_types.specs.declared.parsed.DeclType.TheVariants as entry
use Rattle.pc_types.specs.declared.parsed.Entity.{Entity}
use Rattle.pc_types.specs.declared.parsed.Entity.TheVariants as entity
use Rattle.pc_types.specs.declared.parsed.TypeTable.{TypeTable}
use Rattle.pc_types.specs.Table.{is_instance}
use Rattle.pc_types.specs.TypeTree.{Fields, Identity, TypeTree, and_field, entity_tree, entry_tree, externs_tree}
use Rattle.pc_types.specs.TypeTree.{earlier_tree, instance_of, no_fields, tree_of, trees_from}
use Rattle.pc_types_convert.proofs.SoundLemmas.{found_by}
use Rattle.pc_spec_reading.specs.Types.{has_entry}
use Rattle.pc_inline_hosts.specs.HostMembers.{entry_of}
use Rattle.pc_inline_hosts.specs.HostStands.{fields_list}

-- what an answer was made from
pub map_inv : {A B : Type 0} (f : A → B) (o : Option A) (y : B) → option_map f o ≡ Some y
    → (x : A) × (o ≡ Some x) × (f x ≡ y)
map_inv f None y h = absurd (none-some y h)
map_inv f (Some x) y h = (x, refl, same_Some (f x) y h)

-- of two parts
pub both_inv : {A B C : Type 0} (g : A → B → C) (o : Option A) (p : Option B) (y : C)
    → option_and_then (λ x. option_map (g x) p) o ≡ Some y
    → (x : A) × (z : B) × (o ≡ Some x) × (p ≡ Some z) × (g x z ≡ y)
both_inv g None p y h = absurd (none-some y h)
both_inv g (Some x) None y h = absurd (none-some y h)
both_inv g (Some x) (Some z) y h = (x, z, refl, refl, same_Some (g x z) y h)

-- an entry that is an instance type has exports
pub instance_entry : (t : TypeTable) (n : ℕ) → has_entry t is_instance n ≡ true
    → (exports : List (List ℕ × Entity)) × (slice_get t.types n ≡ Some (entry.Instance exports))
instance_entry t n has =
    let f = found_by is_instance (slice_get t.types n) has in by f.0 f.1 f.2
  where
    by : (e : DeclType) → slice_get t.types n ≡ Some e → is_instance e ≡ true
        → (exports : List (List ℕ × Entity)) × (slice_get t.types n ≡ Some (entry.Instance exports))
    by (entry.Instance exports) at is = (exports, at)
    by _ at is = absurd (true≢false (sym is))

-- where nothing stands the list has ended
none_past : {A : Type 0} (xs : List A) (n : ℕ) → slice_get xs n ≡ None → length xs ≤ n
none_past [] n at = omega arith
none_past (x ∷ xs) zero at = absurd (none-some x (sym at))
none_past (x ∷ xs) (suc n) at = omega (arith, none_past xs n at)

module _ (known : List (ℕ × Identity)) (c : ℕ) (t : TypeTable) where
  -- all trees of the table
  abbrev all_trees : List (Option TypeTree)
  all_trees = trees_from known c t [] t.types

  -- a field has the name of an export, and the tree of the entry that it names
  abbrev pub IsField : List ℕ × Entity → List ℕ × TypeTree → Type 0
  IsField e f = (f.0 ≡ e.0) × (tree_of known c t (entry_of e.1) ≡ Some f.1)

  -- the trees of earlier entries stay as later ones are made
  trees_kept : (earlier : List (Option TypeTree)) (es : List DeclType) → Kept earlier (trees_from known c t earlier es)
  trees_kept earlier [] = kept_refl earlier
  trees_kept earlier (e ∷ es) =
      kept_trans earlier (earlier ++ entry_tree known c t earlier e ∷ [])
      (trees_from known c t (earlier ++ entry_tree known c t earlier e ∷ []) es)
      (append_kept earlier (entry_tree known c t earlier e ∷ []))
      (trees_kept (earlier ++ entry_tree known c t earlier e ∷ []) es)

  -- the tree of an entry is made from trees in front of it, which are kept
  tree_from : (earlier : List (Option TypeTree)) (es : List DeclType) (k : ℕ) (e : DeclType) → slice_get es k ≡ Some e
      → (before : List (Option TypeTree)) × Kept before (trees_from known c t earlier es)
      × (slice_get (trees_from known c t earlier es) (length earlier + k) ≡ Some (entry_tree known c t before e))
  tree_from earlier [] k e at = absurd (none-some e at)
  tree_from earlier (f ∷ es) zero e at = (
    earlier,
    trees_kept earlier (f ∷ es),
    trees_kept (earlier ++ entry_tree known c t earlier f ∷ []) es (length earlier + 0) (entry_tree known c t earlier e)
        (subst (λ m. slice_get (earlier ++ entry_tree known c t earlier f ∷ []) m ≡ Some
        (entry_tree known c t earlier e)) (omega arith)
        (slice_get-append_seam earlier (entry_tree known c t earlier f) []
        ∙ ap (λ g. Some (entry_tree known c t earlier g)) (same_Some f e at))),
  )
  tree_from earlier (f ∷ es) (suc k) e at =
      let next = tree_from (earlier ++ entry_tree known c t earlier f ∷ []) es k e at in (
        next.0,
        next.1,
        subst (λ m. slice_get (trees_from known c t earlier (f ∷ es)) m ≡ Some (entry_tree known c t next.0 e)) grow
            next.2,
      )
    where
      grow : length (earlier ++ entry_tree known c t earlier f ∷ []) + k ≡ length earlier + suc k
      grow = omega (arith, length-append earlier (entry_tree known c t earlier f ∷ []))

  -- that of an entry of the table
  pub tree_at : (n : ℕ) (e : DeclType) → slice_get t.types n ≡ Some e → (before : List (Option TypeTree))
      × Kept before all_trees × (tree_of known c t n ≡ entry_tree known c t before e)
  tree_at n e at =
      let x = tree_from [] t.types n e at in
      let first : 0 + n ≡ n = omega arith in (
        x.0,
        x.1,
        ap (option_and_then (λ (o : Option TypeTree). o))
            (subst (λ k. slice_get all_trees k ≡ Some (entry_tree known c t x.0 e)) first x.2),
      )

  -- there are no more trees than entries
  trees_long : (earlier : List (Option TypeTree)) (es : List DeclType)
      → length (trees_from known c t earlier es) ≡ length earlier + length es
  trees_long earlier [] = omega arith
  trees_long earlier (e ∷ es) =
      omega (
        arith,
        trees_long (earlier ++ entry_tree known c t earlier e ∷ []) es,
        length-append earlier (entry_tree known c t earlier e ∷ []),
      )

  -- a number without an entry has no tree
  pub no_tree_past : (n : ℕ) → slice_get t.types n ≡ None → tree_of known c t n ≡ None
  no_tree_past n at =
      ap (option_and_then (λ (o : Option TypeTree). o))
      (slice_get_past (trees_from known c t [] t.types) n
      (omega (arith, trees_long [] t.types, none_past t.types n at)))

  module _ (before : List (Option TypeTree)) (kept : Kept before all_trees) where
    -- an earlier tree is that of its number
    pub earlier_kept : (n : ℕ) (tree : TypeTree) → earlier_tree known c t before n ≡ Some tree
        → tree_of known c t n ≡ Some tree
    earlier_kept n tree is = by (slice_get before n) refl is
      where
        by : (o : Option (Option TypeTree)) → slice_get before n ≡ o
            → option_and_then (λ (x : Option TypeTree). x) o ≡ Some tree
            → tree_of known c t n ≡ Some tree
        by None at h = absurd (none-some tree h)
        by (Some o) at h = ap (option_and_then (λ (x : Option TypeTree). x)) (kept n o at) ∙ h

    -- that of an entity is that of the entry that it names
    entity_kept : (e : Entity) (tree : TypeTree) → entity_tree known c t before e ≡ Some tree
        → tree_of known c t (entry_of e) ≡ Some tree
    entity_kept (entity.Func n) tree is = earlier_kept n tree is
    entity_kept (entity.Instance n) tree is = earlier_kept n tree is
    entity_kept (entity.Component n) tree is = earlier_kept n tree is
    entity_kept (entity.Module n) tree is = earlier_kept n tree is
    entity_kept (entity.Type_ n) tree is = earlier_kept n tree is
    entity_kept entity.Value tree is = absurd (none-some tree is)

    -- exports and fields, one by one
    externs_fields : (es : List (List ℕ × Entity)) (fs : Fields) → externs_tree known c t before es ≡ Some fs
        → AllZip IsField es (fields_list fs)
    externs_fields [] fs h =
        subst (λ gs. AllZip IsField [] (fields_list gs)) (same_Some no_fields fs h) tt
    externs_fields (e ∷ es) fs h =
        let x = both_inv (and_field e.0) (entity_tree known c t before e.1) (externs_tree known c t before es) fs h in
        subst (λ gs. AllZip IsField (e ∷ es) (fields_list gs)) x.4
        ((refl, entity_kept e.1 x.0 x.2), externs_fields es x.1 x.3)

  -- the fields of an instance type are its exports
  pub fields_declared : (n : ℕ) (tree : TypeTree) → has_entry t is_instance n ≡ true → tree_of known c t n ≡ Some tree
      → (exports : List (List ℕ × Entity)) × (fs : Fields) × (slice_get t.types n ≡ Some (entry.Instance exports))
      × (instance_of fs ≡ tree) × AllZip IsField exports (fields_list fs)
  fields_declared n tree has is =
      let e = instance_entry t n has in
      let x = tree_at n (entry.Instance e.0) e.1 in
      let f = map_inv instance_of (externs_tree known c t x.0 e.0) tree (sym x.2 ∙ is) in
      (e.0, f.0, e.1, f.2, externs_fields x.0 x.1 e.0 f.0 f.1)

  -- fields have the names of the exports
  pub names_declared : (es : List (List ℕ × Entity)) (fs : List (List ℕ × TypeTree)) → AllZip IsField es fs
      → names_of es ≡ names_of fs
  names_declared [] [] h = refl
  names_declared [] (f ∷ fs) h = absurd h
  names_declared (e ∷ es) [] h = absurd h
  names_declared (e ∷ es) (f ∷ fs) h =
      let first = sym h.0.0 in
      let rest = names_declared es fs h.1 in
      λ i. first i ∷ rest i
