-- What an entry of the table that is an instance type or a module type is in the types builder.
use Rattle.std.proofs.Common.{◌≡◌, ◌+◌, ℕ, zero, suc, Bool, true, List, [], ◌∷◌, ◌++◌, length, Option, None, Some, refl}
use Rattle.std.proofs.Common.{sym, ap, subst, ◌∙◌, arith, true≢false}
use Rattle.std.specs.Prelude.{slice_get, option_and_then}
use Rattle.std.specs.Option.{option_map}
use Rattle.std.proofs.lemmas.List.{length-append}
use Rattle.std.proofs.lemmas.Option.{none-some, same_Some}
use Rattle.pc_entity.specs.Lists.{Kept, map_all}
use Rattle.pc_entity.proofs.Growing.{append_kept, kept_refl, kept_trans, slice_get-append_seam}
use Rattle.pc_numbers.specs.declared.runtime.ResourceIndex.{ResourceIndex}
use Rattle.pc_types.specs.declared.parsed.DeclType.{DeclType}
use Rattle.pc_types.specs.declared.parsed.DeclType.TheVariants as entry
use Rattle.pc_types.specs.declared.parsed.TypeTable.{TypeTable}
use Rattle.pc_types.specs.declared.type_index.TypeComponentInstanceIndex.{TypeComponentInstanceIndex}
use Rattle.pc_types.specs.declared.type_index.TypeModuleIndex.{TypeModuleIndex}
use Rattle.pc_types.specs.declared.types.TypeDef.{TypeDef}
use Rattle.pc_types.specs.declared.types.TypeDef.TheVariants as def
use Rattle.pc_types.specs.Table.{is_instance, is_module}
use Rattle.pc_types.specs.TypeTree.{CoreTree, Fields, Identity, TypeTree, declared, entry_tree, externs_tree, instance_of}
use Rattle.pc_types.specs.TypeTree.{module_export_tree, module_import_tree, module_of, tree_of, trees_from}
use Rattle.pc_types_lists.specs.Trees.{HasTree}
use Rattle.pc_types_lists.specs.Types.{Types}
use Rattle.pc_types_builder.specs.Trees.{IsEntry, identities}
use Rattle.pc_spec_reading.specs.Types.{has_entry}

-- a number that passes a test is that of an entry
pub no_entry : (test : DeclType → Bool) (t : TypeTable) (n : ℕ) → has_entry t test n ≡ true
    → slice_get t.types n ≡ None → ⊥
no_entry test t n has none = true≢false (sym has ∙ rw (none) refl)

module _ (known : List (ℕ × Identity)) (c : ℕ) (t : TypeTable) where
  -- the trees of earlier entries stay as later ones are made
  trees_kept : (earlier : List (Option TypeTree)) (es : List DeclType) → Kept earlier (trees_from known c t earlier es)
  trees_kept earlier [] = kept_refl earlier
  trees_kept earlier (e ∷ es) =
      kept_trans earlier (earlier ++ entry_tree known c t earlier e ∷ [])
      (trees_from known c t (earlier ++ entry_tree known c t earlier e ∷ []) es)
      (append_kept earlier (entry_tree known c t earlier e ∷ []))
      (trees_kept (earlier ++ entry_tree known c t earlier e ∷ []) es)

  -- the tree of an entry is made from those of entries before it
  made_from : (earlier : List (Option TypeTree)) (es : List DeclType) (k : ℕ) (e : DeclType) → slice_get es k ≡ Some e
      → (before : List (Option TypeTree))
      × (slice_get (trees_from known c t earlier es) (length earlier + k) ≡ Some (entry_tree known c t before e))
  made_from earlier [] k e at = absurd (none-some e at)
  made_from earlier (f ∷ es) zero e at = (
    earlier,
    trees_kept (earlier ++ entry_tree known c t earlier f ∷ []) es (length earlier + 0) (entry_tree known c t earlier e)
        (subst (λ m. slice_get (earlier ++ entry_tree known c t earlier f ∷ []) m ≡ Some
        (entry_tree known c t earlier e)) (omega arith)
        (slice_get-append_seam earlier (entry_tree known c t earlier f) []
        ∙ ap (λ g. Some (entry_tree known c t earlier g)) (same_Some f e at))),
  )
  made_from earlier (f ∷ es) (suc k) e at =
      let next = made_from (earlier ++ entry_tree known c t earlier f ∷ []) es k e at in (
        next.0,
        subst (λ m. slice_get (trees_from known c t earlier (f ∷ es)) m ≡ Some (entry_tree known c t next.0 e)) grow
            next.1,
      )
    where
      grow : length (earlier ++ entry_tree known c t earlier f ∷ []) + k ≡ length earlier + suc k
      grow = omega (arith, length-append earlier (entry_tree known c t earlier f ∷ []))

  -- the tree of a number
  pub tree_from : (n : ℕ) (e : DeclType) (tree : TypeTree) → slice_get t.types n ≡ Some e
      → tree_of known c t n ≡ Some tree
      → (before : List (Option TypeTree)) × (entry_tree known c t before e ≡ Some tree)
  tree_from n e tree at is =
      let made = made_from [] t.types n e at in
      let here : slice_get (trees_from known c t [] t.types) n ≡ Some (entry_tree known c t made.0 e) =
      subst (λ i. slice_get (trees_from known c t [] t.types) i ≡ Some (entry_tree known c t made.0 e)) (omega arith)
      made.1 in (
        made.0,
        sym (ap (option_and_then (λ o. o)) here) ∙ is,
      )

-- the tree of an instance type is that of an instance
instance_shape : (o : Option Fields) (tree : TypeTree) → option_map instance_of o ≡ Some tree
    → (fields : Fields) × (instance_of fields ≡ tree)
instance_shape None tree is = absurd (none-some tree is)
instance_shape (Some fields) tree is = (fields, same_Some (instance_of fields) tree is)

-- and that of a module type is that of a module
module_shape : (o : Option (List (List ℕ × List ℕ × CoreTree))) (p : Option (List (List ℕ × CoreTree))) (tree : TypeTree)
    → option_and_then (λ i. option_map (module_of i) p) o ≡ Some tree
    → (imports : List (List ℕ × List ℕ × CoreTree)) × (exports : List (List ℕ × CoreTree))
    × (module_of imports exports ≡ tree)
module_shape None p tree is = absurd (none-some tree is)
module_shape (Some imports) None tree is = absurd (none-some tree is)
module_shape (Some imports) (Some exports) tree is = (imports, exports, same_Some (module_of imports exports) tree is)

module _ (b : Types) (t : TypeTable) (n : ℕ) (d : TypeDef) where
  -- a type of an instance type is an instance type
  pub instance_entry : has_entry t is_instance n ≡ true → IsEntry b t n d
      → (i : TypeComponentInstanceIndex) × (d ≡ def.ComponentInstance i)
  instance_entry has is = by (slice_get t.types n) refl has
    where
      at_entry : (e : DeclType) → slice_get t.types n ≡ Some e → is_instance e ≡ true
          → (i : TypeComponentInstanceIndex) × (d ≡ def.ComponentInstance i)
      at_entry (entry.Instance exports) at h =
          let who = (λ (r : ResourceIndex). declared 0) in
          let x = is who in
          let made = tree_from _ _ t n (entry.Instance exports) x.0 at x.1 in
          let shape = instance_shape
          (externs_tree (identities who b.resources.known) b.resources.current.0 t made.0 exports) x.0 made.1 in
          let has_tree = subst (HasTree b who d) (sym shape.1) x.2 in (has_tree.0, has_tree.2)
      at_entry e at h = absurd (true≢false (sym h))

      by : (o : Option DeclType) → slice_get t.types n ≡ o → has_entry t is_instance n ≡ true
          → (i : TypeComponentInstanceIndex) × (d ≡ def.ComponentInstance i)
      by None at h = absurd (no_entry is_instance t n h at)
      by (Some e) at h = at_entry e at (sym (rw (at) refl) ∙ h)

  -- a type of a module type is a module type
  pub module_entry : has_entry t is_module n ≡ true → IsEntry b t n d
      → (i : TypeModuleIndex) × (d ≡ def.Module i)
  module_entry has is = by (slice_get t.types n) refl has
    where
      at_entry : (e : DeclType) → slice_get t.types n ≡ Some e → is_module e ≡ true
          → (i : TypeModuleIndex) × (d ≡ def.Module i)
      at_entry (entry.Module imports exports) at h =
          let who = (λ (r : ResourceIndex). declared 0) in
          let x = is who in
          let made = tree_from _ _ t n (entry.Module imports exports) x.0 at x.1 in
          let shape = module_shape (map_all (module_import_tree t) imports) (map_all (module_export_tree t) exports) x.0
          made.1 in
          let has_tree = subst (HasTree b who d) (sym shape.2) x.2 in (has_tree.0, has_tree.2)
      at_entry e at h = absurd (true≢false (sym h))

      by : (o : Option DeclType) → slice_get t.types n ≡ o → has_entry t is_module n ≡ true
          → (i : TypeModuleIndex) × (d ≡ def.Module i)
      by None at h = absurd (no_entry is_module t n h at)
      by (Some e) at h = at_entry e at (sym (rw (at) refl) ∙ h)
