-- A type that is a module type of a table is one, under one number.
use Rattle.std.proofs.Common.{◌≡◌, ◌+◌, ◌∙◌, ℕ, zero, suc, List, [], ◌∷◌, ◌++◌, length, Option, None, Some, true}
use Rattle.std.proofs.Common.{refl, sym, ap, subst, arith, true≢false}
use Rattle.std.specs.Prelude.{slice_get, option_and_then, option_map}
use Rattle.std.proofs.lemmas.List.{length-append}
use Rattle.std.proofs.lemmas.Option.{none-some, same_Some}
use Rattle.pc_entity.specs.Lists.{Kept, map_all}
use Rattle.pc_entity.proofs.Growing.{append_kept, kept_refl, kept_trans, slice_get-append_seam}
use Rattle.pc_numbers.specs.declared.runtime.ResourceIndex.{ResourceIndex}
use Rattle.pc_types.specs.declared.parsed.CoreEntity.{CoreEntity}
use Rattle.pc_types.specs.declared.parsed.DeclType.{DeclType}
use Rattle.pc_types.specs.declared.parsed.DeclType.TheVariants as entry
use Rattle.pc_types.specs.declared.parsed.TypeTable.{TypeTable}
use Rattle.pc_types.specs.declared.type_index.TypeModuleIndex.{TypeModuleIndex}
use Rattle.pc_types.specs.declared.types.TypeDef.{TypeDef}
use Rattle.pc_types.specs.declared.types.TypeDef.TheVariants as def
use Rattle.pc_types.specs.Table.{is_module, is_some_and}
use Rattle.pc_types.specs.TypeTree.{CoreTree, Identity, TypeTree, declared, entry_tree, imported, module_export_tree}
use Rattle.pc_types.specs.TypeTree.{module_import_tree, module_of, trees_from, tree_of}
use Rattle.pc_types_builder.specs.Types.{IsBuilder, Types}
use Rattle.pc_types_builder.specs.Trees.{HasTree, IsEntry, identities}
use Rattle.pc_types_builder.proofs.OneNumber.{one_number}
use Rattle.pc_translate.specs.ModuleTypes.{IsModuleType}

-- a module type of a table, with what it imports and exports
pub module_entry : (t : TypeTable) (n : ℕ) → IsModuleType t n
    → (imports : List (List ℕ × List ℕ × CoreEntity)) × (exports : List (List ℕ × CoreEntity))
    × (slice_get t.types n ≡ Some (entry.Module imports exports))
module_entry t n is = by (slice_get t.types n) refl is
  where
    by : (o : Option DeclType) → slice_get t.types n ≡ o → is_some_and is_module o ≡ true
        → (imports : List (List ℕ × List ℕ × CoreEntity)) × (exports : List (List ℕ × CoreEntity))
        × (slice_get t.types n ≡ Some (entry.Module imports exports))
    by None at h = absurd (true≢false (sym h))
    by (Some (entry.Module imports exports)) at h = (imports, exports, at)
    by (Some e) at h = absurd (true≢false (sym h))

-- an identity of its own for each resource
abbrev by_number : ResourceIndex → Identity
by_number r = declared r.0

-- no two resources have one of these identities
apart : (r s : ResourceIndex) → by_number r ≡ by_number s → r ≡ s
apart r s same = ap (λ i. record { 0 = order i }) same
  where
    order : Identity → ℕ
    order (declared n) = n
    order (imported p) = 0

-- what two optional parts make together is made of both
made_of : {A B C : Type 0} (make : A → B → C) (a : Option A) (b : Option B) (c : C)
    → option_and_then (λ x. option_map (make x) b) a ≡ Some c → (x : A) × (y : B) × (make x y ≡ c)
made_of make None b c h = absurd (none-some c h)
made_of make (Some x) None c h = absurd (none-some c h)
made_of make (Some x) (Some y) c h = (x, y, same_Some (make x y) c h)

module _ (known : List (ℕ × Identity)) (c : ℕ) (t : TypeTable) where
  -- the trees of earlier entries stay as later ones are made
  trees_kept : (earlier : List (Option TypeTree)) (es : List DeclType) → Kept earlier (trees_from known c t earlier es)
  trees_kept earlier [] = kept_refl earlier
  trees_kept earlier (e ∷ es) =
      kept_trans earlier (earlier ++ entry_tree known c t earlier e ∷ [])
      (trees_from known c t (earlier ++ entry_tree known c t earlier e ∷ []) es)
      (append_kept earlier (entry_tree known c t earlier e ∷ []))
      (trees_kept (earlier ++ entry_tree known c t earlier e ∷ []) es)

  -- the tree of an entry is made from trees in front of it
  tree_at : (earlier : List (Option TypeTree)) (es : List DeclType) (k : ℕ) (e : DeclType) → slice_get es k ≡ Some e
      → (before : List (Option TypeTree))
      × (slice_get (trees_from known c t earlier es) (length earlier + k) ≡ Some (entry_tree known c t before e))
  tree_at earlier [] k e at = absurd (none-some e at)
  tree_at earlier (f ∷ es) zero e at = (
    earlier,
    trees_kept (earlier ++ entry_tree known c t earlier f ∷ []) es (length earlier + 0) (entry_tree known c t earlier e)
        (subst (λ m. slice_get (earlier ++ entry_tree known c t earlier f ∷ []) m ≡ Some
        (entry_tree known c t earlier e)) (omega arith)
        (slice_get-append_seam earlier (entry_tree known c t earlier f) []
        ∙ ap (λ g. Some (entry_tree known c t earlier g)) (same_Some f e at))),
  )
  tree_at earlier (f ∷ es) (suc k) e at =
      let next = tree_at (earlier ++ entry_tree known c t earlier f ∷ []) es k e at in (
        next.0,
        subst (λ m. slice_get (trees_from known c t earlier (f ∷ es)) m ≡ Some (entry_tree known c t next.0 e)) grow
            next.1,
      )
    where
      grow : length (earlier ++ entry_tree known c t earlier f ∷ []) + k ≡ length earlier + suc k
      grow = omega (arith, length-append earlier (entry_tree known c t earlier f ∷ []))

  module _ (n : ℕ) (imports : List (List ℕ × List ℕ × CoreEntity)) (exports : List (List ℕ × CoreEntity))
      (at : slice_get t.types n ≡ Some (entry.Module imports exports)) where
    -- the tree of a module type hangs on nothing but the table
    pub module_tree_is : tree_of known c t n
        ≡ option_and_then (λ i. option_map (module_of i) (map_all (module_export_tree t) exports))
        (map_all (module_import_tree t) imports)
    module_tree_is =
        let x = tree_at [] t.types n (entry.Module imports exports) at in
        let first : 0 + n ≡ n = omega arith in
        ap (option_and_then (λ (o : Option TypeTree). o)) (subst (λ k. slice_get (trees_from known c t [] t.types) k
        ≡ Some (entry_tree known c t x.0 (entry.Module imports exports))) first x.1)

    -- the tree of a module type is one of a module
    module_tree : (tree : TypeTree) → tree_of known c t n ≡ Some tree
        → (i : List (List ℕ × List ℕ × CoreTree)) × (e : List (List ℕ × CoreTree)) × (module_of i e ≡ tree)
    module_tree tree is =
        let x = tree_at [] t.types n (entry.Module imports exports) at in
        let first : 0 + n ≡ n = omega arith in
        let here = subst (λ k. slice_get (trees_from known c t [] t.types) k ≡ Some (entry_tree known c t x.0
        (entry.Module imports exports))) first x.1 in
        made_of module_of (map_all (module_import_tree t) imports) (map_all (module_export_tree t) exports) tree
        (sym (ap (option_and_then (λ (o : Option TypeTree). o)) here) ∙ is)

-- a module type has one tree, whatever is known and wherever it is read
pub one_module_tree : (t : TypeTable) (n : ℕ) → IsModuleType t n → (known : List (ℕ × Identity)) (c : ℕ)
    (known' : List (ℕ × Identity)) (c' : ℕ) (a b : TypeTree) → tree_of known c t n ≡ Some a
    → tree_of known' c' t n ≡ Some b → a ≡ b
one_module_tree t n is known c known' c' a b first second =
    let e = module_entry t n is in
    same_Some a b (sym first ∙ module_tree_is known c t n e.0 e.1 e.2 ∙ sym (module_tree_is known' c' t n e.0 e.1 e.2)
    ∙ second)

-- a type with the tree of a module is a module type
with_module_tree : (b : Types) (who : ResourceIndex → Identity) (d : TypeDef) (i : List (List ℕ × List ℕ × CoreTree))
    (e : List (List ℕ × CoreTree)) → HasTree b who d (module_of i e) → (j : TypeModuleIndex) × (d ≡ def.Module j)
with_module_tree b who d i e h = (h.0, h.2)

module _ (b : Types) (t : TypeTable) (n : ℕ) (is : IsModuleType t n) where
  -- the type of a module type is one
  pub is_module_def : (d : TypeDef) → IsEntry b t n d → (j : TypeModuleIndex) × (d ≡ def.Module j)
  is_module_def d h =
      let at = module_entry t n is in
      let has = h by_number in
      let made = module_tree (identities by_number b.resources.known) b.resources.current.0 t n at.0 at.1 at.2 has.0
      has.1 in
      with_module_tree b by_number d made.0 made.1 (subst (HasTree b by_number d) (sym made.2) has.2)

-- one entry has one type, where no two types are equal
pub one_entry : (b : Types) → IsBuilder b → (t : TypeTable) (n : ℕ) (d e : TypeDef) → IsEntry b t n d → IsEntry b t n e
    → d ≡ e
one_entry b builder t n d e first second =
    let x = first by_number in
    let y = second by_number in
    one_number b builder.distinct by_number apart d e x.0 x.2
    (subst (HasTree b by_number e) (same_Some y.0 x.0 (sym y.1 ∙ x.1)) y.2)
