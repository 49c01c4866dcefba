-- Trees of module types, against the entries of the table.
use Rattle.std.proofs.Common.{◌≡◌, ◌+◌, ◌∙◌, ◌&&◌, ℕ, zero, suc, Bool, true, false, List, [], ◌∷◌, ◌++◌, length, map, Option}
use Rattle.std.proofs.Common.{None, Some, if◌then◌else◌, refl, sym, ap, subst, arith, true≢false}
use Rattle.std.specs.Prelude.{slice_get, option_and_then, option_map}
use Rattle.std.specs.List.{list_all}
use Rattle.std.specs.Str.{bytes_eq}
use Rattle.std.proofs.lemmas.List.{length-append}
use Rattle.std.proofs.lemmas.Option.{none-some, same_Some}
use Rattle.std.proofs.lemmas.Slice.Eq.{bytes_eq-Decides}
use Rattle.pc_entity.specs.Lists.{Kept, map_all, names_of, value_of}
use Rattle.pc_entity.proofs.Growing.{append_kept, kept_refl, kept_trans, slice_get-append_seam}
use Rattle.pc_entity.proofs.MapAll.{map_all_uncons}
use Rattle.pc_types.specs.declared.parsed.CoreEntity.{CoreEntity}
use Rattle.pc_types.specs.declared.parsed.CoreEntity.TheVariants as core
use Rattle.pc_types.specs.declared.parsed.DeclType.{DeclType}
use Rattle.pc_types.specs.declared.parsed.DeclType.TheVariants as entry
use Rattle.pc_types.specs.declared.parsed.TypeTable.{TypeTable}
use Rattle.pc_types.specs.Names.{are_distinct, distinct_names, same_pair}
use Rattle.pc_types.specs.Record.{is_typed, kind_of}
use Rattle.pc_types.specs.Table.{EntryFault, bad_entry, entry_fault, fault_from, fault_or, holds_value, is_module}
use Rattle.pc_types.specs.Table.{is_some_and, is_sound_entry, table_fault, value_entry}
use Rattle.pc_types.specs.TypeTree.{CoreTree, Identity, TypeTree, core_func, core_tree, entry_tree, module_export_tree}
use Rattle.pc_types.specs.TypeTree.{module_import_tree, module_of, tree_of, trees_from}
use Rattle.pc_spec_reading.specs.Arguments.{tree_kind}
use Rattle.pc_spec_reading.specs.Member.{place_from}
use Rattle.pc_spec_reading.specs.Types.{has_entry}
use Rattle.pc_inline_modules.specs.Grouped.{pair_of}

-- a module type of the table, with its tree
pub record IsModuleTree (t : TypeTable) (n : ℕ) (tree : TypeTree) : Type 0 where
  pub imports : List (List ℕ × List ℕ × CoreEntity)
  pub exports : List (List ℕ × CoreEntity)
  pub entry : slice_get t.types n ≡ Some (entry.Module imports exports)
  pub import_trees : List (List ℕ × List ℕ × CoreTree)
  pub imports_are : map_all (module_import_tree t) imports ≡ Some import_trees
  pub export_trees : List (List ℕ × CoreTree)
  pub exports_are : map_all (module_export_tree t) exports ≡ Some export_trees
  pub is : tree ≡ module_of import_trees export_trees

-- an entry that is a module type has imports and exports
pub module_entry : (t : TypeTable) (n : ℕ) → has_entry t is_module n ≡ true
    → (imports : List (List ℕ × List ℕ × CoreEntity)) × (exports : List (List ℕ × CoreEntity))
    × (slice_get t.types n ≡ Some (entry.Module imports exports))
module_entry t n is = by (slice_get t.types n) refl is
  where
    by : (o : Option DeclType) → slice_get t.types n ≡ o → is_some_and is_module o ≡ true
        → (imports : List (List ℕ × List ℕ × CoreEntity)) × (exports : List (List ℕ × CoreEntity))
        × (slice_get t.types n ≡ Some (entry.Module imports exports))
    by None at h = absurd (true≢false (sym h))
    by (Some (entry.Module imports exports)) at h = (imports, exports, at)
    by (Some e) at h = absurd (true≢false (sym h))

-- what two optional parts make together is made of both
made_of : {A B C : Type 0} (make : A → B → C) (a : Option A) (b : Option B) (c : C)
    → option_and_then (λ x. option_map (make x) b) a ≡ Some c
    → (x : A) × (y : B) × (a ≡ Some x) × (b ≡ Some y) × (c ≡ make x y)
made_of make None b c h = absurd (none-some c h)
made_of make (Some x) None c h = absurd (none-some c h)
made_of make (Some x) (Some y) c h = (x, y, refl, refl, sym (same_Some (make x y) c h))

module _ (known : List (ℕ × Identity)) (c : ℕ) (t : TypeTable) where
  -- the trees of earlier entries stay as later ones are made
  trees_kept : (earlier : List (Option TypeTree)) (es : List DeclType) → Kept earlier (trees_from known c t earlier es)
  trees_kept earlier [] = kept_refl earlier
  trees_kept earlier (e ∷ es) =
      kept_trans earlier (earlier ++ entry_tree known c t earlier e ∷ [])
      (trees_from known c t (earlier ++ entry_tree known c t earlier e ∷ []) es)
      (append_kept earlier (entry_tree known c t earlier e ∷ []))
      (trees_kept (earlier ++ entry_tree known c t earlier e ∷ []) es)

  -- the tree of an entry is made from trees in front of it
  tree_at : (earlier : List (Option TypeTree)) (es : List DeclType) (k : ℕ) (e : DeclType) → slice_get es k ≡ Some e
      → (before : List (Option TypeTree))
      × (slice_get (trees_from known c t earlier es) (length earlier + k) ≡ Some (entry_tree known c t before e))
  tree_at earlier [] k e at = absurd (none-some e at)
  tree_at earlier (f ∷ es) zero e at = (
    earlier,
    trees_kept (earlier ++ entry_tree known c t earlier f ∷ []) es (length earlier + 0) (entry_tree known c t earlier e)
        (subst (λ m. slice_get (earlier ++ entry_tree known c t earlier f ∷ []) m ≡ Some
        (entry_tree known c t earlier e)) (omega arith)
        (slice_get-append_seam earlier (entry_tree known c t earlier f) []
        ∙ ap (λ g. Some (entry_tree known c t earlier g)) (same_Some f e at))),
  )
  tree_at earlier (f ∷ es) (suc k) e at =
      let next = tree_at (earlier ++ entry_tree known c t earlier f ∷ []) es k e at in (
        next.0,
        subst (λ m. slice_get (trees_from known c t earlier (f ∷ es)) m ≡ Some (entry_tree known c t next.0 e)) grow
            next.1,
      )
    where
      grow : length (earlier ++ entry_tree known c t earlier f ∷ []) + k ≡ length earlier + suc k
      grow = omega (arith, length-append earlier (entry_tree known c t earlier f ∷ []))

  -- the tree of a module type is that of its imports and exports
  pub module_tree : (n : ℕ) (tree : TypeTree) → has_entry t is_module n ≡ true → tree_of known c t n ≡ Some tree
      → IsModuleTree t n tree
  module_tree n tree has is =
      let parts = module_entry t n has in
      let e = entry.Module parts.0 parts.1 in
      let x = tree_at [] t.types n e parts.2 in
      let first : 0 + n ≡ n = omega arith in
      let here = subst (λ k. slice_get (trees_from known c t [] t.types) k ≡ Some (entry_tree known c t x.0 e)) first
      x.1 in
      let both = made_of module_of (map_all (module_import_tree t) parts.0) (map_all (module_export_tree t) parts.1)
      tree (sym (ap (option_and_then (λ (o : Option TypeTree). o)) here) ∙ is) in
      record {
        imports = parts.0;
        exports = parts.1;
        entry = parts.2;
        import_trees = both.0;
        imports_are = both.2;
        export_trees = both.1;
        exports_are = both.3;
        is = both.4;
      }

-- an entry without a fault is sound
unfaulted : (t : TypeTable) (earlier : List DeclType) (e : DeclType) → entry_fault t earlier e ≡ None
    → is_sound_entry t earlier e ≡ true
unfaulted t earlier e h = by (is_sound_entry t earlier e) (holds_value e) h
  where
    by : (sound value : Bool)
        → (if sound then (if value then Some value_entry else None) else Some bad_entry) ≡ None → sound ≡ true
    by true value k = refl
    by false value k = absurd (none-some bad_entry (sym k))

-- where no entry has a fault, this one has none, and those after it have none
no_fault_here : (n : ℕ) (f : Option EntryFault) (later : Option (ℕ × EntryFault)) → fault_or n f later ≡ None
    → (f ≡ None) × (later ≡ None)
no_fault_here n None later h = (refl, h)
no_fault_here n (Some f) later h = absurd (none-some (n, f) (sym h))

-- an entry of a sound table is sound behind earlier ones
sound_from : (t : TypeTable) (earlier es : List DeclType) (k : ℕ) (e : DeclType) → fault_from t earlier es ≡ None
    → slice_get es k ≡ Some e → (before : List DeclType) × (is_sound_entry t before e ≡ true)
sound_from t earlier [] k e sound at = absurd (none-some e at)
sound_from t earlier (f ∷ es) zero e sound at = (
  earlier,
  subst (λ g. is_sound_entry t earlier g ≡ true) (same_Some f e at) (unfaulted t earlier f
      (no_fault_here (length earlier) (entry_fault t earlier f) (fault_from t (earlier ++ f ∷ []) es) sound).0),
)
sound_from t earlier (f ∷ es) (suc k) e sound at =
    sound_from t (earlier ++ f ∷ []) es k e
    (no_fault_here (length earlier) (entry_fault t earlier f) (fault_from t (earlier ++ f ∷ []) es) sound).1 at

-- no pair of names stands twice among the imports of a module type of a sound table
pub imports_apart : (t : TypeTable) → table_fault t ≡ None → (n : ℕ) (imports : List (List ℕ × List ℕ × CoreEntity))
    (exports : List (List ℕ × CoreEntity)) → slice_get t.types n ≡ Some (entry.Module imports exports)
    → are_distinct same_pair (map pair_of imports) ≡ true
imports_apart t sound n imports exports at =
    let a = list_all (λ (i : List ℕ × List ℕ × CoreEntity). is_typed t i.2) imports in
    let b = list_all (λ (e : List ℕ × CoreEntity). is_typed t e.1) exports in
    let c = are_distinct same_pair (map (λ (i : List ℕ × List ℕ × CoreEntity). (i.0, i.1)) imports) in
    let d = distinct_names (names_of exports) in
    parts a b c d (sound_from t [] t.types n (entry.Module imports exports) sound at).1
  where
    parts : (a b c d : Bool) → (a && b && c && d) ≡ true → c ≡ true
    parts a b c d h = third (a && b) c d h
      where
        third : (x y z : Bool) → (x && y && z) ≡ true → y ≡ true
        third true true z h = refl
        third true false z h = absurd (true≢false (sym h))
        third false y z h = absurd (true≢false (sym h))

-- an entity keeps its kind
pub kind_kept : (t : TypeTable) (e : CoreEntity) (c : CoreTree) → core_tree t e ≡ Some c → tree_kind c ≡ kind_of e
kind_kept t (core.Func s) c is = by (slice_get t.core_funcs s) is
  where
    by : (o : Option _) → option_map core_func o ≡ Some c → tree_kind c ≡ kind_of (core.Func s)
    by None h = absurd (none-some c h)
    by (Some x) h = ap tree_kind (sym (same_Some (core_func x) c h))
kind_kept t core.Table c is = ap tree_kind (sym (same_Some _ c is))
kind_kept t (core.Memory wide) c is = ap tree_kind (sym (same_Some _ c is))
kind_kept t core.Global c is = ap tree_kind (sym (same_Some _ c is))
kind_kept t core.Tag c is = ap tree_kind (sym (same_Some _ c is))

-- an import with its tree has the names that it had
pub import_kept : (t : TypeTable) (i : List ℕ × List ℕ × CoreEntity) (x : List ℕ × List ℕ × CoreTree)
    → module_import_tree t i ≡ Some x → (c : CoreTree) × (core_tree t i.2 ≡ Some c) × (x ≡ (i.0, i.1, c))
import_kept t i x is = by (core_tree t i.2) refl is
  where
    by : (o : Option CoreTree) → core_tree t i.2 ≡ o
        → option_map {U = List ℕ × List ℕ × CoreTree} (λ c. (i.0, i.1, c)) o ≡ Some x
        → (c : CoreTree) × (core_tree t i.2 ≡ Some c) × (x ≡ (i.0, i.1, c))
    by None at h = absurd (none-some x h)
    by (Some c) at h = (c, at, sym (same_Some _ x h))

-- an export with its tree has the name that it had
export_kept : (t : TypeTable) (e : List ℕ × CoreEntity) (x : List ℕ × CoreTree)
    → module_export_tree t e ≡ Some x → (c : CoreTree) × (core_tree t e.1 ≡ Some c) × (x ≡ (e.0, c))
export_kept t e x is = by (core_tree t e.1) refl is
  where
    by : (o : Option CoreTree) → core_tree t e.1 ≡ o
        → option_map {U = List ℕ × CoreTree} (λ c. (e.0, c)) o ≡ Some x
        → (c : CoreTree) × (core_tree t e.1 ≡ Some c) × (x ≡ (e.0, c))
    by None at h = absurd (none-some x h)
    by (Some c) at h = (c, at, sym (same_Some _ x h))

-- the first place of a name among exports, from a number on, and what has the name there
pub data ExportFound (t : TypeTable) (exports : List (List ℕ × CoreEntity)) (name : List ℕ) (from : ℕ)
    : Option ℕ → Option CoreTree → Type 0 where
  not_found : ExportFound t exports name from None None
  found_there : {p : ℕ} (q : ℕ) {e : List ℕ × CoreEntity} {c : CoreTree} → p ≡ from + q → slice_get exports q ≡ Some e
      → e.0 ≡ name → core_tree t e.1 ≡ Some c → ExportFound t exports name from (Some p) (Some c)

-- what is found behind the first export is found behind one more
found_later : (t : TypeTable) (e : List ℕ × CoreEntity) (es : List (List ℕ × CoreEntity)) (name : List ℕ) (from : ℕ)
    (o : Option ℕ) (w : Option CoreTree) → ExportFound t es name (from + 1) o w → ExportFound t (e ∷ es) name from o w
found_later t e es name from o w not_found = not_found
found_later t e es name from o w (found_there q at there is tree) =
    found_there (suc q) (at ∙ more from q) there is tree
  where
    more : (a b : ℕ) → (a + 1) + b ≡ a + suc b
    more a b = omega arith

-- a name is found among exports where it is found among their trees
pub export_found : (t : TypeTable) (exports : List (List ℕ × CoreEntity)) (trees : List (List ℕ × CoreTree))
    → map_all (module_export_tree t) exports ≡ Some trees → (name : List ℕ) (from : ℕ)
    → ExportFound t exports name from (place_from from name (names_of exports)) (value_of name trees)
export_found t [] trees are name from =
    subst (λ xs. ExportFound t [] name from None (value_of name xs)) (same_Some [] trees are) not_found
export_found t (e ∷ es) trees are name from =
    let parts = map_all_uncons (module_export_tree t) e es trees are in
    let first = export_kept t e parts.0 parts.2 in
    subst (λ xs. ExportFound t (e ∷ es) name from (place_from from name (e.0 ∷ names_of es)) (value_of name xs))
    (sym (parts.4 ∙ ap (λ x. x ∷ parts.1) first.2))
    (by first.0 first.1 parts.1 (bytes_eq name e.0) refl (export_found t es parts.1 parts.3 name (from + 1)))
  where
    by : (c : CoreTree) → core_tree t e.1 ≡ Some c → (xs : List (List ℕ × CoreTree)) (b : Bool) → bytes_eq name e.0 ≡ b
        → ExportFound t es name (from + 1) (place_from (from + 1) name (names_of es)) (value_of name xs)
        → ExportFound t (e ∷ es) name from (if b then Some from else place_from (from + 1) name (names_of es))
        (if b then Some c else value_of name xs)
    by c tree xs true is rest =
        found_there 0 (omega arith) refl (sym ((bytes_eq-Decides name e.0).0 is)) tree
    by c tree xs false is rest = found_later t e es name from _ _ rest
