-- The items that a plan has for the exports of a graph: what they name stands before them.
use Rattle.std.proofs.Common.{◌≡◌, ◌<◌, ◌+◌, ℕ, suc, true, List, [], ◌∷◌, ◌++◌, length, All, Option, Some, ◌&&◌}
use Rattle.std.proofs.Common.{refl, sym, ap, subst, arith, zero-add}
use Rattle.std.specs.Prelude.{slice_get}
use Rattle.std.specs.List.{AllZip}
use Rattle.std.proofs.lemmas.Bool.{lt-ltb}
use Rattle.std.proofs.lemmas.List.Elements.{All-head, All-tail}
use Rattle.pc_entity.proofs.Elements.{true_and}
use Rattle.pc_types.specs.declared.type_index.TypeModuleIndex.{TypeModuleIndex}
use Rattle.pc_info.specs.declared.export.Export.{Export as PlanItem}
use Rattle.pc_info.specs.Exports.{are_behind_their_parts, is_behind_its_parts, names_below, number_of}
use Rattle.pc_dfg.specs.declared.dfg.ComponentDfg.{ComponentDfg}
use Rattle.pc_dfg.specs.declared.export.Export.{Export}
use Rattle.pc_dfg.specs.declared.export.Export.TheVariants as export
use Rattle.pc_dfg.specs.Held.{HeldExport, HoldsEntry}
use Rattle.pc_dfg.specs.Lists as list
use Rattle.pc_dfg.specs.Lists.{NamedExport}
use Rattle.pc_dfg.specs.Ordered.{IsOrdered}
use Rattle.pc_dfg_linearize.specs.declared.state.Finish.{Finish}
use Rattle.pc_dfg_finish.specs.Exports.{IsConverted}
use Rattle.pc_dfg_finish.specs.Finishes.{IsItem}
use Rattle.pc_dfg_finish.proofs.FurtherLemmas.{all_of}

module _ {A B : Type 0} (R : A → B → Type 0) where
  -- the items so far, and the next one
  pub zip_push : (xs : List A) (ys : List B) (x : A) (y : B) → AllZip R xs ys → R x y
      → AllZip R (xs ++ x ∷ []) (ys ++ y ∷ [])
  zip_push [] [] x y zip r = (r, tt)
  zip_push [] (z ∷ ys) x y zip r = absurd zip
  zip_push (w ∷ xs) [] x y zip r = absurd zip
  zip_push (w ∷ xs) (z ∷ ys) x y zip r = (zip.0, zip_push xs ys x y zip.1 r)

  -- lists that stand in a relation have one length
  pub zip_length : (xs : List A) (ys : List B) → AllZip R xs ys → length xs ≡ length ys
  zip_length [] [] zip = refl
  zip_length [] (y ∷ ys) zip = absurd zip
  zip_length (x ∷ xs) [] zip = absurd zip
  zip_length (x ∷ xs) (y ∷ ys) zip = ap (λ n. suc n) (zip_length xs ys zip.1)

  -- a relation that follows from another
  pub zip_weaker : (S : A → B → Type 0) → ((x : A) (y : B) → R x y → S x y) → (xs : List A) (ys : List B)
      → AllZip R xs ys → AllZip S xs ys
  zip_weaker S more [] [] zip = tt
  zip_weaker S more [] (y ∷ ys) zip = absurd zip
  zip_weaker S more (x ∷ xs) [] zip = absurd zip
  zip_weaker S more (x ∷ xs) (y ∷ ys) zip = (more x y zip.0, zip_weaker S more xs ys zip.1)

-- names whose items are below a number
names_true : (n : ℕ) (es : List NamedExport) → All (λ (e : NamedExport). e.1.0.0 < n) es → names_below n es ≡ true
names_true n [] all = refl
names_true n (e ∷ es) all =
    let below = λ (x : NamedExport). x.1.0.0 < n in
    true_and _ _ (lt-ltb (number_of e) n (All-head below e es all)) (names_true n es (All-tail below e es all))

module _ (g : ComponentDfg) (types : List (Option TypeModuleIndex)) (f : Finish) where
  -- an item by the numbers of the plan is of the form that the graph's has
  pub is_item : (e : Export) (e' : PlanItem) → IsConverted g types f e e' → IsItem e e'
  unfolding IsConverted IsItem
  is_item (export.LiftedFunction ty d o) e' is = subst (IsItem (export.LiftedFunction ty d o)) (sym is) refl
  is_item (export.ImportedFunction ty r) e' is = subst (IsItem (export.ImportedFunction ty r)) (sym is) (refl, refl)
  is_item (export.ModuleStatic ty m) e' is = subst (IsItem (export.ModuleStatic ty m)) (sym is) refl
  is_item (export.ModuleImport ty r) e' is = subst (IsItem (export.ModuleImport ty r)) (sym is) (refl, refl)
  is_item (export.Instance ty es) e' is =
      subst (IsItem (export.Instance ty es)) (sym is.1) (refl, is.2.definitions, is.2.finds)
  is_item (export.Type_ ty) e' is = subst (IsItem (export.Type_ ty)) (sym is) refl

  one_behind : (n : ℕ) (e : Export) (e' : PlanItem) → IsConverted g types f e e' → HeldExport g n e
      → is_behind_its_parts n e' ≡ true
  unfolding IsConverted HeldExport
  one_behind n (export.LiftedFunction ty d o) e' is held =
      subst (λ x. is_behind_its_parts n x ≡ true) (sym is) refl
  one_behind n (export.ImportedFunction ty r) e' is held = subst (λ x. is_behind_its_parts n x ≡ true) (sym is) refl
  one_behind n (export.ModuleStatic ty m) e' is held = subst (λ x. is_behind_its_parts n x ≡ true) (sym is) refl
  one_behind n (export.ModuleImport ty r) e' is held = subst (λ x. is_behind_its_parts n x ≡ true) (sym is) refl
  one_behind n (export.Instance ty es) e' is held =
      subst (λ x. is_behind_its_parts n x ≡ true) (sym is.1)
      (subst (λ ds. names_below n ds ≡ true) (sym is.2.definitions) (names_true n es held))
  one_behind n (export.Type_ ty) e' is held = subst (λ x. is_behind_its_parts n x ≡ true) (sym is) refl

  all_behind : (n : ℕ) (es : List Export) (items : List PlanItem) → AllZip (IsConverted g types f) es items
      → ((k : ℕ) (e : Export) → slice_get es k ≡ Some e → HeldExport g (n + k) e)
      → are_behind_their_parts n items ≡ true
  all_behind n [] [] zip held = refl
  all_behind n [] (y ∷ items) zip held = absurd zip
  all_behind n (e ∷ es) [] zip held = absurd zip
  all_behind n (e ∷ es) (y ∷ items) zip held =
      let first = subst (λ m. HeldExport g m e) (let same : n + 0 ≡ n = omega arith in same) (held 0 e refl) in
      true_and _ _ (one_behind n e y zip.0 first)
      (all_behind (n + 1) es items zip.1
      (λ k x at. subst (λ m. HeldExport g m x) (let same : n + suc k ≡ n + 1 + k = omega arith in same)
      (held (suc k) x at)))

  -- each name has an item, and each name within an item has one that stands before it
  pub items_held : (ordered : IsOrdered g) (items : List PlanItem) → AllZip (IsConverted g types f) g.export_items items
      → (ds : List NamedExport) → ds ≡ g.exports
      → (names_below (length items) ds && are_behind_their_parts 0 items) ≡ true
  unfolding HoldsEntry
  items_held ordered items zip ds same =
      let long = zip_length (IsConverted g types f) g.export_items items zip in
      let below : All (λ (e : NamedExport). e.1.0.0 < length items) g.exports =
      all_of (λ (e : NamedExport). e.1.0.0 < length items) g.exports
      (λ n e at. subst (λ m. e.1.0.0 < m) long (ordered.held list.exports n e at)) in
      let names = subst (λ es. names_below (length items) es ≡ true) (sym same)
      (names_true (length items) g.exports below) in
      let each : (k : ℕ) (e : Export) → slice_get g.export_items k ≡ Some e → HeldExport g (0 + k) e =
      λ k e at. subst (λ m. HeldExport g m e) (sym (zero-add k)) (ordered.held list.export_items k e at) in
      true_and _ _ names (all_behind 0 g.export_items items zip each)
