-- Which modules a plan exports, by the list of its export items and by its exports as trees.
use Rattle.std.proofs.Common.{◌≡◌, ◌<◌, ◌≤◌, ◌+◌, ℕ, zero, suc, Bool, true, false, ◌||◌, ◌&&◌, List, [], ◌∷◌, ◌++◌, take, inl, inr}
use Rattle.std.proofs.Common.{◌⊎◌, Some, None, Option, refl, sym, ap, subst, ◌∙◌, arith, true≢false, length, All}
use Rattle.std.specs.Prelude.{◌==◌, slice_get, option_map, nat_lt}
use Rattle.std.specs.List.{Contains, filter_map, list_any}
use Rattle.std.proofs.lemmas.Bool.{cases_lt, ltb-true}
use Rattle.std.proofs.lemmas.Option.{none-some, same_Some, slice_get_within}
use Rattle.pc_entity.proofs.Elements.{all_at, and_true}
use Rattle.std.proofs.lemmas.List.{length-append}
use Rattle.pc_entity.proofs.Growing.{slice_get-append, slice_get-append_seam}
use Rattle.pc_entity.proofs.LookupLemmas.{found_at}
use Rattle.pc_names.specs.Contents.{Contents}
use Rattle.pc_numbers.specs.declared.runtime.ExportIndex.{ExportIndex}
use Rattle.pc_types.specs.declared.type_index.TypeComponentInstanceIndex.{TypeComponentInstanceIndex}
use Rattle.pc_types.specs.declared.types.ComponentExternData.{ComponentExternData}
use Rattle.pc_spec_plan.specs.PlanView as plan
use Rattle.pc_trampoline.specs.declared.part.Mark.{Mark}
use Rattle.pc_info.specs.declared.component.Component.{Component}
use Rattle.pc_info.specs.declared.component.ComponentTranslation.{ComponentTranslation}
use Rattle.pc_info.specs.declared.export.Export.{Export}
use Rattle.pc_info.specs.declared.export.Export.TheVariants as export
use Rattle.pc_info.specs.declared.module.ModuleTranslation.{ModuleTranslation}
use Rattle.pc_info.specs.Exports.{Entry, are_behind_their_parts, export_view, exports_view, has_items, is_behind_its_parts}
use Rattle.pc_info.specs.Exports.{named_view, names_below, nested_view, number_of, trees_from, trees_of, with_export}
use Rattle.pc_info.specs.View.{view}
use Rattle.pc_info.proofs.TreeLemmas.{tree_of}
use Rattle.pc_spec_wiring.specs.Exported.{exports_module, is_exported, some_export}
use Rattle.pc_analysis_imports.specs.Exported.{is_exported_in, is_module}
use Rattle.pc_analysis_imports.proofs.AmbiguousLemmas.{filtered, from_filter}
use Rattle.pc_analysis_imports.proofs.FoldLemmas.{contained, placed}

-- an export item is reached: it is that of a name of the exports, or of a name in an instance that is reached
pub data IsReached (c : Component) : ℕ → Type 0 where
  by_export : {e : Entry} → Contains c.exports.definitions e → IsReached c (number_of e)
  by_instance : {n : ℕ} {ty : TypeComponentInstanceIndex} {es : Contents (List ℕ) (ExportIndex × ComponentExternData)}
      {e : Entry} → IsReached c n → slice_get c.export_items n ≡ Some (export.Instance ty es)
      → Contains es.definitions e → IsReached c (number_of e)

or_cases : (a b : Bool) → (a || b) ≡ true → (a ≡ true) ⊎ (b ≡ true)
or_cases true b h = inl refl
or_cases false b h = inr h

or_left : (a b : Bool) → a ≡ true → (a || b) ≡ true
or_left true b h = refl
or_left false b h = absurd (true≢false (sym h))

or_right : (a b : Bool) → b ≡ true → (a || b) ≡ true
or_right true b h = refl
or_right false b h = h

-- a test that an item passes finds one, and the other way round
any_if : {A : Type 0} (p : A → Bool) (xs : List A) (n : ℕ) (x : A) → slice_get xs n ≡ Some x → p x ≡ true
    → list_any p xs ≡ true
any_if p [] n x at is = absurd (none-some x at)
any_if p (y ∷ ys) zero x at is = or_left (p y) (list_any p ys) (ap p (same_Some y x at) ∙ is)
any_if p (y ∷ ys) (suc n) x at is = or_right (p y) (list_any p ys) (any_if p ys n x at is)

if_any : {A : Type 0} (p : A → Bool) (xs : List A) → list_any p xs ≡ true
    → (n : ℕ) × (x : A) × (slice_get xs n ≡ Some x) × (p x ≡ true)
if_any p [] h = absurd (true≢false (sym h))
if_any p (y ∷ ys) h = elim (or_cases (p y) (list_any p ys) h) [
  | inl first ↦ (0, y, refl, first)
  | inr later ↦ let rest = if_any p ys later in (suc rest.0, rest.1, rest.2, rest.3)
]

module _ (m : ℕ) where
  -- a tree of which this holds, if it exports the module
  abbrev Then : Type 0 → plan.PlanExport Mark → Type 0
  Then P t = exports_module m t ≡ true → P

  -- an instance over trees exports the module only if one of them does
  some_of : (P : Type 0) (trees : List (plan.PlanExport Mark))
      → ((n : ℕ) (t : plan.PlanExport Mark) → slice_get trees n ≡ Some t → Then P t)
      → (es : List Entry) → some_export m (nested_view trees es) ≡ true → P
  some_of P trees all [] h = absurd (true≢false (sym h))
  some_of P trees all (e ∷ es) h = by (slice_get trees (number_of e)) refl h (λ k. some_of P trees all es k)
    where
      by : (o : Option (plan.PlanExport Mark)) → slice_get trees (number_of e) ≡ o
          → some_export m (with_export e o (nested_view trees es)) ≡ true
          → (some_export m (nested_view trees es) ≡ true → P) → P
      by None none h rest = rest h
      by (Some t) here h rest =
          elim (or_cases (exports_module m t) (some_export m (nested_view trees es)) h) [
            | inl first ↦ all (number_of e) t here first
            | inr later ↦ rest later
          ]

  -- the tree of an item exports the module only if the item is it, or one of the trees before does
  item_of : (P : Type 0) (trees : List (plan.PlanExport Mark))
      → ((n : ℕ) (t : plan.PlanExport Mark) → slice_get trees n ≡ Some t → Then P t) → (e : Export)
      → (is_module m e ≡ true → P) → Then P (export_view trees e)
  item_of P trees all (export.ModuleStatic ty index) own h = own h
  item_of P trees all (export.Instance ty es) own h = some_of P trees all es.definitions h
  item_of P trees all (export.LiftedFunction ty f o) own h = absurd (true≢false (sym h))
  item_of P trees all (export.ImportedFunction ty r) own h = absurd (true≢false (sym h))
  item_of P trees all (export.ModuleImport ty r) own h = absurd (true≢false (sym h))
  item_of P trees all (export.Type_ ty) own h = absurd (true≢false (sym h))

  trees_then : (P : Type 0) (trees : List (plan.PlanExport Mark)) (items : List Export)
      → ((n : ℕ) (t : plan.PlanExport Mark) → slice_get trees n ≡ Some t → Then P t)
      → ((n : ℕ) (e : Export) → slice_get items n ≡ Some e → is_module m e ≡ true → P)
      → (n : ℕ) (t : plan.PlanExport Mark) → slice_get (trees_from trees items) n ≡ Some t → Then P t
  trees_then P trees [] all own n t at = all n t at
  trees_then P trees (e ∷ es) all own n t at =
      trees_then P (trees ++ export_view trees e ∷ []) es
      (λ k u here. pushed k u here) (λ k x here. own (suc k) x here) n t at
    where
      pushed : (k : ℕ) (u : plan.PlanExport Mark) → slice_get (trees ++ export_view trees e ∷ []) k ≡ Some u → Then P u
      pushed k u here = elim (cases_lt k (length trees)) [
        | inl less ↦
            let old = found_at trees k less in
            all k u (old.1 ∙ ap Some (same_Some old.0 u
            (sym (slice_get-append trees (export_view trees e ∷ []) k old.0 old.1) ∙ here)))
        | inr many ↦
            let within = slice_get_within (trees ++ export_view trees e ∷ []) k u here in
            let last : k ≡ length trees =
            omega (arith, within, many, length-append trees (export_view trees e ∷ [])) in
            let same : export_view trees e ≡ u =
            same_Some (export_view trees e) u
            (sym (ap (slice_get (trees ++ export_view trees e ∷ [])) last
            ∙ slice_get-append_seam trees (export_view trees e) []) ∙ here) in
            subst (Then P) same (item_of P trees all e (own 0 e refl))
      ]

  -- a module that the trees export is an item
  pub listed_if_exported : (t : ComponentTranslation) (modules : List ModuleTranslation)
      → is_exported (view t modules) m ≡ true → is_exported_in t.component.export_items m ≡ true
  unfolding is_exported_in
  listed_if_exported t modules h =
      let c = t.component in
      let found = if_any (λ (e : plan.NamedExport Mark). exports_module m e.item) (exports_view c) h in
      let from = from_filter (named_view (trees_of c.export_items)) c.exports.definitions found.1
      (contained (exports_view c) found.0 found.1 found.2) in
      by from.1 found.1 (slice_get (trees_of c.export_items) (number_of from.1)) refl from.3 found.3
    where
      by : (e : Entry) (x : plan.NamedExport Mark) (o : Option (plan.PlanExport Mark))
          → slice_get (trees_of t.component.export_items) (number_of e) ≡ o
          → option_map (λ u. record { name = e.0; extern_data = e.1.1; item = u }) o ≡ Some x
          → exports_module m x.item ≡ true → list_any (is_module m) t.component.export_items ≡ true
      by e x None none is h = absurd (none-some x is)
      by e x (Some u) here is h =
          trees_then (list_any (is_module m) t.component.export_items ≡ true) [] t.component.export_items
          (λ n v at. absurd (none-some v at))
          (λ n v at own. any_if (is_module m) t.component.export_items n v at own) (number_of e) u here
          (ap (λ (y : plan.NamedExport Mark). exports_module m y.item)
          (same_Some (record { name = e.0; extern_data = e.1.1; item = u }) x is) ∙ h)

  -- a tree that stands before an instance and that a name in it has
  some_if : (trees : List (plan.PlanExport Mark)) (es : List Entry) (n : ℕ) (e : Entry) (t : plan.PlanExport Mark)
      → slice_get es n ≡ Some e → slice_get trees (number_of e) ≡ Some t → exports_module m t ≡ true
      → some_export m (nested_view trees es) ≡ true
  some_if trees [] n e t at here is = absurd (none-some e at)
  some_if trees (x ∷ xs) zero e t at here is =
      ap (λ o. some_export m (with_export x o (nested_view trees xs)))
      (ap (λ y. slice_get trees (number_of y)) (same_Some x e at) ∙ here)
      ∙ or_left (exports_module m t) (some_export m (nested_view trees xs)) is
  some_if trees (x ∷ xs) (suc n) e t at here is =
      by (slice_get trees (number_of x)) (some_if trees xs n e t at here is)
    where
      by : (o : Option (plan.PlanExport Mark)) → some_export m (nested_view trees xs) ≡ true
          → some_export m (with_export x o (nested_view trees xs)) ≡ true
      by None rest = rest
      by (Some u) rest = or_right (exports_module m u) (some_export m (nested_view trees xs)) rest

slice_get-take : {A : Type 0} (xs : List A) (n k : ℕ) → k < n → slice_get (take n xs) k ≡ slice_get xs k
slice_get-take [] zero k few = absurd (omega (arith, few))
slice_get-take [] (suc n) k few = refl
slice_get-take (x ∷ xs) zero k few = absurd (omega (arith, few))
slice_get-take (x ∷ xs) (suc n) zero few = refl
slice_get-take (x ∷ xs) (suc n) (suc k) few = slice_get-take xs n k (omega (arith, few))

-- a name within an item has an item before it
behind : (n : ℕ) (items : List Export) → are_behind_their_parts n items ≡ true → (k : ℕ) (e : Export)
    → slice_get items k ≡ Some e → is_behind_its_parts (n + k) e ≡ true
behind n [] h k e at = absurd (none-some e at)
behind n (x ∷ xs) h zero e at =
    let both = and_true (is_behind_its_parts n x) (are_behind_their_parts (n + 1) xs) h in
    let same : n + 0 ≡ n = omega arith in
    (λ z. is_behind_its_parts (same z) (same_Some e x (sym at) z)) ∙ both.0
behind n (x ∷ xs) h (suc k) e at =
    let both = and_true (is_behind_its_parts n x) (are_behind_their_parts (n + 1) xs) h in
    let same : n + suc k ≡ n + 1 + k = omega arith in
    ap (λ j. is_behind_its_parts j e) same ∙ behind (n + 1) xs both.1 k e at

module _ (t : ComponentTranslation) (modules : List ModuleTranslation) (items : has_items t.component ≡ true) (m : ℕ) where
  -- a module that the tree of a reached item exports is exported
  reached_up : (n : ℕ) → IsReached t.component n → (tree : plan.PlanExport Mark)
      → slice_get (trees_of t.component.export_items) n ≡ Some tree → exports_module m tree ≡ true
      → is_exported (view t modules) m ≡ true
  reached_up _ (by_export {e} inside) tree at is =
      let place = placed t.component.exports.definitions e inside in
      let among = filtered (named_view (trees_of t.component.export_items)) t.component.exports.definitions place.0 e
      (record { name = e.0; extern_data = e.1.1; item = tree }) place.1
      (ap (option_map (λ u. record { name = e.0; extern_data = e.1.1; item = u })) at) in
      let there = placed (exports_view t.component) (record { name = e.0; extern_data = e.1.1; item = tree }) among in
      any_if (λ (x : plan.NamedExport Mark). exports_module m x.item) (exports_view t.component) there.0
      (record { name = e.0; extern_data = e.1.1; item = tree }) there.1 is
  reached_up _ (by_instance {n} {ty} {es} {e} reached here inside) tree at is =
      let c = t.component in
      let both = and_true (names_below (length c.export_items) c.exports.definitions)
      (are_behind_their_parts 0 c.export_items) items in
      let below = behind 0 c.export_items both.1 n (export.Instance ty es) here in
      let place = placed es.definitions e inside in
      let less : number_of e < n =
      let few = ltb-true (number_of e) (0 + n) (all_at (λ (x : Entry). nat_lt (number_of x) (0 + n)) es.definitions place.0
      e below place.1) in
      omega (arith, few) in
      let parent = tree_of c.export_items n (export.Instance ty es) here in
      reached_up n reached (export_view (take n (trees_of c.export_items)) (export.Instance ty es)) parent
      (some_if m (take n (trees_of c.export_items)) es.definitions place.0 e tree place.1
      (slice_get-take (trees_of c.export_items) n (number_of e) less ∙ at) is)

  -- a module that is an item is exported, where each item is reached
  pub exported_if_listed : ((n : ℕ) → n < length t.component.export_items → IsReached t.component n)
      → is_exported_in t.component.export_items m ≡ true → is_exported (view t modules) m ≡ true
  unfolding is_exported_in
  exported_if_listed reached h =
      let c = t.component in
      let found = if_any (is_module m) c.export_items h in
      reached_up found.0 (reached found.0 (slice_get_within c.export_items found.0 found.1 found.2))
      (export_view (take found.0 (trees_of c.export_items)) found.1) (tree_of c.export_items found.0 found.1 found.2)
      (tree_is (take found.0 (trees_of c.export_items)) found.1 found.3)
    where
      tree_is : (trees : List (plan.PlanExport Mark)) (e : Export) → is_module m e ≡ true
          → exports_module m (export_view trees e) ≡ true
      tree_is trees (export.ModuleStatic ty index) h = h
      tree_is trees (export.LiftedFunction ty f o) h = absurd (true≢false (sym h))
      tree_is trees (export.ImportedFunction ty r) h = absurd (true≢false (sym h))
      tree_is trees (export.ModuleImport ty r) h = absurd (true≢false (sym h))
      tree_is trees (export.Instance ty es) h = absurd (true≢false (sym h))
      tree_is trees (export.Type_ ty) h = absurd (true≢false (sym h))

  -- so both say the same
  pub exported_same : ((n : ℕ) → n < length t.component.export_items → IsReached t.component n)
      → is_exported_in t.component.export_items m ≡ is_exported (view t modules) m
  exported_same reached =
      by (is_exported_in t.component.export_items m) (is_exported (view t modules) m) (exported_if_listed reached)
      (listed_if_exported m t modules)
    where
      by : (a b : Bool) → (a ≡ true → b ≡ true) → (b ≡ true → a ≡ true) → a ≡ b
      by true b f g = sym (f refl)
      by false true f g = g refl
      by false false f g = refl
