-- The modules among export items are those that are exported at whatever depth, where each item is under the exports.
use Rattle.std.proofs.Common.{◌≡◌, ◌<◌, ◌||◌, ℕ, zero, suc, Bool, true, false, List, [], ◌∷◌, length, take}
use Rattle.std.proofs.Common.{Option, None, Some, refl, sym, ap, ◌∙◌, arith, true≢false}
use Rattle.std.specs.Prelude.{filter_map, option_map, slice_get}
use Rattle.std.specs.List.{cons_option, list_any}
use Rattle.std.proofs.lemmas.Option.{none-some, same_Some, slice_get_within}
use Rattle.pc_spec_plan.specs.PlanView as plan
use Rattle.pc_spec_wiring.specs.Exported.{exports_module, some_export}
use Rattle.pc_trampoline.specs.declared.part.Mark.{Mark}
use Rattle.pc_info.specs.declared.export.Export.{Export}
use Rattle.pc_info.specs.declared.export.Export.TheVariants as export
use Rattle.pc_info.specs.Exports.{Entry, export_view}
use Rattle.pc_info.specs.Exports.{named_view, nested_view, number_of, trees_of, with_export}
use Rattle.pc_info.proofs.TreeLemmas.{length-trees_of, tree_of}
use Rattle.pc_entity.proofs.LookupLemmas.{found_at}
use Rattle.pc_analysis_imports.specs.Exported.{is_exported_in, is_module}

-- of two tests that each hold where the other does
both_same : (a b : Bool) → (a ≡ true → b ≡ true) → (b ≡ true → a ≡ true) → a ≡ b
both_same true b to from = sym (to refl)
both_same false true to from = absurd (true≢false (sym (from refl)))
both_same false false to from = refl

-- one of some items passes a test
record Passes {A : Type 0} (p : A → Bool) (xs : List A) : Type 0 where
  place : ℕ
  item : A
  at : slice_get xs place ≡ Some item
  passes : p item ≡ true

any_passes : {A : Type 0} (p : A → Bool) (xs : List A) → list_any p xs ≡ true → Passes p xs
any_passes p [] is = absurd (true≢false (sym is))
any_passes {A} p (x ∷ xs) is = by (p x) refl is (any_passes p xs)
  where
    by : (b : Bool) → p x ≡ b → (b || list_any p xs) ≡ true → (list_any p xs ≡ true → Passes p xs) → Passes p (x ∷ xs)
    by true at both rest = record { place = 0; item = x; at = refl; passes = at }
    by false at both rest =
        let later = rest both in
        record { place = suc later.place; item = later.item; at = later.at; passes = later.passes }

passes_any : {A : Type 0} (p : A → Bool) (xs : List A) (k : ℕ) (x : A) → slice_get xs k ≡ Some x → p x ≡ true
    → list_any p xs ≡ true
passes_any p [] k x at is = absurd (none-some x at)
passes_any p (y ∷ xs) zero x at is = ap (λ b. b || list_any p xs) (ap p (same_Some y x at) ∙ is)
passes_any p (y ∷ xs) (suc k) x at is = by (p y) (passes_any p xs k x at is)
  where
    by : (b : Bool) → list_any p xs ≡ true → (b || list_any p xs) ≡ true
    by true rest = refl
    by false rest = rest

-- an item of the first so many is one of all, and stands among so many
taken_at : {A : Type 0} (n : ℕ) (xs : List A) (k : ℕ) (x : A) → slice_get (take n xs) k ≡ Some x
    → (k < n) × (slice_get xs k ≡ Some x)
taken_at zero xs k x at = absurd (none-some x at)
taken_at (suc n) [] k x at = absurd (none-some x at)
taken_at (suc n) (y ∷ xs) zero x at = (omega arith, at)
taken_at (suc n) (y ∷ xs) (suc k) x at =
    let later = taken_at n xs k x at in let below = later.0 in (omega (arith, below), later.1)

at_taken : {A : Type 0} (n : ℕ) (xs : List A) (k : ℕ) (x : A) → k < n → slice_get xs k ≡ Some x
    → slice_get (take n xs) k ≡ Some x
at_taken n [] k x below at = absurd (none-some x at)
at_taken zero (y ∷ xs) k x below at = absurd (omega (arith, below))
at_taken (suc n) (y ∷ xs) zero x below at = at
at_taken (suc n) (y ∷ xs) (suc k) x below at = at_taken n xs k x (omega (arith, below)) at

-- what is inside an item, if it is an instance
abbrev pub entries_of : Export → Option (List Entry)
entries_of (export.Instance ty xs) = Some xs.definitions
entries_of e = None

-- a plan's item is under these names
pub data IsUnder (items : List Export) : List Entry → ℕ → Type 0 where
  is_named : {es : List Entry} {e : Entry} (k : ℕ) → slice_get es k ≡ Some e → IsUnder items es (number_of e)
  is_inside : {es : List Entry} {e : Entry} {x : Export} {inner : List Entry} {n : ℕ} (k : ℕ)
      → slice_get es k ≡ Some e → slice_get items (number_of e) ≡ Some x → entries_of x ≡ Some inner
      → IsUnder items inner n → IsUnder items es n

module _ (m : ℕ) where
  -- whether a tree is the module or has it inside
  abbrev holds : plan.PlanExport Mark → Bool
  holds x = exports_module m x

  -- an entry whose tree has it makes a list of exports have it
  nested_holds : (trees : List (plan.PlanExport Mark)) (es : List Entry) (k : ℕ) (e : Entry) (x : plan.PlanExport Mark)
      → slice_get es k ≡ Some e → slice_get trees (number_of e) ≡ Some x → holds x ≡ true
      → some_export m (nested_view trees es) ≡ true
  nested_holds trees [] k e x at there is = absurd (none-some e at)
  nested_holds trees (f ∷ es) zero e x at there is =
      ap (λ o. some_export m (with_export f o (nested_view trees es)))
      (ap (λ (g : Entry). slice_get trees (number_of g)) (same_Some f e at) ∙ there)
      ∙ ap (λ b. b || some_export m (nested_view trees es)) is
  nested_holds trees (f ∷ es) (suc k) e x at there is =
      by (slice_get trees (number_of f)) (nested_holds trees es k e x at there is)
    where
      or_holds : (b : Bool) → some_export m (nested_view trees es) ≡ true
          → (b || some_export m (nested_view trees es)) ≡ true
      or_holds true rest = refl
      or_holds false rest = rest

      by : (o : Option (plan.PlanExport Mark)) → some_export m (nested_view trees es) ≡ true
          → some_export m (with_export f o (nested_view trees es)) ≡ true
      by None rest = rest
      by (Some y) rest = or_holds (holds y) rest

  -- and where a list of exports has it, so has the tree of an entry
  record HasOne (trees : List (plan.PlanExport Mark)) (es : List Entry) : Type 0 where
    place : ℕ
    entry : Entry
    tree : plan.PlanExport Mark
    at : slice_get es place ≡ Some entry
    there : slice_get trees (number_of entry) ≡ Some tree
    is : holds tree ≡ true

  later_one : (trees : List (plan.PlanExport Mark)) (f : Entry) (es : List Entry) → HasOne trees es
      → HasOne trees (f ∷ es)
  later_one trees f es h = record {
    place = suc h.place;
    entry = h.entry;
    tree = h.tree;
    at = h.at;
    there = h.there;
    is = h.is;
  }

  nested_one : (trees : List (plan.PlanExport Mark)) (es : List Entry) → some_export m (nested_view trees es) ≡ true
      → HasOne trees es
  nested_one trees [] is = absurd (true≢false (sym is))
  nested_one trees (f ∷ es) is = by (slice_get trees (number_of f)) refl is (nested_one trees es)
    where
      one_or : (y : plan.PlanExport Mark) → slice_get trees (number_of f) ≡ Some y → (b : Bool) → holds y ≡ b
          → (b || some_export m (nested_view trees es)) ≡ true
          → (some_export m (nested_view trees es) ≡ true → HasOne trees es) → HasOne trees (f ∷ es)
      one_or y at true holds_it both rest =
          record { place = 0; entry = f; tree = y; at = refl; there = at; is = holds_it }
      one_or y at false holds_it both rest = later_one trees f es (rest both)

      by : (o : Option (plan.PlanExport Mark)) → slice_get trees (number_of f) ≡ o
          → some_export m (with_export f o (nested_view trees es)) ≡ true
          → (some_export m (nested_view trees es) ≡ true → HasOne trees es) → HasOne trees (f ∷ es)
      by None at both rest = later_one trees f es (rest both)
      by (Some y) at both rest = one_or y at (holds y) refl both rest

  -- the same of the exports of the root
  root_holds : (trees : List (plan.PlanExport Mark)) (es : List Entry) (k : ℕ) (e : Entry) (x : plan.PlanExport Mark)
      → slice_get es k ≡ Some e → slice_get trees (number_of e) ≡ Some x → holds x ≡ true
      → list_any (λ (y : plan.NamedExport Mark). holds y.item) (filter_map (named_view trees) es) ≡ true
  root_holds trees [] k e x at there is = absurd (none-some e at)
  root_holds trees (f ∷ es) zero e x at there is =
      ap (λ o. list_any (λ (y : plan.NamedExport Mark). holds y.item)
      (cons_option (option_map (λ (z : plan.PlanExport Mark). record { name = f.0; extern_data = f.1.1; item = z }) o)
      (filter_map (named_view trees) es)))
      (ap (λ (g : Entry). slice_get trees (number_of g)) (same_Some f e at) ∙ there)
      ∙ ap (λ b. b || list_any (λ (y : plan.NamedExport Mark). holds y.item) (filter_map (named_view trees) es)) is
  root_holds trees (f ∷ es) (suc k) e x at there is =
      by (slice_get trees (number_of f)) (root_holds trees es k e x at there is)
    where
      or_holds : (b : Bool) → list_any (λ (y : plan.NamedExport Mark). holds y.item) (filter_map (named_view trees) es) ≡ true
          → (b || list_any (λ (y : plan.NamedExport Mark). holds y.item) (filter_map (named_view trees) es)) ≡ true
      or_holds true rest = refl
      or_holds false rest = rest

      by : (o : Option (plan.PlanExport Mark))
          → list_any (λ (y : plan.NamedExport Mark). holds y.item) (filter_map (named_view trees) es) ≡ true
          → list_any (λ (y : plan.NamedExport Mark). holds y.item)
          (cons_option (option_map (λ (z : plan.PlanExport Mark). record { name = f.0; extern_data = f.1.1; item = z }) o)
          (filter_map (named_view trees) es))
          ≡ true
      by None rest = rest
      by (Some y) rest = or_holds (holds y) rest

  root_one : (trees : List (plan.PlanExport Mark)) (es : List Entry)
      → list_any (λ (y : plan.NamedExport Mark). holds y.item) (filter_map (named_view trees) es) ≡ true
      → HasOne trees es
  root_one trees [] is = absurd (true≢false (sym is))
  root_one trees (f ∷ es) is = by (slice_get trees (number_of f)) refl is (root_one trees es)
    where
      one_or : (y : plan.PlanExport Mark) → slice_get trees (number_of f) ≡ Some y → (b : Bool) → holds y ≡ b
          → (b || list_any (λ (z : plan.NamedExport Mark). holds z.item) (filter_map (named_view trees) es)) ≡ true
          → (list_any (λ (z : plan.NamedExport Mark). holds z.item) (filter_map (named_view trees) es) ≡ true
          → HasOne trees es)
          → HasOne trees (f ∷ es)
      one_or y at true holds_it both rest =
          record { place = 0; entry = f; tree = y; at = refl; there = at; is = holds_it }
      one_or y at false holds_it both rest = later_one trees f es (rest both)

      by : (o : Option (plan.PlanExport Mark)) → slice_get trees (number_of f) ≡ o
          → list_any (λ (z : plan.NamedExport Mark). holds z.item)
          (cons_option (option_map (λ (z : plan.PlanExport Mark). record { name = f.0; extern_data = f.1.1; item = z }) o)
          (filter_map (named_view trees) es))
          ≡ true
          → (list_any (λ (z : plan.NamedExport Mark). holds z.item) (filter_map (named_view trees) es) ≡ true
          → HasOne trees es)
          → HasOne trees (f ∷ es)
      by None at both rest = later_one trees f es (rest both)
      by (Some y) at both rest = one_or y at (holds y) refl both rest

  -- a module is a tree that is it
  seen : (trees : List (plan.PlanExport Mark)) (e : Export) → is_module m e ≡ true → holds (export_view trees e) ≡ true
  seen trees (export.ModuleStatic ty index) is = is
  seen trees (export.LiftedFunction ty f o) is = absurd (true≢false (sym is))
  seen trees (export.ImportedFunction ty r) is = absurd (true≢false (sym is))
  seen trees (export.ModuleImport ty r) is = absurd (true≢false (sym is))
  seen trees (export.Instance ty es) is = absurd (true≢false (sym is))
  seen trees (export.Type_ ty) is = absurd (true≢false (sym is))

  module _ (items : List Export) (behind : (n : ℕ) (x : Export) (es : List Entry) (k : ℕ) (e : Entry)
      → slice_get items n ≡ Some x → entries_of x ≡ Some es → slice_get es k ≡ Some e → number_of e < n) where
    -- a tree of an instance has it where that of one of its entries does
    instance_holds : (n : ℕ) (x : Export) (es : List Entry) → slice_get items n ≡ Some x → entries_of x ≡ Some es
        → HasOne (trees_of items) es → holds (export_view (take n (trees_of items)) x) ≡ true
    instance_holds n (export.Instance ty xs) es at is h =
        let same : xs.definitions ≡ es = same_Some xs.definitions es is in
        nested_holds (take n (trees_of items)) xs.definitions h.place h.entry h.tree
        (ap (λ l. slice_get l h.place) same ∙ h.at)
        (at_taken n (trees_of items) (number_of h.entry) h.tree
        (behind n (export.Instance ty xs) es h.place h.entry at is h.at) h.there) h.is
    instance_holds n (export.ModuleStatic ty index) es at is h = absurd (none-some es is)
    instance_holds n (export.LiftedFunction ty f o) es at is h = absurd (none-some es is)
    instance_holds n (export.ImportedFunction ty r) es at is h = absurd (none-some es is)
    instance_holds n (export.ModuleImport ty r) es at is h = absurd (none-some es is)
    instance_holds n (export.Type_ ty) es at is h = absurd (none-some es is)

    -- so where a module is under names, the tree of one of them has it
    under_one : (es : List Entry) (n : ℕ) (e : Export) → IsUnder items es n → slice_get items n ≡ Some e
        → is_module m e ≡ true → HasOne (trees_of items) es
    under_one es n e (is_named {e = f} k at) there is = record {
      place = k;
      entry = f;
      tree = export_view (take n (trees_of items)) e;
      at = at;
      there = tree_of items n e there;
      is = seen (take n (trees_of items)) e is;
    }
    under_one es n e (is_inside {e = f} {x = x} {inner = inner} k at item has under) there is =
        let deeper = under_one inner n e under there is in
        record {
          place = k;
          entry = f;
          tree = export_view (take (number_of f) (trees_of items)) x;
          at = at;
          there = tree_of items (number_of f) x item;
          is = instance_holds (number_of f) x inner item has deeper;
        }

    -- and where a tree has it, it is among the items
    tree_item : (bound n : ℕ) (x : plan.PlanExport Mark) → n < bound → slice_get (trees_of items) n ≡ Some x
        → holds x ≡ true → Passes (is_module m) items
    tree_item zero n x below at is = absurd (omega (arith, below))
    tree_item (suc bound) n x below at is =
        let long = length-trees_of items in
        let within = slice_get_within (trees_of items) n x at in
        let item = found_at items n (omega (arith, long, within)) in
        by item.0 item.1 (ap holds (same_Some _ x (sym (tree_of items n item.0 item.1) ∙ at)) ∙ is)
        (λ k y lower there has. tree_item bound k y (omega (arith, lower, below)) there has)
      where
        by : (e : Export) → slice_get items n ≡ Some e → holds (export_view (take n (trees_of items)) e) ≡ true
            → ((k : ℕ) (y : plan.PlanExport Mark) → k < n → slice_get (trees_of items) k ≡ Some y → holds y ≡ true
            → Passes (is_module m) items)
            → Passes (is_module m) items
        by (export.ModuleStatic ty index) there has deeper =
            record { place = n; item = export.ModuleStatic ty index; at = there; passes = has }
        by (export.LiftedFunction ty f o) there has deeper = absurd (true≢false (sym has))
        by (export.ImportedFunction ty r) there has deeper = absurd (true≢false (sym has))
        by (export.ModuleImport ty r) there has deeper = absurd (true≢false (sym has))
        by (export.Type_ ty) there has deeper = absurd (true≢false (sym has))
        by (export.Instance ty xs) there has deeper =
            let h = nested_one (take n (trees_of items)) xs.definitions has in
            let lower = taken_at n (trees_of items) (number_of h.entry) h.tree h.there in
            deeper (number_of h.entry) h.tree lower.0 lower.1 h.is

    -- so the modules among the items are those that the root exports
    pub same_modules : (es : List Entry)
        → ((n : ℕ) → n < length items → IsUnder items es n)
        → is_exported_in items m
        ≡ list_any (λ (y : plan.NamedExport Mark). holds y.item) (filter_map (named_view (trees_of items)) es)
    unfolding is_exported_in
    same_modules es under = both_same _ _ to from
      where
        to : list_any (is_module m) items ≡ true
            → list_any (λ (y : plan.NamedExport Mark). holds y.item) (filter_map (named_view (trees_of items)) es) ≡ true
        to is =
            let one = any_passes (is_module m) items is in
            let h = under_one es one.place one.item (under one.place (slice_get_within items one.place one.item one.at))
            one.at one.passes in
            root_holds (trees_of items) es h.place h.entry h.tree h.at h.there h.is

        from : list_any (λ (y : plan.NamedExport Mark). holds y.item) (filter_map (named_view (trees_of items)) es)
            ≡ true
            → list_any (is_module m) items ≡ true
        from is =
            let h = root_one (trees_of items) es is in
            let within = slice_get_within (trees_of items) (number_of h.entry) h.tree h.there in
            let item = tree_item (length (trees_of items)) (number_of h.entry) h.tree within h.there h.is in
            passes_any (is_module m) items item.place item.item item.at item.passes
