-- The modules among the export items of a plan are those that it exports, at whatever depth.
use Rattle.std.proofs.Common.{◌≡◌, ◌<◌, ◌+◌, ◌&&◌, ℕ, zero, suc, Bool, true, false, List, [], ◌∷◌, length, Some}
use Rattle.std.proofs.Common.{refl, sym, ap, subst, ◌∙◌, arith, true≢false}
use Rattle.std.specs.Prelude.{nat_lt, slice_get}
use Rattle.std.specs.List.{AllZip}
use Rattle.std.proofs.lemmas.Bool.{ltb-true}
use Rattle.std.proofs.lemmas.Option.{none-some, same_Some}
use Rattle.pc_types.specs.declared.module_record.ModuleRecord.{ModuleRecord}
use Rattle.pc_types.specs.declared.parsed.TypeTable.{TypeTable}
use Rattle.pc_types.specs.declared.type_index.TypeComponentInstanceIndex.{TypeComponentInstanceIndex}
use Rattle.pc_types_lists.specs.Types.{Types}
use Rattle.pc_info.specs.declared.component.ComponentTranslation.{ComponentTranslation}
use Rattle.pc_info.specs.declared.export.Export.{Export as PlanItem}
use Rattle.pc_info.specs.declared.export.Export.TheVariants as item
use Rattle.pc_info.specs.declared.module.ModuleTranslation.{ModuleTranslation}
use Rattle.pc_info.specs.Exports.{Entry, are_behind_their_parts, is_behind_its_parts, names_below, number_of}
use Rattle.pc_info.specs.View.{view}
use Rattle.pc_spec_reading.specs.Reading.{Reading}
use Rattle.pc_spec_wiring.specs.Exported.{is_exported}
use Rattle.pc_dfg.specs.declared.dfg.ComponentDfg.{ComponentDfg}
use Rattle.pc_dfg.specs.declared.export.Export.{Export}
use Rattle.pc_dfg.specs.declared.export.Export.TheVariants as export
use Rattle.pc_dfg.specs.Lists.{NamedExport}
use Rattle.pc_dfg_finish.specs.Finishes.{IsItem}
use Rattle.pc_analysis_imports.specs.Exported.{is_exported_in}
use Rattle.pc_inline.specs.Inlines.{GraphStands}
use Rattle.pc_inline_exports.specs.Exports as graph
use Rattle.pc_translate.specs.Finished.{IsFinished}
use Rattle.pc_translate.specs.Partitioned.{IsPartitioned}
use Rattle.pc_translate.proofs.ExportedItemLemmas.{IsUnder, entries_of, is_inside, is_named, same_modules}

-- the partner of an item of the first of two lists
zip_at : {A B : Type 0} (R : A → B → Type 0) (xs : List A) (ys : List B) → AllZip R xs ys → (n : ℕ) (x : A)
    → slice_get xs n ≡ Some x → (y : B) × (slice_get ys n ≡ Some y) × R x y
zip_at R [] [] zip n x at = absurd (none-some x at)
zip_at R [] (y ∷ ys) zip n x at = absurd zip
zip_at R (z ∷ xs) [] zip n x at = absurd zip
zip_at R (z ∷ xs) (y ∷ ys) zip zero x at = (y, refl, subst (λ w. R w y) (same_Some z x at) zip.0)
zip_at R (z ∷ xs) (y ∷ ys) zip (suc n) x at = zip_at R xs ys zip.1 n x at

-- an instance of the plan has inside what that of the graph has
inside_same : (ty : TypeComponentInstanceIndex) (es : List NamedExport) (y : PlanItem) → IsItem (export.Instance ty es) y → entries_of y ≡ Some es
unfolding IsItem
inside_same ty es (item.Instance ty' es') is = ap Some is.1
inside_same ty es (item.LiftedFunction ty' f o) is = absurd is
inside_same ty es (item.ImportedFunction ty' n) is = absurd is
inside_same ty es (item.ModuleStatic ty' n) is = absurd is
inside_same ty es (item.ModuleImport ty' n) is = absurd is
inside_same ty es (item.Type_ ty') is = absurd is

-- what is under names in a graph is so in its plan
under_there : (xs : List Export) (ys : List PlanItem) → AllZip IsItem xs ys → (es : List NamedExport) (n : ℕ)
    → graph.IsUnder xs es n → IsUnder ys es n
under_there xs ys zip es n (graph.is_named k at) = is_named k at
under_there xs ys zip es n (graph.is_inside {inner = inner} {e = e} {ty = ty} k at is under) =
    let there = zip_at IsItem xs ys zip e.1.0.0 (export.Instance ty inner) is in
    is_inside k at there.1 (inside_same ty inner there.0 there.2) (under_there xs ys zip inner n under)

-- an item stands behind what is inside it
first_holds : (a b : Bool) → (a && b) ≡ true → a ≡ true
first_holds true b is = refl
first_holds false b is = absurd (true≢false (sym is))

second_holds : (a b : Bool) → (a && b) ≡ true → b ≡ true
second_holds true b is = is
second_holds false b is = absurd (true≢false (sym is))

entry_below : (n : ℕ) (es : List Entry) (k : ℕ) (e : Entry) → names_below n es ≡ true → slice_get es k ≡ Some e
    → number_of e < n
entry_below n [] k e below at = absurd (none-some e at)
entry_below n (f ∷ es) zero e below at =
    ltb-true (number_of e) n
    (ap (λ (g : Entry). nat_lt (number_of g) n) (sym (same_Some f e at))
    ∙ first_holds (nat_lt (number_of f) n) (names_below n es) below)
entry_below n (f ∷ es) (suc k) e below at =
    entry_below n es k e (second_holds (nat_lt (number_of f) n) (names_below n es) below) at

item_behind : (n : ℕ) (x : PlanItem) (es : List Entry) (k : ℕ) (e : Entry) → is_behind_its_parts n x ≡ true
    → entries_of x ≡ Some es → slice_get es k ≡ Some e → number_of e < n
item_behind n (item.Instance ty xs) es k e behind is at =
    entry_below n xs.definitions k e behind (ap (λ l. slice_get l k) (same_Some xs.definitions es is) ∙ at)
item_behind n (item.LiftedFunction ty f o) es k e behind is at = absurd (none-some es is)
item_behind n (item.ImportedFunction ty r) es k e behind is at = absurd (none-some es is)
item_behind n (item.ModuleStatic ty m) es k e behind is at = absurd (none-some es is)
item_behind n (item.ModuleImport ty r) es k e behind is at = absurd (none-some es is)
item_behind n (item.Type_ ty) es k e behind is at = absurd (none-some es is)

all_behind : (first : ℕ) (items : List PlanItem) → are_behind_their_parts first items ≡ true → (n : ℕ) (x : PlanItem)
    (es : List Entry) (k : ℕ) (e : Entry) → slice_get items n ≡ Some x → entries_of x ≡ Some es
    → slice_get es k ≡ Some e → number_of e < first + n
all_behind first [] behind n x es k e there is at = absurd (none-some x there)
all_behind first (y ∷ items) behind zero x es k e there is at =
    let own = first_holds (is_behind_its_parts first y) (are_behind_their_parts (first + 1) items) behind in
    let below = item_behind first x es k e (ap (is_behind_its_parts first) (sym (same_Some y x there)) ∙ own) is at in
    omega (arith, below)
all_behind first (y ∷ items) behind (suc n) x es k e there is at =
    let rest = second_holds (is_behind_its_parts first y) (are_behind_their_parts (first + 1) items) behind in
    let below = all_behind (first + 1) items rest n x es k e there is at in
    omega (arith, below)

module _ (t : TypeTable) (types : Types) (ms : List ModuleRecord) (g h : ComponentDfg) (r : Reading)
    (plan : ComponentTranslation) (modules : List ModuleTranslation) (s : GraphStands t ms types g r)
    (q : IsPartitioned ms r types g h modules) (finished : IsFinished types t h plan) where
  -- each item of the plan is under its exports
  under : (n : ℕ) → n < length plan.component.export_items
      → IsUnder plan.component.export_items plan.component.exports.definitions n
  under n below =
      let f = finished.finishes in
      let items = ap (λ (x : ComponentDfg). x.export_items) q.keeps.rest in
      let names = f.names ∙ ap (λ (x : ComponentDfg). x.exports) q.keeps.rest in
      let zip = subst (λ xs. AllZip IsItem xs plan.component.export_items) items f.items in
      let long = zip_long g.export_items plan.component.export_items zip in
      subst (λ es. IsUnder plan.component.export_items es n) (sym names)
      (under_there g.export_items plan.component.export_items zip g.exports n (s.numbers.whole n (omega (arith, below, long))))
    where
      zip_long : (xs : List Export) (ys : List PlanItem) → AllZip IsItem xs ys → length xs ≡ length ys
      zip_long [] [] zip = refl
      zip_long [] (y ∷ ys) zip = absurd zip
      zip_long (x ∷ xs) [] zip = absurd zip
      zip_long (x ∷ xs) (y ∷ ys) zip = ap suc (zip_long xs ys zip.1)

  pub exports_same : is_exported_in plan.component.export_items ≡ is_exported (view plan modules)
  exports_same =
      let held = finished.finishes.held in
      let behind = all_behind 0 plan.component.export_items
      (second_holds (names_below (length plan.component.export_items) plan.component.exports.definitions)
      (are_behind_their_parts 0 plan.component.export_items) held) in
      λ i m. same_modules m plan.component.export_items
      (λ n x es k e there is at. let below = behind n x es k e there is at in omega (arith, below))
      plan.component.exports.definitions under i
