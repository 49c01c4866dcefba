-- The functions that a plan exports have options entries of it, and an options entry is used where it was numbered for
-- an export.
use Rattle.std.proofs.Common.{◌≡◌, ◌<◌, ℕ, zero, suc, List, [], ◌∷◌, inl, inr, length, Option}
use Rattle.std.proofs.Common.{Some, refl, sym, ap, subst, ◌∙◌}
use Rattle.std.specs.Prelude.{slice_get, unwrap_or}
use Rattle.std.specs.List.{AllZip, Contains, flat_map}
use Rattle.std.proofs.lemmas.List.Concat.{flat_map-cons}
use Rattle.std.proofs.lemmas.List.Elements.{All-contains, All-nil, Contains-append_cases}
use Rattle.std.proofs.lemmas.Option.{none-some, same_Some}
use Rattle.pc_names.specs.Contents.{Contents}
use Rattle.pc_numbers.specs.declared.runtime.OptionsIndex.{OptionsIndex}
use Rattle.pc_types.specs.declared.type_index.TypeFuncIndex.{TypeFuncIndex}
use Rattle.pc_types.specs.declared.type_index.TypeModuleIndex.{TypeModuleIndex}
use Rattle.pc_info.specs.declared.core_def.CoreDef.{CoreDef as PlanDef}
use Rattle.pc_info.specs.declared.export.Export.{Export as PlanItem}
use Rattle.pc_info.specs.declared.export.Export.TheVariants as item
use Rattle.pc_dfg.specs.declared.core_def.CoreDef.{CoreDef}
use Rattle.pc_dfg.specs.declared.dfg.ComponentDfg.{ComponentDfg}
use Rattle.pc_dfg.specs.declared.export.Export.{Export}
use Rattle.pc_dfg.specs.declared.export.Export.TheVariants as export
use Rattle.pc_dfg_linearize.specs.declared.id.Id.{Id}
use Rattle.pc_dfg_linearize.specs.declared.id.Id.TheVariants as id
use Rattle.pc_dfg_linearize.specs.declared.state.Finish.{Finish}
use Rattle.pc_dfg_finish.specs.Exports.{Exports, IsConverted, IsExportable, Target, in_export, in_exports}
use Rattle.pc_dfg_linearize.specs.Numbers.{number_at}
use Rattle.pc_dfg_linearize.specs.Once.{Fills}
use Rattle.pc_dfg_linearize.specs.Parts.{HasNumber, in_def, number_of, options_id}
use Rattle.pc_info.specs.Slots.{HasOptions}
use Rattle.pc_dfg_linearize.proofs.AllLemmas.{all_at}
use Rattle.pc_dfg_linearize.proofs.PartLemmas.{all_one}
use Rattle.pc_dfg_finish.proofs.UsedLemmas.{NoOptions, no_def}

module _ {A B : Type 0} (R : A → B → Type 0) where
  -- what stands at a place is related to what stands there in the other list
  pub zip_back : (xs : List A) (ys : List B) → AllZip R xs ys → (n : ℕ) (y : B) → slice_get ys n ≡ Some y
      → (x : A) × (slice_get xs n ≡ Some x) × R x y
  zip_back [] [] zip n y at = absurd (none-some y at)
  zip_back [] (z ∷ ys) zip n y at = absurd zip
  zip_back (x ∷ xs) [] zip n y at = absurd (none-some y at)
  zip_back (x ∷ xs) (z ∷ ys) zip zero y at = (x, refl, subst (R x) (same_Some z y at) zip.0)
  zip_back (x ∷ xs) (z ∷ ys) zip (suc n) y at = zip_back xs ys zip.1 n y at

  pub zip_on : (xs : List A) (ys : List B) → AllZip R xs ys → (n : ℕ) (x : A) → slice_get xs n ≡ Some x
      → (y : B) × (slice_get ys n ≡ Some y) × R x y
  zip_on [] [] zip n x at = absurd (none-some x at)
  zip_on [] (z ∷ ys) zip n x at = absurd zip
  zip_on (w ∷ xs) [] zip n x at = absurd zip
  zip_on (w ∷ xs) (z ∷ ys) zip zero x at = (z, refl, subst (λ v. R v z) (same_Some w x at) zip.0)
  zip_on (w ∷ xs) (z ∷ ys) zip (suc n) x at = zip_on xs ys zip.1 n x at

-- what a function makes of the items of a list, it makes of one of them
pub made_of : {A B : Type 0} (f : A → List B) (xs : List A) (y : B) → Contains (flat_map f xs) y
    → (n : ℕ) × (x : A) × (slice_get xs n ≡ Some x) × Contains (f x) y
made_of {A} {B} f [] y inside = absurd (All-contains (λ (z : B). ⊥) [] y (All-nil (λ (z : B). ⊥)) inside)
made_of {A} {B} f (x ∷ xs) y inside =
    elim (Contains-append_cases (f x) (flat_map f xs) y (subst (λ l. Contains l y) (flat_map-cons f x xs) inside)) [
      | inl first ↦ (0, x, refl, first)
      | inr later ↦ let rest = made_of f xs y later in (suc rest.0, rest.1, rest.2, rest.3)
    ]

-- the number of an exported function's options
entry_of : PlanItem → ℕ
entry_of (item.LiftedFunction ty f o) = o.0
entry_of e = 0

-- an id in a list of one is it
only_in : (x y : Id) → Contains (x ∷ []) y → x ≡ y
only_in x y inside = All-contains (λ z. x ≡ z) (x ∷ []) y (all_one (λ z. x ≡ z) x refl) inside

-- the number in options
number_in : Id → ℕ
number_in (id.Options o) = o.0
number_in x = 0

module _ (g : ComponentDfg) (types : List (Option TypeModuleIndex)) (h : Finish) where
  below : Fills h → (ty : TypeFuncIndex) (f : PlanDef) (o : OptionsIndex) (e : Export)
      → IsConverted g types h e (item.LiftedFunction ty f o) → IsExportable g h e → o.0 < length h.options
  unfolding IsConverted number_of entry_of
  below fills ty f o (export.LiftedFunction ty' d k) is has =
      let number = has.options in
      let same = ap entry_of is ∙ ap (λ n. unwrap_or n 0) number.1 in
      subst (λ n. n < length h.options) (sym same) (fills.options.below k.0 number.0 number.1)
  below fills ty f o (export.ImportedFunction ty' r) is has = absurd (cc is)
  below fills ty f o (export.ModuleStatic ty' m) is has = absurd (cc is)
  below fills ty f o (export.ModuleImport ty' r) is has = absurd (cc is)
  below fills ty f o (export.Instance ty' es) is has = let same = is.1 in absurd (cc same)
  below fills ty f o (export.Type_ ty') is has = absurd (cc is)

  names_options : (e : Export) (k : ℕ) → Contains (in_export g e) (options_id k)
      → (ty : TypeFuncIndex) × (d : CoreDef) × (e ≡ export.LiftedFunction ty d (record { 0 = k }))
  unfolding NoOptions number_in
  names_options (export.LiftedFunction ty d o) k inside =
      elim (Contains-append_cases (in_def g d) (id.Options o ∷ []) (options_id k) inside) [
        | inl within ↦ absurd (All-contains NoOptions (in_def g d) (options_id k) (no_def g d) within)
        | inr last ↦
            let same : o.0 ≡ k = ap number_in (only_in (id.Options o) (options_id k) last) in
            (ty, d, ap (λ n. export.LiftedFunction ty d (record { 0 = n })) same)
      ]
  names_options (export.ImportedFunction ty r) k inside =
      absurd (All-contains NoOptions [] (options_id k) (All-nil NoOptions) inside)
  names_options (export.ModuleStatic ty m) k inside =
      absurd (All-contains NoOptions [] (options_id k) (All-nil NoOptions) inside)
  names_options (export.ModuleImport ty r) k inside =
      absurd (All-contains NoOptions [] (options_id k) (All-nil NoOptions) inside)
  names_options (export.Instance ty es) k inside =
      absurd (All-contains NoOptions [] (options_id k) (All-nil NoOptions) inside)
  names_options (export.Type_ ty) k inside =
      absurd (All-contains NoOptions [] (options_id k) (All-nil NoOptions) inside)

  has_options : (ty : TypeFuncIndex) (d : CoreDef) (k n : ℕ) → number_at h.numbers.options k ≡ Some n → (e : PlanItem)
      → IsConverted g types h (export.LiftedFunction ty d (record { 0 = k })) e → HasOptions n e
  unfolding IsConverted
  has_options ty d k n at e is = subst (HasOptions n) (sym is) (ap (λ m. unwrap_or m 0) at)

  module _ (names : Contents (List ℕ) Target) (items : List PlanItem) (exports : Exports g types h names items) where
    -- an exported function has an options entry
    pub lifted_within : Fills h → (n : ℕ) (ty : TypeFuncIndex) (f : PlanDef) (o : OptionsIndex)
        → slice_get items n ≡ Some (item.LiftedFunction ty f o) → o.0 < length h.options
    lifted_within fills n ty f o at =
        let from = zip_back (IsConverted g types h) g.export_items items exports.converted n
        (item.LiftedFunction ty f o) at in
        below fills ty f o from.0 from.2
        (all_at (IsExportable g h) g.export_items n from.0 exports.exportable from.1)

    -- what the exports depend on has its number
    pub exported_numbered : (x : Id) → Contains (in_exports g g.export_items) x → HasNumber h x
    exported_numbered x inside =
        let from = made_of (in_export g) g.export_items x inside in
        by from.1 (all_at (IsExportable g h) g.export_items from.0 from.1 exports.exportable from.2) from.3
      where
        none : Contains [] x → HasNumber h x
        none within = absurd (All-contains (λ (z : Id). ⊥) [] x (All-nil (λ (z : Id). ⊥)) within)

        by : (e : Export) → IsExportable g h e → Contains (in_export g e) x → HasNumber h x
        by (export.LiftedFunction ty d o) has within =
            elim (Contains-append_cases (in_def g d) (id.Options o ∷ []) x within) [
              | inl part ↦ All-contains (HasNumber h) (in_def g d) x has.func part
              | inr last ↦ subst (HasNumber h) (only_in (id.Options o) x last) has.options
            ]
        by (export.ImportedFunction ty r) has within = none within
        by (export.ModuleStatic ty m) has within = none within
        by (export.ModuleImport ty r) has within = none within
        by (export.Instance ty es) has within = none within
        by (export.Type_ ty) has within = none within

    -- options that an export names are those of an item of the plan
    pub exported_options : (k n : ℕ) → Contains (in_exports g g.export_items) (options_id k)
        → number_at h.numbers.options k ≡ Some n
        → (j : ℕ) × (e : PlanItem) × (slice_get items j ≡ Some e) × HasOptions n e
    exported_options k n inside at =
        let from = made_of (in_export g) g.export_items (options_id k) inside in
        let is = names_options from.1 k from.3 in
        let there = zip_on (IsConverted g types h) g.export_items items exports.converted from.0 from.1 from.2 in (
          from.0,
          there.0,
          there.1,
          has_options is.0 is.1 k n at there.0 (subst (λ x. IsConverted g types h x there.0) is.2 there.2),
        )
