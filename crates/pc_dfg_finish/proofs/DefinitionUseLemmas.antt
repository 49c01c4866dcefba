-- Each trampoline and each intrinsic of a plan is named by a step, or by what gave it its number.
use Rattle.std.proofs.Common.{◌≡◌, ◌⊎◌, inl, inr, ℕ, List, [], ◌∷◌, Option, Some, refl, sym, ap, subst, ◌∙◌}
use Rattle.std.specs.Prelude.{slice_get}
use Rattle.std.specs.List.{Contains}
use Rattle.std.proofs.lemmas.List.Elements.{Contains-append_cases}
use Rattle.pc_names.specs.Contents.{Contents}
use Rattle.pc_types.specs.declared.type_index.TypeModuleIndex.{TypeModuleIndex}
use Rattle.pc_spec_plan.specs.PlanView.{Definition, trampoline}
use Rattle.pc_info.specs.declared.export.Export.{Export as PlanItem}
use Rattle.pc_info.specs.declared.export.Export.TheVariants as item
use Rattle.pc_info.specs.Slots.{IsTrampoline}
use Rattle.pc_dfg.specs.declared.dfg.ComponentDfg.{ComponentDfg}
use Rattle.pc_dfg.specs.declared.export.Export.{Export}
use Rattle.pc_dfg.specs.declared.export.Export.TheVariants as export
use Rattle.pc_dfg_linearize.specs.declared.id.Id.{Id}
use Rattle.pc_dfg_linearize.specs.declared.id.Id.TheVariants as id
use Rattle.pc_dfg_linearize.specs.declared.state.Finish.{Finish}
use Rattle.pc_dfg_finish.specs.Exports.{Exports, IsConverted, Target, in_export, in_exports}
use Rattle.pc_dfg_finish.specs.Uses.{IsFunction}
use Rattle.pc_dfg_linearize.specs.Once.{Alike, IsUsedBy, unsigned}
use Rattle.pc_dfg_linearize.specs.Parts.{HasNumber, in_def, number_of}
use Rattle.pc_dfg_linearize.specs.Represented.{Represents, StepsHave, definition_of}
use Rattle.pc_dfg_finish.proofs.LiftedLemmas.{made_of, zip_on}
use Rattle.pc_dfg_linearize.proofs.NoteLemmas.{alike_number}
use Rattle.pc_dfg_linearize.proofs.PartLemmas.{all_one}
use Rattle.pc_dfg_linearize.proofs.StepNameLemmas.{IsUnnamed, def_named, none_defined}
use Rattle.pc_dfg_linearize.proofs.TakeLemmas.{none_in}
use Rattle.pc_dfg_finish.proofs.UsedLemmas.{leads_last, leads_numbered}

-- what has one number has become one definition
alike_definition : (x y : Id) (n : ℕ) → Alike x y → definition_of x n ≡ definition_of y n
unfolding unsigned definition_of
alike_definition x y n alike = sym (same x) ∙ ap (λ z. definition_of z n) alike ∙ same y
  where
    same : (z : Id) → definition_of (unsigned z) n ≡ definition_of z n
    same (id.Trampoline t) = refl
    same (id.Intrinsic s i) = refl
    same z = refl

-- an exported function that is a trampoline
pub is_trampoline : (n : ℕ) (e : PlanItem) → IsFunction (trampoline n) e → IsTrampoline n e
is_trampoline n (item.LiftedFunction ty f o) is = is
is_trampoline n e is = absurd is

module _ (g : ComponentDfg) where
  -- where an id with a number leads to a definition, a step names that, or the id itself has become it
  pub used_definition : (f : Finish) → Represents g f → (r y : Id) (n : ℕ) (d : Definition) → HasNumber f r
      → IsUsedBy g r y → number_of f y ≡ Some n → definition_of y n ≡ Some d
      → ((number_of f r ≡ Some n) × (definition_of r n ≡ Some d)) ⊎ StepsHave f.steps d
  used_definition f is r y n d has used at becomes =
      let z = used.0 in
      let number = alike_number f z y used.2 ∙ at in
      let definition = alike_definition z y n used.2 ∙ becomes in
      elim (leads_last g r z used.1) [
        | inl same ↦ inl (ap (number_of f) same ∙ number, ap (λ x. definition_of x n) same ∙ definition)
        | inr last ↦ inr (is.named last.0 (leads_numbered g f is r last.0 last.1 has) z n d last.2 number definition)
      ]

  module _ (types : List (Option TypeModuleIndex)) (h : Finish) where
    item_named : (x : Id) (n : ℕ) (d : Definition) → number_of h x ≡ Some n → definition_of x n ≡ Some d → (e : Export)
        (e' : PlanItem) → Contains (in_export g e) x → IsConverted g types h e e' → IsFunction d e'
    unfolding IsConverted IsUnnamed
    item_named x n d at becomes (export.LiftedFunction ty f o) e' inside is =
        elim (Contains-append_cases (in_def g f) (id.Options o ∷ []) x inside) [
          | inl within ↦ subst (IsFunction d) (sym is) (def_named g h f x n d within at becomes)
          | inr last ↦ absurd (none_defined (id.Options o ∷ []) x n d (all_one IsUnnamed (id.Options o) tt) last becomes)
        ]
    item_named x n d at becomes (export.ImportedFunction ty r) e' inside is = absurd (none_in x inside)
    item_named x n d at becomes (export.ModuleStatic ty m) e' inside is = absurd (none_in x inside)
    item_named x n d at becomes (export.ModuleImport ty r) e' inside is = absurd (none_in x inside)
    item_named x n d at becomes (export.Instance ty es) e' inside is = absurd (none_in x inside)
    item_named x n d at becomes (export.Type_ ty) e' inside is = absurd (none_in x inside)

    -- what an export names is an item of the plan
    pub exported_definition : (names : Contents (List ℕ) Target) (items : List PlanItem) → Exports g types h names items
        → (x : Id) (n : ℕ) (d : Definition) → Contains (in_exports g g.export_items) x → number_of h x ≡ Some n
        → definition_of x n ≡ Some d
        → (k : ℕ) × (e : PlanItem) × (slice_get items k ≡ Some e) × IsFunction d e
    exported_definition names items exports x n d inside at becomes =
        let from = made_of (in_export g) g.export_items x inside in
        let there = zip_on (IsConverted g types h) g.export_items items exports.converted from.0 from.1 from.2 in
        (from.0, there.0, there.1, item_named x n d at becomes from.1 there.0 from.3 there.2)
