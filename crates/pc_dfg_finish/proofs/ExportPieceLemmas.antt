-- What an export depends on, an item of the plan names.
use Rattle.std.proofs.Common.{◌≡◌, ℕ, List, [], ◌∷◌, All, Option, Some, inl, inr, sym, ap, subst, ◌∙◌, arith}
use Rattle.std.specs.Prelude.{slice_get, unwrap_or}
use Rattle.std.specs.List.{Contains}
use Rattle.std.proofs.lemmas.List.Elements.{All-contains_itself, All-weaker, Contains-append_cases}
use Rattle.std.proofs.lemmas.List.Elements.{Contains-append_left, Contains-append_right}
use Rattle.pc_names.specs.Contents.{Contents}
use Rattle.pc_types.specs.declared.type_index.TypeModuleIndex.{TypeModuleIndex}
use Rattle.pc_info.specs.declared.export.Export.{Export as PlanItem}
use Rattle.pc_info.specs.Definitions.{def_view}
use Rattle.pc_dfg.specs.declared.dfg.ComponentDfg.{ComponentDfg}
use Rattle.pc_dfg.specs.declared.export.Export.{Export}
use Rattle.pc_dfg.specs.declared.export.Export.TheVariants as export
use Rattle.pc_dfg_linearize.specs.declared.id.Id.{Id}
use Rattle.pc_dfg_linearize.specs.declared.id.Id.TheVariants as id
use Rattle.pc_dfg_linearize.specs.declared.state.Finish.{Finish}
use Rattle.pc_dfg_linearize.specs.Converted.{def_in}
use Rattle.pc_dfg_finish.specs.Exports.{Exports, IsConverted, Target, in_export, in_exports}
use Rattle.pc_dfg_linearize.specs.Numbers.{number_at, numbered}
use Rattle.pc_dfg_linearize.specs.Parts.{HasNumber, in_def, number_of}
use Rattle.pc_info.specs.Standing.{an_options_entry, named_by, named_in_export}
use Rattle.pc_dfg_linearize.specs.Steps.{piece_of}
use Rattle.pc_dfg_finish.proofs.LiftedLemmas.{exported_numbered, made_of, zip_on}
use Rattle.pc_dfg_linearize.proofs.TakeLemmas.{none_in, one_in}
use Rattle.pc_dfg_linearize.proofs.ThereLemmas.{def_names}

module _ (g : ComponentDfg) (types : List (Option TypeModuleIndex)) (h : Finish) where
  item_names : (e : Export) (e' : PlanItem) (z : Id) (m : ℕ) → IsConverted g types h e e' → Contains (in_export g e) z
      → number_of h z ≡ Some m → Contains (named_in_export e') (piece_of z m)
  unfolding IsConverted number_of piece_of
  item_names (export.LiftedFunction ty d o) e' z m is inside at =
      let o' = numbered h.numbers.options o.0 in
      let first = named_by (def_view (def_in g h d)) in
      subst (λ x. Contains (named_in_export x) (piece_of z m)) (sym is)
      (elim (Contains-append_cases (in_def g d) (id.Options o ∷ []) z inside) [
        | inl part ↦ Contains-append_left first (an_options_entry o' ∷ []) (piece_of z m) (def_names g h d z m part at)
        | inr last ↦
            let same = one_in (id.Options o) z last in
            let number : number_at h.numbers.options o.0 ≡ Some m = ap (number_of h) same ∙ at in
            Contains-append_right first (an_options_entry o' ∷ []) (piece_of z m)
            (subst (λ y. Contains (an_options_entry o' ∷ []) (piece_of y m)) same
            (0, omega arith, ap (λ n. an_options_entry (unwrap_or n 0)) number))
      ])
  item_names (export.ImportedFunction ty r) e' z m is inside at = absurd (none_in z inside)
  item_names (export.ModuleStatic ty k) e' z m is inside at = absurd (none_in z inside)
  item_names (export.ModuleImport ty r) e' z m is inside at = absurd (none_in z inside)
  item_names (export.Instance ty es) e' z m is inside at = absurd (none_in z inside)
  item_names (export.Type_ ty) e' z m is inside at = absurd (none_in z inside)

  module _ (names : Contents (List ℕ) Target) (items : List PlanItem) (exports : Exports g types h names items) where
    -- what the exports depend on has its number
    pub all_exported : All (HasNumber h) (in_exports g g.export_items)
    all_exported =
        let ids = in_exports g g.export_items in
        All-weaker (Contains ids) (HasNumber h) (exported_numbered g types h names items exports) ids
        (All-contains_itself ids)

    -- and an item names it
    pub exported_piece : (z : Id) (m : ℕ) → Contains (in_exports g g.export_items) z → number_of h z ≡ Some m
        → (n : ℕ) × (e : PlanItem) × (slice_get items n ≡ Some e) × Contains (named_in_export e) (piece_of z m)
    exported_piece z m inside at =
        let from = made_of (in_export g) g.export_items z inside in
        let there = zip_on (IsConverted g types h) g.export_items items exports.converted from.0 from.1 from.2 in
        (from.0, there.0, there.1, item_names from.1 there.0 z m there.2 from.3 at)
