-- What exports depend on gets its numbers, one after another, and each of them has a value.
use Rattle.std.proofs.Common.{◌≡◌, ◌<◌, ◌≤◌, ℕ, List, [], ◌∷◌, All, Contains, get_or, Option, None, Some, take, length}
use Rattle.std.proofs.Common.{◌+◌, sym, ap, subst, ◌∙◌}
use Rattle.std.specs.Prelude.{slice_get, IfSome}
use Rattle.std.proofs.lemmas.List.{take_all}
use Rattle.std.proofs.lemmas.List.Elements.{All-push, All-weaker, All-contains_itself}
use Rattle.std.proofs.lemmas.Option.{slice_get-get_or}
use Rattle.pc_entity.proofs.Growing.{take-next}
use Rattle.pc_dfg.specs.declared.ids.OptionsId.{OptionsId}
use Rattle.pc_dfg.specs.declared.core_def.CoreDef.{CoreDef}
use Rattle.pc_dfg.specs.declared.dfg.ComponentDfg.{ComponentDfg}
use Rattle.pc_dfg.specs.declared.export.Export.{Export}
use Rattle.pc_dfg.specs.declared.export.Export.TheVariants as export
use Rattle.pc_dfg.specs.Held.{IsHeld, HeldExport, HoldsEntry}
use Rattle.pc_dfg.specs.Lists as list
use Rattle.pc_dfg.specs.Ordered.{IsOrdered}
use Rattle.pc_dfg_linearize.specs.declared.id.Id.{Id}
use Rattle.pc_dfg_linearize.specs.declared.state.Finish.{Finish}
use Rattle.pc_dfg_linearize.specs.Arguments.{HasMeaning, NumbersAll}
use Rattle.pc_dfg_linearize.specs.Closed.{Closed, Continues}
use Rattle.pc_dfg_finish.specs.Exports.{CanExport, GoesFurther, IsExportable, IsLiftable, function_of}
use Rattle.pc_dfg_linearize.specs.Grouped.{IsGrouped}
use Rattle.pc_dfg_linearize.specs.Parts.{in_def}
use Rattle.pc_dfg_linearize.specs.Ready.{IsReady, here}
use Rattle.pc_dfg_linearize.proofs.ContinueLemmas.{continues_then, goes_then}
use Rattle.pc_dfg_linearize.proofs.PartLemmas.{all_one}
use Rattle.pc_dfg_finish.proofs.ReadyLemmas.{export_ready}
use Rattle.pc_dfg_linearize.proofs.ValueLemmas.{held_means, valued}

module _ {A : Type 0} (ys xs : List A) (same : ys ≡ xs) (i : ℕ) where
  -- the item at a place of a list that is lent
  pub lent_at : (x : A) → i < length ys → x ≡ get_or ys i x → slice_get xs i ≡ Some x
  lent_at x within is = subst (λ zs. slice_get zs i ≡ Some x) same (slice_get-get_or ys i x within ∙ ap Some (sym is))

  -- all of it, once its end is reached
  pub lent_all : length ys ≤ i → take i xs ≡ xs
  lent_all end = subst (λ zs. take i zs ≡ zs) same (take_all i ys end)

-- a fact of each item of a list, by its place
pub all_of : {A : Type 0} (P : A → Type 0) (xs : List A) → ((n : ℕ) (x : A) → slice_get xs n ≡ Some x → P x) → All P xs
all_of P xs each k d within = each k (get_or xs k d) (slice_get-get_or xs k d within)

module _ (g : ComponentDfg) where
  -- further, and then further again
  pub further_then : (a b c : Finish) → GoesFurther g a b → GoesFurther g b c → GoesFurther g a c
  further_then a b c first second = record {
    continues = continues_then g a b c first.continues second.continues;
    goes = λ ms wired. goes_then g ms a b c (first.goes ms wired) (second.goes ms wired);
  }

  -- a held definition got its numbers
  pub further_def : IsOrdered g → (old new : Finish) (d : CoreDef) → IsHeld g d → NumbersAll g old new (d ∷ [])
      → GoesFurther g old new
  further_def ordered old new d held numbers = record {
    continues = numbers.continues;
    goes = λ ms wired. numbers.goes ms wired (all_one (HasMeaning g) d (held_means g ordered d held));
  }

  -- an id that was ready got its number
  pub further_id : IsOrdered g → (made : ℕ) (old new : Finish) (x : Id) → IsReady g made x → Closed g old new x
      → GoesFurther g old new
  further_id ordered made old new x ready closed = record {
    continues = closed.continues;
    goes = λ ms wired. closed.goes ms wired (valued g ordered made x (ready x here));
  }

  -- what has its numbers still has them
  pub liftable_still : (old new : Finish) → Continues g old new → (x : CoreDef × OptionsId) → IsLiftable g old x
      → IsLiftable g new x
  liftable_still old new continues x is = record {
    func = λ k d within. continues.numbered _ (is.func k d within);
    options = continues.numbered _ is.options;
  }

  exportable_still : (old new : Finish) → Continues g old new → (e : Export) → IsExportable g old e
      → IsExportable g new e
  exportable_still old new continues e is = by (function_of e) is
    where
      by : (o : Option (CoreDef × OptionsId)) → IfSome o (IsLiftable g old) → IfSome o (IsLiftable g new)
      by None is = is
      by (Some x) is = liftable_still old new continues x is

  -- the exports so far have their numbers, and so has the next one
  pub exportable_next : (old new : Finish) → Continues g old new → (es : List Export) (i : ℕ) (e : Export)
      → slice_get es i ≡ Some e → All (IsExportable g old) (take i es) → IsExportable g new e
      → All (IsExportable g new) (take (i + 1) es)
  exportable_next old new continues es i e at all is =
      let before = All-weaker (IsExportable g old) (IsExportable g new) (exportable_still old new continues)
      (take i es) all in
      subst (All (IsExportable g new)) (sym (take-next es i e at))
      (All-push (IsExportable g new) (take i es) e before is)

module _ (g : ComponentDfg) (ordered : IsOrdered g) (grouped : IsGrouped g) where
  -- what an export depends on can get its numbers
  pub can_export : (n : ℕ) (e : Export) → slice_get g.export_items n ≡ Some e → CanExport g e
  unfolding HoldsEntry HeldExport
  can_export n (export.LiftedFunction ty d o) at =
      let ready = export_ready g ordered grouped n ty d o at in
      let made = length g.instances in
      record {
        held = (ordered.held list.export_items n (export.LiftedFunction ty d o) at).0;
        func = record {
          itself = ready.0.0;
          parts = All-weaker (Contains (in_def g d)) (IsReady g made) ready.0.1 (in_def g d)
              (All-contains_itself (in_def g d));
        };
        options = ready.1;
      }
  can_export n (export.ImportedFunction ty r) at = tt
  can_export n (export.ModuleStatic ty m) at = tt
  can_export n (export.ModuleImport ty r) at = tt
  can_export n (export.Instance ty es) at = tt
  can_export n (export.Type_ ty) at = tt

  pub can_export_all : All (CanExport g) g.export_items
  can_export_all = all_of (CanExport g) g.export_items can_export
