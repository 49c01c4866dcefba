-- The types of module types of a table, with one more.
use Rattle.std.proofs.Common.{◌≡◌, ◌<◌, ◌+◌, ℕ, List, length, All, Option, None, Some, true, take, refl, sym, ap, subst}
use Rattle.std.proofs.Common.{subst₂, ◌∙◌, ◌⊎◌, inl, inr, true≢false, rules, get_or, Result, Ok, Err, IfOk}
use Rattle.std.specs.Prelude.{slice_get, slice_set, option_and_then, unwrap_or}
use Rattle.std.specs.Option.{IsSome, IfSome}
use Rattle.std.proofs.lemmas.Bool.{cases_eq}
use Rattle.std.proofs.lemmas.List.{length-set}
use Rattle.std.proofs.lemmas.List.Elements.{All-push, All-weaker}
use Rattle.std.proofs.lemmas.Option.{same_Some, slice_get-get_or, slice_get_within}
use Rattle.pc_entity.proofs.Growing.{slice_get-set_same, slice_get-set_other, take-next}
use Rattle.pc_types.specs.declared.parsed.DeclType.{DeclType}
use Rattle.pc_types.specs.declared.parsed.TypeTable.{TypeTable}
use Rattle.pc_types.specs.declared.type_index.TypeModuleIndex.{TypeModuleIndex}
use Rattle.pc_types.specs.declared.types.TypeDef.TheVariants as def
use Rattle.pc_types.specs.Table.{is_module, is_some_and}
use Rattle.pc_types_builder.specs.Types.{Grows, Types}
use Rattle.pc_types_builder.specs.Trees.{IsEntry}
use Rattle.pc_types_builder.proofs.TreeLemmas.{entry_grows}
use Rattle.pc_trampoline.specs.declared.part.Mark.TheVariants as mark
use Rattle.pc_info.specs.declared.component.ComponentTranslation.{ComponentTranslation}
use Rattle.pc_dfg.specs.declared.dfg.ComponentDfg.{ComponentDfg}
use Rattle.pc_dfg.specs.declared.export.Export.{Export}
use Rattle.pc_dfg_linearize.specs.declared.error.FinishError.{FinishError}
use Rattle.pc_dfg_finish.specs.Finishes.{Finishes}
use Rattle.pc_dfg_finish.specs.ModuleTypes.{IsTyped, module_mark, static_type, type_at}
use Rattle.pc_translate.specs.Finished.{IsFinished}
use Rattle.pc_translate.specs.ModuleTypes.{AreModuleTypes, IsModuleType, StayTyped}

-- a module type is an entry of the table
pub module_there : (t : TypeTable) (n : ℕ) → IsModuleType t n → n < length t.types
module_there t n is = by (slice_get t.types n) refl is
  where
    by : (e : Option DeclType) → slice_get t.types n ≡ e → is_some_and is_module e ≡ true → n < length t.types
    by None at is = absurd (true≢false (sym is))
    by (Some x) at is = slice_get_within t.types n x at

-- types of which none was added
pub no_more : (b : Types) → Grows b b
no_more b = search rules

module _ (types : List (Option TypeModuleIndex)) (k : ℕ) (i : TypeModuleIndex) (within : k < length types) where
  -- the type that was put somewhere stands there
  type_put : type_at (slice_set types k (Some i)) k ≡ Some i
  type_put = rw (slice_get-set_same types k (Some i) within) refl

  -- and so one stands there
  pub is_put : IsSome (type_at (slice_set types k (Some i)) k)
  is_put = subst (λ o. IsSome o) (sym type_put) refl

  type_back : (n : ℕ) (j : TypeModuleIndex) → type_at (slice_set types k (Some i)) n ≡ Some j
      → ((k ≡ n) × (i ≡ j)) ⊎ (type_at types n ≡ Some j)
  type_back n j h = elim (cases_eq n k) as (λ _. ((k ≡ n) × (i ≡ j)) ⊎ (type_at types n ≡ Some j)) [
    | inl same ↦ inl (
      sym same,
      same_Some i j (sym type_put
          ∙ ap (type_at (slice_set types k (Some i))) (sym same) ∙ h),
    )
    | inr other ↦ inr (ap (option_and_then (λ (o : Option TypeModuleIndex). o))
        (sym (slice_get-set_other types k n (Some i) other)) ∙ h)
  ]

  -- each type that was there stays
  pub types_kept : StayTyped types (slice_set types k (Some i))
  types_kept n there = elim (cases_eq n k) as (λ _. IsSome (type_at (slice_set types k (Some i)) n)) [
    | inl same ↦ subst (λ m. IsSome (type_at (slice_set types k (Some i)) m)) (sym same)
        is_put
    | inr other ↦ subst (λ o. IsSome (option_and_then (λ (t : Option TypeModuleIndex). t) o))
        (sym (slice_get-set_other types k n (Some i) other)) there
  ]

  -- the types are those of their entries, where this one is
  pub types_put : (old new : Types) (t : TypeTable) → Grows old new → IsEntry new t k (def.Module i)
      → AreModuleTypes old t types → AreModuleTypes new t (slice_set types k (Some i))
  types_put old new t grows is are = record {
    room = length-set types k (Some i) ∙ are.room;
    entries = λ n j found. elim (type_back n j found) as (λ _. IsEntry new t n (def.Module j)) [
      | inl same ↦ subst₂ (λ m l. IsEntry new t m (def.Module l)) same.0 same.1 is
      | inr was ↦ entry_grows old new grows t n (def.Module j) (are.entries n j was)
    ];
  }

-- an export whose type was converted has it still
pub typed_still : (old new : List (Option TypeModuleIndex)) → StayTyped old new → (e : Export) → IsTyped old e
    → IsTyped new e
typed_still old new keeps e typed = by (static_type e) typed
  where
    by : (ty : Option ℕ) → IfSome ty (λ n. IsSome (type_at old n)) → IfSome ty (λ n. IsSome (type_at new n))
    by None h = h
    by (Some n) h = keeps n h

-- exports so far whose types were converted, and one more
pub typed_next : (old new : List (Option TypeModuleIndex)) → StayTyped old new → (es : List Export) (i : ℕ)
    (e : Export)
    → slice_get es i ≡ Some e → All (IsTyped old) (take i es) → IsTyped new e → All (IsTyped new) (take (i + 1) es)
typed_next old new keeps es i e at all typed =
    let before = All-weaker (IsTyped old) (IsTyped new) (typed_still old new keeps) (take i es) all in
    subst (All (IsTyped new)) (sym (take-next es i e at)) (All-push (IsTyped new) (take i es) e before typed)

-- the mark of a module type that was converted is its type
pub mark_typed : (b : Types) (t : TypeTable) (types : List (Option TypeModuleIndex)) (ty : ℕ) → AreModuleTypes b t types
    → IsSome (type_at types ty)
    → (i : TypeModuleIndex) × (module_mark types ty ≡ mark.Type_ (def.Module i)) × IsEntry b t ty (def.Module i)
mark_typed b t types ty are there = by (type_at types ty) refl there
  where
    by : (o : Option TypeModuleIndex) → type_at types ty ≡ o → IsSome o
        → (i : TypeModuleIndex) × (module_mark types ty ≡ mark.Type_ (def.Module i)) × IsEntry b t ty (def.Module i)
    by None is some = absurd (true≢false (sym some))
    by (Some i) is some = (
      i,
      ap (λ (p : Option TypeModuleIndex). mark.Type_ (def.Module (unwrap_or p (record { 0 = 0 })))) is,
      are.entries ty i is,
    )

-- a plan over the types of the modules is finished
pub all_finished : (b : Types) (t : TypeTable) (g : ComponentDfg) (types : List (Option TypeModuleIndex))
    → AreModuleTypes b t types → All (IsTyped types) g.export_items → (r : Result ComponentTranslation FinishError)
    → IfOk r (λ p. Finishes g (module_mark types) p) → IfOk r (λ p. IsFinished b t g p)
all_finished b t g types are typed (Ok plan) finishes =
    record { types = types; are = are; typed = typed; finishes = finishes }
all_finished b t g types are typed (Err e) none = tt

-- the export that a loop comes to
pub export_at : (es : List Export) (i : ℕ) (e : Export) → i < length es → e ≡ get_or es i e → slice_get es i ≡ Some e
export_at es i e within is = slice_get-get_or es i e within ∙ ap Some (sym is)
