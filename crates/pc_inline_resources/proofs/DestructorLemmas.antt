-- The destructor that is chosen.
use Rattle.std.proofs.Common.{◌≡◌, ℕ, ◌<◌, List, length, Option, None, Some, refl, sym, subst, ◌∙◌}
use Rattle.std.specs.Prelude.{Result, Ok, Err, slice_get}
use Rattle.std.specs.Result.{IsErrAnd}
use Rattle.std.proofs.lemmas.Option.{none-some, same_Some, slice_get_within}
use Rattle.pc_types.specs.declared.module_record.ModuleRecord.{ModuleRecord}
use Rattle.pc_types.specs.declared.parsed.CoreKind.TheVariants as core
use Rattle.pc_spec_plan.specs.CoreValue as value
use Rattle.pc_spec_plan.specs.CoreValue.{CoreValue}
use Rattle.pc_spec_plan.specs.Machine.{chosen}
use Rattle.pc_parsed.specs.Mark.{Mark}
use Rattle.pc_dfg.specs.declared.core_def.CoreDef.{CoreDef}
use Rattle.pc_inline_state.specs.declared.definition.CoreId.{CoreId}
use Rattle.pc_inline_state.specs.declared.error.ItemError.{ItemError}
use Rattle.pc_inline_state.specs.declared.error.ItemError.TheVariants as item_error
use Rattle.pc_inline_state.specs.declared.error.ItemFault.TheVariants as item_fault
use Rattle.pc_inline_state.specs.Frames.{ItemsStand}
use Rattle.pc_inline_state.specs.Stands.{CoreStands, ItemStands}
use Rattle.pc_inline_state.specs.Tables.{IsItem, Tables}
use Rattle.pc_inline_state.proofs.ZipLemmas.{both_missing, both_there, zip_at}
use Rattle.pc_inline_resources.specs.Walked.{FindsDestructor, a_destructor, no_destructor}

module _ (ms : List ModuleRecord) (b : Tables) (ids : List CoreId) (vs : List (CoreValue Mark))
    (stand : ItemsStand ms b core.Func ids vs) where
  -- what the reading chooses, where it chooses by this
  abbrev Finds : Option ℕ → Result (Option CoreDef) ItemError → Type 0
  Finds index r = FindsDestructor ms b.types b.graph (chosen vs index) r

  -- none is chosen
  pub none_chosen : (index : Option ℕ) → index ≡ None → Finds index (Ok None)
  unfolding FindsDestructor
  none_chosen None is = (value.no_value, refl, no_destructor)
  none_chosen (Some n) is = absurd (some_none n is)
    where
      some_none : (k : ℕ) → ◌≡◌ {A = Option ℕ} (Some k) None → ⊥
      some_none k same = none-some k (sym same)

  -- a value that stands at an index is chosen
  by_index : (index : Option ℕ) (n : ℕ) → index ≡ Some n → (v : CoreValue Mark) → slice_get vs n ≡ Some v
      → chosen vs index ≡ Some (value.a_value v)
  by_index index n is v at = rw (is, at) refl

  module _ (index : Option ℕ) (n : ℕ) (is : index ≡ Some n) where
    -- it is missing
    pub chosen_missing : slice_get ids n ≡ None → Finds index (Err (item_error.Fault item_fault.Invalid))
    unfolding FindsDestructor
    chosen_missing none =
        let gone = both_missing (ItemStands ms b core.Func) (slice_get ids n) (slice_get vs n)
        (zip_at (ItemStands ms b core.Func) ids vs n stand) none in
        (refl, rw (is, gone) refl)

    module _ (id : CoreId) (there : slice_get ids n ≡ Some id) where
      item : (v : CoreValue Mark) × (slice_get vs n ≡ Some v) × ItemStands ms b core.Func id v
      item = both_there (ItemStands ms b core.Func) (slice_get ids n) (slice_get vs n) id
          (zip_at (ItemStands ms b core.Func) ids vs n stand) there

      -- its number is one of the table
      pub chosen_within : id.0 < length b.cores
      chosen_within = slice_get_within b.cores id.0 item.2.definition item.2.held

      -- it is there
      pub chosen_there : (d : CoreDef) → slice_get b.cores id.0 ≡ Some d → Finds index (Ok (Some d))
      unfolding FindsDestructor
      chosen_there d at =
          let same = same_Some item.2.definition d (sym item.2.held ∙ at) in (
            value.a_value item.0,
            by_index index n is item.0 item.1,
            a_destructor (subst (λ x. CoreStands b.types b.graph x item.0) same item.2.stands)
                (subst (λ x. IsItem ms b.graph core.Func x) same item.2.usable),
          )

  -- memory ran out
  pub chosen_unfed : (index : Option ℕ) (r : Result (Option CoreDef) ItemError)
      → IsErrAnd r (λ e. e ≡ item_error.NoMemory) → Finds index r
  unfolding FindsDestructor
  chosen_unfed index (Ok d) is = absurd is
  chosen_unfed index (Err e) is = subst (λ x. Finds index (Err x)) (sym is) tt
