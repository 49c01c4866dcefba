-- An alias of an item of a core instance, against its row.
use Rattle.std.proofs.Common.{◌≡◌, ℕ, List, Ok, Err, Some, None, refl, ap, sym, subst}
use Rattle.std.specs.Prelude.{⊤, slice_get, option_and_then}
use Rattle.pc_entity.specs.declared.string_pool.Atom.{Atom}
use Rattle.pc_types.specs.declared.module_record.ModuleRecord.{ModuleRecord}
use Rattle.pc_types.specs.declared.parsed.CoreKind.{CoreKind}
use Rattle.pc_types.specs.declared.parsed.CoreKind.TheVariants as core
use Rattle.pc_types.specs.declared.parsed.TypeTable.{TypeTable}
use Rattle.pc_spec_plan.specs.CoreValue.{CoreValue}
use Rattle.pc_parsed.specs.Mark.{Mark}
use Rattle.pc_spec_reading.specs.Arguments.{core_export}
use Rattle.pc_spec_reading.specs.Item.{core_alias_item}
use Rattle.pc_spec_reading.specs.Modules.{read_core_alias}
use Rattle.pc_spec_reading.specs.Outcome.{found, invalid}
use Rattle.pc_spec_reading.specs.Rows.{read_row}
use Rattle.pc_spec_reading.specs.Scope.{Moment, Scope, add_core, with_core}
use Rattle.pc_inline_names.specs.Both.{Both}
use Rattle.pc_inline_names.specs.Numbers.{IsNumber}
use Rattle.pc_inline_state.specs.declared.core_item.CoreItem.{CoreItem}
use Rattle.pc_inline_state.specs.declared.definition.CoreId.{CoreId}
use Rattle.pc_inline_state.specs.declared.error.ItemError.TheVariants as item_error
use Rattle.pc_inline_state.specs.declared.error.ItemFault.TheVariants as item_fault
use Rattle.pc_inline_state.specs.declared.frame.Frame.{Frame}
use Rattle.pc_inline_state.specs.declared.state.State.{State}
use Rattle.pc_inline_state.specs.Bags.{export_item}
use Rattle.pc_inline_state.specs.Found.{ItemFound}
use Rattle.pc_inline_state.specs.Frames.{CoreInstanceStands}
use Rattle.pc_inline_state.specs.Lists.{with_core_id}
use Rattle.pc_inline_state.specs.Points.{IsInput, PointStands, StepsItem}
use Rattle.pc_inline_state.specs.Prepares.{Prepares}
use Rattle.pc_inline_state.specs.Stands.{ItemStands}
use Rattle.pc_inline_state.specs.Tables.{tables_of}
use Rattle.pc_inline_modules.proofs.ExportedLemmas.{found_in}
use Rattle.pc_inline_canon.proofs.FrameLemmas.{core_framed, framed_point}
use Rattle.pc_inline_canon.proofs.StepLemmas.{steps_on, steps_stuck}
use Rattle.pc_inline_canon.proofs.WorldLemmas.{point_kept}
use Rattle.pc_inline_state.proofs.ZipLemmas.{both_missing, both_there, zip_at}

-- one core item more is one of the same component instance
pub core_same : (f : Frame) (k : CoreKind) (n : CoreId)
    → (with_core_id f k n).component_instance ≡ f.component_instance
core_same f core.Func n = refl
core_same f core.Table n = refl
core_same f core.Memory n = refl
core_same f core.Global n = refl
core_same f core.Tag n = refl

-- for which the same types were converted
core_done : (f : Frame) (k : CoreKind) (n : CoreId) → (with_core_id f k n).converted ≡ f.converted
core_done f core.Func n = refl
core_done f core.Table n = refl
core_done f core.Memory n = refl
core_done f core.Global n = refl
core_done f core.Tag n = refl

-- in which the same resource numbers were changed
pub core_changes : (f : Frame) (k : CoreKind) (n : CoreId) → (with_core_id f k n).changes ≡ f.changes
core_changes f core.Func n = refl
core_changes f core.Table n = refl
core_changes f core.Memory n = refl
core_changes f core.Global n = refl
core_changes f core.Tag n = refl

-- one core value more leaves the resources that a scope knows
core_known : (s : Scope) (k : CoreKind) (v : CoreValue Mark) → (with_core s k v).known ≡ s.known
core_known s core.Func v = refl
core_known s core.Table v = refl
core_known s core.Memory v = refl
core_known s core.Global v = refl
core_known s core.Tag v = refl

module _ (t : TypeTable) (ms : List ModuleRecord) (input : IsInput t ms) (st : State) (f : Frame) (k : CoreKind) (n : ℕ)
    (number : Atom) (name : List ℕ) (named : IsNumber st.names.now.texts number name) where
  -- what the alias finds, in the code and in the reading
  pub alias_found : (now : Moment) → PointStands t ms st f now
      → Both (ItemFound ms (tables_of st) k)
      (option_and_then (export_item t ms k number name) (slice_get f.core_instances n))
      (option_and_then (core_export ms k name) (slice_get now.scope.core_instances n))
  alias_found now at =
      found_in t ms input (tables_of st) at.sound.table k number name named _ _
      (zip_at (CoreInstanceStands ms (tables_of st)) f.core_instances now.scope.core_instances n
      at.frame.core_instances)

  -- the core instance is missing, or has no such item
  pub alias_missing : (st' : State) (f' : Frame)
      → option_and_then (export_item t ms k number name) (slice_get f.core_instances n) ≡ None
      → StepsItem t ms (core_alias_item k n name) st f st' f' (Err (item_error.Fault item_fault.Invalid))
  unfolding read_row read_core_alias
  alias_missing st' f' none = steps_stuck t ms _ st f st' f' item_fault.Invalid (λ now at.
      ap (λ o. found invalid o (λ (v : CoreValue Mark). Ok (add_core now k v)))
      (both_missing _ _ _ (alias_found now at) none))

  -- it has one, which gets a number
  pub alias_made : (st' : State) (f' : Frame) (x : CoreItem) (id : CoreId) (r : ⊤)
      → option_and_then (export_item t ms k number name) (slice_get f.core_instances n) ≡ Some x
      → Prepares t ms st st'
      → ((j : CoreKind) (v : CoreValue Mark) → ItemFound ms (tables_of st) j x v → ItemStands ms (tables_of st') j id v)
      → f' ≡ with_core_id f k id → StepsItem t ms (core_alias_item k n name) st f st' f' (Ok r)
  unfolding read_row read_core_alias
  alias_made st' f' x id r there prepares stands is = steps_on t ms _ st f st' f' r (λ now at.
      let v = both_there _ _ _ x (alias_found now at) there in
      let next = add_core now k v.0 in
      let after = point_kept t ms st st' prepares f now at in
      let framed = core_framed ms (tables_of st') f now.scope after.frame k id v.0 (stands k v.0 v.2) in
      record {
        now = next;
        stands = subst (λ g. PointStands t ms st' g next) (sym is)
            (framed_point t ms st' f (with_core_id f k id) now (with_core now.scope k v.0) after (core_same f k id)
            (core_done f k id) (core_known now.scope k v.0) framed);
        done = ap (λ o. found invalid o (λ (v : CoreValue Mark). Ok (add_core now k v))) v.1;
      })
