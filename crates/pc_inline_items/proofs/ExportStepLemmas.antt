-- The step of an export.
use Rattle.std.proofs.Common.{◌≡◌, ℕ, List, true, false, None, Some, Result, Ok, Err, refl, sym, ap, subst, ◌∙◌}
use Rattle.std.specs.Prelude.{⊤, slice_get}
use Rattle.pc_types.specs.declared.module_record.ModuleRecord.{ModuleRecord}
use Rattle.pc_types.specs.declared.parsed.TypeTable.{TypeTable}
use Rattle.pc_types.specs.Table.{table_fault}
use Rattle.pc_parsed.specs.declared.payload.ExternName.{ExternName}
use Rattle.pc_parsed.specs.declared.payload.ItemKind.{ItemKind}
use Rattle.pc_parsed.specs.declared.payload.ItemKind.TheVariants as kind
use Rattle.pc_spec_reading.specs.Instances.{read_export}
use Rattle.pc_spec_reading.specs.Item.{Item, export_item}
use Rattle.pc_spec_reading.specs.Items.{value_at}
use Rattle.pc_spec_reading.specs.Outcome.{Fault, invalid}
use Rattle.pc_spec_reading.specs.Rows.{read_row}
use Rattle.pc_spec_reading.specs.Scope.{Moment, add_value}
use Rattle.pc_spec_reading.specs.Value.{Value, type_value}
use Rattle.pc_inline_state.specs.declared.definition.DefinitionId.{DefinitionId}
use Rattle.pc_inline_state.specs.declared.error.ItemError.TheVariants as item_error
use Rattle.pc_inline_state.specs.declared.error.ItemFault.TheVariants as item_fault
use Rattle.pc_inline_state.specs.declared.frame.Frame.{Frame}
use Rattle.pc_inline_state.specs.declared.state.State.{State}
use Rattle.pc_inline_state.specs.Adds.{is_type_kind}
use Rattle.pc_inline_state.specs.Frames.{Both}
use Rattle.pc_inline_state.specs.Lists.{item_ids, with_item_id}
use Rattle.pc_inline_state.specs.Points.{Goes, PointStands, StepsItem}
use Rattle.pc_inline_state.specs.Stands.{Stands}
use Rattle.pc_inline_state.specs.Tables.{tables_of}
use Rattle.pc_inline_state.proofs.ZipLemmas.{both_missing, both_there}
use Rattle.pc_inline_canon.proofs.StepLemmas.{steps_on, steps_stuck}
use Rattle.pc_inline_items.specs.Members.{is_typed}
use Rattle.pc_inline_items.proofs.ItemLemmas.{item_goes, item_kind, item_there}
use Rattle.pc_inline_items.proofs.MemberLemmas.{type_found, typed_same}

module _ (t : TypeTable) (ms : List ModuleRecord) (st : State) (f : Frame) (name : ExternName) (k : ItemKind)
    (n : ℕ) where
  abbrev export : Item
  export = export_item (record { name = name; kind = k; index = n })

  abbrev reads : Moment → Result Moment Fault
  reads now = read_row t ms now export

  -- the number of a type isn't held
  pub export_untyped : (f' : Frame) → is_typed t k n ≡ false
      → StepsItem t ms export st f st f' (Err (item_error.Fault item_fault.BadType))
  unfolding read_row read_export
  export_untyped f' none = steps_stuck t ms reads st f st f' item_fault.BadType (λ now at.
      rw (typed_same t k n ∙ none) refl)

  module _ (typed : is_typed t k n ≡ true) where
    export_none : (now : Moment) → value_at t now.scope k n ≡ None → read_row t ms now export ≡ Err invalid
    unfolding read_row read_export
    export_none now none = rw (typed_same t k n ∙ typed, none) refl

    export_some : (now : Moment) (v : Value) → value_at t now.scope k n ≡ Some v
        → read_row t ms now export ≡ Ok (add_value now v)
    unfolding read_row read_export
    export_some now v some = rw (typed_same t k n ∙ typed, some) refl

    -- a type adds nothing
    pub export_type : table_fault t ≡ None → k ≡ kind.Type_ → (r : ⊤) → StepsItem t ms export st f st f (Ok r)
    export_type sound is r = steps_on t ms reads st f st f r (λ now at.
        let x = type_found t sound now.scope n (subst (λ j. is_typed t j n ≡ true) is typed) in
        record {
          now = now;
          stands = at;
          done = export_some now (type_value x.0) (ap (λ j. value_at t now.scope j n) is ∙ x.1);
        })

    module _ (other : is_type_kind k ≡ false) where
      there : (now : Moment) → PointStands t ms st f now
          → Both (Stands ms (tables_of st)) (slice_get (item_ids f k) n) (value_at t now.scope k n)
      there now at = item_there t ms (tables_of st) f now.scope at.frame k other n

      -- the item is missing
      pub export_misses : (f' : Frame) → slice_get (item_ids f k) n ≡ None
          → StepsItem t ms export st f st f' (Err (item_error.Fault item_fault.Invalid))
      export_misses f' none = steps_stuck t ms reads st f st f' item_fault.Invalid (λ now at.
          export_none now (both_missing (Stands ms (tables_of st)) _ _ (there now at) none))

      export_goes : (id : DefinitionId) → slice_get (item_ids f k) n ≡ Some id → (now : Moment)
          → PointStands t ms st f now → Goes t ms st (with_item_id f k id) (reads now)
      export_goes id some now at =
          let v = both_there (Stands ms (tables_of st)) _ _ id (there now at) some in
          item_goes t ms st f now at k id v.0 v.2 (item_kind t now.scope k n v.0 v.1) export
          (export_some now v.0 v.1)

      -- the item stands at the end once more
      pub export_steps : (id : DefinitionId) (f' : Frame) → slice_get (item_ids f k) n ≡ Some id
          → f' ≡ with_item_id f k id → (r : ⊤) → StepsItem t ms export st f st f' (Ok r)
      export_steps id f' some is r =
          subst (λ g. StepsItem t ms export st f st g (Ok r)) (sym is)
          (steps_on t ms reads st f st (with_item_id f k id) r (export_goes id some))
