-- An import that takes its argument, against its row.
use Rattle.std.proofs.Common.{◌≡◌, ◌<◌, ℕ, length, [], get_or, true, false, List, Result, Ok, Err, Some, None, refl, sym, ap, subst, ◌∙◌}
use Rattle.std.proofs.Common.{true≢false}
use Rattle.std.specs.Prelude.{⊤, is_err, slice_get}
use Rattle.std.specs.Result.{IsErrAnd}
use Rattle.std.proofs.lemmas.Option.{slice_get-get_or}
use Rattle.pc_entity.specs.declared.string_pool.Atom.{Atom}
use Rattle.pc_entity.specs.Lists.{value_of}
use Rattle.pc_types.specs.declared.module_record.ModuleRecord.{ModuleRecord}
use Rattle.pc_types.specs.declared.parsed.Entity.{Entity}
use Rattle.pc_types.specs.declared.parsed.Entity.TheVariants as entity
use Rattle.pc_types.specs.declared.parsed.TypeTable.{TypeTable}
use Rattle.pc_types.specs.Table.{is_some_and}
use Rattle.pc_types.specs.TypeTree.{Identity}
use Rattle.pc_parsed.specs.declared.payload.ExternName.{ExternName}
use Rattle.pc_spec_reading.specs.Imports.{is_of_entity, read_import, take_if}
use Rattle.pc_spec_reading.specs.Instances.{is_of_kind}
use Rattle.pc_spec_reading.specs.Item.{Item, import_item}
use Rattle.pc_spec_reading.specs.Member.{resource_at}
use Rattle.pc_spec_reading.specs.Outcome.{Fault, after}
use Rattle.pc_spec_reading.specs.Resource.{registered, resource_paths}
use Rattle.pc_spec_reading.specs.Rows.{read_row}
use Rattle.pc_spec_reading.specs.Scope.{Moment, add_value, with_known}
use Rattle.pc_spec_reading.specs.Types.{is_plain_type, names_entry}
use Rattle.pc_spec_reading.specs.Value.{Value, component_value, func_value, instance_value, module_value, type_value}
use Rattle.pc_inline_names.specs.Numbers.{IsNumber, numbered_value}
use Rattle.pc_inline_state.specs.declared.definition.DefinitionId.{DefinitionId}
use Rattle.pc_inline_state.specs.declared.error.ItemError.{ItemError}
use Rattle.pc_inline_state.specs.declared.error.ItemError.TheVariants as item_error
use Rattle.pc_inline_state.specs.declared.error.ItemFault.TheVariants as item_fault
use Rattle.pc_inline_state.specs.declared.frame.Frame.{Frame}
use Rattle.pc_inline_state.specs.declared.state.State.{State}
use Rattle.pc_inline_state.specs.Definitions as definitions
use Rattle.pc_inline_state.specs.Faults.{fault_of}
use Rattle.pc_inline_state.specs.Lists.{with_item_id}
use Rattle.pc_inline_state.specs.Points.{Follows, PointStands, Steps, StepsItem}
use Rattle.pc_inline_state.specs.Stands.{Stands}
use Rattle.pc_inline_state.specs.Tables.{Keeps, tables_of}
use Rattle.pc_inline_state.proofs.ZipLemmas.{both_missing, both_there}
use Rattle.pc_inline_canon.proofs.KeptLemmas.{stands_kept}
use Rattle.pc_inline_canon.proofs.PassedLemmas.{steps_passed}
use Rattle.pc_inline_canon.proofs.StepLemmas.{steps_on, steps_stuck}
use Rattle.pc_inline_resources.specs.Registers.{taken}
use Rattle.pc_inline_items.specs.Kinds.{kind_of}
use Rattle.pc_inline_items.proofs.ItemLemmas.{item_point, stands_kind}

-- a value is of the kind of an entity, for the code and for the reading
kind_same : (e : Entity) (v : Value) → is_of_entity e v ≡ is_of_kind (kind_of e) v
kind_same (entity.Func n) (func_value x) = refl
kind_same (entity.Func n) v = refl
kind_same (entity.Instance n) (instance_value x) = refl
kind_same (entity.Instance n) v = refl
kind_same (entity.Component n) (component_value x) = refl
kind_same (entity.Component n) v = refl
kind_same (entity.Module n) (module_value x) = refl
kind_same (entity.Module n) v = refl
kind_same (entity.Type_ n) (type_value x) = refl
kind_same (entity.Type_ n) v = refl
kind_same entity.Value v = refl

-- a fault is no success
err_ok : {A : Type 0} (k : Fault) (x : A) → Err k ≡ Ok x → ⊥
err_ok k x h = true≢false (ap is_err h)

-- an argument has a value
pub argument_stands : (t : TypeTable) (ms : List ModuleRecord) (st : State) (f : Frame) (now : Moment)
    → PointStands t ms st f now → (n : Atom) → n.0 < length st.names.now.texts → (id : DefinitionId)
    → numbered_value n f.arguments ≡ Some id → (v : Value) × Stands ms (tables_of st) id v
argument_stands t ms st f now at n within id there =
    let name = get_or st.names.now.texts n.0 [] in
    let v = both_there (Stands ms (tables_of st)) _ _ id
    (at.frame.arguments n name (slice_get-get_or st.names.now.texts n.0 [] within)) there in
    (v.0, v.2)

module _ (t : TypeTable) (ms : List ModuleRecord) (st : State) (f : Frame) (name : ExternName) (e : Entity) where
  abbrev import : Item
  import = import_item name e

  -- it names no entry of its kind
  pub import_untyped : (st' : State) (f' : Frame) → names_entry t e ≡ false
      → StepsItem t ms import st f st' f' (Err (item_error.Fault item_fault.BadType))
  unfolding read_row read_import
  import_untyped st' f' isnt = steps_stuck t ms _ st f st' f' item_fault.BadType (λ now at.
      rw (isnt) refl)

  module _ (typed : names_entry t e ≡ true) where
    -- what the row makes of an argument, or of none
    taken_row : (now : Moment) → read_row t ms now import ≡ take_if t now e (value_of name.name now.scope.arguments)
    unfolding read_row read_import
    taken_row now = rw (typed) refl

    module _ (n : Atom) (number : IsNumber st.names.now.texts n name.name) (none : numbered_value n f.arguments ≡ None)
      where
        untaken : (now : Moment) → PointStands t ms st f now → read_row t ms now import ≡ take_if t now e None
        untaken now at =
            taken_row now
            ∙ ap (take_if t now e) (both_missing (Stands ms (tables_of st)) _ _ (at.frame.arguments n name.name number)
            none)

        -- there is no argument, and there has to be one
        pub import_absent : (st' : State) (f' : Frame) → is_plain_type t e ≡ false
            → StepsItem t ms import st f st' f' (Err (item_error.Fault item_fault.Invalid))
        import_absent st' f' other = steps_stuck t ms _ st f st' f' item_fault.Invalid (λ now at.
            untaken now at ∙ rw (other) refl)

        -- none is needed
        pub import_plain : is_plain_type t e ≡ true → (r : ⊤) → StepsItem t ms import st f st f (Ok r)
        import_plain plain r = steps_on t ms _ st f st f r (λ now at. record {
          now = now;
          stands = at;
          done = untaken now at ∙ rw (plain) refl;
        })

    module _ (n : Atom) (number : IsNumber st.names.now.texts n name.name) (id : DefinitionId)
        (there : numbered_value n f.arguments ≡ Some id) where
      -- the argument
      argument : (now : Moment) → PointStands t ms st f now
          → (v : Value) × (value_of name.name now.scope.arguments ≡ Some v) × Stands ms (tables_of st) id v
      argument now at = both_there (Stands ms (tables_of st)) _ _ id (at.frame.arguments n name.name number) there

      -- it is of another kind
      pub import_other : (st' : State) (f' : Frame)
          → is_some_and (definitions.is_of_kind (kind_of e)) (slice_get st.definitions id.0) ≡ false
          → StepsItem t ms import st f st' f' (Err (item_error.Fault item_fault.Invalid))
      import_other st' f' isnt = steps_stuck t ms _ st f st' f' item_fault.Invalid (λ now at.
          let v = argument now at in
          let other = kind_same e v.0 ∙ sym (stands_kind ms (tables_of st) (kind_of e) id v.0 v.2) ∙ isnt in
          taken_row now ∙ ap (take_if t now e) v.1 ∙ rw (other) refl)

      module _ (does : is_some_and (definitions.is_of_kind (kind_of e)) (slice_get st.definitions id.0) ≡ true)
          (st1 : State) (f1 : Frame) where
        is_kind : (now : Moment) (at : PointStands t ms st f now) → is_of_kind (kind_of e) (argument now at).0 ≡ true
        is_kind now at =
            let v = argument now at in
            sym (stands_kind ms (tables_of st) (kind_of e) id v.0 v.2) ∙ does

        abbrev found_for : Moment → Value → Result (List (ℕ × Identity)) Fault
        found_for now v = registered (λ names. resource_at names v) (resource_paths t e) now.scope.known

        row_is : (now : Moment) (at : PointStands t ms st f now) → read_row t ms now import
            ≡ after (found_for now (argument now at).0)
            (λ (known : List (ℕ × Identity)). Ok (add_value (with_known now known) (argument now at).0))
        row_is now at =
            let v = argument now at in
            let kind = kind_same e v.0 ∙ is_kind now at in
            taken_row now ∙ ap (take_if t now e) v.1 ∙ rw (kind) refl

        goes_on : (now next : Moment) (v : Value) (x : Result (List (ℕ × Identity)) Fault)
            → after x (λ (known : List (ℕ × Identity)). Ok (with_known now known)) ≡ Ok next
            → after x (λ (known : List (ℕ × Identity)). Ok (add_value (with_known now known) v)) ≡ Ok (add_value next v)
        goes_on now next v (Ok known) h = ap (λ (m : Result Moment Fault). after m (λ n. Ok (add_value n v))) h
        goes_on now next v (Err k) h = absurd (err_ok k next h)

        stays : (now : Moment) (v : Value) (k : Fault) (x : Result (List (ℕ × Identity)) Fault)
            → after x (λ (known : List (ℕ × Identity)). Ok (with_known now known)) ≡ Err k
            → after x (λ (known : List (ℕ × Identity)). Ok (add_value (with_known now known) v)) ≡ Err k
        stays now v k (Ok known) h = absurd (err_ok k (with_known now known) (sym h))
        stays now v k (Err j) h = ap (λ (m : Result Moment Fault). after m (λ n. Ok (add_value n v))) h

        -- its resources aren't found, or there is no room for them
        pub import_refused : (r : Result ⊤ ItemError) (x : ItemError) → IsErrAnd r (λ y. y ≡ x)
            → ((v : Value) → Stands ms (tables_of st) id v → Steps t ms (taken t e v) st f st1 f1 (Err x))
            → StepsItem t ms import st f st1 f1 r
        unfolding Steps Follows taken
        import_refused r x is steps = steps_passed t ms _ st f st1 f1 r x is (by x steps)
          where
            by : (y : ItemError)
                → ((v : Value) → Stands ms (tables_of st) id v → Steps t ms (taken t e v) st f st1 f1 (Err y))
                → StepsItem t ms import st f st1 f1 (Err y)
            by (item_error.Fault k) steps now at =
                let v = argument now at in
                (row_is now at ∙ stays now v.0 (fault_of k) (found_for now v.0) (steps v.0 v.2 now at))
            by item_error.TooMany steps now at = let v = argument now at in steps v.0 v.2 now at
            by item_error.NoMemory steps now at = tt

        -- it is taken, and its resources are known
        pub import_taken : (f2 : Frame) (q r : ⊤) → Keeps (tables_of st) (tables_of st1)
            → ((v : Value) → Stands ms (tables_of st) id v → Steps t ms (taken t e v) st f st1 f1 (Ok q))
            → f2 ≡ with_item_id f1 (kind_of e) id → StepsItem t ms import st f st1 f2 (Ok r)
        unfolding Steps Follows taken
        import_taken f2 q r keeps steps framed now at =
            let v = argument now at in
            let goes = steps v.0 v.2 now at in
            let next = add_value goes.now v.0 in
            subst (λ g. Follows t ms st1 g (read_row t ms now import) (Ok r)) (sym framed) (record {
              now = next;
              stands = item_point t ms st1 f1 goes.now goes.stands (kind_of e) id v.0
                  (stands_kept ms (tables_of st) (tables_of st1) keeps id v.0 v.2) (is_kind now at);
              done = row_is now at ∙ goes_on now goes.now v.0 (found_for now v.0) goes.done;
            })
