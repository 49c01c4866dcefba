-- The step of a lift.
use Rattle.std.proofs.Common.{◌≡◌, ℕ, List, [], ◌∷◌, ◌++◌, length, None, Some, Result, Ok, Err}
use Rattle.std.proofs.Common.{refl, subst, sym}
use Rattle.std.specs.Prelude.{⊤, slice_get}
use Rattle.std.specs.Result.{IsErrAnd}
use Rattle.pc_numbers.specs.declared.module_entity.ModuleInternedTypeIndex.{ModuleInternedTypeIndex}
use Rattle.pc_types_builder.specs.Plain.{Layers}
use Rattle.pc_types.specs.declared.module_record.ModuleRecord.{ModuleRecord}
use Rattle.pc_types.specs.declared.parsed.CoreFuncSig.{CoreFuncSig}
use Rattle.pc_types.specs.declared.parsed.CoreKind.TheVariants as kind
use Rattle.pc_types.specs.declared.parsed.TypeTable.{TypeTable}
use Rattle.pc_types.specs.declared.type_index.TypeFuncIndex.{TypeFuncIndex}
use Rattle.pc_types.specs.Table.{is_func}
use Rattle.pc_types.specs.TypeTree.{TypeTree}
use Rattle.pc_spec_plan.specs.CoreValue as value
use Rattle.pc_spec_plan.specs.CoreValue.{CoreValue}
use Rattle.pc_parsed.specs.declared.canon.CanonOption.{CanonOption}
use Rattle.pc_parsed.specs.Mark.{Mark}
use Rattle.pc_spec_reading.specs.Functions.{read_lift}
use Rattle.pc_spec_reading.specs.Item.{Item, lift_item}
use Rattle.pc_spec_reading.specs.Options.{options_of}
use Rattle.pc_spec_reading.specs.Outcome.{Fault, bad_type, found, invalid}
use Rattle.pc_spec_reading.specs.Rows.{read_row}
use Rattle.pc_spec_reading.specs.Scope.{Moment, add_value, with_value}
use Rattle.pc_spec_reading.specs.Types.{signature_at, tree_if}
use Rattle.pc_spec_reading.specs.Value.{func_value, lifted_function}
use Rattle.pc_inline_state.specs.declared.definition.CoreId.{CoreId}
use Rattle.pc_inline_state.specs.declared.definition.Definition.TheVariants as definition
use Rattle.pc_inline_state.specs.declared.definition.DefinitionId.{DefinitionId}
use Rattle.pc_inline_state.specs.declared.definition.Options.{Options}
use Rattle.pc_inline_state.specs.declared.error.ItemError.{ItemError}
use Rattle.pc_inline_state.specs.declared.error.ItemError.TheVariants as item_error
use Rattle.pc_inline_state.specs.declared.error.ItemFault.TheVariants as item_fault
use Rattle.pc_inline_state.specs.declared.frame.Frame.{Frame}
use Rattle.pc_inline_state.specs.declared.state.State.{State}
use Rattle.pc_inline_state.specs.Frames.{Both}
use Rattle.pc_inline_state.specs.Points.{Goes, PointStands, StepsItem}
use Rattle.pc_inline_state.specs.Prepares.{Converts}
use Rattle.pc_inline_state.specs.Refused.{LacksRoomOr}
use Rattle.pc_inline_state.specs.Stands.{ItemStands, OptionsStand, stands_lifted}
use Rattle.pc_inline_state.specs.Tables.{tables_of}
use Rattle.pc_inline_state.specs.Typed.{AreOfFunction, HasNoFunction}
use Rattle.pc_inline_canon.specs.Written.{options_in}
use Rattle.pc_inline_canon.proofs.DefinitionLemmas.{definition_added}
use Rattle.pc_inline_canon.proofs.FrameLemmas.{converted_point, framed_point, func_framed}
use Rattle.pc_inline_canon.proofs.KeptLemmas.{item_kept, options_kept}
use Rattle.pc_inline_canon.proofs.OptionLemmas.{options_in_stand}
use Rattle.pc_inline_canon.proofs.PassedLemmas.{steps_lacking, steps_passed}
use Rattle.pc_inline_state.proofs.MembersLemmas.{no_instance}
use Rattle.pc_inline_state.proofs.StateLemmas.{definition_prepares}
use Rattle.pc_inline_canon.proofs.StepLemmas.{steps_on, steps_stuck}
use Rattle.pc_inline_canon.proofs.TypeLemmas.{FunctionThere, function_there, no_function}
use Rattle.pc_inline_canon.proofs.WorldLemmas.{point_kept}
use Rattle.pc_inline_state.proofs.ZipLemmas.{both_missing, both_there, zip_at}

module _ (t : TypeTable) (ms : List ModuleRecord) (func ty core : ℕ) (opts : List CanonOption) where
  abbrev lift : Item
  lift = lift_item func ty core opts

  abbrev reads : Moment → Result Moment Fault
  reads now = read_row t ms now lift

  -- there is no such type or signature
  lift_untyped : (now : Moment) → HasNoFunction t ty core → reads now ≡ Err bad_type
  unfolding read_row read_lift
  lift_untyped now none = no_function t now.scope ty core (λ tree s. found invalid (slice_get now.scope.core_funcs func)
      (λ (v : CoreValue Mark). found invalid (options_of now.scope s opts)
      (λ (o : value.Options Mark). Ok (add_value now (func_value (lifted_function tree v o)))))) none

  -- what a lift makes of a moment in which all is there
  lift_read : (now : Moment) (tree : TypeTree) (s : CoreFuncSig) (v : CoreValue Mark) (o : value.Options Mark)
      → tree_if t is_func now.scope ty ≡ Some tree → signature_at t core ≡ Some s
      → slice_get now.scope.core_funcs func ≡ Some v → options_of now.scope s opts ≡ Some o
      → read_row t ms now lift ≡ Ok (add_value now (func_value (lifted_function tree v o)))
  unfolding read_row read_lift
  lift_read now tree s v o a b c d = rw (a, b, c, d) refl

  lift_lacks_types : (st : State) (f : Frame) (st' : State) (f' : Frame) (e : ItemError)
      → LacksRoomOr item_fault.BadType (HasNoFunction t ty core) st' e → StepsItem t ms lift st f st' f' (Err e)
  lift_lacks_types st f st' f' e lacks =
      steps_lacking t ms reads st f st' f' item_fault.BadType (HasNoFunction t ty core) e lacks
      (λ now at none. lift_untyped now none)

  -- the same, handed on
  pub lift_lacks : (st : State) (f : Frame) (st' : State) (f' : Frame) (r : Result ⊤ ItemError) (e : ItemError)
      → IsErrAnd r (λ x. x ≡ e) → LacksRoomOr item_fault.BadType (HasNoFunction t ty core) st' e
      → StepsItem t ms lift st f st' f' r
  lift_lacks st f st' f' r e is lacks =
      steps_passed t ms reads st f st' f' r e is (lift_lacks_types st f st' f' e lacks)

  -- types were converted, and a point stands where it did
  module _ (st : State) (f : Frame) (st' : State) (done : Layers)
      (converts : Converts t st f.converted st' done) (n : TypeFuncIndex) (i : ModuleInternedTypeIndex)
      (are : AreOfFunction st'.types t ty core n i) where
    -- the component instance, for which these were converted
    abbrev g : Frame
    g = record f { converted = done }

    module _ (now : Moment) (at : PointStands t ms st f now) where
      still : PointStands t ms st' g now
      still = converted_point t ms st f st' done converts now at

      there : FunctionThere t now.scope st'.graph st'.types ty core n i
      there = function_there t now.scope st'.graph st'.types still.here ty core n i are

      -- the core function is missing
      lift_unfound : slice_get f.core_funcs func ≡ None → reads now ≡ Err invalid
      unfolding read_row read_lift
      lift_unfound none =
          let missing = both_missing (ItemStands ms (tables_of st') kind.Func) (slice_get f.core_funcs func)
          (slice_get now.scope.core_funcs func)
          (zip_at (ItemStands ms (tables_of st') kind.Func) f.core_funcs now.scope.core_funcs func
          still.frame.core_funcs)
          none in
          rw (there.is_tree, there.is_signature, missing) refl

      module _ (id : CoreId) (found_it : slice_get f.core_funcs func ≡ Some id) where
        function : (v : CoreValue Mark) × (slice_get now.scope.core_funcs func ≡ Some v)
            × ItemStands ms (tables_of st') kind.Func id v
        function = both_there (ItemStands ms (tables_of st') kind.Func) (slice_get f.core_funcs func)
            (slice_get now.scope.core_funcs func) id
            (zip_at (ItemStands ms (tables_of st') kind.Func) f.core_funcs now.scope.core_funcs func
            still.frame.core_funcs)
            found_it

        options_stand : Both (OptionsStand ms (tables_of st')) (options_in g i opts)
            (options_of now.scope there.signature opts)
        options_stand = options_in_stand ms (tables_of st') g now.scope still.frame i there.signature there.signed opts

        -- an index of the options is missing
        lift_unsound : options_in g i opts ≡ None → reads now ≡ Err invalid
        unfolding read_row read_lift
        lift_unsound none =
            let missing = both_missing (OptionsStand ms (tables_of st')) (options_in g i opts)
            (options_of now.scope there.signature opts) options_stand none in
            rw (there.is_tree, there.is_signature, function.1, missing) refl

        -- the function was lifted
        lift_goes : (o : Options) → options_in g i opts ≡ Some o → (key : DefinitionId)
            → key.0 ≡ length st'.definitions
            → Goes t ms (record st' { definitions = st'.definitions ++ definition.LiftedFunc n id o ∷ [] })
            (record g { funcs = f.funcs ++ key ∷ [] }) (reads now)
        lift_goes o sound key last =
            let os = both_there (OptionsStand ms (tables_of st')) (options_in g i opts)
            (options_of now.scope there.signature opts) o options_stand sound in
            let d = definition.LiftedFunc n id o in
            let end = record st' { definitions = st'.definitions ++ d ∷ [] } in
            let prepares = definition_prepares t ms st' d (no_instance (length st'.instances) d refl) in
            let at_end = point_kept t ms st' end prepares g now still in
            let x = lifted_function there.tree function.0 os.0 in
            let next = add_value now (func_value x) in
            let is = definition_added ms (tables_of end) st'.definitions d key (func_value x) refl last
            (stands_lifted there.has
            (item_kept ms (tables_of st') (tables_of end) prepares.keeps kind.Func id function.0 function.2)
            (options_kept ms (tables_of st') (tables_of end) prepares.keeps o os.0 os.2)) in
            record {
              now = next;
              stands = framed_point t ms end g (record g { funcs = f.funcs ++ key ∷ [] }) now
                  (with_value now.scope (func_value x)) at_end refl refl refl
                  (func_framed ms (tables_of end) g now.scope at_end.frame key x is);
              done = lift_read now there.tree there.signature function.0 os.0 there.is_tree there.is_signature
                  function.1 os.1;
            }

    -- the steps of these
    pub lift_misses : slice_get f.core_funcs func ≡ None
        → StepsItem t ms lift st f st' g (Err (item_error.Fault item_fault.Invalid))
    lift_misses none = steps_stuck t ms reads st f st' g item_fault.Invalid (λ now at. lift_unfound now at none)

    pub lift_misses_option : (id : CoreId) → slice_get f.core_funcs func ≡ Some id → options_in g i opts ≡ None
        → StepsItem t ms lift st f st' g (Err (item_error.Fault item_fault.Invalid))
    lift_misses_option id found_it none =
        steps_stuck t ms reads st f st' g item_fault.Invalid (λ now at. lift_unsound now at id found_it none)

    lift_steps : (id : CoreId) → slice_get f.core_funcs func ≡ Some id → (o : Options)
        → options_in g i opts ≡ Some o
        → (key : DefinitionId) → key.0 ≡ length st'.definitions → (r : ⊤)
        → StepsItem t ms lift st f (record st' { definitions = st'.definitions ++ definition.LiftedFunc n id o ∷ [] })
        (record g { funcs = f.funcs ++ key ∷ [] }) (Ok r)
    lift_steps id found_it o sound key last r =
        steps_on t ms reads st f (record st' { definitions = st'.definitions ++ definition.LiftedFunc n id o ∷ [] })
        (record g { funcs = f.funcs ++ key ∷ [] }) r
        (λ now at. lift_goes now at id found_it o sound key last)

    -- the same, where the state and the frame after it are said by equations
    pub lift_made : (id : CoreId) → slice_get f.core_funcs func ≡ Some id → (o : Options)
        → options_in g i opts ≡ Some o
        → (key : DefinitionId) → key.0 ≡ length st'.definitions → (r : ⊤) (end : State) (fs : List DefinitionId)
        → end ≡ record st' { definitions = st'.definitions ++ definition.LiftedFunc n id o ∷ [] }
        → fs ≡ f.funcs ++ key ∷ [] → StepsItem t ms lift st f end (record g { funcs = fs }) (Ok r)
    lift_made id found_it o sound key last r end fs ended added =
        subst (λ x. StepsItem t ms lift st f x (record g { funcs = fs }) (Ok r)) (sym ended)
        (subst (λ xs. StepsItem t ms lift st f
        (record st' { definitions = st'.definitions ++ definition.LiftedFunc n id o ∷ [] })
        (record g { funcs = xs }) (Ok r)) (sym added) (lift_steps id found_it o sound key last r))
