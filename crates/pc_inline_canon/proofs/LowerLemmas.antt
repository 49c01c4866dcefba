-- The step of a lower: of a host function, of a lifted function or of an intrinsic.
use Rattle.std.proofs.Common.{◌≡◌, ℕ, Bool, true, false, List, None, Some}
use Rattle.std.proofs.Common.{Result, Ok, Err, if◌then◌else◌, refl, sym, ap, subst, ◌∙◌}
use Rattle.std.specs.Prelude.{⊤, slice_get, option_and_then}
use Rattle.std.specs.List.{list_all}
use Rattle.std.specs.Result.{IsErrAnd}
use Rattle.std.proofs.lemmas.Option.{none-some, same_Some, slice_get_within}
use Rattle.pc_numbers.specs.declared.module_entity.ModuleInternedTypeIndex.{ModuleInternedTypeIndex}
use Rattle.pc_types_builder.specs.Plain.{Layers}
use Rattle.pc_types.specs.declared.module_record.ModuleRecord.{ModuleRecord}
use Rattle.pc_types.specs.declared.parsed.CoreFuncSig.{CoreFuncSig}
use Rattle.pc_types.specs.declared.parsed.CoreKind.TheVariants as kind
use Rattle.pc_types.specs.declared.parsed.TypeTable.{TypeTable}
use Rattle.pc_types.specs.declared.type_index.TypeFuncIndex.{TypeFuncIndex}
use Rattle.pc_types.specs.Table.{is_func}
use Rattle.pc_types.specs.IntrinsicType.{intrinsic_place}
use Rattle.pc_types.specs.TypeTree.{TypeTree}
use Rattle.pc_spec_plan.specs.CoreValue as value
use Rattle.pc_parsed.specs.declared.canon.CanonOption.{CanonOption}
use Rattle.pc_parsed.specs.Mark.{Mark}
use Rattle.pc_spec_reading.specs.Functions.{lower_to, read_lower}
use Rattle.pc_spec_reading.specs.Item.{Item, lower_item}
use Rattle.pc_spec_reading.specs.Options.{options_of}
use Rattle.pc_spec_reading.specs.Outcome.{Fault, bad_type, found, invalid}
use Rattle.pc_spec_reading.specs.Rows.{read_row}
use Rattle.pc_spec_reading.specs.Scope.{Moment}
use Rattle.pc_spec_reading.specs.Types.{signature_at, tree_if}
use Rattle.pc_spec_reading.specs.Value.{Function, Value, func_value, host_function, intrinsic_function, lifted_function}
use Rattle.pc_inline_state.specs.declared.definition.CoreId.{CoreId}
use Rattle.pc_inline_state.specs.declared.definition.Definition.{Definition}
use Rattle.pc_inline_state.specs.declared.definition.DefinitionId.{DefinitionId}
use Rattle.pc_inline_state.specs.declared.definition.Options.{Options}
use Rattle.pc_inline_state.specs.declared.error.ItemError.{ItemError}
use Rattle.pc_inline_state.specs.declared.error.ItemError.TheVariants as item_error
use Rattle.pc_inline_state.specs.declared.error.ItemFault.TheVariants as item_fault
use Rattle.pc_inline_state.specs.declared.frame.Frame.{Frame}
use Rattle.pc_inline_state.specs.declared.state.State.{State}
use Rattle.pc_inline_state.specs.Frames.{Both, FuncStands}
use Rattle.pc_inline_state.specs.Points.{Goes, IsSoundState, PointStands, StepsItem}
use Rattle.pc_inline_state.specs.Prepares.{Converts}
use Rattle.pc_inline_state.specs.Refused.{LacksRoomOr}
use Rattle.pc_inline_state.specs.Lists.{with_core_id}
use Rattle.pc_inline_state.specs.Slots.{OptionsThere}
use Rattle.pc_inline_state.specs.Stands.{DefinitionStands, OptionsStand, Stands, stands, stands_component, stands_host}
use Rattle.pc_inline_state.specs.Stands.{stands_host_instance, stands_host_module, stands_instance, stands_intrinsic}
use Rattle.pc_inline_state.specs.Stands.{stands_intrinsics, stands_lifted, stands_static, stands_type}
use Rattle.pc_inline_state.specs.Tables.{Tables, tables_of}
use Rattle.pc_inline_state.specs.Typed.{AreOfFunction, HasNoFunction}
use Rattle.pc_inline_canon.specs.declared.callee.Callee.{Callee}
use Rattle.pc_inline_canon.specs.declared.callee.Callee.TheVariants as callee
use Rattle.pc_inline_canon.specs.Callees.{HeldCallee, IsCallee, LowersTo, callee_of}
use Rattle.pc_inline_canon.specs.Written.{is_sound_in, options_in, picked_options, written}
use Rattle.pc_inline_canon.proofs.FrameLemmas.{converted_point}
use Rattle.pc_inline_canon.proofs.OptionLemmas.{options_in_stand}
use Rattle.pc_inline_canon.proofs.PassedLemmas.{steps_lacking, steps_passed}
use Rattle.pc_inline_canon.proofs.StepLemmas.{steps_on, steps_stuck}
use Rattle.pc_inline_canon.proofs.ThereLemmas.{item_there, options_there}
use Rattle.pc_inline_canon.proofs.TypeLemmas.{FunctionThere, function_there, no_function}
use Rattle.pc_inline_state.proofs.ZipLemmas.{both_missing, both_there, zip_at}

module _ (ms : List ModuleRecord) (b : Tables) where
  -- a function is the callee that its definition says, which is held
  callee_entry : (d : Definition) (v : Value) (x : Function) → DefinitionStands ms b d v → v ≡ func_value x
      → (c : Callee) → callee_of d ≡ Some c → IsCallee ms b c x × HeldCallee ms b c
  unfolding IsCallee HeldCallee
  callee_entry d v x (stands_host {p = p} {path = path} held given typed) is c here =
      let same : host_function path ≡ x = cc in
      subst (λ (k : Callee). IsCallee ms b k x × HeldCallee ms b k) (same_Some (callee.Host p) c here)
      ((path, held, sym same), slice_get_within b.paths p.0 path held)
  callee_entry d v x (stands_lifted {ty = ty} {func = fn} {o = o} {tree = tree} {v = w} {os = os} typed func options) is
      c here =
      let same : lifted_function tree w os ≡ x = cc in
      subst (λ (k : Callee). IsCallee ms b k x × HeldCallee ms b k) (same_Some (callee.Lifted ty fn o) c here) (
        record {
          tree = tree;
          callee = w;
          options = os;
          typed = typed;
          func_stands = func;
          options_stand = options;
          is = sym same;
        },
        (item_there ms b kind.Func fn w func, options_there ms b o os options),
      )
  callee_entry d v x (stands_intrinsic {i = i}) is c here =
      let same : intrinsic_function (intrinsic_place i) ≡ x = cc in
      subst (λ (k : Callee). IsCallee ms b k x × HeldCallee ms b k) (same_Some (callee.Intrinsic i) c here)
      (sym same, tt)
  callee_entry d v x (stands_static handed_in tabled j typed) is c here = absurd (none-some c here)
  callee_entry d v x (stands_host_module held given tabled typed) is c here = absurd (none-some c here)
  callee_entry d v x (stands_component tr body leaving closure modules components) is c here =
      absurd (none-some c here)
  callee_entry d v x (stands_host_instance held given tabled typed) is c here = absurd (none-some c here)
  callee_entry d v x (stands_instance held among typed) is c here = absurd (none-some c here)
  callee_entry d v x stands_intrinsics is c here = absurd (none-some c here)
  callee_entry d v x (stands_type typed) is c here = absurd (none-some c here)

  callee_is : (n : DefinitionId) (x : Function) → Stands ms b n (func_value x) → (c : Callee)
      → option_and_then callee_of (slice_get b.definitions n.0) ≡ Some c → IsCallee ms b c x × HeldCallee ms b c
  callee_is n x (stands {d = d} held entry) c here =
      callee_entry d (func_value x) x entry refl c (sym (ap (option_and_then callee_of) held) ∙ here)

  -- so each function is one
  callee_there : (d : Definition) (v : Value) (x : Function) → DefinitionStands ms b d v → v ≡ func_value x
      → callee_of d ≡ None → ⊥
  callee_there d v x (stands_host held given typed) is none = none-some _ (sym none)
  callee_there d v x (stands_lifted typed func options) is none = none-some _ (sym none)
  callee_there d v x stands_intrinsic is none = none-some _ (sym none)
  callee_there d v x (stands_static handed_in tabled j typed) is none = cc
  callee_there d v x (stands_host_module held given tabled typed) is none = cc
  callee_there d v x (stands_component tr body leaving closure modules components) is none = cc
  callee_there d v x (stands_host_instance held given tabled typed) is none = cc
  callee_there d v x (stands_instance held among typed) is none = cc
  callee_there d v x stands_intrinsics is none = cc
  callee_there d v x (stands_type typed) is none = cc

  is_callee : (n : DefinitionId) (x : Function) → Stands ms b n (func_value x)
      → option_and_then callee_of (slice_get b.definitions n.0) ≡ None → ⊥
  is_callee n x (stands {d = d} held entry) none =
      callee_there d (func_value x) x entry refl (sym (ap (option_and_then callee_of) held) ∙ none)

-- options are under the signature for which they are
core_type_in : (f : Frame) (i : ModuleInternedTypeIndex) (os : List CanonOption) (o : Options)
    → options_in f i os ≡ Some o → o.core_type ≡ i
unfolding options_in
core_type_in f i os o h = by (list_all (is_sound_in f) os) h
  where
    by : (b : Bool) → (if b then Some (picked_options f i (written os)) else None) ≡ Some o → o.core_type ≡ i
    by true h = sym (ap (λ (x : Options). x.core_type) (same_Some (picked_options f i (written os)) o h))
    by false h = absurd (none-some o h)

module _ (t : TypeTable) (ms : List ModuleRecord) (func ty core : ℕ) (opts : List CanonOption) where
  abbrev lower : Item
  lower = lower_item func ty core opts

  abbrev reads : Moment → Result Moment Fault
  reads now = read_row t ms now lower

  -- there is no such type or signature
  lower_untyped : (now : Moment) → HasNoFunction t ty core → reads now ≡ Err bad_type
  unfolding read_row read_lower
  lower_untyped now none = no_function t now.scope ty core (λ tree s. found invalid (slice_get now.scope.funcs func)
      (λ (x : Function). found invalid (options_of now.scope s opts)
      (λ (o : value.Options Mark). Ok (lower_to now x tree s o)))) none

  -- what a lower makes of a moment in which all is there
  lower_read : (now : Moment) (tree : TypeTree) (s : CoreFuncSig) (x : Function) (o : value.Options Mark)
      → tree_if t is_func now.scope ty ≡ Some tree → signature_at t core ≡ Some s
      → slice_get now.scope.funcs func ≡ Some x → options_of now.scope s opts ≡ Some o
      → read_row t ms now lower ≡ Ok (lower_to now x tree s o)
  unfolding read_row read_lower
  lower_read now tree s x o a b c d = rw (a, b, c, d) refl

  lower_lacks_types : (st : State) (f : Frame) (st' : State) (f' : Frame) (e : ItemError)
      → LacksRoomOr item_fault.BadType (HasNoFunction t ty core) st' e → StepsItem t ms lower st f st' f' (Err e)
  lower_lacks_types st f st' f' e lacks =
      steps_lacking t ms reads st f st' f' item_fault.BadType (HasNoFunction t ty core) e lacks
      (λ now at none. lower_untyped now none)

  -- the same, handed on
  pub lower_lacks : (st : State) (f : Frame) (st' : State) (f' : Frame) (r : Result ⊤ ItemError) (e : ItemError)
      → IsErrAnd r (λ x. x ≡ e) → LacksRoomOr item_fault.BadType (HasNoFunction t ty core) st' e
      → StepsItem t ms lower st f st' f' r
  lower_lacks st f st' f' r e is lacks =
      steps_passed t ms reads st f st' f' r e is (lower_lacks_types st f st' f' e lacks)

  -- types were converted, and a point stands where it did
  module _ (st : State) (f : Frame) (st' : State) (done : Layers)
      (converts : Converts t st f.converted st' done) (n : TypeFuncIndex) (i : ModuleInternedTypeIndex)
      (are : AreOfFunction st'.types t ty core n i) where
    -- the component instance, for which these were converted
    abbrev g : Frame
    g = record f { converted = done }

    module _ (now : Moment) (at : PointStands t ms st f now) where
      still : PointStands t ms st' g now
      still = converted_point t ms st f st' done converts now at

      there : FunctionThere t now.scope st'.graph st'.types ty core n i
      there = function_there t now.scope st'.graph st'.types still.here ty core n i are

      -- the function is missing
      lower_unfound : slice_get f.funcs func ≡ None → reads now ≡ Err invalid
      unfolding read_row read_lower
      lower_unfound none =
          let missing = both_missing (FuncStands ms (tables_of st')) (slice_get f.funcs func)
          (slice_get now.scope.funcs func)
          (zip_at (FuncStands ms (tables_of st')) f.funcs now.scope.funcs func still.frame.funcs) none in
          rw (there.is_tree, there.is_signature, missing) refl

      module _ (id : DefinitionId) (found_it : slice_get f.funcs func ≡ Some id) where
        function : (x : Function) × (slice_get now.scope.funcs func ≡ Some x) × FuncStands ms (tables_of st') id x
        function = both_there (FuncStands ms (tables_of st')) (slice_get f.funcs func)
            (slice_get now.scope.funcs func) id
            (zip_at (FuncStands ms (tables_of st')) f.funcs now.scope.funcs func still.frame.funcs) found_it

        options_stand : Both (OptionsStand ms (tables_of st')) (options_in g i opts)
            (options_of now.scope there.signature opts)
        options_stand = options_in_stand ms (tables_of st') g now.scope still.frame i there.signature there.signed opts

        -- an index of the options is missing
        lower_unsound : options_in g i opts ≡ None → reads now ≡ Err invalid
        unfolding read_row read_lower
        lower_unsound none =
            let missing = both_missing (OptionsStand ms (tables_of st')) (options_in g i opts)
            (options_of now.scope there.signature opts) options_stand none in
            rw (there.is_tree, there.is_signature, function.1, missing) refl

        module _ (o : Options) (sound : options_in g i opts ≡ Some o) where
          options : (os : value.Options Mark) × (options_of now.scope there.signature opts ≡ Some os)
              × OptionsStand ms (tables_of st') o os
          options = both_there (OptionsStand ms (tables_of st')) (options_in g i opts)
              (options_of now.scope there.signature opts) o options_stand sound

          -- it was lowered
          lower_goes : (c : Callee) → option_and_then callee_of (slice_get st'.definitions id.0) ≡ Some c
              → (end : State) (key : CoreId) → LowersTo t ms st' end c n o key
              → Goes t ms end (with_core_id g kind.Func key) (reads now)
          unfolding LowersTo
          lower_goes c is end key lowers =
              let by_number = ap (λ (j : ModuleInternedTypeIndex). slice_get st'.types.signatures j.0)
              (core_type_in g i opts o sound) ∙ there.signed in
              let went = lowers g now function.0 there.tree there.signature options.0 still
              (callee_is ms (tables_of st') id function.0 function.2 c is).0 there.has by_number options.2 in
              let next = lower_to now function.0 there.tree there.signature options.0 in
              record {
                now = next;
                stands = went;
                done = lower_read now there.tree there.signature function.0 options.0 there.is_tree there.is_signature
                    function.1 options.1;
              }

    -- what the call that lowers asks for
    pub lower_ready : ((now : Moment) × PointStands t ms st f now) → (id : DefinitionId)
        → slice_get f.funcs func ≡ Some id → (o : Options) → options_in g i opts ≡ Some o → (c : Callee)
        → option_and_then callee_of (slice_get st'.definitions id.0) ≡ Some c
        → IsSoundState t ms st' × HeldCallee ms (tables_of st') c × OptionsThere ms (tables_of st') o
    lower_ready point id found_it o sound c is =
        let now = point.0 in
        let at = point.1 in
        let x = function now at id found_it in
        let os = options now at id found_it o sound in (
          (still now at).sound,
          (callee_is ms (tables_of st') id x.0 x.2 c is).1,
          options_there ms (tables_of st') o os.0 os.2,
        )

    -- and what it is called with is there
    pub lower_callee : ((now : Moment) × PointStands t ms st f now) → (id : DefinitionId)
        → slice_get f.funcs func ≡ Some id → option_and_then callee_of (slice_get st'.definitions id.0) ≡ None → ⊥
    lower_callee point id found_it none =
        let x = function point.0 point.1 id found_it in
        is_callee ms (tables_of st') id x.0 x.2 none

    -- the steps of these
    pub lower_misses : slice_get f.funcs func ≡ None
        → StepsItem t ms lower st f st' g (Err (item_error.Fault item_fault.Invalid))
    lower_misses none = steps_stuck t ms reads st f st' g item_fault.Invalid (λ now at. lower_unfound now at none)

    module _ (id : DefinitionId) (found_it : slice_get f.funcs func ≡ Some id) where
      pub lower_misses_option : options_in g i opts ≡ None
          → StepsItem t ms lower st f st' g (Err (item_error.Fault item_fault.Invalid))
      lower_misses_option none =
          steps_stuck t ms reads st f st' g item_fault.Invalid (λ now at. lower_unsound now at id found_it none)

      module _ (o : Options) (sound : options_in g i opts ≡ Some o) where
        pub lower_steps : (c : Callee) → option_and_then callee_of (slice_get st'.definitions id.0) ≡ Some c
            → (end : State) (key : CoreId) → LowersTo t ms st' end c n o key → (f' : Frame)
            → f' ≡ with_core_id g kind.Func key → (r : ⊤) → StepsItem t ms lower st f end f' (Ok r)
        lower_steps c called end key lowers f' is r =
            subst (λ x. StepsItem t ms lower st f end x (Ok r)) (sym is)
            (steps_on t ms reads st f end (with_core_id g kind.Func key) r
            (λ now at. lower_goes now at id found_it o sound c called end key lowers))
