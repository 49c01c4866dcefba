-- The parts of a builtin one by one: what the reading has there, and what stands for it; or why there is none.
use Rattle.std.proofs.Common.{◌≡◌, ℕ, Bool, false, List, Option, None, Some, Result, Ok, Err, refl, sym, subst}
use Rattle.std.specs.Prelude.{option_and_then, slice_get}
use Rattle.std.specs.Borrow.{Bor}
use Rattle.std.specs.Result.{IsErrAnd}
use Rattle.pc_numbers.specs.declared.module_entity.ModuleInternedTypeIndex.{ModuleInternedTypeIndex}
use Rattle.pc_types.specs.declared.encoding.StringEncoding.TheVariants.{Utf8}
use Rattle.pc_types.specs.declared.module_record.ModuleRecord.{ModuleRecord}
use Rattle.pc_types.specs.declared.parsed.CoreFuncSig.{CoreFuncSig}
use Rattle.pc_types.specs.declared.parsed.CoreKind.TheVariants as core
use Rattle.pc_types.specs.declared.parsed.TypeTable.{TypeTable}
use Rattle.pc_types.specs.declared.parsed.ValType.{ValType}
use Rattle.pc_types.specs.declared.types.TypeDef.{TypeDef}
use Rattle.pc_types.specs.TypeTree.{TypeTree, error_context}
use Rattle.pc_spec_plan.specs.CoreValue as value
use Rattle.pc_spec_plan.specs.CoreValue.{CoreValue}
use Rattle.pc_trampoline.specs.declared.part.Part.TheVariants as part
use Rattle.pc_parsed.specs.declared.canon.CanonOption.{CanonOption}
use Rattle.pc_parsed.specs.Mark.{Mark, of_signature}
use Rattle.pc_spec_reading.specs.Builtins.{type_part}
use Rattle.pc_spec_reading.specs.Options.{memory_options, options_of}
use Rattle.pc_spec_reading.specs.Outcome.{Fault, bad_type, found, invalid}
use Rattle.pc_spec_reading.specs.Scope.{Moment, Scope}
use Rattle.pc_spec_reading.specs.Types.{results_tree, type_tree}
use Rattle.pc_inline_state.specs.declared.definition.CoreId.{CoreId}
use Rattle.pc_inline_state.specs.declared.definition.Options.{Options}
use Rattle.pc_inline_state.specs.declared.error.ItemError.{ItemError}
use Rattle.pc_inline_state.specs.declared.error.ItemError.TheVariants as item_error
use Rattle.pc_inline_state.specs.declared.error.ItemFault.TheVariants as item_fault
use Rattle.pc_inline_state.specs.declared.frame.Frame.{Frame}
use Rattle.pc_inline_state.specs.declared.state.State.{State}
use Rattle.pc_inline_state.specs.Frames.{Both, both, neither}
use Rattle.pc_inline_state.specs.Points.{PointStands}
use Rattle.pc_inline_state.specs.Refused.{LacksRoom}
use Rattle.pc_inline_state.specs.Slots.{IsThere, OptionsThere}
use Rattle.pc_inline_state.specs.Stands.{ItemStands, OptionsStand, linear_stands, none_stands, options_stand, some_stands}
use Rattle.pc_inline_state.specs.Tables.{Tables, tables_of}
use Rattle.pc_inline_state.proofs.ZipLemmas.{both_missing, both_there, zip_at}
use Rattle.pc_inline_canon.specs.Written.{options_in}
use Rattle.pc_inline_canon.proofs.OptionLemmas.{options_in_stand}
use Rattle.pc_inline_canon.proofs.ThereLemmas.{item_there, options_there}
use Rattle.pc_inline_builtins.specs.declared.builtin.First.{First}
use Rattle.pc_inline_builtins.specs.declared.builtin.First.TheVariants as first
use Rattle.pc_inline_builtins.specs.declared.builtin.Handle.{Handle}
use Rattle.pc_inline_builtins.specs.declared.builtin.Second.{Second}
use Rattle.pc_inline_builtins.specs.declared.builtin.Second.TheVariants as second
use Rattle.pc_inline_builtins.specs.Made.{Answers, AnswersType, HasIts, Part, PartStands, Yields, memory_options_in}
use Rattle.pc_inline_builtins.specs.Reads.{ReadPart, of_handle, read_first, read_second, typed_or}
use Rattle.pc_inline_builtins.proofs.PartLemmas.{flag_stands, number_stands, type_stands}
use Rattle.pc_inline_builtins.proofs.TypeLemmas.{passed_answer, room_answer}

-- there was no room for a part
pub part_lacks : (st : State) (reads : Result (Option ReadPart) Fault) (r : Result (Option Part) ItemError)
    (e : ItemError) → IsErrAnd r (λ x. x ≡ e) → LacksRoom st e → Yields (tables_of st) reads r
part_lacks st reads r e is lacks =
    passed_answer st (Both (PartStands (tables_of st))) reads r e is
    (room_answer st (Both (PartStands (tables_of st))) reads e lacks)

module _ (b : Tables) where
  -- a type stands as a part
  typed_yields : (o : Option TypeTree) (d : TypeDef) → AnswersType b (found bad_type o Ok) (Ok d)
      → Yields b (typed_or o) (Ok (Some (part.Type_ d)))
  unfolding Answers
  typed_yields None d h = absurd (let no : ⊥ = (let x = h.1 in cc) in no)
  typed_yields (Some tree) d h =
      let same : tree ≡ h.0 = (let x = h.1 in cc) in (
        Some (type_part tree),
        refl,
        both (type_stands b d tree (subst (λ x. HasIts b d x) (sym same) h.2)),
      )

  -- or there is none
  typed_stuck : (o : Option TypeTree) (e : ItemError) → AnswersType b (found bad_type o Ok) (Err e)
      → Yields b (typed_or o) (Err e)
  unfolding Answers
  typed_stuck None (item_error.Fault k) h = (let x = h in cc)
  typed_stuck (Some tree) (item_error.Fault k) h = absurd (let no : ⊥ = (let x = h in cc) in no)
  typed_stuck o item_error.TooMany h = h
  typed_stuck o item_error.NoMemory h = h

  module _ (t : TypeTable) (s : Scope) (f : First) where
    -- no part
    pub nothing_first : f ≡ first.Nothing → Yields b (read_first t s f) (Ok None)
    unfolding Answers read_first
    nothing_first is = subst (λ x. Yields b (read_first t s x) (Ok None)) (sym is) (None, refl, neither)

    -- a number
    pub number_first : (n : ℕ) → f ≡ first.Number n → Yields b (read_first t s f) (Ok (Some (part.Number n)))
    unfolding Answers read_first
    number_first n is =
        subst (λ x. Yields b (read_first t s x) (Ok (Some (part.Number n)))) (sym is)
        (Some (value.number_part n), refl, both (number_stands b n))

    -- the error contexts of the component instance
    pub contexts_first : (d : TypeDef) → f ≡ first.ErrorContexts → HasIts b d (error_context s.component_instance)
        → Yields b (read_first t s f) (Ok (Some (part.Type_ d)))
    unfolding Answers read_first
    contexts_first d is holds =
        subst (λ x. Yields b (read_first t s x) (Ok (Some (part.Type_ d)))) (sym is)
        (Some (type_part (error_context s.component_instance)), refl, both (type_stands b d _ holds))

    module _ (w : Handle) (n : ℕ) (is : f ≡ first.Handle w n) where
      -- a type of a kind
      abbrev of_kind : Option TypeTree
      of_kind = option_and_then (of_handle w) (type_tree t s n)

      pub handle_first : (d : TypeDef) → AnswersType b (found bad_type of_kind Ok) (Ok d)
          → Yields b (read_first t s f) (Ok (Some (part.Type_ d)))
      unfolding read_first
      handle_first d h =
          subst (λ x. Yields b (read_first t s x) (Ok (Some (part.Type_ d)))) (sym is) (typed_yields of_kind d h)

      pub handle_stuck : (r : Result (Option Part) ItemError) (e : ItemError) → IsErrAnd r (λ x. x ≡ e)
          → AnswersType b (found bad_type of_kind Ok) (Err e) → Yields b (read_first t s f) r
      unfolding read_first
      handle_stuck (Ok x) e was h = absurd was
      handle_stuck (Err x) e was h =
          subst (λ y. Yields b (read_first t s f) (Err y)) (sym was)
          (subst (λ y. Yields b (read_first t s y) (Err e)) (sym is) (typed_stuck of_kind e h))

    module _ (returned : Option ValType) (is : f ≡ first.Results returned) where
      -- the tuple of a result
      pub results_first : (d : TypeDef) → AnswersType b (found bad_type (results_tree t s returned) Ok) (Ok d)
          → Yields b (read_first t s f) (Ok (Some (part.Type_ d)))
      unfolding read_first
      results_first d h =
          subst (λ x. Yields b (read_first t s x) (Ok (Some (part.Type_ d)))) (sym is)
          (typed_yields (results_tree t s returned) d h)

      pub results_stuck : (r : Result (Option Part) ItemError) (e : ItemError) → IsErrAnd r (λ x. x ≡ e)
          → AnswersType b (found bad_type (results_tree t s returned) Ok) (Err e) → Yields b (read_first t s f) r
      unfolding read_first
      results_stuck (Ok x) e was h = absurd was
      results_stuck (Err x) e was h =
          subst (λ y. Yields b (read_first t s f) (Err y)) (sym was)
          (subst (λ y. Yields b (read_first t s y) (Err e)) (sym is) (typed_stuck (results_tree t s returned) e h))

  module _ (scope : Scope) (s : CoreFuncSig) (q : Second) where
    -- no second part
    pub nothing_second : q ≡ second.Nothing → Yields b (read_second scope s q) (Ok None)
    unfolding Answers read_second
    nothing_second is = subst (λ x. Yields b (read_second scope s x) (Ok None)) (sym is) (None, refl, neither)

    -- a flag
    pub flag_second : (x : Bool) → q ≡ second.Flag x → Yields b (read_second scope s q) (Ok (Some (part.Flag x)))
    unfolding Answers read_second
    flag_second x is =
        subst (λ y. Yields b (read_second scope s y) (Ok (Some (part.Flag x)))) (sym is)
        (Some (value.flag_part x), refl, both (flag_stands b x))

module _ (t : TypeTable) (ms : List ModuleRecord) (st : State) (f : Frame) (ct : ModuleInternedTypeIndex)
    (now : Moment) (s : CoreFuncSig) (at : PointStands t ms st f now)
    (signed : slice_get st.types.signatures ct.0 ≡ Some s) (q : Second) where
  -- these are the tables
  abbrev here : Tables
  here = tables_of st

  module _ (opts : Bor (List CanonOption)) (xs : List CanonOption) (is : q ≡ second.Options opts) (same : xs ≡ opts.now)
    where
      both_options : Both (OptionsStand ms here) (options_in f ct xs) (options_of now.scope s xs)
      both_options = options_in_stand ms here f now.scope at.frame ct s signed xs

      -- an index is missing
      pub options_missing : (b : Tables) → options_in f ct xs ≡ None
          → Yields b (read_second now.scope s q) (Err (item_error.Fault item_fault.Invalid))
      unfolding Answers read_second
      options_missing b none =
          let missing = both_missing (OptionsStand ms here) (options_in f ct xs) (options_of now.scope s xs)
          both_options none in
          subst (λ y. read_second now.scope s y ≡ Err invalid) (sym is)
          (subst (λ ys. found invalid (options_of now.scope s ys) (λ (o : value.Options Mark).
          Ok (Some (value.options_part o))) ≡ Err invalid) same (rw (missing) refl))

      module _ (o : Options) (picked : options_in f ct xs ≡ Some o) where
        options_are : (v : value.Options Mark) × (options_of now.scope s xs ≡ Some v) × OptionsStand ms here o v
        options_are = both_there (OptionsStand ms here) (options_in f ct xs) (options_of now.scope s xs) o both_options
            picked

        -- what the call that makes the entry asks for
        pub options_ready : OptionsThere ms here o
        options_ready = options_there ms here o options_are.0 options_are.2

        -- options
        pub options_second : (b : Tables) (p : Part)
            → ((v : value.Options Mark) → OptionsStand ms here o v → PartStands b p (value.options_part v))
            → Yields b (read_second now.scope s q) (Ok (Some p))
        unfolding Answers read_second
        options_second b p stands = (
          Some (value.options_part options_are.0),
          subst (λ y. read_second now.scope s y ≡ Ok (Some (value.options_part options_are.0))) (sym is)
              (subst (λ ys. found invalid (options_of now.scope s ys) (λ (o : value.Options Mark).
              Ok (Some (value.options_part o))) ≡ Ok (Some (value.options_part options_are.0))) same
              (rw (options_are.1) refl)),
          both (stands options_are.0 options_are.2),
        )

  module _ (n : ℕ) (is : q ≡ second.Memory n) where
    memory_at : Both (ItemStands ms here core.Memory) (slice_get f.memories n) (slice_get now.scope.memories n)
    memory_at = zip_at (ItemStands ms here core.Memory) f.memories now.scope.memories n at.frame.memories

    -- the memory is missing
    pub memory_missing : (b : Tables) → slice_get f.memories n ≡ None
        → Yields b (read_second now.scope s q) (Err (item_error.Fault item_fault.Invalid))
    unfolding Answers read_second
    memory_missing b none =
        let missing = both_missing (ItemStands ms here core.Memory) (slice_get f.memories n)
        (slice_get now.scope.memories n) memory_at none in
        subst (λ y. read_second now.scope s y ≡ Err invalid) (sym is) (rw (missing) refl)

    module _ (id : CoreId) (found_it : slice_get f.memories n ≡ Some id) where
      memory_is : (v : CoreValue Mark) × (slice_get now.scope.memories n ≡ Some v) × ItemStands ms here core.Memory id v
      memory_is = both_there (ItemStands ms here core.Memory) (slice_get f.memories n) (slice_get now.scope.memories n)
          id memory_at found_it

      -- the options that say this memory
      memory_stand : OptionsStand ms here (memory_options_in f ct id) (memory_options now.scope s memory_is.0)
      unfolding memory_options
      memory_stand =
          subst (λ (c : ℕ). OptionsStand ms here (memory_options_in f ct id)
          (value.options c Utf8 false (of_signature s) value.no_value value.no_value
          (value.linear (value.a_value memory_is.0) value.no_value))) (sym at.frame.component_instance)
          (options_stand at.frame.begun signed none_stands none_stands
          (linear_stands (some_stands memory_is.2) none_stands))

      pub memory_ready : OptionsThere ms here (memory_options_in f ct id)
      memory_ready = options_there ms here (memory_options_in f ct id) _ memory_stand

      pub memory_second : (b : Tables) (p : Part)
          → ((v : value.Options Mark) → OptionsStand ms here (memory_options_in f ct id) v
          → PartStands b p (value.options_part v))
          → Yields b (read_second now.scope s q) (Ok (Some p))
      unfolding Answers read_second
      memory_second b p stands = (
        Some (value.options_part (memory_options now.scope s memory_is.0)),
        subst (λ y. read_second now.scope s y
            ≡ Ok (Some (value.options_part (memory_options now.scope s memory_is.0)))) (sym is)
            (rw (memory_is.1) refl),
        both (stands _ memory_stand),
      )

  module _ (n : ℕ) (is : q ≡ second.Table n) where
    table_at : Both (ItemStands ms here core.Table) (slice_get f.tables n) (slice_get now.scope.tables n)
    table_at = zip_at (ItemStands ms here core.Table) f.tables now.scope.tables n at.frame.tables

    -- the table is missing
    pub table_missing : (b : Tables) → slice_get f.tables n ≡ None
        → Yields b (read_second now.scope s q) (Err (item_error.Fault item_fault.Invalid))
    unfolding Answers read_second
    table_missing b none =
        let missing = both_missing (ItemStands ms here core.Table) (slice_get f.tables n)
        (slice_get now.scope.tables n) table_at none in
        subst (λ y. read_second now.scope s y ≡ Err invalid) (sym is) (rw (missing) refl)

    module _ (id : CoreId) (found_it : slice_get f.tables n ≡ Some id) where
      table_is : (v : CoreValue Mark) × (slice_get now.scope.tables n ≡ Some v) × ItemStands ms here core.Table id v
      table_is = both_there (ItemStands ms here core.Table) (slice_get f.tables n) (slice_get now.scope.tables n)
          id table_at found_it

      pub table_ready : IsThere ms here core.Table id
      table_ready = item_there ms here core.Table id table_is.0 table_is.2

      pub table_second : (b : Tables) (p : Part)
          → ((v : CoreValue Mark) → ItemStands ms here core.Table id v
          → PartStands b p (value.value_part (value.a_value v)))
          → Yields b (read_second now.scope s q) (Ok (Some p))
      unfolding Answers read_second
      table_second b p stands = (
        Some (value.value_part (value.a_value table_is.0)),
        subst (λ y. read_second now.scope s y ≡ Ok (Some (value.value_part (value.a_value table_is.0)))) (sym is)
            (rw (table_is.1) refl),
        both (stands table_is.0 table_is.2),
      )
