-- The step of a builtin: its core signature, its parts one after the other, and its trampoline.
use Rattle.std.proofs.Common.{◌≡◌, ◌≤◌, ◌+◌, ℕ, arith, List, [], All, Option, None, Some, Result, Ok, Err, map, refl, sym, ap, subst}
use Rattle.std.proofs.Common.{◌*◌, ◌∙◌}
use Rattle.std.specs.Prelude.{⊤, option_map, slice_get}
use Rattle.std.specs.List.{AllZip}
use Rattle.std.specs.Result.{IsErrAnd}
use Rattle.pc_numbers.specs.declared.module_entity.ModuleInternedTypeIndex.{ModuleInternedTypeIndex}
use Rattle.pc_types_builder.specs.Plain.{Layers}
use Rattle.pc_types.specs.declared.module_record.ModuleRecord.{ModuleRecord}
use Rattle.pc_types.specs.declared.parsed.CoreFuncSig.{CoreFuncSig}
use Rattle.pc_types.specs.declared.parsed.CoreKind.TheVariants as core
use Rattle.pc_types.specs.declared.parsed.TypeTable.{TypeTable}
use Rattle.pc_spec_plan.specs.Log.{declared}
use Rattle.pc_trampoline.specs.Shape as shape
use Rattle.pc_trampoline.specs.Shape.{HasShape, part_shape}
use Rattle.pc_trampoline.specs.View.{part_by}
use Rattle.pc_dfg.specs.Held.{HasBegun, HeldPart}
use Rattle.pc_dfg.specs.Numbers.{graph_numbers}
use Rattle.pc_spec_reading.specs.Builtins.{add_builtin}
use Rattle.pc_spec_reading.specs.Item.{Item}
use Rattle.pc_spec_reading.specs.Outcome.{Fault, after, bad_type}
use Rattle.pc_spec_reading.specs.Rows.{read_row}
use Rattle.pc_spec_reading.specs.Scope.{Moment, Scope, add_entry, with_core}
use Rattle.pc_spec_reading.specs.Types.{signature_at}
use Rattle.pc_inline_state.specs.declared.definition.CoreId.{CoreId}
use Rattle.pc_inline_state.specs.declared.error.ItemError.{ItemError}
use Rattle.pc_inline_state.specs.declared.error.ItemError.TheVariants as item_error
use Rattle.pc_inline_state.specs.declared.error.ItemFault.TheVariants as item_fault
use Rattle.pc_inline_state.specs.declared.frame.Frame.{Frame}
use Rattle.pc_inline_state.specs.declared.state.State.{State}
use Rattle.pc_dfg.specs.Lists as list
use Rattle.pc_dfg.specs.Lists.{ListName}
use Rattle.pc_inline_state.specs.Adds.{Adds}
use Rattle.pc_inline_state.specs.AddsEach.{AddsEach, in_options, in_trampolines}
use Rattle.pc_inline_state.specs.Faults.{fault_of}
use Rattle.pc_inline_state.specs.Frames.{Both}
use Rattle.pc_inline_state.specs.KnowsSame.{KnowsSame}
use Rattle.pc_inline_state.specs.Lists.{with_core_id}
use Rattle.pc_inline_state.specs.Points.{Follows, Goes, PointStands, Steps, StepsItem}
use Rattle.pc_inline_state.specs.Prepares.{Converts, Prepares}
use Rattle.pc_inline_state.specs.Refused.{LacksRoomOr}
use Rattle.pc_inline_state.specs.Stands.{ItemStands}
use Rattle.pc_inline_state.specs.Tables.{Keeps, Tables, tables_of}
use Rattle.pc_inline_state.specs.Typed.{IsSignature}
use Rattle.pc_inline_state.proofs.AddsLemmas.{adds_both, adds_each, each_trans}
use Rattle.pc_inline_state.proofs.StateLemmas.{converts_prepares, keeps_trans}
use Rattle.pc_inline_state.proofs.ZipLemmas.{both_more}
use Rattle.pc_inline_canon.proofs.ConvertedLemmas.{lower_keeps}
use Rattle.pc_inline_canon.proofs.FrameLemmas.{converted_point, core_framed, framed_point}
use Rattle.pc_inline_canon.proofs.PassedLemmas.{steps_lacking, steps_passed}
use Rattle.pc_inline_canon.proofs.StepLemmas.{steps_on}
use Rattle.pc_inline_canon.proofs.WorldLemmas.{point_kept}
use Rattle.pc_inline_builtins.specs.declared.builtin.Builtin.{Builtin}
use Rattle.pc_inline_builtins.specs.Made.{Answers, Declares, Part, PartStands, Yields, built}
use Rattle.pc_inline_builtins.specs.Reads.{ReadPart, read_first, read_made, read_second}
use Rattle.pc_inline_builtins.specs.Written.{HasItsShape, both_of, first_shape, second_shape}
use Rattle.pc_inline_builtins.proofs.PartLemmas.{both_stand, part_kept, parts_mean}

-- the shapes of two parts that there may be
shapes_of_both : (p q : Option Part)
    → map part_shape (both_of p q) ≡ both_of (option_map part_shape p) (option_map part_shape q)
shapes_of_both None None = refl
shapes_of_both None (Some q) = refl
shapes_of_both (Some p) None = refl
shapes_of_both (Some p) (Some q) = refl

-- parts of the shapes that a builtin has are those of its kind
pub both_shaped : (b : Builtin) (p q : Option Part) (ps : List Part) → HasItsShape b → ps ≡ both_of p q
    → option_map part_shape p ≡ first_shape b.first → option_map part_shape q ≡ second_shape b.second
    → HasShape b.kind shape.builtin (map part_shape ps)
unfolding HasItsShape
both_shaped b p q ps has is one two =
    subst (HasShape b.kind shape.builtin)
    (sym (ap (map part_shape) is ∙ shapes_of_both p q ∙ (λ i. both_of (one i) (two i)))) has

-- an error that was answered is the reading's fault, or there was no room
stuck_as : {A B : Type 0} (t : TypeTable) (ms : List ModuleRecord) (st : State) (f : Frame) (R : A → B → Type 0)
    (reads : Result B Fault) (whole : Result Moment Fault) (e : ItemError)
    → ((k : Fault) → reads ≡ Err k → whole ≡ Err k) → Answers (tables_of st) R reads (Err e)
    → Follows t ms st f whole (Err e)
unfolding Answers Follows
stuck_as t ms st f R reads whole (item_error.Fault k) more is = more (fault_of k) is
stuck_as t ms st f R reads whole item_error.TooMany more is = is
stuck_as t ms st f R reads whole item_error.NoMemory more is = tt

-- what was answered is what the reading has
answered : {A B : Type 0} (st : State) (R : A → B → Type 0) (reads : Result B Fault) (x : A)
    → Answers (tables_of st) R reads (Ok x) → (y : B) × (reads ≡ Ok y) × R x y
unfolding Answers
answered st R reads x is = is

module _ (t : TypeTable) (ms : List ModuleRecord) (b : Builtin) where
  -- the row of an item is that of the builtin
  abbrev IsRow : Item → Type 0
  IsRow i = (now : Moment) → read_row t ms now i ≡ read_made t b now

  -- the step is stuck where the row of the builtin is
  made_stuck : (i : Item) → IsRow i → (now : Moment) (k : Fault) → read_made t b now ≡ Err k
      → read_row t ms now i ≡ Err k
  made_stuck i row now k is = row now ∙ is

  -- there is no such signature
  pub signature_lacks : (i : Item) → IsRow i → (st : State) (f : Frame) (st' : State) (f' : Frame) (r : Result ⊤ ItemError) (e : ItemError)
      → IsErrAnd r (λ x. x ≡ e) → LacksRoomOr item_fault.BadType (slice_get t.core_funcs b.core ≡ None) st' e
      → StepsItem t ms i st f st' f' r
  unfolding read_made signature_at
  signature_lacks i row st f st' f' r e is lacks =
      steps_passed t ms (λ now. read_row t ms now i) st f st' f' r e is
      (steps_lacking t ms (λ now. read_row t ms now i) st f st' f' item_fault.BadType
      (slice_get t.core_funcs b.core ≡ None) e lacks (λ now at none. made_stuck i row now bad_type (missing now none)))
    where
      missing : (now : Moment) → slice_get t.core_funcs b.core ≡ None → read_made t b now ≡ Err bad_type
      missing now none = rw (none) refl

  module _ (st : State) (f : Frame) (mid : State) (converts : (done : Layers) → Converts t st done mid done)
      (core_type : ModuleInternedTypeIndex) (is_signature : IsSignature mid.types t b.core core_type) where
    -- the signature
    abbrev signature : CoreFuncSig
    signature = is_signature.0

    -- a point stands where it did
    pub signed_point : (now : Moment) → PointStands t ms st f now → PointStands t ms mid f now
    signed_point now at = converted_point t ms st f mid f.converted (converts f.converted) now at

    -- what the row reads when the signature is there
    reads_on : (now : Moment)
        → read_made t b now ≡ after (read_first t now.scope b.first) (λ (p : Option ReadPart).
        after (read_second now.scope signature b.second) (λ (q : Option ReadPart).
        Ok (add_builtin now b.kind signature (both_of p q))))
    unfolding read_made signature_at
    reads_on now = rw (is_signature.1) refl

    module _ (mid' : State) (done : Layers) (converts' : Converts t mid f.converted mid' done) where
      -- the component instance, for which types were converted
      abbrev g : Frame
      g = record f { converted = done }

      pub first_point : (now : Moment) → PointStands t ms st f now → PointStands t ms mid' g now
      first_point now at = converted_point t ms mid f mid' done converts' now (signed_point now at)

      -- the first part is missing, or there was no room
      pub first_lacks : (i : Item) → IsRow i → (r : Result ⊤ ItemError) (e : ItemError) → IsErrAnd r (λ x. x ≡ e)
          → ((s : Scope) → KnowsSame mid'.graph mid'.types.resources s
          → Yields (tables_of mid') (read_first t s b.first) (Err e))
          → StepsItem t ms i st f mid' g r
      unfolding Steps
      first_lacks i row r e is yields =
          steps_passed t ms (λ now. read_row t ms now i) st f mid' g r e is
          (λ now at. stuck_as t ms mid' g (Both (PartStands (tables_of mid'))) (read_first t now.scope b.first)
          (read_row t ms now i) e
          (λ k stuck. made_stuck i row now k (reads_on now ∙ rw (stuck) refl))
          (yields now.scope (first_point now at).here))

      module _ (p : Option Part)
          (yields : (s : Scope) → KnowsSame mid'.graph mid'.types.resources s
          → Yields (tables_of mid') (read_first t s b.first) (Ok p)) where
        -- the first part at a moment
        first_at : (now : Moment) → PointStands t ms st f now
            → (v : Option ReadPart) × (read_first t now.scope b.first ≡ Ok v)
            × Both (PartStands (tables_of mid')) p v
        first_at now at =
            answered mid' (Both (PartStands (tables_of mid'))) (read_first t now.scope b.first) p
            (yields now.scope (first_point now at).here)

        -- the signature is held
        pub still_signed : slice_get mid'.types.signatures core_type.0 ≡ Some signature
        still_signed = converts'.grows.signatures core_type.0 signature is_signature.2

        module _ (last : State) (prepares : Prepares t ms mid' last) where
          pub second_point : (now : Moment) → PointStands t ms st f now → PointStands t ms last g now
          second_point now at = point_kept t ms mid' last prepares g now (first_point now at)

          -- the second part is missing, or there was no room
          pub second_lacks : (i : Item) → IsRow i → (r : Result ⊤ ItemError) (e : ItemError) → IsErrAnd r (λ x. x ≡ e)
              → ((now : Moment) (s : CoreFuncSig) → PointStands t ms mid' g now
              → slice_get mid'.types.signatures core_type.0 ≡ Some s
              → Yields (tables_of last) (read_second now.scope s b.second) (Err e))
              → StepsItem t ms i st f last g r
          unfolding Steps
          second_lacks i row r e is yields' =
              steps_passed t ms (λ now. read_row t ms now i) st f last g r e is
              (λ now at.
              let one = first_at now at in
              stuck_as t ms last g (Both (PartStands (tables_of last))) (read_second now.scope signature b.second)
              (read_row t ms now i) e
              (λ k stuck. made_stuck i row now k (reads_on now ∙ rw (one.1, stuck) refl))
              (yields' now signature (first_point now at) still_signed))

          module _ (q : Option Part)
              (yields' : (now : Moment) (s : CoreFuncSig) → PointStands t ms mid' g now
              → slice_get mid'.types.signatures core_type.0 ≡ Some s
              → Yields (tables_of last) (read_second now.scope s b.second) (Ok q)) where
            second_at : (now : Moment) → PointStands t ms st f now
                → (w : Option ReadPart) × (read_second now.scope signature b.second ≡ Ok w)
                × Both (PartStands (tables_of last)) q w
            second_at now at =
                answered last (Both (PartStands (tables_of last))) (read_second now.scope signature b.second) q
                (yields' now signature (first_point now at) still_signed)

            module _ (ps : List Part) (are : ps ≡ both_of p q) where
              -- the parts at a moment
              parts_at : (now : Moment) (at : PointStands t ms st f now)
                  → AllZip (PartStands (tables_of last)) ps (both_of (first_at now at).0 (second_at now at).0)
              parts_at now at =
                  let one = first_at now at in
                  let two = second_at now at in
                  subst (λ xs. AllZip (PartStands (tables_of last)) xs (both_of one.0 two.0)) (sym are)
                  (both_stand (tables_of last) p q one.0 two.0
                  (both_more (PartStands (tables_of mid')) (PartStands (tables_of last))
                  (part_kept (tables_of mid') (tables_of last) prepares.keeps) p one.0 one.2) two.2)

              -- what the call that declares it asks for
              pub declare_ready : ((now : Moment) × PointStands t ms st f now)
                  → HasBegun last.graph f.component_instance.0
                  × All (HeldPart last.graph) (map (part_by graph_numbers) ps)
              declare_ready point = (
                (second_point point.0 point.1).frame.begun,
                (parts_mean (tables_of last) ps _ (parts_at point.0 point.1)).held,
              )

              -- it was declared
              made_goes : (i : Item) → IsRow i → (end : State) (id : CoreId)
                  → Declares t ms last end b.kind f.component_instance core_type ps id → (now : Moment)
                  → PointStands t ms st f now
                  → Goes t ms end (with_core_id g core.Func id) (read_row t ms now i)
              unfolding Declares
              made_goes i row end id declares now at =
                  let at' = second_point now at in
                  let one = first_at now at in
                  let two = second_at now at in
                  let vs = both_of one.0 two.0 in
                  let v = built b.kind now.scope.component_instance signature vs in
                  let went = subst (λ n. PointStands t ms end g (add_entry now (declared (built b.kind n signature vs)))
                  × ItemStands ms (tables_of end) core.Func id (built b.kind n signature vs))
                  (sym at'.frame.component_instance)
                  (declares g now signature vs at'
                  (prepares.keeps.types.signatures core_type.0 signature still_signed) (parts_at now at)) in
                  let next = add_builtin now b.kind signature vs in
                  record {
                    now = next;
                    stands = framed_point t ms end g (with_core_id g core.Func id) _ (with_core now.scope core.Func v)
                        went.0
                        refl refl refl
                        (core_framed ms (tables_of end) g now.scope went.0.frame core.Func id v went.1);
                    done = row now ∙ reads_on now ∙ rw (one.1, two.1) refl;
                  }

              -- so the step goes on
              pub made_steps : (i : Item) → IsRow i → (end : State) (id : CoreId)
                  → Declares t ms last end b.kind f.component_instance core_type ps id → (f' : Frame)
                  → f' ≡ with_core_id g core.Func id → (r : ⊤) → StepsItem t ms i st f end f' (Ok r)
              made_steps i row end id declares f' is r =
                  subst (λ x. StepsItem t ms i st f end x (Ok r)) (sym is)
                  (steps_on t ms (λ now. read_row t ms now i) st f end (with_core_id g core.Func id) r
                  (λ now at. made_goes i row end id declares now at))

module _ (t : TypeTable) (st : State) (before : Layers) (mid mid' : State) (after : Layers)
    (first : Converts t st before mid before) (then : Converts t mid before mid' after) where
  -- what is kept when types were converted
  pub first_keeps : Keeps (tables_of st) (tables_of mid')
  first_keeps =
      lower_keeps t st mid before before (tables_of mid') first
      (converts_prepares t [] mid before mid' after then).keeps

  -- and after that
  pub then_keeps : (x : Tables) → Keeps (tables_of mid') x → Keeps (tables_of st) x
  then_keeps x more = keeps_trans (tables_of st) (tables_of mid') x first_keeps more

module _ (t : TypeTable) (n : ℕ) (a b c : Tables) (signature : Adds t 0 a b) (first : Adds t n b c) where
  -- a core signature and the types of the first part
  pub first_few : Adds t (4 + n) a c
  first_few = adds_both t 0 n (4 + n) a b c (omega arith) signature first

  -- with the second part
  pub second_few : (x : Tables) → AddsEach in_options 0 0 c x → Adds t (4 + n) a x
  second_few x second =
      adds_both t n 4 (4 + n) a c x (omega arith) (adds_both t 0 n n a b c (omega arith) signature first)
      (adds_each t in_options 0 0 4 c x le (omega arith) (omega arith) second)
    where
      le : (l : ListName) → in_options l + 32 * in_options list.adapters ≤ 4
      le list.options = omega arith
      le (list.slots k) = omega arith
      le l = omega arith

  -- and the trampoline
  pub made_few : (x y : Tables) → AddsEach in_options 0 0 c x → AddsEach in_trampolines 1 0 x y → Adds t (4 + n) a y
  made_few x y second trampoline =
      adds_both t n 4 (4 + n) a c y (omega arith) (adds_both t 0 n n a b c (omega arith) signature first)
      (adds_each t (λ l. in_options l + in_trampolines l) 1 0 4 c y le (omega arith) (omega arith)
      (each_trans in_options in_trampolines 0 0 1 0 c x y second trampoline))
    where
      le : (l : ListName) → in_options l + in_trampolines l
          + 32 * (in_options list.adapters + in_trampolines list.adapters) ≤ 4
      le list.options = omega arith
      le list.trampolines = omega arith
      le (list.slots k) = omega arith
      le l = omega arith
