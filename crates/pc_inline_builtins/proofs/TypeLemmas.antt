-- The types of the builder that builtins name, against the trees of the reading.
use Rattle.std.proofs.Common.{◌≡◌, ◌≤◌, ◌+◌, ℕ, zero, suc, List, [], ◌∷◌, ◌++◌, Option, None, Some, Result, Ok, Err}
use Rattle.std.proofs.Common.{Bool, true, false, length, refl, sym, ap, subst, arith, ◌∙◌}
use Rattle.std.specs.Prelude.{is_some, option_and_then, slice_get}
use Rattle.std.specs.Result.{IsErrAnd}
use Rattle.std.proofs.lemmas.List.{length-append}
use Rattle.std.proofs.lemmas.Option.{none-some, slice_get_past}
use Rattle.pc_numbers.specs.declared.runtime.ResourceIndex.{ResourceIndex}
use Rattle.pc_types.specs.declared.parsed.DeclType.{DeclType}
use Rattle.pc_types.specs.declared.parsed.PrimType.{PrimType}
use Rattle.pc_types.specs.declared.parsed.PrimType.TheVariants as prim
use Rattle.pc_types.specs.declared.parsed.TypeTable.{TypeTable}
use Rattle.pc_types.specs.declared.parsed.ValType.{ValType}
use Rattle.pc_types.specs.declared.parsed.ValType.TheVariants as val
use Rattle.pc_types.specs.declared.type_index.TypeComponentLocalErrorContextTableIndex.{TypeComponentLocalErrorContextTableIndex}
use Rattle.pc_types.specs.declared.types.InterfaceType.{InterfaceType}
use Rattle.pc_types.specs.declared.types.InterfaceType.TheVariants as ty
use Rattle.pc_types.specs.declared.types.TypeDef.{TypeDef}
use Rattle.pc_types.specs.declared.types.TypeDef.TheVariants as def
use Rattle.pc_types.specs.Table.{is_defined_type}
use Rattle.pc_types.specs.TypeTree.{Identity, TypeTree, declared, entry_tree, error_context, primitive}
use Rattle.pc_types.specs.TypeTree.{trees_from, val_tree}
use Rattle.pc_types_lists.specs.Held.{IsHeld}
use Rattle.pc_types_lists.specs.Primitive.{plain_type}
use Rattle.pc_types_lists.specs.Trees.{HasTree}
use Rattle.pc_types_lists.specs.Types.{Resources, Types}
use Rattle.pc_types_lists.proofs.HeldLemmas.{value_held}
use Rattle.pc_types_builder.specs.Trees.{IsEntry}
use Rattle.pc_spec_reading.specs.Outcome.{Fault, bad_type, found}
use Rattle.pc_spec_reading.specs.Scope.{Scope}
use Rattle.pc_spec_reading.specs.Types.{has_entry, tree_if, type_tree, value_tree}
use Rattle.pc_inline_state.specs.declared.error.ItemError.{ItemError}
use Rattle.pc_inline_state.specs.declared.error.ItemError.TheVariants as item_error
use Rattle.pc_inline_state.specs.declared.error.ItemFault.{ItemFault}
use Rattle.pc_inline_state.specs.declared.error.ItemFault.TheVariants as item_fault
use Rattle.pc_inline_state.specs.declared.state.State.{State}
use Rattle.pc_inline_state.specs.Faults.{fault_of}
use Rattle.pc_inline_state.specs.Holds.{Holds}
use Rattle.pc_inline_state.specs.KnowsSame.{KnowsSame}
use Rattle.pc_inline_state.specs.Refused.{LacksRoom, LacksRoomOr}
use Rattle.pc_inline_state.specs.Tables.{Tables, tables_of}
use Rattle.pc_inline_state.proofs.FitsLemmas.{who_fits, who_of}
use Rattle.pc_inline_state.proofs.KnowsLemmas.{entry_here}
use Rattle.pc_inline_builtins.specs.declared.builtin.Handle.{Handle}
use Rattle.pc_inline_builtins.specs.Made.{Answers, AnswersValue, HasIts}
use Rattle.pc_inline_builtins.specs.Reads.{of_handle}
use Rattle.pc_inline_builtins.proofs.HandleLemmas.{wanted_found, wanted_missing}

-- there are no more trees than entries
trees_long : (known : List (ℕ × Identity)) (c : ℕ) (t : TypeTable) (earlier : List (Option TypeTree))
    (es : List DeclType) → length (trees_from known c t earlier es) ≡ length earlier + length es
trees_long known c t earlier [] = omega arith
trees_long known c t earlier (e ∷ es) =
    omega (
      arith,
      trees_long known c t (earlier ++ entry_tree known c t earlier e ∷ []) es,
      length-append earlier (entry_tree known c t earlier e ∷ []),
    )

-- what isn't there is past the end
past_end : {A : Type 0} (xs : List A) (n : ℕ) → slice_get xs n ≡ None → length xs ≤ n
past_end [] n at = omega arith
past_end (x ∷ xs) zero at = absurd (none-some x (sym at))
past_end (x ∷ xs) (suc n) at = let rest = past_end xs n at in omega (arith, rest)

-- a number without an entry has no tree
no_tree : (t : TypeTable) (s : Scope) (n : ℕ) → slice_get t.types n ≡ None → type_tree t s n ≡ None
unfolding type_tree
no_tree t s n at =
    ap (option_and_then (λ (o : Option TypeTree). o))
    (slice_get_past (trees_from s.known s.component_instance t [] t.types) n
    (omega (arith, trees_long s.known s.component_instance t [] t.types, past_end t.types n at)))

-- an error of a call that has a fault with a cause is the reading's, or there was no room
pub lacks_answer : {A B : Type 0} (st : State) (R : A → B → Type 0) (reads : Result B Fault) (k : ItemFault)
    (cause : Type 0) (e : ItemError) → LacksRoomOr k cause st e → (cause → reads ≡ Err (fault_of k))
    → Answers (tables_of st) R reads (Err e)
unfolding Answers LacksRoomOr
lacks_answer st R reads k cause (item_error.Fault j) lacks stuck =
    subst (λ i. reads ≡ Err (fault_of i)) (sym lacks.0) (stuck lacks.1)
lacks_answer st R reads k cause item_error.TooMany lacks stuck = lacks
lacks_answer st R reads k cause item_error.NoMemory lacks stuck = tt

-- so is one of a call without a fault
pub room_answer : {A B : Type 0} (st : State) (R : A → B → Type 0) (reads : Result B Fault) (e : ItemError)
    → LacksRoom st e → Answers (tables_of st) R reads (Err e)
unfolding Answers LacksRoom
room_answer st R reads (item_error.Fault k) lacks = absurd lacks
room_answer st R reads item_error.TooMany lacks = lacks
room_answer st R reads item_error.NoMemory lacks = tt

-- what was handed on
pub passed_answer : {A B : Type 0} (st : State) (R : A → B → Type 0) (reads : Result B Fault) (r : Result A ItemError)
    (e : ItemError) → IsErrAnd r (λ x. x ≡ e) → Answers (tables_of st) R reads (Err e)
    → Answers (tables_of st) R reads r
passed_answer st R reads (Ok x) e is h = absurd is
passed_answer st R reads (Err x) e is h = subst (λ y. Answers (tables_of st) R reads (Err y)) (sym is) h

-- want of memory, which was handed on
pub unfed_answer : {A B : Type 0} (st : State) (R : A → B → Type 0) (reads : Result B Fault) (r : Result A ItemError)
    → IsErrAnd r (λ x. x ≡ item_error.NoMemory) → Answers (tables_of st) R reads r
unfolding Answers
unfed_answer st R reads r is = passed_answer st R reads r item_error.NoMemory is tt

-- an answer
pub some_answer : {A B : Type 0} (st : State) (R : A → B → Type 0) (reads : Result B Fault) (x : A) (y : B)
    → reads ≡ Ok y → R x y → Answers (tables_of st) R reads (Ok x)
unfolding Answers
some_answer st R reads x y is r = (y, is, r)

-- a fault
pub fault_answer : {A B : Type 0} (st : State) (R : A → B → Type 0) (reads : Result B Fault) (k : ItemFault)
    → reads ≡ Err (fault_of k) → Answers (tables_of st) R reads (Err (item_error.Fault k))
unfolding Answers
fault_answer st R reads k is = is

-- what was found or not, as a result
pub found_ok : {A : Type 0} (k : Fault) (o : Option A) (x : A) → o ≡ Some x → found k o Ok ≡ Ok x
found_ok k o x is = rw (is) refl

found_err : {A : Type 0} (k : Fault) (o : Option A) → o ≡ None → ◌≡◌ {A = Result A Fault} (found k o Ok) (Err k)
found_err k o is = rw (is) refl

module _ (st : State) (t : TypeTable) (s : Scope) (knows : KnowsSame st.graph st.types.resources s) where
  -- the tree of an entry, which a type of it has
  holds_entry : (n : ℕ) (d : TypeDef) → IsEntry st.types t n d
      → (tree : TypeTree) × (type_tree t s n ≡ Some tree) × HasIts (tables_of st) d tree
  unfolding Holds
  holds_entry n d is =
      let x = entry_here st.graph st.types s knows t n d is in (x.0, x.1, x.2)

  module _ (w : Handle) (n : ℕ) where
    -- the tree that is asked for
    abbrev wanted : Option TypeTree
    wanted = option_and_then (of_handle w) (type_tree t s n)

    -- there is no such entry
    pub handle_lacks : (r : Result TypeDef ItemError) (e : ItemError) → IsErrAnd r (λ x. x ≡ e)
        → LacksRoomOr item_fault.BadType (slice_get t.types n ≡ None) st e
        → Answers (tables_of st) (HasIts (tables_of st)) (found bad_type wanted Ok) r
    handle_lacks r e is lacks =
        passed_answer st (HasIts (tables_of st)) (found bad_type wanted Ok) r e is
        (lacks_answer st (HasIts (tables_of st)) (found bad_type wanted Ok) item_fault.BadType
        (slice_get t.types n ≡ None) e lacks
        (λ none. found_err bad_type wanted (ap (option_and_then (of_handle w)) (no_tree t s n none))))

    module _ (d : TypeDef) (is : IsEntry st.types t n d) (test : Bool)
        (tells : (who : ResourceIndex → Identity) (tree : TypeTree) → HasTree st.types who d tree
        → test ≡ is_some (of_handle w tree)) where
      -- what the test says of the tree
      told : test ≡ is_some (of_handle w (holds_entry n d is).0)
      unfolding Holds
      told =
          let x = holds_entry n d is in
          tells (who_of st.graph) x.0 (x.2 (who_of st.graph) (who_fits st.graph))

      -- the type is of that kind
      pub handle_answer : test ≡ true → Answers (tables_of st) (HasIts (tables_of st)) (found bad_type wanted Ok) (Ok d)
      handle_answer passes =
          let x = holds_entry n d is in
          some_answer st (HasIts (tables_of st)) (found bad_type wanted Ok) d x.0
          (found_ok bad_type wanted x.0 (ap (option_and_then (of_handle w)) x.1
          ∙ wanted_found w x.0 (sym told ∙ passes))) x.2

      -- or it isn't
      pub handle_refused : test ≡ false
          → Answers (tables_of st) (HasIts (tables_of st)) (found bad_type wanted Ok)
          (Err (item_error.Fault item_fault.BadType))
      handle_refused fails =
          let x = holds_entry n d is in
          fault_answer st (HasIts (tables_of st)) (found bad_type wanted Ok) item_fault.BadType
          (found_err bad_type wanted (ap (option_and_then (of_handle w)) x.1
          ∙ wanted_missing w x.0 (sym told ∙ fails)))

  -- a value type that a number stands for
  abbrev OfValue : InterfaceType → TypeTree → Type 0
  OfValue w = HasIts (tables_of st) (def.Interface w)

  module _ (n : ℕ) where
    -- the tree of a defined type
    abbrev defined : Option TypeTree
    defined = tree_if t is_defined_type s n

    pub defined_refused : has_entry t is_defined_type n ≡ false
        → Answers (tables_of st) OfValue (found bad_type defined Ok) (Err (item_error.Fault item_fault.BadType))
    unfolding tree_if
    defined_refused fails =
        fault_answer st OfValue (found bad_type defined Ok) item_fault.BadType
        (found_err bad_type defined (rw (fails) refl))

    pub defined_lacks : (r : Result InterfaceType ItemError) (e : ItemError) → IsErrAnd r (λ x. x ≡ e)
        → LacksRoomOr item_fault.BadType (slice_get t.types n ≡ None) st e
        → Answers (tables_of st) OfValue (found bad_type defined Ok) r
    unfolding tree_if
    defined_lacks r e is lacks =
        passed_answer st OfValue (found bad_type defined Ok) r e is
        (lacks_answer st OfValue (found bad_type defined Ok) item_fault.BadType (slice_get t.types n ≡ None) e lacks
        (λ none. found_err bad_type defined (rw (none) refl)))

    pub defined_answer : has_entry t is_defined_type n ≡ true → (w : InterfaceType)
        → IsEntry st.types t n (def.Interface w)
        → Answers (tables_of st) OfValue (found bad_type defined Ok) (Ok w)
    unfolding tree_if
    defined_answer passes w is =
        let x = holds_entry n (def.Interface w) is in
        some_answer st OfValue (found bad_type defined Ok) w x.0 (found_ok bad_type defined x.0 (rw (passes) x.1)) x.2

  -- the tree of a primitive that needs no table
  prim_tree : (k : List (ℕ × Identity)) (c : ℕ) (p : PrimType) (w : InterfaceType) → plain_type p ≡ Some w
      → val_tree k c t [] (val.Prim p) ≡ Some (primitive p)
  prim_tree k c prim.ErrorContext w is = absurd (none-some w is)
  prim_tree k c p w is = refl

  -- and of one that needs one
  context_tree : (k : List (ℕ × Identity)) (c : ℕ) (p : PrimType) → plain_type p ≡ None
      → val_tree k c t [] (val.Prim p) ≡ Some (error_context c)
  context_tree k c prim.ErrorContext is = refl
  context_tree k c p is = absurd (none-some _ (sym is))

  -- the error contexts that were asked for are those of the component instance
  pub contexts_now : (old : Resources) → st.types.resources ≡ old
      → (i : TypeComponentLocalErrorContextTableIndex)
      → slice_get st.types.error_context_tables i.0 ≡ Some (record { instance = old.current })
      → slice_get st.types.error_context_tables i.0 ≡ Some (record { instance = st.types.resources.current })
  contexts_now old same i at = at ∙ ap (λ (r : Resources). Some (record { instance = r.current })) (sym same)

  -- the error contexts of the component instance
  pub contexts_hold : (i : TypeComponentLocalErrorContextTableIndex)
      → slice_get st.types.error_context_tables i.0 ≡ Some (record { instance = st.types.resources.current })
      → HasIts (tables_of st) (def.Interface (ty.ErrorContext i)) (error_context s.component_instance)
  unfolding Holds
  contexts_hold i at who fits = (
    i,
    refl,
    at ∙ ap (λ (n : ℕ). Some (record { instance = record { 0 = n } })) knows.current,
  )

  module _ (p : PrimType) where
    -- the tree of a primitive
    abbrev of_prim : Option TypeTree
    of_prim = value_tree t s (val.Prim p)

    pub plain_answer : (w : InterfaceType) → plain_type p ≡ Some w
        → Answers (tables_of st) OfValue (found bad_type of_prim Ok) (Ok w)
    unfolding Holds value_tree
    plain_answer w is =
        some_answer st OfValue (found bad_type of_prim Ok) w (primitive p)
        (found_ok bad_type of_prim (primitive p) (prim_tree s.known s.component_instance p w is))
        (λ who fits. (w, refl, is))

    pub context_answer : plain_type p ≡ None → (i : TypeComponentLocalErrorContextTableIndex)
        → slice_get st.types.error_context_tables i.0 ≡ Some (record { instance = st.types.resources.current })
        → Answers (tables_of st) OfValue (found bad_type of_prim Ok) (Ok (ty.ErrorContext i))
    unfolding value_tree
    context_answer none i at =
        some_answer st OfValue (found bad_type of_prim Ok) (ty.ErrorContext i) (error_context s.component_instance)
        (found_ok bad_type of_prim (error_context s.component_instance)
        (context_tree s.known s.component_instance p none)) (contexts_hold i at)

    pub prim_lacks : (r : Result InterfaceType ItemError) (e : ItemError) → IsErrAnd r (λ x. x ≡ e)
        → LacksRoom st e → Answers (tables_of st) OfValue (found bad_type of_prim Ok) r
    prim_lacks r e is lacks =
        passed_answer st OfValue (found bad_type of_prim Ok) r e is
        (room_answer st OfValue (found bad_type of_prim Ok) e lacks)

-- a value type that is a number has the tree of the number
pub value_answer : (b : Tables) (t : TypeTable) (s : Scope) (v : ValType) (n : ℕ) → v ≡ val.Type_ n
    → (r : Result InterfaceType ItemError)
    → AnswersValue b (found bad_type (tree_if t is_defined_type s n) Ok) r
    → AnswersValue b (found bad_type (value_tree t s v) Ok) r
unfolding value_tree
value_answer b t s v n is r h = subst (λ x. AnswersValue b (found bad_type (value_tree t s x) Ok) r) (sym is) h

-- the type of an entry that is a value type is held
pub entry_held : (b : Types) (t : TypeTable) (n : ℕ) (w : InterfaceType) → IsEntry b t n (def.Interface w) → IsHeld b w
entry_held b t n w is =
    let who = (λ (r : ResourceIndex). declared 0) in
    let x = is who in
    value_held b who w x.0 x.2
