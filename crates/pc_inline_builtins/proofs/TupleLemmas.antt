-- The tuple of no or one result.
use Rattle.std.proofs.Common.{◌≡◌, ◌≤◌, ◌+◌, List, [], ◌∷◌, Option, None, Some, Result, Ok, Err}
use Rattle.std.proofs.Common.{refl, sym, ap, subst, arith, inl}
use Rattle.std.specs.Prelude.{IfErr, IfOk}
use Rattle.std.specs.Option.{option_map}
use Rattle.std.specs.Result.{IsErrAnd}
use Rattle.pc_types.specs.declared.parsed.TypeTable.{TypeTable}
use Rattle.pc_types.specs.declared.parsed.ValType.{ValType}
use Rattle.pc_types.specs.declared.types.InterfaceType.{InterfaceType}
use Rattle.pc_types.specs.declared.types.TypeDef.{TypeDef}
use Rattle.pc_types.specs.declared.types.TypeDef.TheVariants as def
use Rattle.pc_types.specs.declared.types.TypeKind.{TypeKind}
use Rattle.pc_types.specs.declared.types.TypeKind.TheVariants as kind
use Rattle.pc_types.specs.declared.types.TypeTuple.{TypeTuple}
use Rattle.pc_types.specs.TypeTree.{TypeTree, and_tree, no_trees, tuple_of}
use Rattle.pc_types_lists.specs.Adds.{AddsTypes}
use Rattle.pc_types_lists.specs.Interned.{IsPut}
use Rattle.pc_types_lists.specs.Types.{Grows, HasNumber, KeepsTypes, Types, held}
use Rattle.pc_types_lists.proofs.FewLemmas.{put_length}
use Rattle.pc_types_lists.proofs.KeptTypes.{grows_keeps}
use Rattle.pc_types_builder.specs.Plain.{Layers}
use Rattle.pc_types_builder.proofs.TreeLemmas.{converted_grows, tree_keeps}
use Rattle.pc_trampoline.specs.Shape as shape
use Rattle.pc_trampoline.specs.Shape.{type_shape}
use Rattle.pc_spec_reading.specs.Outcome.{Fault, bad_type, found}
use Rattle.pc_spec_reading.specs.Scope.{Scope}
use Rattle.pc_spec_reading.specs.Types.{results_tree, value_tree}
use Rattle.pc_inline_state.specs.declared.error.ItemError.{ItemError}
use Rattle.pc_inline_state.specs.declared.error.ItemError.TheVariants as item_error
use Rattle.pc_inline_state.specs.declared.state.State.{State}
use Rattle.pc_inline_state.specs.Adds.{Adds}
use Rattle.pc_inline_state.specs.Faults.{fault_of}
use Rattle.pc_inline_state.specs.Fits.{Fits}
use Rattle.pc_inline_state.specs.Holds.{Holds}
use Rattle.pc_inline_state.specs.KnowsSame.{KnowsSame}
use Rattle.pc_inline_state.specs.Prepares.{Converts}
use Rattle.pc_inline_state.specs.Refused.{LacksRoom}
use Rattle.pc_inline_state.specs.Tables.{Tables, tables_of}
use Rattle.pc_inline_state.proofs.AddsLemmas.{adds_trans}
use Rattle.pc_inline_state.proofs.GainedLemmas.{no_tables}
use Rattle.pc_inline_builtins.specs.Made.{Answers, AnswersType, HasIts, IsTuple, results_cost, value_cost}
use Rattle.pc_inline_builtins.proofs.TypeLemmas.{passed_answer, room_answer, some_answer}

module _ (t : TypeTable) (b : Tables) (types : Types) (g : Grows b.types types) (tuple : TypeTuple)
    (rest : types ≡ record b.types { tuples = types.tuples }) (put : IsPut b.types.tuples types.tuples tuple) where
  -- a tuple is one type at the most
  tuple_few : AddsTypes t 1 b.types types
  tuple_few = record {
    few = λ k counted. subst (λ (x : Types). held x k ≤ held b.types k + 1) (sym rest) (by k);
    signatures = λ s has. inl (subst (λ (x : Types). HasNumber x.signatures s) rest has);
  }
    where
      by : (k : TypeKind) → held (record b.types { tuples = types.tuples }) k ≤ held b.types k + 1
      by kind.Tuple = put_length b.types.tuples types.tuples tuple put
      by k = omega arith

  -- and no table of futures, streams or error contexts
  pub tuple_adds : Adds t 1 b (record b { types = types })
  tuple_adds = record {
    types = tuple_few;
    tables = no_tables t b.graph.num_runtime_component_instances b.types types
        (ap (λ (x : Types). x.future_tables) rest) (ap (λ (x : Types). x.stream_tables) rest)
        (ap (λ (x : Types). x.error_context_tables) rest);
    entries = record {
      lists = λ l. omega arith;
      cores = omega arith;
      definitions = omega arith;
      closures = omega arith;
      instances = omega arith;
      begun = omega arith;
      resources = omega arith;
    };
    grows = grows_keeps b.types types g;
    later = omega arith;
  }

-- types were added, and nothing else was
pub types_converted : (t : TypeTable) (st : State) (types : Types) → Grows st.types types → (done : Layers)
    → Converts t st done (record st { types = types }) done
types_converted t st types grows done = record {
  grows = grows;
  converted = converted_grows st.types types grows t done;
  numbers = λ are. record {
    signatures = λ n i at. let h = are.signatures n i at in (h.0, h.1, grows.signatures i.0 h.0 h.2);
  };
  rest = refl;
}

-- a tuple stands as a part that is one
pub tuple_shape : (r : Result TypeDef ItemError) (b : Types) (ws : List InterfaceType) → IfOk r (IsTuple b ws)
    → IfOk r (λ d. type_shape d ≡ shape.tuple)
tuple_shape (Ok d) b ws is = ap type_shape is.1
tuple_shape (Err e) b ws is = tt

module _ (st : State) (t : TypeTable) (s : Scope) where
  -- an answer is the tuple of no result, or there was no room
  pub no_result : (r : Result TypeDef ItemError) → IfOk r (IsTuple st.types []) → IfErr r (LacksRoom st)
      → Answers (tables_of st) (HasIts (tables_of st)) (found bad_type (results_tree t s None) Ok) r
  unfolding Holds results_tree
  no_result (Ok d) is lacks =
      some_answer st (HasIts (tables_of st)) (found bad_type (results_tree t s None) Ok) d (tuple_of no_trees) refl
      (λ who fits. (is.0, record { types = [] }, is.1, is.2, refl))
  no_result (Err e) is lacks =
      room_answer st (HasIts (tables_of st)) (found bad_type (results_tree t s None) Ok) e lacks

  -- what the value of a result is answered
  abbrev value_of_it : ValType → Result TypeTree Fault
  value_of_it v = found bad_type (value_tree t s v) Ok

  -- what is found of a tuple is what is found of its only type
  tuple_found : (o : Option TypeTree) (k : Fault) → found bad_type o Ok ≡ Err k
      → found bad_type (option_map (λ tree. tuple_of (and_tree tree no_trees)) o) Ok ≡ Err k
  tuple_found None k is = is
  tuple_found (Some tree) k is = absurd (let no : ⊥ = cc in no)

  -- an error of the value is one of the tuple
  pub result_lacks : (v : ValType) (r : Result TypeDef ItemError) (e : ItemError) → IsErrAnd r (λ x. x ≡ e)
      → Answers (tables_of st) (λ w. HasIts (tables_of st) (def.Interface w)) (value_of_it v) (Err e)
      → Answers (tables_of st) (HasIts (tables_of st)) (found bad_type (results_tree t s (Some v)) Ok) r
  unfolding results_tree Answers
  result_lacks v r e is h =
      passed_answer st (HasIts (tables_of st)) (found bad_type (results_tree t s (Some v)) Ok) r e is (by e h)
    where
      by : (e : ItemError)
          → Answers (tables_of st) (λ w. HasIts (tables_of st) (def.Interface w)) (value_of_it v) (Err e)
          → Answers (tables_of st) (HasIts (tables_of st)) (found bad_type (results_tree t s (Some v)) Ok) (Err e)
      by (item_error.Fault k) is = tuple_found (value_tree t s v) (fault_of k) is
      by item_error.TooMany is = is
      by item_error.NoMemory is = is

-- The value of a result has its type, and then the tuple.
module _ (mid st : State) (t : TypeTable) (s : Scope) (v : ValType) (w : InterfaceType) where
  -- the value's answer
  abbrev Valued : Type 0
  Valued =
      Answers (tables_of mid) (λ w. HasIts (tables_of mid) (def.Interface w)) (found bad_type (value_tree t s v) Ok)
      (Ok w)

  -- the tree of the value
  value_found : (o : Option TypeTree) (tree : TypeTree) → found bad_type o Ok ≡ Ok tree → o ≡ Some tree
  value_found None tree is = absurd (let no : ⊥ = cc in no)
  value_found (Some x) tree is = let same : x ≡ tree = cc in ap Some same

  pub one_result : KeepsTypes mid.types st.types → st.graph ≡ mid.graph → Valued → (r : Result TypeDef ItemError)
      → IfOk r (IsTuple st.types (w ∷ [])) → IfErr r (LacksRoom st)
      → Answers (tables_of st) (HasIts (tables_of st)) (found bad_type (results_tree t s (Some v)) Ok) r
  unfolding Answers Holds results_tree
  one_result keeps same h (Ok d) is lacks = (
    tuple_of (and_tree h.0 no_trees),
    rw (value_found (value_tree t s v) h.0 h.1) refl,
    λ who fits. (
      is.0,
      record { types = w ∷ [] },
      is.1,
      is.2,
      (
        w,
        [],
        refl,
        tree_keeps mid.types st.types keeps who (def.Interface w) h.0
            (h.2 who (subst (λ g. Fits g who) same fits)),
        refl,
      ),
    ),
  )
  one_result keeps same h (Err e) is lacks =
      room_answer st (HasIts (tables_of st)) (found bad_type (results_tree t s (Some v)) Ok) e lacks

  -- the same after the tuple was added
  pub one_after : (done : Layers) → Converts t mid done st done → (KnowsSame mid.graph mid.types.resources s → Valued)
      → KnowsSame st.graph st.types.resources s → (r : Result TypeDef ItemError) → IfOk r (IsTuple st.types (w ∷ []))
      → IfErr r (LacksRoom st)
      → Answers (tables_of st) (HasIts (tables_of st)) (found bad_type (results_tree t s (Some v)) Ok) r
  one_after done converts valued knows =
      let graph : st.graph ≡ mid.graph = ap (λ (x : State). x.graph) converts.rest in
      one_result (grows_keeps mid.types st.types converts.grows) graph
      (valued (subst (λ g. KnowsSame g mid.types.resources s) graph
      (subst (λ k. KnowsSame st.graph k s) converts.grows.resources knows)))

-- a result by what it is
pub for_result : (b : Tables) (t : TypeTable) (s : Scope) (returned shown : Option ValType) → returned ≡ shown
    → (r : Result TypeDef ItemError) → AnswersType b (found bad_type (results_tree t s shown) Ok) r
    → AnswersType b (found bad_type (results_tree t s returned) Ok) r
for_result b t s returned shown is r h =
    subst (λ x. AnswersType b (found bad_type (results_tree t s x) Ok) r) (sym is) h

-- a value, and then the tuple
pub result_adds : (t : TypeTable) (returned : Option ValType) (v : ValType) (a b x : Tables) → returned ≡ Some v
    → Adds t (value_cost t v) a b → Adds t 1 b x → Adds t (results_cost t returned) a x
result_adds t returned v a b x is first second =
    subst (λ y. Adds t (results_cost t y) a x) (sym is) (adds_trans t (value_cost t v) 1 a b x first second)
