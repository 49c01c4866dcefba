-- Which tables are new, call after call.
use Rattle.std.proofs.Common.{◌≡◌, ◌<◌, ◌≤◌, ◌+◌, ◌++◌, ◌∷◌, [], inl, inr, ℕ, List, Some, length, ap, refl, sym}
use Rattle.std.proofs.Common.{subst, ◌∙◌, arith}
use Rattle.std.specs.Prelude.{slice_get}
use Rattle.std.proofs.lemmas.List.{length-append}
use Rattle.std.proofs.lemmas.Option.{none-some, same_Some}
use Rattle.pc_types.specs.declared.module_record.ModuleRecord.{ModuleRecord}
use Rattle.pc_types.specs.declared.parsed.TypeTable.{TypeTable}
use Rattle.pc_types.specs.declared.types.InterfaceType.TheVariants as ty
use Rattle.pc_types.specs.declared.types.TypeDef.{TypeDef}
use Rattle.pc_types.specs.declared.types.TypeDef.TheVariants as def
use Rattle.pc_types.specs.declared.types.TypeKind.{TypeKind}
use Rattle.pc_types.specs.declared.types.TypeKind.TheVariants as kind
use Rattle.pc_entity.proofs.Growing.{slice_get-append_seam}
use Rattle.pc_types_lists.specs.Added.{numbered_type}
use Rattle.pc_types_lists.specs.Adds.{AddsTypes}
use Rattle.pc_types_lists.specs.Interned.{IsPut}
use Rattle.pc_types_lists.specs.Types.{HasNumber, KeepsTypes, Resources, Types, held}
use Rattle.pc_types_lists.proofs.AddedLemmas.{below_or}
use Rattle.pc_types_lists.proofs.FewLemmas.{put_length}
use Rattle.pc_types_lists.proofs.KeptTypes.{keeps_same, keeps_whatever}
use Rattle.pc_types_builder.specs.Adds.{IsOneOf, one_context, one_signature, one_tuple, one_type}
use Rattle.pc_types_builder.specs.Asked.{AddsAsked, AsksContexts, IsReachedSignature, IsReachedTuple, IsReachedType}
use Rattle.pc_types_builder.proofs.TreeLemmas.{tree_keeps}
use Rattle.pc_spec_reading.specs.Scope.{Moment}
use Rattle.pc_inline_state.specs.declared.frame.Frame.{Frame}
use Rattle.pc_inline_state.specs.declared.state.State.{State}
use Rattle.pc_inline_state.specs.Gained.{AddsTables, IsOfContexts, IsOfEntry}
use Rattle.pc_inline_state.specs.Points.{PointStands}

-- which kinds have new numbers of their own sort
abbrev sort_of : TypeKind → ℕ
sort_of kind.Tuple = 1
sort_of kind.ErrorContextTable = 2
sort_of kind.Signature = 3
sort_of _ = 0

module _ (t : TypeTable) where
  -- no table is new
  pub no_tables : (n : ℕ) (a b : Types) → b.future_tables ≡ a.future_tables → b.stream_tables ≡ a.stream_tables
      → b.error_context_tables ≡ a.error_context_tables → AddsTables t n a b
  no_tables n a b futures streams contexts = record {
    futures = λ i above below. absurd (omega (arith, above, below, ap length futures));
    streams = λ i above below. absurd (omega (arith, above, below, ap length streams));
    error_contexts = λ i above below. absurd (omega (arith, above, below, ap length contexts));
  }

  -- nothing was added
  pub tables_none : (n : ℕ) (a b : Types) → b ≡ a → AddsTables t n a b
  tables_none n a b same =
      no_tables n a b (ap (λ (x : Types). x.future_tables) same) (ap (λ (x : Types). x.stream_tables) same)
      (ap (λ (x : Types). x.error_context_tables) same)

  -- it doesn't matter which resources are known
  pub tables_aside : (n : ℕ) (a b : Types) (r s : Resources) → AddsTables t n a b
      → AddsTables t n (record a { resources = r }) (record b { resources = s })
  tables_aside n a b r s adds = record {
    futures = adds.futures;
    streams = adds.streams;
    error_contexts = adds.error_contexts;
  }

  module _ (n m : ℕ) (le : n ≤ m) (b c : Types) (keeps : KeepsTypes b c) where
    -- the type of an entry stays one as more component instances begin, and as types keep their numbers
    entry_still : (d : TypeDef) → IsOfEntry t n b d → IsOfEntry t m c d
    entry_still d is = (
      is.0,
      (let below : is.0.current.0 < n = is.1 in omega (arith, le, below)),
      is.2,
      λ who.
          let one = is.3 who in (
            one.0,
            one.1,
            tree_keeps (record b { resources = is.0 }) (record c { resources = is.0 })
                (keeps_whatever b c is.0 is.0 keeps) who d one.0 one.2,
          ),
    )

    -- so do error contexts
    contexts_still : (i : ℕ) → IsOfContexts n b i → IsOfContexts m c i
    contexts_still i is = (
      is.0,
      (let below : is.0.0 < n = is.1 in omega (arith, le, below)),
      keeps.error_context_tables i (record { instance = is.0 }) is.2,
    )

    -- what is new after two calls
    pub tables_both : (a : Types) → AddsTables t n a b → AddsTables t m b c → AddsTables t m a c
    tables_both a first second = record {
      futures = λ i above below. elim (below_or i (length b.future_tables)) as
          (λ _. IsOfEntry t m c (def.Interface (ty.Future (record { 0 = i })))) [
            | inl early ↦ entry_still (def.Interface (ty.Future (record { 0 = i }))) (first.futures i above early)
            | inr late ↦ second.futures i late below
          ];
      streams = λ i above below. elim (below_or i (length b.stream_tables)) as
          (λ _. IsOfEntry t m c (def.Interface (ty.Stream (record { 0 = i })))) [
            | inl early ↦ entry_still (def.Interface (ty.Stream (record { 0 = i }))) (first.streams i above early)
            | inr late ↦ second.streams i late below
          ];
      error_contexts = λ i above below. elim (below_or i (length b.error_context_tables)) as
          (λ _. IsOfContexts m c i) [
            | inl early ↦ contexts_still i (first.error_contexts i above early)
            | inr late ↦ second.error_contexts i late below
          ];
    }

  -- more component instances may have begun
  pub tables_more : (n m : ℕ) (a b : Types) → n ≤ m → AddsTables t n a b → AddsTables t m a b
  tables_more n m a b le adds = tables_both n m le b b (keeps_same b) a adds (tables_none m b b refl)

  module _ (n : ℕ) (a b : Types) (adds : AddsAsked t n a b) where
    -- what a new number is of
    abbrev IsAsked : TypeKind → ℕ → Type 0
    IsAsked k i =
        IsOneOf b (AsksContexts t n) (IsReachedType b t n) (IsReachedTuple b t n) (IsReachedSignature b t n) k i

    -- a type of most kinds is that of an entry
    type_at : (k : TypeKind) → sort_of k ≡ 0 → (i : ℕ) (d : TypeDef) → numbered_type k i ≡ Some d → IsAsked k i
        → IsReachedType b t n d
    type_at k sort i d is (one_type e named is_reached) =
        subst (IsReachedType b t n) (same_Some e d (sym named ∙ is)) is_reached
    type_at k sort i d is (one_tuple same has) = absurd (omega (arith, sort, ap sort_of same))
    type_at k sort i d is (one_signature same has) = absurd (omega (arith, sort, ap sort_of same))
    type_at k sort i d is (one_context same how has) = absurd (omega (arith, sort, ap sort_of same))

    module _ (begun : ℕ) (below : b.resources.current.0 < begun) where
      -- the component instance that types are converted for has begun
      of_entry : (d : TypeDef) → IsReachedType b t n d → IsOfEntry t begun b d
      of_entry d is = (b.resources, below, is.0, is.2)

      contexts_at : (i : ℕ) → IsAsked kind.ErrorContextTable i → IsOfContexts begun b i
      contexts_at i (one_type d named is_reached) = absurd (none-some d named)
      contexts_at i (one_tuple same has) = absurd (omega (arith, ap sort_of same))
      contexts_at i (one_signature same has) = absurd (omega (arith, ap sort_of same))
      contexts_at i (one_context same how has) = (b.resources.current, below, has)

      -- the tables that an entry asks for are of entries
      pub asked_tables : AddsTables t begun a b
      asked_tables = record {
        futures = λ i above under.
            of_entry (def.Interface (ty.Future (record { 0 = i })))
            (type_at kind.FutureTable refl i (def.Interface (ty.Future (record { 0 = i }))) refl
            (adds.only.each kind.FutureTable i above under));
        streams = λ i above under.
            of_entry (def.Interface (ty.Stream (record { 0 = i })))
            (type_at kind.StreamTable refl i (def.Interface (ty.Stream (record { 0 = i }))) refl
            (adds.only.each kind.StreamTable i above under));
        error_contexts = λ i above under.
            contexts_at i (adds.only.each kind.ErrorContextTable i above under);
      }

module _ (t : TypeTable) (a b : Types) (rest : b ≡ record a { error_context_tables = b.error_context_tables })
    (put : IsPut a.error_context_tables b.error_context_tables (record { instance = a.resources.current })) where
  -- error contexts are one type at the most
  pub few_contexts : AddsTypes t 1 a b
  few_contexts = record {
    few = λ k counted. subst (λ (x : Types). held x k ≤ held a k + 1) (sym rest) (by k);
    signatures = λ s has. inl (subst (λ (x : Types). HasNumber x.signatures s) rest has);
  }
    where
      by : (k : TypeKind) → held (record a { error_context_tables = b.error_context_tables }) k ≤ held a k + 1
      by kind.ErrorContextTable =
          put_length a.error_context_tables b.error_context_tables (record { instance = a.resources.current }) put
      by k = omega arith

  -- and the new table is that of the component instance that asked
  pub context_tables : (n : ℕ) → a.resources.current.0 < n → AddsTables t n a b
  context_tables n begun = record {
    futures = λ i above below. absurd (omega (arith, above, below, ap (λ (x : Types). length x.future_tables) rest));
    streams = λ i above below. absurd (omega (arith, above, below, ap (λ (x : Types). length x.stream_tables) rest));
    error_contexts = λ i above below. (a.resources.current, begun, found i above below put);
  }
    where
      found : (i : ℕ) → length a.error_context_tables ≤ i → i < length b.error_context_tables
          → IsPut a.error_context_tables b.error_context_tables (record { instance = a.resources.current })
          → slice_get b.error_context_tables i ≡ Some (record { instance = a.resources.current })
      found i above below (inl same) = absurd (omega (arith, above, below, ap length same))
      found i above below (inr more) =
          let long = ap length more.0
          ∙ length-append a.error_context_tables (record { instance = a.resources.current } ∷ []) in
          let at : i ≡ length a.error_context_tables = omega (arith, above, below, long) in
          ap (λ xs. slice_get xs i) more.0
          ∙ ap (slice_get (a.error_context_tables ++ record { instance = a.resources.current } ∷ [])) at
          ∙ slice_get-append_seam a.error_context_tables (record { instance = a.resources.current }) []

-- the component instance that types are converted for at a point has begun
pub current_begun : (t : TypeTable) (ms : List ModuleRecord) (st : State) (f : Frame) (now : Moment)
    → PointStands t ms st f now → st.types.resources.current.0 < st.graph.num_runtime_component_instances
current_begun t ms st f now at =
    let begun : f.component_instance.0 < st.graph.num_runtime_component_instances = at.frame.begun in
    subst (λ n. n < st.graph.num_runtime_component_instances) (sym (at.here.current ∙ at.frame.component_instance))
    begun
