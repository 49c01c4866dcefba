-- From the state of an instantiation to its answer.
use Rattle.std.proofs.Common.{◌≡◌, ◌+◌, ◌≤◌, ℕ, List, length, Result, Ok, Err, inl, inr, refl, sym}
use Rattle.std.proofs.Common.{◌∙◌, ap, arith, subst}
use Rattle.std.specs.Prelude.{⊤, IfOk}
use Rattle.std.specs.List.{AllZip}
use Rattle.std.specs.Result.{IsErrAnd, result_and}
use Rattle.pc_entity.specs.Lists.{AreDistinct}
use Rattle.pc_types_lists.specs.Adds.{AddsTypes}
use Rattle.pc_types_lists.specs.Types.{IsBuilder, KeepsTypes, Types, types_held}
use Rattle.pc_types_lists.proofs.FewLemmas.{few_none}
use Rattle.pc_types_lists.proofs.KeptTypes.{keeps_whatever}
use Rattle.pc_types.specs.declared.error.Error.{Error}
use Rattle.pc_types.specs.declared.error.Error.TheVariants as error
use Rattle.pc_types.specs.declared.module_record.ModuleRecord.{ModuleRecord}
use Rattle.pc_types.specs.declared.parsed.TypeTable.{TypeTable}
use Rattle.pc_spec_reading.specs.Item.{Items}
use Rattle.pc_local.specs.declared.item.Translation.{Translation}
use Rattle.pc_local.specs.Standing.{BodyStands, no_names}
use Rattle.pc_weights.specs.Weighs.{HasRootWeight, HasWeight}
use Rattle.pc_dfg.specs.declared.dfg.ComponentDfg.{ComponentDfg}
use Rattle.pc_inline_names.specs.Named.{Named}
use Rattle.pc_inline_state.specs.declared.state.State.{State}
use Rattle.pc_inline.specs.Roots.{HasAtMost, InlinesBody, InlinesRoot, IsFew, IsRootEnd, RootRead}
use Rattle.pc_inline_state.specs.Fresh.{counted_tables}
use Rattle.pc_inline_state.specs.Adds.{with_modules}
use Rattle.pc_inline_state.specs.Gained.{AddsTables}
use Rattle.pc_inline_state.specs.Points.{AreItsNames}
use Rattle.pc_inline_state.specs.Tables.{Keeps, tables_of}
use Rattle.pc_inline_stack.specs.Stacks.{AreWeights}
use Rattle.pc_inline_stack.specs.Totals.{GainsFew, IsCounted}
use Rattle.pc_inline_state.specs.Typed.{no_resources}
use Rattle.pc_inline.specs.Inlines.{Inlines, StandsForReading}
use Rattle.pc_inline_state.proofs.GainedLemmas.{tables_more, tables_none}
use Rattle.pc_inline.proofs.CountLemmas.{counted_exports, counted_holds, counted_items, counted_ordered, counted_plain}
use Rattle.pc_inline.proofs.CountLemmas.{counted_numbers, counted_widths, counted_world}
use Rattle.pc_inline.proofs.RootFewLemmas.{counted_few, no_room, run_adds, run_tables}
use Rattle.pc_inline.proofs.WidthLemmas.{are_wide}

-- types keep their numbers in the builder that is handed back, whichever resources were known before
pub run_keeps : (old taken new : Types) (st st' : State) → taken ≡ record old { resources = no_resources }
    → st.types ≡ taken → Keeps (tables_of st) (tables_of st') → new ≡ st'.types → KeepsTypes old new
run_keeps old taken new st st' forgot is keeps now =
    subst (KeepsTypes old) (sym now)
    (keeps_whatever (record old { resources = no_resources }) st'.types old.resources st'.types.resources
    (subst (λ x. KeepsTypes x st'.types) (is ∙ forgot) keeps.types))

-- a root stands for a body among bodies that are the same
pub stands_among : (bodies' bodies : List Translation) → bodies' ≡ bodies → (root : Translation) (body : Items)
    → BodyStands bodies no_names root body → BodyStands bodies' no_names root body
stands_among bodies' bodies among root body stands =
    subst (λ bs. BodyStands bs no_names root body) (sym among) stands

-- the names are those of what is read
pub run_names : (t : TypeTable) (given ms : List ModuleRecord) → given ≡ ms → (n : Named) (bodies : List Translation)
    → AreItsNames t ms n bodies n.texts → (n' : Named) → n' ≡ n → (bodies' : List Translation) → bodies' ≡ bodies
    → (path_names : List (List ℕ)) → path_names ≡ n'.texts → AreItsNames t given n' bodies' path_names
run_names t given ms same n bodies are n' is bodies' among path_names paths = record {
  modules = ap (λ (x : Named). x.modules) is ∙ are.modules ∙ sym same;
  table = ap (λ (x : Named). x.table) is ∙ are.table;
  bodies = ap (λ (x : Named). x.bodies) is ∙ are.bodies ∙ sym among;
  distinct = subst (λ (x : Named). AreDistinct x.texts) (sym is) are.distinct;
  paths = paths;
}

-- weights are the same among modules and bodies that are the same
pub root_weighs : (t : TypeTable) (given ms : List ModuleRecord) → given ≡ ms → (root : Translation) (weight : ℕ)
    → HasRootWeight t ms root weight → HasRootWeight t given root weight
root_weighs t given ms same root weight weighs = subst (λ xs. HasRootWeight t xs root weight) (sym same) weighs

pub bodies_weigh : (t : TypeTable) (given ms : List ModuleRecord) → given ≡ ms → (bodies' bodies : List Translation)
    → bodies' ≡ bodies → (weights : List ℕ) → AllZip (HasWeight t ms) bodies weights
    → AreWeights t given bodies' weights
bodies_weigh t given ms same bodies' bodies among weights weigh =
    subst (λ xs. AreWeights t xs bodies' weights) (sym same)
    (subst (λ bs. AreWeights t ms bs weights) (sym among) weigh)

module _ (t : TypeTable) (ms : List ModuleRecord) (limit counted : ℕ) where
  -- the graph stands for the reading, with the counts of tables
  counted_reading : (body : Items) (old : Types) (st : State) → RootRead t ms limit counted body old st
      → StandsForReading t ms limit counted body st.types (counted_tables st.graph st.types)
  counted_reading body old st read =
      let g = st.graph in
      let futures = length st.types.future_tables in
      let streams = length st.types.stream_tables in
      let errors = length st.types.error_context_tables in
      record {
        result = read.result;
        outcome = read.outcome;
        stands = record {
          world = counted_world g futures streams errors st.types _ read.world;
          exports = counted_exports g futures streams errors st.types t _ read.exports;
          numbers = counted_numbers g futures streams errors _ read.numbers;
          ordered = counted_ordered g futures streams errors read.sound.ordered;
          items = counted_items g futures streams errors ms read.sound.items;
          plain = counted_plain g futures streams errors read.sound.plain;
          widths = counted_widths g futures streams errors ms read.result
              (are_wide t ms st read.result read.sound read.world);
          held = counted_holds g futures streams errors st.types t read.sound.held;
          future_tables = refl;
          stream_tables = refl;
          error_context_tables = refl;
        };
      }

  module _ (given : List ModuleRecord) (same : given ≡ ms) (root : Translation) (st : State) (types : Types)
      (now : types ≡ st.types) (bodies listed : List Translation) (among : bodies ≡ listed) (body : Items)
      (stands : BodyStands listed no_names root body) where
    read_here : (old : Types) (end : ⊤) → InlinesRoot t given limit counted bodies root old st (Ok end)
        → RootRead t ms limit counted body old st
    unfolding InlinesBody
    read_here old end inlines =
        subst (λ xs. RootRead t xs limit counted body old st) same
        (inlines body (stands_among bodies listed among root body stands))

    done_here : (old : Types) (g : ComponentDfg) → g ≡ counted_tables st.graph st.types
        → RootRead t ms limit counted body old st → Inlines t ms limit counted body types (Ok g)
    unfolding Inlines
    done_here old g is read =
        subst (λ x. StandsForReading t ms limit counted body x g) (sym now)
        (subst (StandsForReading t ms limit counted body st.types) (sym is) (counted_reading body old st read))

    fails_here : (old : Types) (e : Error) → IsBuilder types → length t.core_funcs + types_held old ≤ counted
        → InlinesRoot t given limit counted bodies root old st (Err e) → Inlines t ms limit counted body types (Err e)
    unfolding Inlines InlinesBody
    fails_here old e builder held inlines =
        elim (subst (λ xs. IsRootEnd t xs limit counted body old st e) same
        (inlines body (stands_among bodies listed among root body stands)))
        as (λ _. Inlines t ms limit counted body types (Err e)) [
          | inl unfed ↦ inl unfed
          | inr h ↦ elim h as (λ _. Inlines t ms limit counted body types (Err e)) [
            | inl ends ↦ inr ends
            | inr crowded ↦ absurd (no_room t counted old st (subst IsBuilder now builder) held crowded.1)
          ]
        ]

    module _ (old taken : Types) (first : State) (forgot : taken ≡ record old { resources = no_resources })
        (is_first : first.types ≡ taken) where
      -- as many types were held by the builder that was taken
      held_before : types_held first.types ≡ types_held old
      held_before = ap types_held (is_first ∙ forgot)

      -- the graph is answered, or the error
      pub run_ends : IsBuilder types → length t.core_funcs + types_held old ≤ counted → (g : ComponentDfg)
          → g ≡ counted_tables st.graph st.types → (q : Result ⊤ Error)
          → InlinesRoot t given limit counted bodies root first.types st q → (r : Result ComponentDfg Error)
          → r ≡ result_and q (Ok g) → Inlines t ms limit counted body types r
      run_ends builder held g is (Ok end) inlines r answers =
          subst (Inlines t ms limit counted body types) (sym answers)
          (done_here first.types g is (read_here first.types end inlines))
      run_ends builder held g is (Err e) inlines r answers =
          subst (Inlines t ms limit counted body types) (sym answers)
          (fails_here first.types e builder (subst (λ n. length t.core_funcs + n ≤ counted) (sym held_before) held)
          inlines)

      adds_here : (added : ℕ) → AddsTypes t added first.types st.types → AddsTypes t added old types
      adds_here added adds = run_adds t added old taken types first st forgot is_first now adds

      tables_here : (n : ℕ) → AddsTables t n first.types st.types → AddsTables t n old types
      tables_here n adds = run_tables t n old taken types first st forgot is_first now adds

      -- as many component instances have begun at the most as entries were added, and one more
      tables_within : (added : ℕ) → HasAtMost t added first.types (tables_of st) → AddsTables t (added + 1) old types
      tables_within added most =
          tables_here (added + 1)
          (tables_more t st.graph.num_runtime_component_instances (added + 1) first.types st.types most.begun
          most.tables)

      module _ (g : ComponentDfg) (is : g ≡ counted_tables st.graph st.types) where
        -- the tables that are new are those of entries, in component instances of the graph
        pub run_gained : (q : Result ⊤ Error) → InlinesRoot t given limit counted bodies root first.types st q
            → (r : Result ComponentDfg Error) → r ≡ result_and q (Ok g)
            → IfOk r (λ x. AddsTables t x.num_runtime_component_instances old types)
        run_gained (Ok end) inlines r answers =
            let read = read_here first.types end inlines in
            subst (λ x. IfOk x (λ y. AddsTables t y.num_runtime_component_instances old types)) (sym answers)
            (subst (λ (x : ComponentDfg). AddsTables t x.num_runtime_component_instances old types) (sym is)
            (tables_here st.graph.num_runtime_component_instances read.few.most.tables))
        run_gained (Err e) inlines r answers =
            subst (λ x. IfOk x (λ y. AddsTables t y.num_runtime_component_instances old types)) (sym answers) tt

        counts_here : RootRead t ms limit counted body first.types st → IsCounted t ms limit counted body old types g
        counts_here read =
            let few = read.few in
            record {
              total = read.total;
              is_total = (read.result, read.outcome, read.is_total);
              below = few.below;
              added = few.added;
              few = few.few;
              types = adds_here few.added few.most.types;
              lists = λ l. subst (λ x. with_modules x l ≤ few.added) (sym is)
                  (counted_few st.graph st.types few.added few.most.lists l);
              resources = subst (λ (x : ComponentDfg). length x.imported_resources + length x.resources ≤ few.added)
                  (sym is) few.most.resources;
            }

        -- what the graph has is counted
        pub run_counts : (q : Result ⊤ Error) → InlinesRoot t given limit counted bodies root first.types st q
            → (r : Result ComponentDfg Error) → r ≡ result_and q (Ok g)
            → IfOk r (IsCounted t ms limit counted body old types)
        run_counts (Ok end) inlines r answers =
            subst (λ x. IfOk x (IsCounted t ms limit counted body old types)) (sym answers)
            (counts_here (read_here first.types end inlines))
        run_counts (Err e) inlines r answers =
            subst (λ x. IfOk x (IsCounted t ms limit counted body old types)) (sym answers) tt

      -- few types were added, whatever is answered
      pub run_gains : IsFew t counted first.types (tables_of st) → GainsFew t counted old types
      run_gains few = elim few as (λ _. GainsFew t counted old types) [
        | inl h ↦
            let some = h.1.few in
            let below = h.1.below in
            record {
              added = h.1.added;
              types = adds_here h.1.added h.1.most.types;
              tables = tables_within h.1.added h.1.most;
              few = inr (omega (arith, some, below));
            }
        | inr nothing ↦ record {
          added = 0;
          types = adds_here 0 nothing.types;
          tables = tables_within 0 nothing;
          few = inl refl;
        }
      ]

  -- memory was wanting
  pub run_unfed : (body : Items) (types : Types) (r : Result ComponentDfg Error)
      → IsErrAnd r (λ x. x ≡ error.NoMemory) → Inlines t ms limit counted body types r
  unfolding Inlines
  run_unfed body types (Ok x) is = absurd is
  run_unfed body types (Err x) is = inl is

-- nothing was added
pub gains_nothing : (t : TypeTable) (counted : ℕ) (types : Types) → GainsFew t counted types types
gains_nothing t counted types = record {
  added = 0;
  types = few_none t 0 types types refl;
  tables = tables_none t 1 types types refl;
  few = inl refl;
}
