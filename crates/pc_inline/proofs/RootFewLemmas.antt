-- How few entries and types a root has.
use Rattle.std.proofs.Common.{◌≡◌, ◌<◌, ◌≤◌, ◌+◌, ◌*◌, ℕ, List, length, Result, Ok, Err, refl, sym, ap, subst, ◌∙◌, inl}
use Rattle.std.proofs.Common.{inr, arith}
use Rattle.std.specs.Prelude.{⊤}
use Rattle.pc_numbers.specs.declared.runtime.RuntimeComponentInstanceIndex.{RuntimeComponentInstanceIndex}
use Rattle.pc_types.specs.declared.error.Error.{Error}
use Rattle.pc_types.specs.declared.error.Error.TheVariants as error
use Rattle.pc_types.specs.declared.module_record.ModuleRecord.{ModuleRecord}
use Rattle.pc_types.specs.declared.parsed.TypeTable.{TypeTable}
use Rattle.pc_types.specs.declared.types.TypeKind.{TypeKind}
use Rattle.pc_types.specs.declared.types.TypeKind.TheVariants as kind
use Rattle.pc_types_lists.specs.Adds.{AddsTypes, most_types}
use Rattle.pc_types_lists.specs.Types.{IsBuilder, Types, held, types_held}
use Rattle.pc_types_lists.proofs.FewLemmas.{few_aside, few_both, held_few}
use Rattle.pc_parsed.specs.declared.payload.ExternName.{ExternName}
use Rattle.pc_parsed.specs.declared.payload.ItemKind.{ItemKind}
use Rattle.pc_spec_reading.specs.Item.{Items, exports_in}
use Rattle.pc_spec_reading.specs.World.{full}
use Rattle.pc_local.specs.declared.item.LocalInitializer.{LocalInitializer}
use Rattle.pc_local.specs.declared.item.Translation.{Translation}
use Rattle.pc_local.specs.Standing.{BodyStands, no_names}
use Rattle.pc_spec_plan.specs.PlanView as plan
use Rattle.pc_dfg.specs.declared.dfg.ComponentDfg.{ComponentDfg}
use Rattle.pc_dfg.specs.Empty.{empty_graph}
use Rattle.pc_dfg.specs.Lists as list
use Rattle.pc_dfg.specs.Lists.{ListName, entries_of}
use Rattle.pc_dfg.specs.Numbers.{slots_of}
use Rattle.pc_dfg.specs.Pushed.{with_component_instance}
use Rattle.pc_inline_state.specs.declared.frame.Frame.{Frame}
use Rattle.pc_inline_state.specs.declared.state.State.{State}
use Rattle.pc_inline_state.specs.Adds.{Adds, most_of_items, most_prepared_of, types_among, with_modules}
use Rattle.pc_inline_state.specs.Fresh.{IsFresh, counted_tables}
use Rattle.pc_inline_state.specs.Gained.{AddsTables}
use Rattle.pc_inline_state.specs.Points.{IsFullSomewhere, full_closures, full_cores, full_definitions, full_exports}
use Rattle.pc_inline_state.specs.Points.{full_graph, full_instances, full_resources, full_types}
use Rattle.pc_inline_state.specs.Tables.{Tables, tables_of}
use Rattle.pc_inline_state.specs.Typed.{no_resources}
use Rattle.pc_inline_stack.specs.Begins.{Begins}
use Rattle.pc_inline_stack.specs.Driving.{AddsCounted}
use Rattle.pc_inline_stack.specs.Stacks.{types_exported}
use Rattle.pc_inline_exports.specs.Exporting.{ExportsAll}
use Rattle.pc_inline.specs.Roots.{HasAtMost, HasFew, IsCrowded, IsFew, first_total}
use Rattle.pc_inline_state.proofs.AddsLemmas.{adds_refl}
use Rattle.pc_inline_state.proofs.GainedLemmas.{tables_aside, tables_both}
use Rattle.pc_inline_stack.proofs.WeightLemmas.{most_of_body, most_of_prepared, types_named}

-- a graph with nothing in any list
abbrev pub HasNone : ComponentDfg → Type 0
HasNone g = (l : ListName) → length (entries_of g l) ≡ 0

empty_has_none : HasNone empty_graph
unfolding slots_of
empty_has_none (list.slots plan.memory) = refl
empty_has_none (list.slots plan.table) = refl
empty_has_none (list.slots plan.realloc) = refl
empty_has_none (list.slots plan.callback) = refl
empty_has_none (list.slots plan.post_return) = refl
empty_has_none list.import_types = refl
empty_has_none list.imports = refl
empty_has_none list.imported_resources = refl
empty_has_none list.options = refl
empty_has_none list.trampolines = refl
empty_has_none list.adapters = refl
empty_has_none list.adapter_modules = refl
empty_has_none list.adapter_partitionings = refl
empty_has_none list.instances = refl
empty_has_none list.resources = refl
empty_has_none list.side_effects = refl
empty_has_none list.export_items = refl
empty_has_none list.exports = refl

-- the lists of a graph are those of it with other counts
pub same_lists : (g : ComponentDfg) (instances futures streams errors : ℕ) (l : ListName)
    → length (entries_of (record g {
      num_runtime_component_instances = instances;
      num_future_tables = futures;
      num_stream_tables = streams;
      num_error_context_tables = errors;
    }) l) ≡ length (entries_of g l)
unfolding slots_of
same_lists g i f s e (list.slots plan.memory) = refl
same_lists g i f s e (list.slots plan.table) = refl
same_lists g i f s e (list.slots plan.realloc) = refl
same_lists g i f s e (list.slots plan.callback) = refl
same_lists g i f s e (list.slots plan.post_return) = refl
same_lists g i f s e list.import_types = refl
same_lists g i f s e list.imports = refl
same_lists g i f s e list.imported_resources = refl
same_lists g i f s e list.options = refl
same_lists g i f s e list.trampolines = refl
same_lists g i f s e list.adapters = refl
same_lists g i f s e list.adapter_modules = refl
same_lists g i f s e list.adapter_partitionings = refl
same_lists g i f s e list.instances = refl
same_lists g i f s e list.resources = refl
same_lists g i f s e list.side_effects = refl
same_lists g i f s e list.export_items = refl
same_lists g i f s e list.exports = refl

-- so has a graph in which the root has begun
begun_has_none : HasNone (with_component_instance empty_graph)
begun_has_none l = same_lists empty_graph 1 0 0 0 l ∙ empty_has_none l

module _ (t : TypeTable) (old : State) (fresh : IsFresh t old) (g : ComponentDfg) where
  fresh_graph : g ≡ old.graph → HasNone g × (g.num_runtime_component_instances ≤ 1)
  fresh_graph is =
      subst (λ (x : ComponentDfg). HasNone x × (x.num_runtime_component_instances ≤ 1)) (sym (is ∙ fresh.graph))
      (empty_has_none, omega arith)

  -- nothing was added where the root has begun or none begins
  pub begun_graph : (limit weight counted total : ℕ) (r : Result RuntimeComponentInstanceIndex Error)
      → Begins limit weight old.graph g counted total r → HasNone g × (g.num_runtime_component_instances ≤ 1)
  unfolding Begins
  begun_graph limit weight counted total (Ok c) begins =
      subst (λ (x : ComponentDfg). HasNone x × (x.num_runtime_component_instances ≤ 1))
      (sym (begins.2 ∙ ap with_component_instance fresh.graph)) (begun_has_none, omega arith)
  begun_graph limit weight counted total (Err error.TooManyInstances) begins = fresh_graph begins.1
  begun_graph limit weight counted total (Err error.TooMany) begins = fresh_graph begins.2
  begun_graph limit weight counted total (Err error.NoMemory) begins = fresh_graph begins.0
  begun_graph limit weight counted total (Err e) begins = absurd begins

  begun_most : HasNone g × (g.num_runtime_component_instances ≤ 1) → (w : ℕ) (x : Tables)
      → Adds t w (tables_of (record old { graph = g })) x → HasAtMost t w old.types x
  begun_most none w x adds =
      let few = adds.entries in
      let begun = few.begun in
      let one = none.1 in
      record {
        types = adds.types;
        tables = adds.tables;
        lists = λ l.
            let more = few.lists l in
            let nothing = none.0 l in
            let no_adapters = none.0 list.adapters in
            omega (arith, more, nothing, no_adapters);
        cores = let more = few.cores in let nothing = ap (λ cs. length cs) fresh.cores in omega (arith, more, nothing);
        definitions = let more = few.definitions in let nothing = ap (λ ds. length ds) fresh.definitions in
            omega (arith, more, nothing);
        closures = let more = few.closures in let nothing = ap (λ cs. length cs) fresh.closures in
            omega (arith, more, nothing);
        instances = let more = few.instances in let nothing = ap (λ is. length is) fresh.instances in
            omega (arith, more, nothing);
        begun = omega (arith, begun, one);
        resources =
            let more = few.resources in
            let first = none.0 list.imported_resources in
            let second = none.0 list.resources in
            omega (arith, more, first, second);
      }

  -- what a root has whose imports were prepared, or some of them
  pub begun_prepared : HasNone g × (g.num_runtime_component_instances ≤ 1) → (ls ls' : List LocalInitializer) → ls ≡ ls'
      → (x : Tables) → Adds t (most_prepared_of t ls) (tables_of (record old { graph = g })) x
      → HasAtMost t (most_prepared_of t ls') old.types x
  begun_prepared none ls ls' is x adds =
      subst (λ ks. HasAtMost t (most_prepared_of t ks) old.types x) is
      (begun_most none (most_prepared_of t ls) x adds)

  -- and one of which none was
  pub begun_none : HasNone g × (g.num_runtime_component_instances ≤ 1) → (w : ℕ)
      → HasAtMost t w old.types (tables_of (record old { graph = g }))
  begun_none none w =
      begun_most none w (tables_of (record old { graph = g })) (adds_refl t w (tables_of (record old { graph = g })))

module _ (t : TypeTable) where
  -- what is added after that
  pub most_more : (w v : ℕ) (old : Types) (b x : Tables) → HasAtMost t w old b → Adds t v b x
      → HasAtMost t (w + v) old x
  most_more w v old b x most adds =
      let few = adds.entries in
      record {
        types = few_both t w v old b.types x.types most.types adds.types;
        tables = tables_both t b.graph.num_runtime_component_instances x.graph.num_runtime_component_instances
            adds.later b.types x.types adds.grows old most.tables adds.tables;
        lists = λ l. let so_far = most.lists l in let more = few.lists l in omega (arith, so_far, more);
        cores = let so_far = most.cores in let more = few.cores in omega (arith, so_far, more);
        definitions = let so_far = most.definitions in let more = few.definitions in omega (arith, so_far, more);
        closures = let so_far = most.closures in let more = few.closures in omega (arith, so_far, more);
        instances = let so_far = most.instances in let more = few.instances in omega (arith, so_far, more);
        begun = let so_far = most.begun in let more = few.begun in omega (arith, so_far, more);
        resources = let so_far = most.resources in let more = few.resources in omega (arith, so_far, more);
      }

  module _ (ms : List ModuleRecord) (bodies : List Translation) (root : Translation) (old : Types) (counted : ℕ) where
    abbrev prepared : ℕ
    prepared = most_prepared_of t root.initializers

    -- what the types that it exports add at the most
    abbrev exported : ℕ
    exported = types_among root.exports * (1 + most_types t)

    -- what a root has whose items were read, or some of them: its total has grown by more than what was added, and what
    -- the types that it exports add
    pub record HasRun (total : ℕ) (x : Tables) : Type 0 where
      pub below : total < full
      pub added : ℕ
      pub few : counted + (added + exported) < total
      pub most : HasAtMost t added old x

    -- so its total has grown by more than what was added
    pub few_run : (total : ℕ) (x : Tables) → HasRun total x → HasFew t counted total old x
    few_run total x run =
        let few = run.few in
        record { below = run.below; added = run.added; few = omega (arith, few); most = run.most }

    module _ (body : Items) (stands : BodyStands bodies no_names root body) (first : ℕ)
        (is_first : first ≡ first_total t ms body counted) where
      -- the first total has grown by more than what its imports, its items and the types that it exports add at the most
      enough : counted + (prepared + most_of_items t root.initializers + exported) < first
      enough =
          let one = most_of_body t ms bodies no_names root.initializers body stands.items in
          let two = most_of_prepared t ms bodies no_names root.initializers body stands.items in
          let types : types_among root.exports ≡ types_exported (exports_in body) =
          types_named root.exports ∙ ap types_exported stands.exports in
          let same : exported ≡ types_exported (exports_in body) * (1 + most_types t) =
          ap (λ k. k * (1 + most_types t)) types in
          omega (arith, one, two, same, is_first)

      -- a root whose imports were prepared, or some of them
      pub few_begun : first < full → (x : Tables) → HasAtMost t prepared old x → HasFew t counted first old x
      few_begun below x most =
          let le = enough in
          record { below = below; added = prepared; few = omega (arith, le); most = most }

      -- and one whose items were read
      pub has_run : (st st' : State) → HasAtMost t prepared old (tables_of st) → (total : ℕ)
          → AddsCounted t root.initializers first total st st' → HasRun total (tables_of st')
      has_run st st' most total adds =
          let le = enough in
          let few = adds.few in
          record {
            below = adds.below;
            added = prepared + adds.added;
            few = omega (arith, le, few);
            most = most_more prepared adds.added old (tables_of st) (tables_of st') most adds.adds;
          }

    module _ (total : ℕ) (st : State) (f : Frame) (run : HasRun total (tables_of st))
        (es : List (ExternName × ItemKind × ℕ)) (are : es ≡ root.exports) (end : State) (g : Frame)
        (r : Result ⊤ Error) (all : ExportsAll t ms es total st f end g r) where
      -- the root exports, and its nodes leave the total below
      pub few_exported : total + 8 * all.made.nodes < full
          → HasFew t counted (total + 8 * all.made.nodes) old (tables_of end)
      few_exported below =
          let nodes = all.made.nodes in
          let few = run.few in
          let adds : Adds t (4 * nodes + exported) (tables_of st) (tables_of end) =
          subst (λ ys. Adds t (4 * nodes + types_among ys * (1 + most_types t)) (tables_of st) (tables_of end)) are
          all.made.adds in
          record {
            below = below;
            added = run.added + (4 * nodes + exported);
            few = omega (arith, few);
            most = most_more run.added (4 * nodes + exported) old (tables_of st) (tables_of end) run.most adds;
          }

      -- or they are too many, and nothing more is added
      pub few_ended : IsFew t counted old (tables_of end)
      few_ended = elim all.within as (λ _. IsFew t counted old (tables_of end)) [
        | inl room ↦ inl (total + 8 * all.made.nodes, few_exported room)
        | inr many ↦
            inl (
              total,
              subst (λ x. HasFew t counted total old (tables_of x)) (sym many.state)
                  (few_run total (tables_of st) run),
            )
      ]

-- so many of a kind are held at the most
held_most : (types : Types) (k : TypeKind) → held types k ≤ types_held types
held_most types kind.Func = omega arith
held_most types kind.Tuple = omega arith
held_most types kind.Record = omega arith
held_most types kind.Variant = omega arith
held_most types kind.List = omega arith
held_most types kind.Option = omega arith
held_most types kind.Result = omega arith
held_most types kind.Flags = omega arith
held_most types kind.Enum = omega arith
held_most types kind.ResourceTable = omega arith
held_most types kind.FutureTable = omega arith
held_most types kind.StreamTable = omega arith
held_most types kind.ErrorContextTable = omega arith
held_most types kind.Instance = omega arith
held_most types kind.Component = omega arith
held_most types kind.Module = omega arith
held_most types kind.Signature = omega arith

-- no list of types is full where a total bounds what was added, and begins with all that was held and the signatures of
-- the table
never_full : (t : TypeTable) (counted total added : ℕ) (old new : Types) → IsBuilder new → total < full
    → counted + added < total → length t.core_funcs + types_held old ≤ counted → AddsTypes t added old new
    → (k : TypeKind) → held new k ≡ 4294967294 → ⊥
never_full t counted total added old new builder below few start adds k is =
    let most = held_most old k in
    let more = held_few t added old new builder adds k in
    omega (arith, below, few, start, most, more, is)

-- no list is full where a total has grown by more than what was added
pub no_room : (t : TypeTable) (counted : ℕ) (old : Types) (st : State) → IsBuilder st.types
    → length t.core_funcs + types_held old ≤ counted → IsCrowded t counted old (tables_of st) → ⊥
no_room t counted old st builder start crowded = never crowded.few crowded.is_full
  where
    never : {total : ℕ} → HasFew t counted total old (tables_of st) → IsFullSomewhere (tables_of st) → ⊥
    never {total} h (full_types k) =
        never_full t counted total h.added old st.types builder h.below h.few start h.most.types k.0 k.1
    never h (full_graph l k) =
        let below = h.below in
        let few = h.few in
        let le = h.most.lists l in
        omega (arith, below, few, k, le)
    never h (full_instances k) =
        let below = h.below in let few = h.few in let le = h.most.begun in omega (arith, below, few, k, le)
    never h (full_cores k) =
        let below = h.below in let few = h.few in let le = h.most.cores in omega (arith, below, few, k, le)
    never h (full_definitions k) =
        let below = h.below in let few = h.few in let le = h.most.definitions in omega (arith, below, few, k, le)
    never h (full_closures k) =
        let below = h.below in let few = h.few in let le = h.most.closures in omega (arith, below, few, k, le)
    never h (full_exports k) =
        let below = h.below in let few = h.few in let le = h.most.instances in omega (arith, below, few, k, le)
    never h (full_resources k) =
        let below = h.below in let few = h.few in let le = h.most.resources in omega (arith, below, few, k, le)

-- the counts of tables change no list
pub counted_few : (g : ComponentDfg) (types : Types) (added : ℕ) → ((l : ListName) → with_modules g l ≤ added)
    → (l : ListName) → with_modules (counted_tables g types) l ≤ added
counted_few g types added few l =
    subst (λ k. k + 32 * length g.adapters ≤ added)
    (sym (same_lists g g.num_runtime_component_instances (length types.future_tables)
    (length types.stream_tables) (length types.error_context_tables) l)) (few l)

-- the builder that is handed back has the types that were added, whichever resources were known before
pub run_adds : (t : TypeTable) (added : ℕ) (old taken new : Types) (st st' : State)
    → taken ≡ record old { resources = no_resources } → st.types ≡ taken → new ≡ st'.types
    → AddsTypes t added st.types st'.types → AddsTypes t added old new
run_adds t added old taken new st st' forgot is now adds =
    subst (AddsTypes t added old) (sym now)
    (few_aside t added (record old { resources = no_resources }) st'.types old.resources st'.types.resources
    (subst (λ x. AddsTypes t added x st'.types) (is ∙ forgot) adds))

-- so the tables that are new in it are those that were new in the state
pub run_tables : (t : TypeTable) (n : ℕ) (old taken new : Types) (st st' : State)
    → taken ≡ record old { resources = no_resources } → st.types ≡ taken → new ≡ st'.types
    → AddsTables t n st.types st'.types → AddsTables t n old new
run_tables t n old taken new st st' forgot is now adds =
    subst (AddsTables t n old) (sym now)
    (tables_aside t n (record old { resources = no_resources }) st'.types old.resources st'.types.resources
    (subst (λ x. AddsTables t n x st'.types) (is ∙ forgot) adds))
