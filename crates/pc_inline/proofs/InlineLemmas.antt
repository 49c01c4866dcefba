-- The root, from its beginning to the end of its exports.
use Rattle.std.proofs.Common.{◌≡◌, ◌<◌, ◌≤◌, ◌+◌, ◌*◌, ℕ, List, [], length, map, Some, Result, Ok, Err, inl, inr, refl, sym}
use Rattle.std.proofs.Common.{ap, subst, ◌∙◌, if◌then◌else◌, arith}
use Rattle.std.proofs.lemmas.Bool.{le-ltb, lt-ltb}
use Rattle.std.proofs.lemmas.Option.{none-some}
use Rattle.std.specs.Prelude.{⊤}
use Rattle.std.specs.Result.{IsErrAnd}
use Rattle.pc_numbers.specs.declared.runtime.RuntimeComponentInstanceIndex.{RuntimeComponentInstanceIndex}
use Rattle.pc_entity.specs.declared.string_pool.Atom.{Atom}
use Rattle.pc_types.specs.declared.error.Error.{Error}
use Rattle.pc_types.specs.declared.error.Error.TheVariants as error
use Rattle.pc_types.specs.declared.module_record.ModuleRecord.{ModuleRecord}
use Rattle.pc_types.specs.declared.parsed.TypeTable.{TypeTable}
use Rattle.pc_types_lists.specs.Types.{Types}
use Rattle.pc_types_builder.specs.Plain.{Layers}
use Rattle.pc_types_builder.specs.Converted.{AreConverted}
use Rattle.pc_parsed.specs.declared.payload.ExternName.{ExternName}
use Rattle.pc_parsed.specs.declared.payload.ItemKind.{ItemKind}
use Rattle.pc_spec_reading.specs.Answer.{ending}
use Rattle.pc_spec_reading.specs.Item.{Items, exports_in}
use Rattle.pc_spec_reading.specs.Nodes.{Finish}
use Rattle.pc_spec_reading.specs.Outcome.{Outcome, and_then, done, past}
use Rattle.pc_spec_reading.specs.Reading.{prepare_all, read_root, reading_of, root_exports}
use Rattle.pc_spec_reading.specs.Scope.{Moment, Scope}
use Rattle.pc_spec_reading.specs.Section.{named_item}
use Rattle.pc_spec_reading.specs.Total.{body_weight, prepared_weight}
use Rattle.pc_spec_reading.specs.World.{World, full, grown, has_room}
use Rattle.pc_weights.specs.Capped.{capped}
use Rattle.pc_local.specs.declared.item.LocalInitializer.{LocalInitializer}
use Rattle.pc_local.specs.declared.item.Translation.{Translation}
use Rattle.pc_local.specs.Sound.{AreSoundBodies}
use Rattle.pc_local.specs.Standing.{BodyStands, ItemsStand, no_names}
use Rattle.pc_dfg.specs.declared.dfg.ComponentDfg.{ComponentDfg}
use Rattle.pc_dfg.specs.Empty.{empty_graph}
use Rattle.pc_dfg.specs.Grows as graph
use Rattle.pc_dfg.specs.Pushed.{with_component_instance}
use Rattle.pc_dfg.proofs.EmptyLemmas.{empty_ordered}
use Rattle.pc_dfg.specs.Ordered.{IsOrdered}
use Rattle.pc_inline_state.specs.declared.definition.DefinitionId.{DefinitionId}
use Rattle.pc_inline_state.specs.declared.frame.Frame.{Frame}
use Rattle.pc_inline_state.specs.declared.state.State.{State}
use Rattle.pc_inline_stack.specs.Begins.{Begins}
use Rattle.pc_inline.specs.Roots.{BeginsBody, HasFew, InlinesBody, InlinesRoot, IsRootEnd, RootStarts, first_total}
use Rattle.pc_inline_state.specs.Fits.{Fits, FitsBefore}
use Rattle.pc_inline_state.specs.Fresh.{IsFresh}
use Rattle.pc_inline_stack.specs.Driving.{EndsRun, Runs, reading_from}
use Rattle.pc_inline_exports.specs.Exporting.{ExportsAll, ExportsEnd, RootStands, if_room}
use Rattle.pc_inline_state.specs.Points.{AreItsNames, IsPoint, PointStands}
use Rattle.pc_inline_stack.specs.Reads.{AreItems, Ends, Passes, Prepared}
use Rattle.pc_inline_state.specs.Tables.{Keeps, tables_of}
use Rattle.pc_inline_state.specs.Worlds.{HasNoExports}
use Rattle.pc_inline_state.proofs.GrowthLemmas.{graph_grown}
use Rattle.pc_inline.proofs.FreshLemmas.{first_frame, first_point}
use Rattle.pc_inline.proofs.RootLemmas.{ends_then, exports_fail, finish, first_moment, from_start, reading_ends}
use Rattle.pc_inline.proofs.RootLemmas.{reading_over, root_begins, root_fails, root_past, root_read, root_stands}
use Rattle.pc_inline.proofs.RootLemmas.{run_fails}
use Rattle.pc_inline.proofs.TotalLemmas.{prepared_counts}

module _ (t : TypeTable) (ms : List ModuleRecord) (limit : ℕ) where
  -- a number is the weight of a root, cut where a total is full
  abbrev pub IsWeight : Items → ℕ → Type 0
  IsWeight body n = n ≡ capped (body_weight t ms body + prepared_weight t ms body)

  module _ (old : State) (fresh : IsFresh t old) (g : ComponentDfg) (weight counted total : ℕ) where
    -- the root has begun
    pub begun_below : (c : RuntimeComponentInstanceIndex) → Begins limit weight old.graph g counted total (Ok c)
        → 0 < limit
    unfolding Begins
    begun_below c begins = subst (λ (x : ComponentDfg). x.num_runtime_component_instances < limit) fresh.graph begins.0

    -- its weight is counted, and the total isn't full
    pub begun_total : (c : RuntimeComponentInstanceIndex) → Begins limit weight old.graph g counted total (Ok c)
        → (body : Items) → IsWeight body weight → (total ≡ first_total t ms body counted) × (total < full)
    unfolding Begins
    begun_total c begins body weighs =
        let is = begins.4 in
        let below = begins.5 in
        (omega (arith, weighs, is, below), below)

    -- and nothing was read
    pub begun_point : AreSoundBodies (length ms) old.bodies.now
        → AreItsNames t ms old.names.now old.bodies.now old.paths.names → (c : RuntimeComponentInstanceIndex)
        → Begins limit weight old.graph g counted total (Ok c) → (f : Frame)
        → (args : List (Atom × DefinitionId)) → args ≡ [] → (converted : Layers)
        → ((b : Types) → AreConverted b t converted) → f ≡ record (first_frame c converted) { arguments = args }
        → PointStands t ms (record old { graph = g }) f (first_moment total)
    unfolding Begins
    begun_point bodies names c begins f args none converted unconverted is =
        subst (λ x. PointStands t ms (record old { graph = g }) x (first_moment total))
        (sym (is ∙ ap (λ xs. record (first_frame c converted) { arguments = xs }) none))
        (first_point t ms old fresh bodies names g (begins.2 ∙ ap with_component_instance fresh.graph)
        (begins.3 (subst IsOrdered (sym fresh.graph) empty_ordered)) c
        (begins.1 ∙ ap (λ (x : ComponentDfg). x.num_runtime_component_instances) fresh.graph) converted
        (unconverted old.types) total)

    -- and no resource was declared
    pub begun_undeclared : (c : RuntimeComponentInstanceIndex) → Begins limit weight old.graph g counted total (Ok c)
        → g.resources ≡ []
    unfolding Begins
    begun_undeclared c begins =
        ap (λ (x : ComponentDfg). x.resources) (begins.2 ∙ ap with_component_instance fresh.graph)

    -- no root begins
    pub unbegun : (body : Items) → IsWeight body weight → (e : Error)
        → Begins limit weight old.graph g counted total (Err e)
        → IsRootEnd t ms limit counted body old.types (record old { graph = g }) e
    unfolding Begins
    unbegun body weighs error.TooManyInstances begins =
        inr (inl (ap ending (reading_over t ms limit counted body
        (subst (λ (x : ComponentDfg). limit ≤ x.num_runtime_component_instances) fresh.graph begins.0))))
    unbegun body weighs error.TooMany begins =
        let below : 0 < limit =
        subst (λ (x : ComponentDfg). x.num_runtime_component_instances < limit) fresh.graph begins.0 in
        let many = begins.1 in
        inr (inl (ap ending (root_past t ms limit counted body below (omega (arith, weighs, many)))))
    unbegun body weighs error.NoMemory begins = inl refl
    unbegun body weighs e begins = absurd begins

module _ (t : TypeTable) (ms : List ModuleRecord) (limit counted : ℕ) (bodies : List Translation) where
  -- so is every body that the root stands for
  abbrev pub Each : Translation → (Items → Type 0) → Type 0
  Each root P = (body : Items) → BodyStands bodies no_names root body → P body

  -- the items of the root have been read, in a total, and it exports from here
  abbrev pub IsRead : Translation → (total : ℕ) → State → Frame → Type 0
  IsRead root total st f =
      Each root (λ body. (now : Moment) × PointStands t ms st f now × (now.world.total ≡ Some total)
      × (read_root t ms limit (Some counted) body ≡ done now))

  -- some total has grown by more than what was added to a builder that held these types
  abbrev pub SomeFew : Types → State → Type 0
  SomeFew first st = (total : ℕ) × HasFew t counted total first (tables_of st)

  module _ (root : Translation) (first : Types) (old : State) (f : Frame) (st : State) (g : Frame)
      (ls : List LocalInitializer) (is : ls ≡ root.initializers) (among : old.bodies.now ≡ bodies) (below : 0 < limit)
      (total : ℕ) (at : PointStands t ms old f (first_moment total))
      (starts : Each root (λ body. (total ≡ first_total t ms body counted) × (total < full))) where
    items_there : (body : Items) → BodyStands bodies no_names root body → ItemsStand old.bodies.now no_names ls body
    items_there body stands =
        subst (λ bs. ItemsStand bs no_names ls body) (sym among)
        (subst (λ xs. ItemsStand bodies no_names xs body) (sym is) stands.items)

    reads_from : (body : Items) → BodyStands bodies no_names root body
        → read_root t ms limit (Some counted) body ≡ from_start t ms limit counted body total
    reads_from body stands =
        let start = starts body stands in
        subst (λ n. read_root t ms limit (Some counted) body ≡ from_start t ms limit counted body n) (sym start.0)
        (root_begins t ms limit counted body below (subst (λ n. n < full) start.0 start.1))

    -- the root has begun, and its imports were prepared
    pub root_begun : (r : ⊤) → Prepared t ms ls old f st g (Ok r)
        → Each root (λ body. BeginsBody t ms limit counted body total first st (Ok g))
    unfolding BeginsBody Passes Ends
    root_begun r prepared body stands =
        let ends = prepared body (first_moment total) (items_there body stands) at in
        let same = prepared_counts t ms body 0 (first_moment total) ends.0 ends.1 in
        record {
          within = below;
          is_first = (starts body stands).0;
          below = (starts body stands).1;
          now = ends.0;
          stands = ends.2;
          reads = reads_from body stands ∙ ap (λ o. and_then o (reading_from t ms limit body)) ends.1;
          is_total = same.0;
          begun = same.1;
        }

    -- or they weren't
    pub root_unprepared : (e : Error) → Prepared t ms ls old f st g (Err e) → SomeFew first st
        → Each root (λ body. IsRootEnd t ms limit counted body first st e)
    unfolding Passes
    root_unprepared e prepared few body stands =
        root_fails t ms limit counted body first st few g (from_start t ms limit counted body total) e
        (reads_from body stands)
        (ends_then t ms st g (prepare_all t 0 body (first_moment total)) (reading_from t ms limit body) e
        (prepared body (first_moment total) (items_there body stands) at))

  -- an error at the beginning is that of each body
  pub begins_end : (root : Translation) (first : Types) (total : ℕ) (st : State) (r : Result Frame Error) (e : Error)
      → IsErrAnd r (λ x. x ≡ e) → Each root (λ body. IsRootEnd t ms limit counted body first st e)
      → Each root (λ body. BeginsBody t ms limit counted body total first st r)
  unfolding BeginsBody
  begins_end root first total st (Ok x) e is each = absurd is
  begins_end root first total st (Err x) e is each =
      subst (λ y. Each root (λ body. IsRootEnd t ms limit counted body first st y)) (sym is) each

  module _ (root : Translation) (first : Types) (total : ℕ) (old : State) (f : Frame)
      (begun : Each root (λ body. BeginsBody t ms limit counted body total first old (Ok f))) where
    -- so it has for each body
    pub has_begun : (body : Items) → BodyStands bodies no_names root body
        → RootStarts t ms limit counted body total old f
    unfolding BeginsBody
    has_begun body stands = begun body stands

    -- from here the items of the root can be read
    pub run_point : ((body : Items) × BodyStands bodies no_names root body)
        → IsPoint t ms old f × (0 < old.graph.num_runtime_component_instances)
        × (old.graph.num_runtime_component_instances ≤ limit) × (total < full)
    run_point stands =
        let start = has_begun stands.0 stands.1 in
        let one = start.begun in
        let all = start.stands.world.begun in
        let within = start.within in
        ((start.now, start.stands), omega (arith, one, all), omega (arith, one, all, within), start.below)

    module _ (among : old.bodies.now ≡ bodies) (st : State) (last : ℕ) where
      items_here : (body : Items) → BodyStands bodies no_names root body
          → ItemsStand old.bodies.now no_names root.initializers body
      items_here body stands = subst (λ bs. ItemsStand bs no_names root.initializers body) (sym among) stands.items

      -- its items were read
      pub root_is_read : (g : Frame) → Runs t ms limit root.initializers old f total st last (Ok g)
          → IsRead root last st g
      unfolding Runs EndsRun
      root_is_read g runs body stands =
          let start = has_begun body stands in
          let ends = runs body start.now (items_here body stands) start.stands start.is_total in
          (ends.0, ends.3, ends.2, start.reads ∙ ends.1)

      -- or they weren't
      pub root_unread : (e : Error) → Runs t ms limit root.initializers old f total st last (Err e)
          → SomeFew first st → Each root (λ body. IsRootEnd t ms limit counted body first st e)
      unfolding Runs
      root_unread e runs few body stands =
          let start = has_begun body stands in
          run_fails t ms limit counted body first st few f last (reading_from t ms limit body start.now) e start.reads
          (runs body start.now (items_here body stands) start.stands start.is_total)

  module _ (root : Translation) (total : ℕ) (old : State) (f : Frame) (is_read : IsRead root total old f) where
    -- from here the root can export
    pub export_point : ((body : Items) × BodyStands bodies no_names root body)
        → ((s : Scope) × (w : World) × RootStands t ms old f s w []) × HasNoExports old.graph
    export_point stands =
        let here = is_read stands.0 stands.1 in
        ((here.0.scope, here.0.world, root_stands t ms old f here.0 here.1), here.1.unexported)

    module _ (below : total < full) (first : Types) (st : State) (g : Frame) where
      module _ (body : Items) (s : Scope) (w : World) (is_total : w.total ≡ Some total) (nodes : ℕ)
          (o : Outcome Finish)
          (reads : reading_of t ms limit (Some counted) body
          ≡ and_then (if_room (Some (total + 8 * nodes)) o) finish) where
        -- the reading ends as the exports do, whose nodes leave the total below
        ends_root : total + 8 * nodes < full → HasFew t counted (total + 8 * nodes) first (tables_of st)
            → (r : Result ⊤ Error) → ExportsEnd t ms total st g s w nodes o r
            → InlinesBody t ms limit counted body first st r
        unfolding InlinesBody
        ends_root room few (Ok end) ends =
            root_read t ms limit counted body first st g s w total nodes o
            (reads ∙ ap (λ b. and_then (if b then o else past) finish) (lt-ltb (total + 8 * nodes) full room)) is_total
            few ends
        ends_root room few (Err e) ends =
            exports_fail t ms limit counted body first st (total + 8 * nodes, few) g s w total nodes o room
            (reads ∙ ap (λ b. and_then (if b then o else past) finish) (lt-ltb (total + 8 * nodes) full room)) e ends

        -- or these are too many for it
        past_root : full ≤ total + 8 * nodes → InlinesBody t ms limit counted body first st (Err error.TooMany)
        unfolding InlinesBody
        past_root many =
            inr (inl (ap ending
            (reads ∙ ap (λ b. and_then (if b then o else past) finish) (le-ltb (total + 8 * nodes) full many))))

      -- the root exports, and is instantiated
      pub root_exported : (es : List (ExternName × ItemKind × ℕ)) → es ≡ root.exports → (r : Result ⊤ Error)
          → (all : ExportsAll t ms es total old f st g r)
          → (total + 8 * all.made.nodes < full → HasFew t counted (total + 8 * all.made.nodes) first (tables_of st))
          → InlinesRoot t ms limit counted bodies root first st r
      root_exported es are r all few body stands =
          let here = is_read body stands in
          let now = here.0 in
          let is_total = here.2 in
          let nodes = all.made.nodes in
          let ends = all.made.exports now.scope now.world (ap has_room is_total ∙ lt-ltb total full below)
          (root_stands t ms old f now here.1) in
          let named = ap (map named_item) are ∙ stands.exports in
          let is : root_exports t now.scope (exports_in body) 0 now.world
          ≡ if_room (grown now.world.total (8 * nodes)) ends.0 =
          subst (λ xs. root_exports t now.scope xs 0 now.world
          ≡ if_room (grown now.world.total (8 * nodes)) ends.0) named ends.1 in
          let reads = reading_ends t ms limit counted body now here.3 (if_room (Some (total + 8 * nodes)) ends.0)
          (is ∙ ap (λ k. if_room (grown k (8 * nodes)) ends.0) is_total) in
          elim all.within as (λ _. InlinesBody t ms limit counted body first st r) [
            | inl room ↦
                ends_root body now.scope now.world is_total nodes ends.0 reads room (few room) r ends.2
            | inr many ↦
                subst (InlinesBody t ms limit counted body first st) (sym many.is)
                (past_root body now.scope now.world is_total nodes ends.0 reads many.reaches)
          ]

  -- an error is that of each body
  pub each_ends : (root : Translation) (first : Types) (st : State) (r : Result ⊤ Error) (e : Error)
      → IsErrAnd r (λ x. x ≡ e) → Each root (λ body. IsRootEnd t ms limit counted body first st e)
      → InlinesRoot t ms limit counted bodies root first st r
  unfolding InlinesBody
  each_ends root first st (Ok x) e is each = absurd is
  each_ends root first st (Err x) e is each =
      subst (λ y. Each root (λ body. IsRootEnd t ms limit counted body first st y)) (sym is) each

  -- the error of the beginning is that of the root
  pub begins_fail : (root : Translation) (first : Types) (total : ℕ) (st : State) (r : Result ⊤ Error) (e : Error)
      → IsErrAnd r (λ x. x ≡ e) → Each root (λ body. BeginsBody t ms limit counted body total first st (Err e))
      → InlinesRoot t ms limit counted bodies root first st r
  unfolding BeginsBody
  begins_fail root first total st r e is begins = each_ends root first st r e is begins

-- resource numbers fit a graph without entries, however they are read
all_fit : (g h : ComponentDfg) → g ≡ empty_graph → FitsBefore g h
all_fit g h empty who fits = subst (λ x. Fits x who) (sym empty) (record {
  given = λ n r i at. absurd (none-some r at);
  own = λ n below. absurd (omega (arith, below));
})

-- where nothing was read yet and the graph grew, the tables did
pub graph_keeps : (t : TypeTable) (st : State) → IsFresh t st → (g : ComponentDfg) → graph.Grows st.graph g
    → Keeps (tables_of st) (tables_of (record st { graph = g }))
graph_keeps t st fresh g grows = graph_grown (tables_of st) g grows (all_fit st.graph g fresh.graph)

-- the items of a root that stands for some body
pub root_items : (bodies bodies' : List Translation) → bodies' ≡ bodies → (root : Translation)
    → (ls : List LocalInitializer) → ls ≡ root.initializers
    → ((body : Items) × BodyStands bodies no_names root body) → AreItems bodies' ls
root_items bodies bodies' among root ls is stands = (
  stands.0,
  subst (λ bs. ItemsStand bs no_names ls stands.0) (sym among)
      (subst (λ xs. ItemsStand bodies no_names xs stands.0) (sym is) stands.1.items),
)
