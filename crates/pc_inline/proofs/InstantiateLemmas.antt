-- What a root gives, from what its steps give.
use Rattle.std.proofs.Common.{◌≡◌, ◌<◌, ◌≤◌, ℕ, List, [], length, map, true, Result, Ok, Err, inl, inr, refl, sym}
use Rattle.std.proofs.Common.{subst}
use Rattle.std.specs.Prelude.{⊤}
use Rattle.std.specs.Result.{IsErrAnd}
use Rattle.pc_numbers.specs.declared.runtime.RuntimeComponentInstanceIndex.{RuntimeComponentInstanceIndex}
use Rattle.pc_entity.specs.declared.string_pool.Atom.{Atom}
use Rattle.pc_types.specs.declared.error.Error.{Error}
use Rattle.pc_types.specs.declared.module_record.ModuleRecord.{ModuleRecord}
use Rattle.pc_types.specs.declared.parsed.TypeTable.{TypeTable}
use Rattle.pc_types_lists.specs.Types.{Types}
use Rattle.pc_types_builder.specs.Plain.{Layers}
use Rattle.pc_types_builder.specs.Converted.{AreConverted}
use Rattle.pc_types.specs.Names.{distinct_names}
use Rattle.pc_parsed.specs.declared.payload.ExternName.{ExternName}
use Rattle.pc_parsed.specs.declared.payload.ItemKind.{ItemKind}
use Rattle.pc_spec_reading.specs.Item.{Items}
use Rattle.pc_spec_reading.specs.Scope.{Scope}
use Rattle.pc_spec_reading.specs.World.{World, full}
use Rattle.pc_weights.specs.Weighs.{HasRootWeight}
use Rattle.pc_local.specs.declared.item.LocalInitializer.{LocalInitializer}
use Rattle.pc_local.specs.declared.item.Translation.{Translation}
use Rattle.pc_local.specs.Sound.{AreSoundBodies, IsSoundBody, export_name}
use Rattle.pc_local.specs.Standing.{BodyStands, no_names}
use Rattle.pc_dfg.specs.declared.dfg.ComponentDfg.{ComponentDfg}
use Rattle.pc_dfg.specs.Grows as graph
use Rattle.pc_inline_state.specs.declared.definition.DefinitionId.{DefinitionId}
use Rattle.pc_inline_state.specs.declared.frame.Frame.{Frame}
use Rattle.pc_inline_state.specs.declared.state.State.{State}
use Rattle.pc_inline_state.specs.Adds.{Adds, most_prepared_of}
use Rattle.pc_inline_stack.specs.Begins.{Begins}
use Rattle.pc_inline.specs.Roots.{BeginsBody, BeginsRoot, EndsRoot, HasAtMost, HasFew, RootStarts, first_total}
use Rattle.pc_inline_state.specs.Fresh.{IsFresh}
use Rattle.pc_inline_stack.specs.Driving.{AddsCounted, Runs}
use Rattle.pc_inline_exports.specs.Exporting.{ExportsAll, RootStands}
use Rattle.pc_inline_state.specs.Points.{AreItsNames, IsPoint, PointStands}
use Rattle.pc_inline_stack.specs.Reads.{AreItems, Prepared}
use Rattle.pc_inline_state.specs.Tables.{Keeps, tables_of}
use Rattle.pc_inline_state.specs.Worlds.{HasNoExports}
use Rattle.pc_inline.proofs.FreshLemmas.{first_frame}
use Rattle.pc_inline.proofs.InlineLemmas.{Each, IsRead, SomeFew, begins_end, begins_fail, begun_below, begun_point}
use Rattle.pc_inline.proofs.InlineLemmas.{begun_total, each_ends, export_point, graph_keeps, has_begun, root_begun}
use Rattle.pc_inline.proofs.InlineLemmas.{root_exported, root_is_read, root_items, root_unprepared, root_unread}
use Rattle.pc_inline.proofs.InlineLemmas.{run_point, unbegun}
use Rattle.pc_inline.proofs.RootFewLemmas.{HasRun, begun_graph, begun_none, begun_prepared, few_begun, few_ended}
use Rattle.pc_inline.proofs.RootFewLemmas.{few_exported, few_run, has_run}
use Rattle.pc_inline.proofs.RootLemmas.{first_moment}
use Rattle.pc_inline_state.proofs.StateLemmas.{keeps_trans}

-- what a root exports has distinct names
pub names_distinct : (modules : ℕ) (root : Translation) (es : List (ExternName × ItemKind × ℕ)) → es ≡ root.exports
    → IsSoundBody modules root → distinct_names (map export_name es) ≡ true
names_distinct modules root es are sound =
    subst (λ xs. distinct_names (map export_name xs) ≡ true) (sym are) sound.exports

module _ (t : TypeTable) (ms : List ModuleRecord) (limit : ℕ) (root : Translation) (counted : ℕ) where
  module _ (old : State) (fresh : IsFresh t old) (g : ComponentDfg) (grows : graph.Grows old.graph g) (weight : ℕ)
      (weighs : HasRootWeight t ms root weight) (total : ℕ) where
    abbrev there : State
    there = record old { graph = g }

    -- no root begins
    pub begins_not : (e : Error) → Begins limit weight old.graph g counted total (Err e) → (r : Result Frame Error)
        → IsErrAnd r (λ x. x ≡ e) → BeginsRoot t ms limit root counted total old there r
    begins_not e begins r is =
        let none = begun_graph t old fresh g limit weight counted total (Err e) begins in
        record {
          keeps = graph_keeps t old fresh g grows;
          most = begun_none t old fresh g none (most_prepared_of t root.initializers);
          few = inr (begun_none t old fresh g none 0);
          begins = begins_end t ms limit counted old.bodies.now root old.types total there r e is
              (λ body stands. unbegun t ms limit old fresh g weight counted total body
              (weighs old.bodies.now no_names body stands.items) e begins);
        }

    module _ (c : RuntimeComponentInstanceIndex) (begins : Begins limit weight old.graph g counted total (Ok c))
        (f : Frame) (args : List (Atom × DefinitionId)) (none : args ≡ []) (done : Layers)
        (unconverted : (b : Types) → AreConverted b t done) (is : f ≡ record (first_frame c done) { arguments = args })
        (bodies : AreSoundBodies (length ms) old.bodies.now)
        (names : AreItsNames t ms old.names.now old.bodies.now old.paths.names) where
      at : PointStands t ms there f (first_moment total)
      at =
          begun_point t ms limit old fresh g weight counted total bodies names c begins f args none done unconverted is

      within : 0 < limit
      within = begun_below t ms limit old fresh g weight counted total c begins

      starts : Each t ms limit counted old.bodies.now root (λ body.
          (total ≡ first_total t ms body counted) × (total < full))
      starts body stands =
          begun_total t ms limit old fresh g weight counted total c begins body
          (weighs old.bodies.now no_names body stands.items)

      -- the root has begun, and its imports can be prepared
      pub prepare_point : IsPoint t ms there f
      prepare_point = (first_moment total, at)

      module _ (ls : List LocalInitializer) (are : ls ≡ root.initializers) (st : State) (f' : Frame)
          (keeps : Keeps (tables_of there) (tables_of st))
          (adds : Adds t (most_prepared_of t ls) (tables_of there) (tables_of st))
          (stands : (body : Items) × BodyStands old.bodies.now no_names root body) where
        most : HasAtMost t (most_prepared_of t root.initializers) old.types (tables_of st)
        most =
            begun_prepared t old fresh g (begun_graph t old fresh g limit weight counted total (Ok c) begins) ls
            root.initializers are (tables_of st) adds

        few : HasFew t counted total old.types (tables_of st)
        few =
            let start = starts stands.0 stands.1 in
            few_begun t ms old.bodies.now root old.types counted stands.0 stands.1 total start.0 start.1 (tables_of st)
            most

        begins_with : (r : Result Frame Error)
            → Each t ms limit counted old.bodies.now root (λ body.
            BeginsBody t ms limit counted body total old.types st r)
            → BeginsRoot t ms limit root counted total old st r
        begins_with r each = record {
          keeps = keeps_trans (tables_of old) (tables_of there) (tables_of st) (graph_keeps t old fresh g grows) keeps;
          most = most;
          few = inl (total, few);
          begins = each;
        }

        -- they were
        pub begins_done : (r : ⊤) → Prepared t ms ls there f st f' (Ok r)
            → BeginsRoot t ms limit root counted total old st (Ok f')
        begins_done r prepared =
            begins_with (Ok f')
            (root_begun t ms limit counted old.bodies.now root old.types there f st f' ls are refl within total at
            starts r prepared)

        -- or they weren't
        pub begins_undone : (e : Error) → Prepared t ms ls there f st f' (Err e) → (r : Result Frame Error)
            → IsErrAnd r (λ x. x ≡ e) → BeginsRoot t ms limit root counted total old st r
        begins_undone e prepared r is =
            begins_with r
            (begins_end t ms limit counted old.bodies.now root old.types total st r e is
            (root_unprepared t ms limit counted old.bodies.now root old.types there f st f' ls are refl within total at
            starts e prepared (total, few)))

  -- the error of the beginning is that of the root
  pub root_unbegun : (old st : State) (total : ℕ) (e : Error) → BeginsRoot t ms limit root counted total old st (Err e)
      → (r : Result ⊤ Error) → IsErrAnd r (λ x. x ≡ e) → EndsRoot t ms limit root counted old st r
  root_unbegun old st total e begun r is = record {
    keeps = begun.keeps;
    few = begun.few;
    inlines = begins_fail t ms limit counted old.bodies.now root old.types total st r e is begun.begins;
  }

  module _ (old st : State) (f : Frame) (first : ℕ) (begun : BeginsRoot t ms limit root counted first old st (Ok f))
      (stands : (body : Items) × BodyStands old.bodies.now no_names root body) where
    start : RootStarts t ms limit counted stands.0 first st f
    start =
        has_begun t ms limit counted old.bodies.now root old.types first st f begun.begins stands.0 stands.1

    -- its items can be read
    pub run_starts : IsPoint t ms st f × AreItems st.bodies.now root.initializers
        × (0 < st.graph.num_runtime_component_instances) × (st.graph.num_runtime_component_instances ≤ limit)
        × (first < full)
    run_starts =
        let here = run_point t ms limit counted old.bodies.now root old.types first st f begun.begins stands in
        let items = root_items old.bodies.now st.bodies.now begun.keeps.bodies root root.initializers refl stands in
        (here.0, items, here.1, here.2, here.3)

    module _ (st' : State) (total : ℕ) (keeps : Keeps (tables_of st) (tables_of st'))
        (adds : AddsCounted t root.initializers first total st st') where
      kept : Keeps (tables_of old) (tables_of st')
      kept = keeps_trans (tables_of old) (tables_of st) (tables_of st') begun.keeps keeps

      run : HasRun t ms old.bodies.now root old.types counted total (tables_of st')
      run =
          has_run t ms old.bodies.now root old.types counted stands.0 stands.1 first start.is_first st st' begun.most
          total adds

      ran : SomeFew t ms limit counted old.bodies.now old.types st'
      ran = (total, few_run t ms old.bodies.now root old.types counted total (tables_of st') run)

      -- one of them is refused
      pub root_undone : (e : Error) → Runs t ms limit root.initializers st f first st' total (Err e)
          → (r : Result ⊤ Error) → IsErrAnd r (λ x. x ≡ e) → EndsRoot t ms limit root counted old st' r
      root_undone e runs r is = record {
        keeps = kept;
        few = inl ran;
        inlines = each_ends t ms limit counted old.bodies.now root old.types st' r e is
            (root_unread t ms limit counted old.bodies.now root old.types first st f begun.begins begun.keeps.bodies st'
            total e runs ran);
      }

      module _ (g : Frame) (runs : Runs t ms limit root.initializers st f first st' total (Ok g)) where
        is_read : IsRead t ms limit counted old.bodies.now root total st' g
        is_read =
            root_is_read t ms limit counted old.bodies.now root old.types first st f begun.begins begun.keeps.bodies st'
            total g runs

        -- they were, and the root can export
        pub export_starts : ((s : Scope) × (w : World) × RootStands t ms st' g s w []) × HasNoExports st'.graph
        export_starts = export_point t ms limit counted old.bodies.now root total st' g is_read stands

        -- it exports
        pub root_done : (es : List (ExternName × ItemKind × ℕ)) → es ≡ root.exports → (end : State) (g' : Frame)
            (r : Result ⊤ Error) → ExportsAll t ms es total st' g end g' r → EndsRoot t ms limit root counted old end r
        root_done es are end g' r all = record {
          keeps = keeps_trans (tables_of old) (tables_of st') (tables_of end) kept all.made.keeps;
          few = few_ended t ms old.bodies.now root old.types counted total st' g run es are end g' r all;
          inlines = root_exported t ms limit counted old.bodies.now root total st' g is_read adds.below old.types end g'
              es are r all
              (few_exported t ms old.bodies.now root old.types counted total st' g run es are end g' r all);
        }
