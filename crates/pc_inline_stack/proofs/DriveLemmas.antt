-- The moves of a driver of component instances, from where it begins to where it ends.
use Rattle.std.proofs.Common.{◌≡◌, ◌<◌, ◌≤◌, ◌-◌, ℕ, List, [], None, Some, Result, Ok, Err, length, refl, reverse}
use Rattle.std.proofs.Common.{sym, ap, subst, ◌∙◌, arith}
use Rattle.std.specs.Result.{IsErrAnd}
use Rattle.pc_types.specs.declared.error.Error.{Error}
use Rattle.pc_types.specs.declared.error.Error.TheVariants as error
use Rattle.pc_types.specs.declared.module_record.ModuleRecord.{ModuleRecord}
use Rattle.pc_types.specs.declared.parsed.TypeTable.{TypeTable}
use Rattle.pc_spec_reading.specs.Item.{Items}
use Rattle.pc_spec_reading.specs.Outcome.{Outcome, done}
use Rattle.pc_spec_reading.specs.Reading.{enter_at, read_items}
use Rattle.pc_spec_reading.specs.Scope.{Moment}
use Rattle.pc_spec_reading.specs.World.{full}
use Rattle.pc_local.specs.declared.item.Translation.{Translation}
use Rattle.pc_local.specs.Standing.{ItemsStand, no_names}
use Rattle.pc_inline_stack.specs.declared.driver.Open.{Open}
use Rattle.pc_inline_state.specs.declared.frame.Frame.{Frame}
use Rattle.pc_inline_state.specs.declared.state.State.{State}
use Rattle.pc_inline_state.specs.Adds.{most_of_items}
use Rattle.pc_inline_stack.specs.Driving.{AddsCounted, EndsRun, Runs, reading_from}
use Rattle.pc_inline_state.specs.Points.{IsPoint, PointStands}
use Rattle.pc_inline_stack.specs.Reads.{AreItems}
use Rattle.pc_inline_stack.specs.Stacks.{AllStand, Driven, Failed, Fails, Reached, all_most_left, child_stands}
use Rattle.pc_inline_stack.specs.Stacks.{items_of, reads_on, resume, root_stands}
use Rattle.pc_inline_stack.specs.Stacks.{Reader, Waiting}
use Rattle.pc_inline_state.specs.Tables.{tables_of}
use Rattle.pc_inline_state.proofs.AddsLemmas.{adds_refl}
use Rattle.pc_inline_stack.proofs.EnclosedLemmas.{root_enclosed}
use Rattle.pc_inline_stack.proofs.MoveLemmas.{reached_point}
use Rattle.pc_inline_stack.proofs.ReadLemmas.{none_left}
use Rattle.pc_inline_stack.proofs.ResumeLemmas.{root_ends}
use Rattle.pc_inline_state.proofs.StateLemmas.{keeps_refl}

module _ (t : TypeTable) (ms : List ModuleRecord) (limit : ℕ) (root : Translation) where
  module _ (old : State) (f : Frame) (counted : ℕ) (point : IsPoint t ms old f)
      (are : AreItems old.bodies.now root.initializers) where
    abbrev counting : Moment → Moment
    counting now = record now { world = record now.world { total = Some counted } }

    counting_point : (now : Moment) → PointStands t ms old f now → PointStands t ms old f (counting now)
    counting_point now at = record {
      sound = at.sound;
      here = at.here;
      converted = at.converted;
      frame = at.frame;
      world = record {
        effects = at.world.effects;
        order = at.world.order;
        are_declared = at.world.are_declared;
        trampolines = at.world.trampolines;
        few_trampolines = at.world.few_trampolines;
        import_types = at.world.import_types;
        imports = at.world.imports;
        imported_resources = at.world.imported_resources;
        resources_apart = at.world.resources_apart;
        resources = at.world.resources;
        intrinsics = at.world.intrinsics;
        adapters = at.world.adapters;
        begun = at.world.begun;
      };
      unexported = at.unexported;
    }

    -- the root, of which nothing was read
    abbrev pub root_open : Open
    root_open = record { frame = f; closure = None; body = None; next = 0 }

    root_reached : (is : Items) (first : Moment) → ItemsStand old.bodies.now no_names root.initializers is
        → PointStands t ms old f first → first.world.total ≡ Some counted
        → Reached t ms limit root is first old [] root_open counted
    unfolding resume
    root_reached is first stand at some = record {
      waiting = [];
      reader = record { scope = first.scope; names = no_names; body = is };
      world = first.world;
      is_total = some;
      sound = at.sound;
      world_stands = at.world;
      unexported = at.unexported;
      all = root_stands (record {
        frame = at.frame;
        here = at.here;
        converted = at.converted;
        enclosed = root_enclosed ms (tables_of old) first.scope.chain;
        closed = λ k is. let x : ⊥ = cc in absurd x;
        items = stand;
      });
      same =
          let whole : limit - 0 ≡ limit = omega arith in
          ap (λ l. read_items t ms (enter_at t ms limit l) 0 is first) whole;
    }

    -- what is left of the root is all that its items add
    root_left : all_most_left t old.bodies.now root [] root_open ≡ most_of_items t root.initializers
    root_left = omega arith

    -- nothing was read yet, and the names are those of the root
    driven_alone : old.names.now.root ≡ root → 0 < old.graph.num_runtime_component_instances
        → old.graph.num_runtime_component_instances ≤ limit → counted < full
        → Driven t ms limit root old f counted old [] root_open counted
    driven_alone rooted begun within below =
        let left = root_left in
        record {
          added = 0;
          keeps = keeps_refl (tables_of old);
          adds = adds_refl t 0 (tables_of old);
          grew = (below, omega (arith, left));
          deep = begun;
          within = within;
          starts = record {
            items = are.0;
            first = counting point.0;
            stand = are.1;
            at = counting_point point.0 point.1;
            is_total = refl;
            rooted = rooted;
          };
          reads = root_reached;
        }

    -- when none waits yet
    pub driven_first : old.names.now.root ≡ root → 0 < old.graph.num_runtime_component_instances
        → old.graph.num_runtime_component_instances ≤ limit → counted < full → (waiting : List Open) → waiting ≡ []
        → Driven t ms limit root old f counted old (reverse waiting) root_open counted
    driven_first rooted begun within below waiting none =
        subst (λ ks. Driven t ms limit root old f counted old (reverse ks) root_open counted) (sym none)
        (driven_alone rooted begun within below)

  module _ (old : State) (f : Frame) (counted : ℕ) (st : State) where
    fails_ends : (total : ℕ) (o : Outcome Moment) (e : Error) → Fails t ms limit root st f o e
        → EndsRun t ms limit st f total o (Err e)
    unfolding Fails EndsRun
    fails_ends total o error.TooMany fails = fails
    fails_ends total o e fails = fails

    module _ (total : ℕ) (e : Error) (failed : Failed t ms limit root old f counted st total e) where
      -- no more was added than is counted
      pub failed_adds : AddsCounted t root.initializers counted total old st
      failed_adds =
          let few = failed.grew.1 in
          record {
            added = failed.added;
            adds = failed.adds;
            few = omega (arith, few);
            below = failed.grew.0;
          }

      failed_runs : Runs t ms limit root.initializers old f counted st total (Err e)
      unfolding Runs
      failed_runs is now stand at some =
          fails_ends total (reading_from t ms limit is now) e (failed.reads is now stand at some)

      -- the reading ends with the error
      pub run_fails : (r : Result Frame Error) → IsErrAnd r (λ x. x ≡ e)
          → Runs t ms limit root.initializers old f counted st total r
      run_fails (Ok x) is = absurd is
      run_fails (Err x) is =
          subst (λ y. Runs t ms limit root.initializers old f counted st total (Err y)) (sym is) failed_runs

    module _ (o : Open) (total : ℕ) (driven : Driven t ms limit root old f counted st [] o total)
        (end : length (items_of st.bodies.now root o) ≤ o.next) where
      root_done : (is : Items) (first : Moment) (x : Reached t ms limit root is first st [] o total)
          → (last : Moment) × (reading_from t ms limit is first ≡ done last) × (last.world.total ≡ Some total)
          × PointStands t ms st o.frame last
      root_done is first x =
          by [] o x.waiting x.reader x.all refl refl x.same
          (reached_point t ms limit root is first st [] o total x)
        where
          by : (ks : List Open) (p : Open) (ws : List Waiting) (r : Reader)
              → AllStand t ms st.bodies.now root (tables_of st) st.types.resources ks p ws r → ks ≡ [] → p ≡ o
              → reads_on t ms limit ws r o.next x.world ≡ reading_from t ms limit is first
              → PointStands t ms st o.frame (record { scope = r.scope; world = x.world })
              → (last : Moment) × (reading_from t ms limit is first ≡ done last) × (last.world.total ≡ Some total)
              × PointStands t ms st o.frame last
          by ks p ws r (root_stands h) none same reads at = (
            record { scope = r.scope; world = x.world },
            sym reads ∙ root_ends t ms limit r o.next x.world (none_left st.bodies.now r.names
                (items_of st.bodies.now root o) r.body o.next end
                (subst (λ q. ItemsStand st.bodies.now r.names (items_of st.bodies.now root q) r.body) same h.items)),
            x.is_total,
            at,
          )
          by ks p ws r (child_stands h has caller waits all) none same reads at = let y : ⊥ = cc in absurd y

      -- the root has ended where the reading has
      driven_runs : Runs t ms limit root.initializers old f counted st total (Ok o.frame)
      unfolding Runs EndsRun
      driven_runs is now stand at some = root_done is now (driven.reads is now stand at some)

  module _ (old : State) (f : Frame) (counted : ℕ) (st : State) (ks : List Open) (o : Open) (total : ℕ)
      (driven : Driven t ms limit root old f counted st ks o total) where
    -- no more was added than is counted
    pub run_adds : AddsCounted t root.initializers counted total old st
    run_adds =
        let few = driven.grew.1 in
        record {
          added = driven.added;
          adds = driven.adds;
          few = omega (arith, few);
          below = driven.grew.0;
        }

    -- the root is where the reading has ended
    pub run_ends : ks ≡ [] → length (items_of st.bodies.now root o) ≤ o.next
        → Runs t ms limit root.initializers old f counted st total (Ok o.frame)
    run_ends none end =
        driven_runs old f counted st o total
        (subst (λ k. Driven t ms limit root old f counted st k o total) none driven) end
