-- A child begins on a stack of component instances, or the item that begins it is refused.
use Rattle.std.proofs.Common.{◌≡◌, ◌<◌, ◌≤◌, ◌+◌, ◌*◌, ℕ, suc, true, false, Bool, List, [], ◌∷◌, Option, Some, Result}
use Rattle.std.proofs.Common.{Ok, Err, length, map, refl, sym, ap, subst, ◌∙◌, arith}
use Rattle.std.specs.Prelude.{slice_get, nat_lt, unwrap_or}
use Rattle.pc_entity.specs.Lists.{value_of}
use Rattle.pc_inline_state.specs.declared.definition.ClosureId.{ClosureId}
use Rattle.pc_local.specs.Plain.{plain_item}
use Rattle.pc_spec_reading.specs.Reading.{beginning}
use Rattle.std.proofs.lemmas.Bool.{le-ltb, lt-ltb}
use Rattle.std.proofs.lemmas.Option.{same_Some, slice_get_within}
use Rattle.pc_numbers.specs.declared.runtime.RuntimeComponentInstanceIndex.{RuntimeComponentInstanceIndex}
use Rattle.pc_types.specs.declared.error.Place.TheVariants as place
use Rattle.pc_types.specs.declared.module_record.ModuleRecord.{ModuleRecord}
use Rattle.pc_types.specs.declared.parsed.TypeTable.{TypeTable}
use Rattle.pc_types_builder.specs.Plain.{Layers}
use Rattle.pc_types_builder.specs.Converted.{AreConverted}
use Rattle.pc_types_lists.specs.Types.{Resources}
use Rattle.pc_parsed.specs.declared.payload.ItemKind.{ItemKind}
use Rattle.pc_spec_reading.specs.Item.{ArgumentOf, Items, and_item, exports_in, instantiate_component_item}
use Rattle.pc_spec_reading.specs.Outcome.{Fault, fault, over, past}
use Rattle.pc_spec_reading.specs.Scope.{Moment}
use Rattle.pc_spec_reading.specs.Section.{argument_of, named_item}
use Rattle.pc_spec_reading.specs.Total.{body_weight}
use Rattle.pc_spec_reading.specs.World.{full, grown, has_room}
use Rattle.pc_local.specs.declared.item.LocalInitializer.TheVariants as local
use Rattle.pc_local.specs.declared.item.Translation.{Translation}
use Rattle.pc_local.specs.Standing.{ItemsStand}
use Rattle.pc_dfg.specs.declared.dfg.ComponentDfg.{ComponentDfg}
use Rattle.pc_dfg.specs.Grows as graph
use Rattle.pc_dfg.specs.Ordered.{IsOrdered}
use Rattle.pc_inline_names.specs.Numbers.{numbered_value}
use Rattle.pc_inline_stack.specs.declared.driver.Call.{Call}
use Rattle.pc_inline_stack.specs.declared.driver.Open.{Open}
use Rattle.pc_inline_state.specs.declared.error.ItemError.{ItemError}
use Rattle.pc_inline_state.specs.declared.error.ItemError.TheVariants as item_error
use Rattle.pc_inline_state.specs.declared.frame.Frame.{Frame}
use Rattle.pc_inline_state.specs.declared.state.State.{State}
use Rattle.pc_types_lists.specs.Adds.{most_types}
use Rattle.pc_inline_state.specs.Adds.{most_of_items, types_among}
use Rattle.pc_inline_stack.specs.Begins.{Begins, converting_for}
use Rattle.pc_inline_stack.specs.Calls.{CallFollows, CallReads, Calls, Stays}
use Rattle.pc_inline_stack.specs.Driving.{reading_from}
use Rattle.pc_inline_state.specs.Faults.{error_of, fault_of}
use Rattle.pc_inline_stack.specs.Reads.{Ends, items_from}
use Rattle.pc_inline_state.specs.Points.{PointStands}
use Rattle.pc_inline_stack.specs.Stacks.{AllStand, CallerStands, Fails, Grew, OpenStands, Reached, Reader}
use Rattle.pc_inline_stack.specs.Stacks.{Waiting, Waits, all_most_left, body_at, child_stands, items_of, reads_on}
use Rattle.pc_inline_stack.specs.Stacks.{types_exported}
use Rattle.pc_inline_state.specs.Stands.{Stands}
use Rattle.pc_inline_state.specs.Tables.{Keeps, tables_of}
use Rattle.pc_inline_stack.proofs.BegunLemmas.{begun_graph, begun_keeps, begun_sound, begun_stands, begun_unexported}
use Rattle.pc_inline_stack.proofs.CurrentLemmas.{current_keeps, current_sound, current_world}
use Rattle.pc_inline_stack.proofs.EnclosedLemmas.{enclosed_kept}
use Rattle.pc_inline_canon.proofs.KeptLemmas.{stands_kept}
use Rattle.pc_inline_items.proofs.LocalLemmas.{plain_is}
use Rattle.pc_inline_stack.proofs.LeftLemmas.{most_child}
use Rattle.pc_inline_stack.proofs.MoveLemmas.{ends_fault, fails_so, point_of, reached_point, this_item, top_open}
use Rattle.pc_inline_stack.proofs.ResumeLemmas.{begins, begins_over, begins_past, call_refused, child_begins}
use Rattle.pc_inline_stack.proofs.ResumeLemmas.{child_of}
use Rattle.pc_inline_stack.proofs.ResumeLemmas.{waits_at}
use Rattle.pc_inline_stack.proofs.StackLemmas.{all_kept, as_deep, top_goes, top_stands}
use Rattle.pc_inline_stack.proofs.WeightLemmas.{most_of_body, types_named}
use Rattle.pc_inline_state.proofs.KnowsLemmas.{knows_grown}
use Rattle.pc_inline_state.proofs.StateLemmas.{keeps_trans}
use Rattle.pc_inline_state.proofs.TrailLemmas.{trails_same}
use Rattle.pc_inline_state.proofs.ZipLemmas.{both_more}
use Rattle.pc_spec_reading.specs.Components.{read_call}

-- a child of which nothing was read, with what was converted for it
abbrev pub child_open : Call → RuntimeComponentInstanceIndex → Layers → Open
child_open call c done = record {
  frame = record {
    core_funcs = [];
    memories = [];
    tables = [];
    globals = [];
    tags = [];
    modules = [];
    funcs = [];
    components = [];
    instances = [];
    core_instances = [];
    arguments = call.arguments;
    component_instance = c;
    converted = done;
    changes = [];
  };
  closure = Some call.closure;
  body = Some call.body;
  next = 0;
}

-- what the types among arguments add at the most
abbrev pub for_arguments : TypeTable → List (List ℕ × ItemKind × ℕ) → ℕ
for_arguments t args = types_among args * (1 + most_types t)

-- the total grows by what a child weighs
grew_child : (counted total weight added converted left more next count : ℕ) → more ≤ weight
    → converted + next ≡ left + more → total + (1 + weight) < full → Grew counted total added left count
    → Grew counted (total + (1 + weight)) (added + (converted + 1)) next count
grew_child counted total weight added converted left more next count heavy same below h =
    let few = h.1 in (below, omega (arith, few, heavy, same))

-- what items and exports add weighs no more where they are these
heavy : (items types its those one weight : ℕ) → items ≡ its → types ≡ those → its + those * one ≤ weight
    → items + types * one ≤ weight
heavy items types its those one weight same given le =
    subst (λ n. n + types * one ≤ weight) (sym same) (subst (λ n. its + n * one ≤ weight) (sym given) le)

module _ (t : TypeTable) (ms : List ModuleRecord) (limit : ℕ) (root : Translation) (is : Items) (first : Moment)
    (st : State) (ks : List Open) (o : Open) (total : ℕ) (x : Reached t ms limit root is first st ks o total)
    (component : ℕ) (args : List (List ℕ × ItemKind × ℕ)) (ty : ℕ)
    (at : slice_get (items_of st.bodies.now root o) o.next ≡ Some (local.ComponentInstantiate component args ty)) where
  abbrev here : Moment
  here = point_of t ms limit root is first st ks o total x

  abbrev the_args : List ArgumentOf
  the_args = map argument_of args

  abbrev converting : ℕ
  converting = for_arguments t args

  -- the item that it reads is the instantiation
  this_call : items_from o.next x.reader.body
      ≡ and_item (instantiate_component_item component the_args ty) (items_from (suc o.next) x.reader.body)
  unfolding plain_item
  this_call =
      let i = this_item t ms limit root is first st ks o total x (local.ComponentInstantiate component args ty) at in
      i.2 ∙ ap (λ j. and_item j (items_from (suc o.next) x.reader.body))
      (sym (plain_is st.bodies.now x.reader.names (local.ComponentInstantiate component args ty)
      (instantiate_component_item component the_args ty) i.0 refl i.1))

  pub call_follows : (st' : State) (r : Result Call ItemError) → Calls t ms component the_args ty st o.frame st' r
      → CallFollows t ms st' ty (read_call t x.reader.scope component the_args ty) r
  unfolding Calls
  call_follows st' r calls = calls here (reached_point t ms limit root is first st ks o total x)

  refused : (k : Fault) → read_call t x.reader.scope component the_args ty ≡ Err k
      → reading_from t ms limit is first ≡ fault k (place.Reading x.reader.scope.component_instance o.next)
  refused k stuck =
      sym x.same
      ∙ call_refused t ms limit x.waiting x.reader o.next x.world component the_args ty this_call k stuck

  call_ends : (st' : State) (f : Frame) (e : ItemError)
      → CallFollows t ms st' ty (read_call t x.reader.scope component the_args ty) (Err e)
      → Ends t ms st' f (reading_from t ms limit is first)
      (Err (error_of e (place.Reading o.frame.component_instance.0 o.next)))
  unfolding CallFollows Ends
  call_ends st' f (item_error.Fault k) follows =
      ends_fault t ms st' f (reading_from t ms limit is first) k (place.Reading o.frame.component_instance.0 o.next)
      (refused (fault_of k) follows ∙ ap (λ n. fault (fault_of k) (place.Reading n o.next))
      (top_open t ms limit root is first st ks o total x).frame.component_instance)
  call_ends st' f item_error.TooMany follows = follows
  call_ends st' f item_error.NoMemory follows = tt

  -- the item is refused
  pub call_fails : (st' : State) (f : Frame) (e : ItemError) → Calls t ms component the_args ty st o.frame st' (Err e)
      → Fails t ms limit root st' f (reading_from t ms limit is first)
      (error_of e (place.Reading o.frame.component_instance.0 o.next))
  call_fails st' f e calls =
      fails_so t ms limit root st' f (reading_from t ms limit is first)
      (error_of e (place.Reading o.frame.component_instance.0 o.next))
      (call_ends st' f e (call_follows st' (Err e) calls))

  module _ (st' : State) (g : Frame) (keeps : Keeps (tables_of st) (tables_of st'))
      (frame : g ≡ record o.frame { converted = g.converted }) (known : st'.types.resources ≡ st.types.resources)
      (stays : Stays t ms st o.frame st' g) where
    pub stays_here : PointStands t ms st' g here
    unfolding Stays
    stays_here = stays here (reached_point t ms limit root is first st ks o total x)

    pub all_here : AllStand t ms st.bodies.now root (tables_of st') st'.types.resources ks (record o { frame = g })
        x.waiting
        x.reader
    all_here =
        let all = all_kept t ms st.bodies.now root (tables_of st) (tables_of st') keeps st.types.resources ks o
        x.waiting
        x.reader x.all in
        let old = top_stands t ms st.bodies.now root (tables_of st') st.types.resources ks o x.waiting x.reader all in
        top_goes t ms st.bodies.now root (tables_of st') st.types.resources st'.types.resources ks o x.waiting x.reader
        g
        o.next x.reader.scope (trails_same o.frame.changes st.types.resources g.changes st'.types.resources
        (ap (λ (h : Frame). h.changes) frame) known) all
        (record {
          frame = stays_here.frame;
          here = stays_here.here;
          converted = stays_here.converted;
          enclosed = old.enclosed;
          closed = old.closed;
          items = old.items;
        })

    -- the types among the arguments were converted, and nothing was read
    abbrev pub call_reached : Reached t ms limit root is first st' ks (record o { frame = g }) total
    call_reached = record {
      waiting = x.waiting;
      reader = x.reader;
      world = x.world;
      is_total = x.is_total;
      sound = stays_here.sound;
      world_stands = stays_here.world;
      unexported = stays_here.unexported;
      all = subst (λ bs. AllStand t ms bs root (tables_of st') st'.types.resources ks (record o { frame = g }) x.waiting
          x.reader) (sym keeps.bodies) all_here;
      same = x.same;
    }

  module _ (call : Call)
      (reads_call : CallReads t ms (tables_of st) ty (read_call t x.reader.scope component the_args ty) call) where
    abbrev waiting_now : List Waiting
    waiting_now = waits_at x.reader o.next ty ∷ x.waiting

    -- the reading goes into the child, where there is room
    child_reading : length ks < limit → reading_from t ms limit is first
        ≡ beginning limit (body_weight t ms reads_call.stands.body) x.world
        (reads_on t ms limit waiting_now (child_of x.reader x.world reads_call.read reads_call.stands.names
        reads_call.stands.body reads_call.stands.chain) 0)
    child_reading deep =
        let c = reads_call in
        let same = as_deep t ms st.bodies.now root (tables_of st) st.types.resources ks o x.waiting x.reader x.all in
        sym x.same ∙ child_begins t ms limit x.waiting x.reader o.next x.world component the_args ty this_call
        c.read c.done c.stands.names c.stands.body c.stands.chain c.stands.is (omega (arith, deep, same))

    -- as many as the limit have begun
    pub child_over : length ks < limit → limit ≤ st.graph.num_runtime_component_instances
        → reading_from t ms limit is first ≡ over
    child_over deep above =
        let begun = x.world_stands.begun in
        child_reading deep ∙ begins_over limit (body_weight t ms reads_call.stands.body) x.world
        (reads_on t ms limit waiting_now (child_of x.reader x.world reads_call.read reads_call.stands.names
        reads_call.stands.body reads_call.stands.chain) 0) (le-ltb x.world.begun limit (omega (arith, begun, above)))

    -- whether the total has room for the child
    room_for : (b : Bool) → nat_lt (total + (1 + body_weight t ms reads_call.stands.body)) full ≡ b
        → has_room (grown x.world.total (1 + body_weight t ms reads_call.stands.body)) ≡ b
    room_for b is = ap (λ n. has_room (grown n (1 + body_weight t ms reads_call.stands.body))) x.is_total ∙ is

    begun_below : st.graph.num_runtime_component_instances < limit → nat_lt x.world.begun limit ≡ true
    begun_below below =
        let begun = x.world_stands.begun in lt-ltb x.world.begun limit (omega (arith, below, begun))

    -- the total would be full
    pub child_past : length ks < limit → st.graph.num_runtime_component_instances < limit
        → full ≤ total + (1 + body_weight t ms reads_call.stands.body) → reading_from t ms limit is first ≡ past
    child_past deep below crowded =
        child_reading deep ∙ begins_past limit (body_weight t ms reads_call.stands.body) x.world
        (reads_on t ms limit waiting_now (child_of x.reader x.world reads_call.read reads_call.stands.names
        reads_call.stands.body reads_call.stands.chain) 0) (begun_below below)
        (room_for false (le-ltb (total + (1 + body_weight t ms reads_call.stands.body)) full crowded))

    child_translation : body_at st.bodies.now root (Some call.body) ≡ reads_call.stands.translation
    child_translation = ap (λ (y : Option Translation). unwrap_or y root) reads_call.stands.there

    child_body : (body_at st.bodies.now root (Some call.body)).initializers
        ≡ reads_call.stands.translation.initializers
    child_body = ap (λ (tr : Translation). tr.initializers) child_translation

    -- what the items of the child add at the most, and its exports when it ends
    abbrev most_begun : ℕ
    most_begun =
        let tr = body_at st.bodies.now root (Some call.body) in
        most_of_items t tr.initializers + types_among tr.exports * (1 + most_types t)

    -- it weighs no more than the body
    most_weighs : most_begun ≤ body_weight t ms reads_call.stands.body
    most_weighs =
        let s = reads_call.stands in
        let tr = body_at st.bodies.now root (Some call.body) in
        let most = most_of_body t ms st.bodies.now s.names s.translation.initializers s.body s.stands.items in
        let given : types_among tr.exports ≡ types_exported (exports_in s.body) =
        ap (λ (tr : Translation). types_among tr.exports) child_translation
        ∙ types_named s.translation.exports ∙ ap types_exported s.stands.exports in
        heavy (most_of_items t tr.initializers) (types_among tr.exports) (most_of_items t s.translation.initializers)
        (types_exported (exports_in s.body)) (1 + most_types t) (body_weight t ms s.body)
        (ap (most_of_items t) child_body) given (omega (arith, most))

    -- so the total grows by no less than it
    pub child_grew : (c : RuntimeComponentInstanceIndex) (done : Layers) (counted added count : ℕ)
        → total + (1 + body_weight t ms reads_call.stands.body) < full
        → Grew counted total added (all_most_left t st.bodies.now root ks o) count
        → Grew counted (total + (1 + body_weight t ms reads_call.stands.body)) (added + (converting + 1))
        (all_most_left t st.bodies.now root (o ∷ ks) (child_open call c done)) count
    child_grew c done counted added count below grew =
        let child = child_open call c done in
        grew_child counted total (body_weight t ms reads_call.stands.body) added converting
        (all_most_left t st.bodies.now root ks o) most_begun (all_most_left t st.bodies.now root (o ∷ ks) child) count
        most_weighs (most_child t st.bodies.now root ks o component args ty at child call.body refl refl) below grew

    module _ (c : RuntimeComponentInstanceIndex) (g : ComponentDfg) (weight total' : ℕ)
        (begins_so : Begins limit weight st.graph g total total' (Ok c))
        (grows : graph.Grows st.graph (begun_graph st.graph)) (done : Layers)
        (none : (r : Resources) → AreConverted (record st.types { resources = r }) t done) where
      abbrev st_begun : State
      st_begun = record st { graph = begun_graph st.graph }

      abbrev known_now : Resources
      known_now = (converting_for st.types c).resources

      abbrev st_now : State
      st_now = record st { graph = begun_graph st.graph; types = converting_for st.types c }

      keeps_now : Keeps (tables_of st) (tables_of st_now)
      keeps_now =
          keeps_trans (tables_of st) (tables_of st_begun) (tables_of st_now) (begun_keeps st grows)
          (current_keeps (tables_of st_begun) known_now)

      abbrev reader_now : Reader
      reader_now = child_of x.reader x.world reads_call.read reads_call.stands.names reads_call.stands.body
          reads_call.stands.chain

      child_open_stands : c.0 ≡ st.graph.num_runtime_component_instances
          → OpenStands t ms st.bodies.now root (tables_of st_now) st_now.types.resources (child_open call c done)
          reader_now
      child_open_stands number =
          let s = reads_call.stands in
          let begun = x.world_stands.begun in
          let knows = knows_grown st.graph st.types.resources x.reader.scope
          (top_open t ms limit root is first st ks o total x).here st_now.graph keeps_now.fits in
          record {
            frame = record {
              core_funcs = tt;
              memories = tt;
              tables = tt;
              globals = tt;
              tags = tt;
              modules = tt;
              funcs = tt;
              core_instances = tt;
              instances = tt;
              components = tt;
              arguments = λ n name is. both_more (Stands ms (tables_of st)) (Stands ms (tables_of st_now))
                  (stands_kept ms (tables_of st) (tables_of st_now) keeps_now) (numbered_value n call.arguments)
                  (value_of name reads_call.read.arguments) (s.arguments n name is);
              component_instance = begun ∙ sym number;
              begun = omega (arith, number);
            };
            here = record { known = knows.known; current = number ∙ sym begun };
            converted = none known_now;
            enclosed = enclosed_kept ms (tables_of st) (tables_of st_now) keeps_now s.names (Some call.closure) s.chain
                (s.closure, s.captured) s.enclosed;
            closed = λ k same. (
              s.closure,
              subst (λ (j : ClosureId). slice_get st.closures j.0 ≡ Some s.closure)
                  (same_Some call.closure k same) s.captured,
            );
            items = subst (λ ls. ItemsStand st.bodies.now s.names ls s.body) (sym child_body) s.stands.items;
          }

      caller_stands : CallerStands t ms st.bodies.now root o (waits_at x.reader o.next ty)
      caller_stands = record {
        item = refl;
        is_typed = reads_call.is_typed;
        component = component;
        arguments = args;
        there = at;
        at = this_call;
      }

      -- with the resources of now it goes on
      caller_waits : Waits st_now.types.resources (child_open call c done).frame o.frame st.types.resources
      caller_waits =
          let top = top_open t ms limit root is first st ks o total x in
          let number : st.types.resources.current.0 ≡ o.frame.component_instance.0 =
          top.here.current ∙ top.frame.component_instance in
          record { known = λ n. refl; current = λ i. record { 0 = number i } }

      unfold_begins : (st.graph.num_runtime_component_instances < limit)
          × (c.0 ≡ st.graph.num_runtime_component_instances) × (g ≡ begun_graph st.graph)
          × (IsOrdered st.graph → IsOrdered g)
      unfolding Begins
      unfold_begins = (begins_so.0, begins_so.1, begins_so.2, begins_so.3)

      child_now : length ks < limit → total + (1 + body_weight t ms reads_call.stands.body) < full
          → Reached t ms limit root is first st_now (o ∷ ks) (child_open call c done)
          (total + (1 + body_weight t ms reads_call.stands.body))
      child_now deep room =
          let b = unfold_begins in
          let s = reads_call.stands in
          let weighs = body_weight t ms s.body in
          let grows_to = grown x.world.total (1 + weighs) in
          record {
            waiting = waiting_now;
            reader = reader_now;
            world = record x.world { begun = x.world.begun + 1; total = grows_to };
            is_total = ap (λ n. grown n (1 + weighs)) x.is_total;
            sound = current_sound t ms st_begun known_now
                (begun_sound t ms st grows (subst (λ h. IsOrdered st.graph → IsOrdered h) b.2 b.3) x.sound);
            world_stands = current_world st.types st_begun.graph known_now _
                (begun_stands st.graph grows st.types x.world grows_to x.world_stands);
            unexported = begun_unexported st.graph grows x.unexported;
            all = child_stands (child_open_stands b.1)
                (record {
                  index = call.body;
                  there = slice_get_within st.bodies.now call.body.0 s.translation s.there;
                  is = refl;
                  exports = ap (λ (tr : Translation). map named_item tr.exports) child_translation
                      ∙ s.stands.exports;
                })
                caller_stands caller_waits (all_kept t ms st.bodies.now root (tables_of st)
                (tables_of st_now) keeps_now st.types.resources ks o x.waiting x.reader x.all);
            same = sym (begins limit weighs x.world (reads_on t ms limit waiting_now reader_now 0) (begun_below b.0)
                (room_for true (lt-ltb (total + (1 + weighs)) full room)))
                ∙ sym (child_reading deep);
          }

      -- the child is read
      pub child_reached : length ks < limit → total + (1 + body_weight t ms reads_call.stands.body) < full
          → Reached t ms limit root is first (record st { graph = g; types = converting_for st.types c }) (o ∷ ks)
          (child_open call c done) (total + (1 + body_weight t ms reads_call.stands.body))
      child_reached deep room =
          subst (λ h. Reached t ms limit root is first (record st { graph = h; types = converting_for st.types c })
          (o ∷ ks) (child_open call c done) (total + (1 + body_weight t ms reads_call.stands.body)))
          (sym unfold_begins.2) (child_now deep room)
