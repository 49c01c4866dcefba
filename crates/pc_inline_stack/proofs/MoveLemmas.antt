-- An item is read on a stack of component instances, or it isn't.
use Rattle.std.proofs.Common.{◌≡◌, ◌<◌, ◌≤◌, ◌+◌, ℕ, suc, false, List, Some}
use Rattle.std.proofs.Common.{Result, Ok, Err, sym, ap, subst, ◌∙◌, arith, inl}
use Rattle.std.specs.Prelude.{⊤, slice_get}
use Rattle.pc_numbers.specs.declared.runtime.RuntimeComponentInstanceIndex.{RuntimeComponentInstanceIndex}
use Rattle.pc_types.specs.declared.error.Error.{Error}
use Rattle.pc_types.specs.declared.error.Error.TheVariants as error
use Rattle.pc_types.specs.declared.error.Place.{Place}
use Rattle.pc_types.specs.declared.error.Place.TheVariants as place
use Rattle.pc_types.specs.declared.module_record.ModuleRecord.{ModuleRecord}
use Rattle.pc_types.specs.declared.parsed.TypeTable.{TypeTable}
use Rattle.pc_spec_reading.specs.Item.{Item, Items, and_item}
use Rattle.pc_spec_reading.specs.Outcome.{Outcome, fault}
use Rattle.pc_spec_reading.specs.Rows.{read_row}
use Rattle.pc_spec_reading.specs.Scope.{Moment}
use Rattle.pc_spec_reading.specs.World.{full}
use Rattle.pc_local.specs.declared.item.LocalInitializer.{LocalInitializer}
use Rattle.pc_local.specs.declared.item.Translation.{Translation}
use Rattle.pc_local.specs.Standing.{ItemStands}
use Rattle.pc_inline_stack.specs.declared.driver.Open.{Open}
use Rattle.pc_inline_state.specs.declared.error.ItemError.{ItemError}
use Rattle.pc_inline_state.specs.declared.error.ItemError.TheVariants as item_error
use Rattle.pc_inline_state.specs.declared.error.ItemFault.{ItemFault}
use Rattle.pc_inline_state.specs.declared.error.ItemFault.TheVariants as item_fault
use Rattle.pc_inline_state.specs.declared.frame.Frame.{Frame}
use Rattle.pc_inline_state.specs.declared.state.State.{State}
use Rattle.pc_inline_state.specs.Adds.{Adds, most_added, most_of_items}
use Rattle.pc_inline_stack.specs.Driving.{reading_from}
use Rattle.pc_inline_state.specs.Faults.{error_of, fault_of}
use Rattle.pc_inline_state.specs.Points.{Follows, Goes, IsPoint, PointStands}
use Rattle.pc_inline_stack.specs.Reads.{Ends, items_from}
use Rattle.pc_inline_items.specs.Captures.{IsEnclosed}
use Rattle.pc_inline_stack.specs.Stacks.{AllStand, AreUnderway, Driven, Failed, Fails, Grew, OpenStands, Reached}
use Rattle.pc_inline_stack.specs.Stacks.{all_most_left}
use Rattle.pc_inline_stack.specs.Stacks.{begins_child, items_of}
use Rattle.pc_inline_items.specs.StepsLocal.{StepsLocal}
use Rattle.pc_inline_state.specs.Tables.{Keeps, tables_of}
use Rattle.pc_inline_state.specs.Trails.{Trails}
use Rattle.pc_inline_state.proofs.AddsLemmas.{adds_trans}
use Rattle.pc_inline_stack.proofs.BeginsLemmas.{begins_none}
use Rattle.pc_inline_stack.proofs.ReadLemmas.{item_at}
use Rattle.pc_inline_stack.proofs.ResumeLemmas.{row_on, row_refused}
use Rattle.pc_inline_stack.proofs.RowLemmas.{row_keeps}
use Rattle.pc_inline_stack.proofs.StackLemmas.{all_kept, grew_more, top_goes, top_stands}
use Rattle.pc_inline_state.proofs.StateLemmas.{keeps_trans}
use Rattle.pc_inline_stack.proofs.LeftLemmas.{most_goes}

module _ (t : TypeTable) (ms : List ModuleRecord) where
  -- the error at a place is that of the reading
  pub ends_fault : (st : State) (f : Frame) (o : Outcome Moment) (k : ItemFault) (p : Place) → o ≡ fault (fault_of k) p
      → Ends t ms st f o (Err (error_of (item_error.Fault k) p))
  unfolding Ends
  ends_fault st f o item_fault.Invalid p is = is
  ends_fault st f o item_fault.BadType p is = is
  ends_fault st f o item_fault.UnknownIntrinsic p is = is
  ends_fault st f o (item_fault.Unsupported u) p is = is

module _ (t : TypeTable) (ms : List ModuleRecord) (limit : ℕ) (root : Translation) where
  -- what ends a pass over items ends a reading
  pub fails_so : (st : State) (f : Frame) (o : Outcome Moment) (e : Error) → Ends t ms st f o (Err e)
      → Fails t ms limit root st f o e
  unfolding Ends Fails
  fails_so st f o error.TooMany ends = inl ends
  fails_so st f o e ends = ends

  -- where the innermost is
  abbrev pub point_of : (is : Items) (first : Moment) (st : State) (ks : List Open) (o : Open) (total : ℕ)
      → Reached t ms limit root is first st ks o total → Moment
  point_of is first st ks o total x = record { scope = x.reader.scope; world = x.world }

  module _ (is : Items) (first : Moment) (st : State) (ks : List Open) (o : Open) (total : ℕ)
      (x : Reached t ms limit root is first st ks o total) where
    -- the innermost stands for its reader
    abbrev pub top_open : OpenStands t ms st.bodies.now root (tables_of st) st.types.resources o x.reader
    top_open = top_stands t ms st.bodies.now root (tables_of st) st.types.resources ks o x.waiting x.reader x.all

    -- it is a component instance at a moment
    pub reached_point : PointStands t ms st o.frame (point_of is first st ks o total x)
    reached_point = record {
      sound = x.sound;
      here = top_open.here;
      converted = top_open.converted;
      frame = top_open.frame;
      world = x.world_stands;
      unexported = x.unexported;
    }

    module _ (l : LocalInitializer) (at : slice_get (items_of st.bodies.now root o) o.next ≡ Some l) where
      -- the item that it reads
      abbrev pub this_item : (i : Item) × ItemStands st.bodies.now x.reader.names l i
          × (items_from o.next x.reader.body ≡ and_item i (items_from (suc o.next) x.reader.body))
      this_item =
          item_at st.bodies.now x.reader.names (items_of st.bodies.now root o) x.reader.body o.next l top_open.items at

      module _ (plain : begins_child l ≡ false) (st' : State) (g : Frame) (keeps : Keeps (tables_of st) (tables_of st'))
          (trail : Trails o.frame.changes st.types.resources g.changes st'.types.resources) where
        row_of : (r : Result ⊤ ItemError) → StepsLocal t ms o.closure l st o.frame st' g r
            → Follows t ms st' g (read_row t ms (point_of is first st ks o total x) this_item.0) r
        unfolding StepsLocal
        row_of r steps =
            steps x.reader.names this_item.0 this_item.1 (point_of is first st ks o total x) reached_point
            top_open.enclosed

        goes_on : (done : ⊤) → StepsLocal t ms o.closure l st o.frame st' g (Ok done)
            → Goes t ms st' g (read_row t ms (point_of is first st ks o total x) this_item.0)
        unfolding Follows
        goes_on done steps = row_of (Ok done) steps

        no_child : begins_child l ≡ false
        no_child = plain

        module _ (next : Goes t ms st' g (read_row t ms (point_of is first st ks o total x) this_item.0)) where
          abbrev after : Open
          after = record o { frame = g; next = o.next + 1 }

          all_now : AllStand t ms st.bodies.now root (tables_of st') st.types.resources ks o x.waiting x.reader
          all_now =
              all_kept t ms st.bodies.now root (tables_of st) (tables_of st') keeps st.types.resources ks o x.waiting
              x.reader x.all

          next_open : OpenStands t ms st.bodies.now root (tables_of st') st'.types.resources after
              (record x.reader { scope = next.now.scope })
          next_open =
              let old = top_stands t ms st.bodies.now root (tables_of st') st.types.resources ks o x.waiting x.reader
              all_now in
              let now = point_of is first st ks o total x in
              let kept = row_keeps t ms now next.now this_item.0 next.done in
              record {
                frame = next.stands.frame;
                here = next.stands.here;
                converted = next.stands.converted;
                enclosed = subst (IsEnclosed ms (tables_of st') x.reader.names o.closure) (sym kept.chain)
                    old.enclosed;
                closed = old.closed;
                items = old.items;
              }

          -- it was read
          pub row_reached : Reached t ms limit root is first st' ks after total
          row_reached =
              let now = point_of is first st ks o total x in
              let kept = row_keeps t ms now next.now this_item.0 next.done in
              let all = top_goes t ms st.bodies.now root (tables_of st') st.types.resources st'.types.resources ks o
              x.waiting x.reader g (o.next + 1) next.now.scope trail all_now next_open in
              record {
                waiting = x.waiting;
                reader = record x.reader { scope = next.now.scope };
                world = next.now.world;
                is_total = kept.total ∙ x.is_total;
                sound = next.stands.sound;
                world_stands = next.stands.world;
                unexported = next.stands.unexported;
                all = subst (λ bs. AllStand t ms bs root (tables_of st') st'.types.resources ks after x.waiting
                    (record x.reader { scope = next.now.scope })) (sym keeps.bodies) all;
                same = sym (row_on t ms limit x.waiting x.reader o.next x.world this_item.0 this_item.2
                    (begins_none st.bodies.now x.reader.names l this_item.0 this_item.1 no_child) next.now next.done)
                    ∙ x.same;
              }

        row_ends : (f : Frame) (c : RuntimeComponentInstanceIndex) → c ≡ o.frame.component_instance → (e : ItemError)
            → Follows t ms st' g (read_row t ms (point_of is first st ks o total x) this_item.0) (Err e)
            → Ends t ms st' f (reading_from t ms limit is first) (Err (error_of e (place.Reading c.0 o.next)))
        unfolding Follows Ends
        row_ends f c same (item_error.Fault k) follows =
            let number : x.reader.scope.component_instance ≡ c.0 =
            top_open.frame.component_instance ∙ ap (λ (i : RuntimeComponentInstanceIndex). i.0) (sym same) in
            ends_fault t ms st' f (reading_from t ms limit is first) k (place.Reading c.0 o.next)
            (sym x.same ∙ row_refused t ms limit x.waiting x.reader o.next x.world this_item.0 this_item.2
            (begins_none st.bodies.now x.reader.names l this_item.0 this_item.1 no_child) (fault_of k) follows
            ∙ ap (λ n. fault (fault_of k) (place.Reading n o.next)) number)
        row_ends f c same item_error.TooMany follows = follows
        row_ends f c same item_error.NoMemory follows = tt

        -- or it is refused
        pub row_fails : (f : Frame) → g.component_instance ≡ o.frame.component_instance → (e : ItemError)
            → StepsLocal t ms o.closure l st o.frame st' g (Err e)
            → Fails t ms limit root st' f (reading_from t ms limit is first)
            (error_of e (place.Reading g.component_instance.0 o.next))
        row_fails f same e steps =
            fails_so st' f (reading_from t ms limit is first)
            (error_of e (place.Reading g.component_instance.0 o.next))
            (row_ends f g.component_instance same e (row_of (Err e) steps))

  module _ (old : State) (f : Frame) (counted : ℕ) (st : State) (ks : List Open) (o : Open) (total : ℕ)
      (driven : Driven t ms limit root old f counted st ks o total) where
    -- there is a reading that came so far
    pub some_reached : (is : Items) × (first : Moment) × Reached t ms limit root is first st ks o total
    some_reached =
        let s = driven.starts in (s.items, s.first, driven.reads s.items s.first s.stand s.at s.is_total)

    -- so the innermost is at some moment
    driven_point : IsPoint t ms st o.frame
    driven_point =
        let x = some_reached in
        (point_of x.0 x.1 st ks o total x.2, reached_point x.0 x.1 st ks o total x.2)

    -- what a reading that came so far comes to
    pub failed_after : (st' : State) (e : Error) (more : ℕ) → Keeps (tables_of st) (tables_of st')
        → Adds t more (tables_of st) (tables_of st') → more + 0 ≤ all_most_left t st.bodies.now root ks o
        → ((is : Items) (first : Moment) → Reached t ms limit root is first st ks o total
        → Fails t ms limit root st' f (reading_from t ms limit is first) e)
        → Failed t ms limit root old f counted st' total e
    failed_after st' e more keeps adds less fails = record {
      added = driven.added + more;
      keeps = keeps_trans (tables_of old) (tables_of st) (tables_of st') driven.keeps keeps;
      adds = adds_trans t driven.added more (tables_of old) (tables_of st) (tables_of st') driven.adds adds;
      grew = grew_more counted total driven.added (all_most_left t st.bodies.now root ks o) more 0
          (most_of_items t root.initializers) less driven.grew;
      reads = λ is first stand at some. fails is first (driven.reads is first stand at some);
    }

    module _ (l : LocalInitializer) (at : slice_get (items_of st.bodies.now root o) o.next ≡ Some l)
        (plain : begins_child l ≡ false) (st' : State) (g : Frame) (keeps : Keeps (tables_of st) (tables_of st'))
        (adds : Adds t (most_added t l) (tables_of st) (tables_of st'))
        (same : g.component_instance ≡ o.frame.component_instance)
        (trail : Trails o.frame.changes st.types.resources g.changes st'.types.resources)
      where
        -- no component instance has begun
        still_begun : (done : ⊤) → StepsLocal t ms o.closure l st o.frame st' g (Ok done)
            → st'.graph.num_runtime_component_instances ≡ st.graph.num_runtime_component_instances
        still_begun done steps =
            let s = some_reached in
            let next = goes_on s.0 s.1 st ks o total s.2 l at plain st' g keeps trail done steps in
            let now = point_of s.0 s.1 st ks o total s.2 in
            let i = this_item s.0 s.1 st ks o total s.2 l at in
            sym next.stands.world.begun ∙ (row_keeps t ms now next.now i.0 next.done).begun ∙ s.2.world_stands.begun

        -- an item is read
        pub item_goes : (done : ⊤) → StepsLocal t ms o.closure l st o.frame st' g (Ok done)
            → Driven t ms limit root old f counted st' ks (record o { frame = g; next = o.next + 1 }) total
        item_goes done steps =
            let after : Open = record o { frame = g; next = o.next + 1 } in
            let deep = driven.deep in
            let within = driven.within in
            let begun = still_begun done steps in
            record {
              added = driven.added + most_added t l;
              keeps = keeps_trans (tables_of old) (tables_of st) (tables_of st') driven.keeps keeps;
              adds = adds_trans t driven.added (most_added t l) (tables_of old) (tables_of st) (tables_of st')
                  driven.adds adds;
              grew = subst (λ bs. Grew counted total (driven.added + most_added t l)
                  (all_most_left t bs root ks after) (most_of_items t root.initializers)) (sym keeps.bodies)
                  (grew_more counted total driven.added (all_most_left t st.bodies.now root ks o) (most_added t l)
                  (all_most_left t st.bodies.now root ks after) (most_of_items t root.initializers)
                  (most_goes t st.bodies.now root ks o l at g) driven.grew);
              deep = omega (arith, deep, begun);
              within = omega (arith, within, begun);
              starts = driven.starts;
              reads = λ is first stand here some.
                  let x = driven.reads is first stand here some in
                  row_reached is first st ks o total x l at plain st' g keeps trail
                  (goes_on is first st ks o total x l at plain st' g keeps trail done steps);
            }

        -- or it is refused
        pub item_fails : (e : ItemError) → StepsLocal t ms o.closure l st o.frame st' g (Err e)
            → Failed t ms limit root old f counted st' total
            (error_of e (place.Reading g.component_instance.0 o.next))
        item_fails e steps =
            let less = most_goes t st.bodies.now root ks o l at g in
            failed_after st' (error_of e (place.Reading g.component_instance.0 o.next)) (most_added t l) keeps adds
            (omega (arith, less))
            (λ is first x. row_fails is first st ks o total x l at plain st' g keeps trail f same e steps)

  -- the innermost of component instances that stand somewhere in a reading is at some moment
  pub underway_point : (st : State) (ks : List Open) (o : Open) (total : ℕ)
      → AreUnderway t ms limit root st ks o total → IsPoint t ms st o.frame
  unfolding AreUnderway
  underway_point st ks o total x = driven_point x.0 x.1 x.2 st ks o total x.3

  -- there is a reading that came so far
  pub underway_reached : (st : State) (ks : List Open) (o : Open) (total : ℕ)
      → AreUnderway t ms limit root st ks o total
      → (is : Items) × (first : Moment) × Reached t ms limit root is first st ks o total
  unfolding AreUnderway
  underway_reached st ks o total x = some_reached x.0 x.1 x.2 st ks o total x.3

  -- the total isn't full
  pub underway_below : (st : State) (ks : List Open) (o : Open) (total : ℕ)
      → AreUnderway t ms limit root st ks o total → total < full
  unfolding AreUnderway
  underway_below st ks o total x = x.3.grew.0

  -- component instances that stand so
  pub underway : (old : State) (f : Frame) (counted : ℕ) (st : State) (ks : List Open) (o : Open) (total : ℕ)
      → Driven t ms limit root old f counted st ks o total → AreUnderway t ms limit root st ks o total
  unfolding AreUnderway
  underway old f counted st ks o total driven = (old, f, counted, driven)
