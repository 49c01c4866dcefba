-- A child on a stack of component instances ends: what waits for it goes on.
use Rattle.std.proofs.Common.{◌≡◌, ◌≤◌, ◌+◌, ◌*◌, ℕ, true, List, ◌∷◌, Result}
use Rattle.std.proofs.Common.{Ok, Err, length, map, refl, sym, ap, subst, ◌∙◌}
use Rattle.std.specs.Prelude.{⊤, option_and_then, unwrap_or}
use Rattle.pc_numbers.specs.declared.runtime.RuntimeComponentInstanceIndex.{RuntimeComponentInstanceIndex}
use Rattle.pc_types.specs.declared.error.Place.TheVariants as place
use Rattle.pc_types.specs.declared.module_record.ModuleRecord.{ModuleRecord}
use Rattle.pc_types.specs.declared.parsed.TypeTable.{TypeTable}
use Rattle.pc_types.specs.Table.{is_instance}
use Rattle.pc_types_lists.specs.Adds.{most_types}
use Rattle.pc_types_lists.specs.Types.{Resources}
use Rattle.pc_parsed.specs.declared.payload.ExternName.{ExternName}
use Rattle.pc_parsed.specs.declared.payload.ItemKind.{ItemKind}
use Rattle.pc_spec_reading.specs.Components.{read_return}
use Rattle.pc_spec_reading.specs.Item.{Items, exports_in, no_items}
use Rattle.pc_spec_reading.specs.Items.{exports_at}
use Rattle.pc_spec_reading.specs.Outcome.{Fault, fault}
use Rattle.pc_spec_reading.specs.Scope.{Moment}
use Rattle.pc_spec_reading.specs.Section.{named_item}
use Rattle.pc_spec_reading.specs.Types.{has_entry}
use Rattle.pc_spec_reading.specs.Value.{NamedValue}
use Rattle.pc_local.specs.declared.item.Translation.{Translation}
use Rattle.pc_inline_stack.specs.declared.driver.Open.{Open}
use Rattle.pc_inline_state.specs.declared.error.ItemError.{ItemError}
use Rattle.pc_inline_state.specs.declared.error.ItemError.TheVariants as item_error
use Rattle.pc_inline_state.specs.declared.frame.Frame.{Frame}
use Rattle.pc_inline_state.specs.declared.state.State.{State}
use Rattle.pc_inline_state.specs.Adds.{most_converted, types_among}
use Rattle.pc_inline_stack.specs.Calls.{GivesBack, IsReturn, ReturnStands, TrailsBack}
use Rattle.pc_inline_stack.specs.Driving.{reading_from}
use Rattle.pc_inline_state.specs.Faults.{error_of, fault_of}
use Rattle.pc_inline_state.specs.Points.{Follows, Goes}
use Rattle.pc_inline_stack.specs.Reads.{Ends, items_from}
use Rattle.pc_inline_stack.specs.Stacks.{AllStand, AreUnderway, CallerStands, ChildHas, Fails, OpenStands, Reached}
use Rattle.pc_inline_stack.specs.Stacks.{Reader, Waiting, Waits, all_most_left, body_at, child_stands, instance_type}
use Rattle.pc_inline_stack.specs.Stacks.{instance_type_at, items_of, reads_on, root_stands}
use Rattle.pc_inline_items.specs.Captures.{IsEnclosed}
use Rattle.pc_inline_state.specs.Tables.{Keeps, Tables, tables_of}
use Rattle.pc_inline_stack.proofs.LeftLemmas.{most_returns}
use Rattle.pc_inline_stack.proofs.MoveLemmas.{ends_fault, fails_so, point_of, reached_point, underway_reached}
use Rattle.pc_inline_stack.proofs.ReadLemmas.{none_left}
use Rattle.pc_inline_stack.proofs.ResumeLemmas.{child_ends, return_on, return_refused}
use Rattle.pc_inline_stack.proofs.RowLemmas.{return_keeps}
use Rattle.pc_inline_stack.proofs.StackLemmas.{all_kept, top_goes, top_stands}

-- the innermost ends, and the one that waits for it is the next
pub record ChildStands (t : TypeTable) (ms : List ModuleRecord) (bodies : List Translation) (root : Translation)
    (b : Tables) (k : Resources) (caller : Open) (ks : List Open) (o : Open) (waiting : List Waiting) (r : Reader)
    : Type 0 where
  pub w : Waiting
  pub ws : List Waiting
  pub is : waiting ≡ w ∷ ws
  pub child : OpenStands t ms bodies root b k o r
  pub has : ChildHas t ms bodies root o r
  pub waits : CallerStands t ms bodies root caller w
  pub resources : Resources
  pub resumes : Waits k o.frame caller.frame resources
  pub rest : AllStand t ms bodies root b resources ks caller ws w.reader

child_stack : (t : TypeTable) (ms : List ModuleRecord) (bodies : List Translation) (root : Translation) (b : Tables)
    (k : Resources) (all : List Open) (o : Open) (waiting : List Waiting) (r : Reader)
    → AllStand t ms bodies root b k all o waiting r → (caller : Open) (ks : List Open) → all ≡ caller ∷ ks
    → ChildStands t ms bodies root b k caller ks o waiting r
child_stack t ms bodies root b k all o waiting r (root_stands h) caller ks is = let x : ⊥ = cc in absurd x
child_stack t ms bodies root b k all o waiting r (child_stands {j = j} {os = os} {caller = c} {ws = ws} {w = w} h has
    cs waits rest) caller ks is =
    let first : c ≡ caller = cc in
    let more : os ≡ ks = cc in
    record {
      w = w;
      ws = ws;
      is = refl;
      child = h;
      has = has;
      waits = subst (λ q. CallerStands t ms bodies root q w) first cs;
      resources = j;
      resumes = subst (λ (q : Open). Waits k o.frame q.frame j) first waits;
      rest = subst (λ q. AllStand t ms bodies root b j ks q ws w.reader) first
          (subst (λ qs. AllStand t ms bodies root b j qs c ws w.reader) more rest);
    }

-- what a component instance exports
abbrev pub its_exports : (root : Translation) → State → Open → List (ExternName × ItemKind × ℕ)
its_exports root st o = (body_at st.bodies.now root o.body).exports

-- how much its exports add at the most when it ends, and what the one that waits for it has of it then
abbrev pub for_return : TypeTable → (root : Translation) → State → Open → ℕ
for_return t root st o = types_among (its_exports root st o) * (1 + most_types t) + most_converted t 1

module _ (t : TypeTable) (ms : List ModuleRecord) (limit : ℕ) (root : Translation) (is : Items) (first : Moment)
    (st : State) (caller : Open) (ks : List Open) (o : Open) (total : ℕ)
    (x : Reached t ms limit root is first st (caller ∷ ks) o total) where
  pub the_stack : ChildStands t ms st.bodies.now root (tables_of st) st.types.resources caller ks o x.waiting x.reader
  the_stack =
      child_stack t ms st.bodies.now root (tables_of st) st.types.resources (caller ∷ ks) o x.waiting x.reader x.all
      caller ks refl

  -- the one that waits for the innermost, with the resources with which it goes on
  caller_open : OpenStands t ms st.bodies.now root (tables_of st) the_stack.resources caller the_stack.w.reader
  caller_open =
      top_stands t ms st.bodies.now root (tables_of st) the_stack.resources ks caller the_stack.ws the_stack.w.reader
      the_stack.rest

  abbrev here : Moment
  here = point_of t ms limit root is first st (caller ∷ ks) o total x

  -- the innermost ends for the one that waits for it
  return_stands : ReturnStands t ms st o.frame caller.frame here the_stack.w.reader.scope the_stack.resources
  return_stands = record {
    ended = reached_point t ms limit root is first st (caller ∷ ks) o total x;
    frame = caller_open.frame;
    here = caller_open.here;
    converted = caller_open.converted;
    waits = the_stack.resumes;
  }

  pub is_return : IsReturn t ms st o.frame caller.frame
  unfolding IsReturn
  is_return = (here, the_stack.w.reader.scope, the_stack.resources, return_stands)

  -- the type of the innermost
  pub its_type : unwrap_or (instance_type_at (items_of st.bodies.now root caller) caller.next) 0 ≡ the_stack.w.ty
  its_type = ap (λ l. unwrap_or (option_and_then instance_type l) 0) the_stack.waits.there

  -- it is an instance type
  pub its_type_there : has_entry t is_instance
      (unwrap_or (instance_type_at (items_of st.bodies.now root caller) caller.next) 0) ≡ true
  its_type_there = ap (has_entry t is_instance) its_type ∙ the_stack.waits.is_typed

  -- what its exports add at the most, and what waits for it behind, is left before
  pub left_less : (f : Frame) → for_return t root st o
      + all_most_left t st.bodies.now root ks (record caller { frame = f; next = caller.next + 1 })
      ≤ all_most_left t st.bodies.now root (caller ∷ ks) o
  left_less f = most_returns t st.bodies.now root ks caller o the_stack.has.index the_stack.has.is f

  module _ (ty : ℕ) (ty_is : ty ≡ unwrap_or (instance_type_at (items_of st.bodies.now root caller) caller.next) 0)
      (end : length (items_of st.bodies.now root o) ≤ o.next) (st' : State) (g : Frame)
      (keeps : Keeps (tables_of st) (tables_of st')) where
    none : items_from o.next x.reader.body ≡ no_items
    none = none_left st.bodies.now x.reader.names (items_of st.bodies.now root o) x.reader.body o.next end
        the_stack.child.items

    abbrev gives : List NamedValue
    gives = exports_at t x.reader.scope (exports_in x.reader.body)

    abbrev there : Moment
    there = record { scope = the_stack.w.reader.scope; world = x.world }

    returned : (r : Result ⊤ ItemError) → GivesBack t ms (its_exports root st o) ty st o.frame caller.frame st' g r
        → Follows t ms st' g (read_return t there gives the_stack.w.ty) r
    unfolding GivesBack
    returned r given =
        let follows = given here the_stack.w.reader.scope the_stack.resources return_stands in
        let same = ty_is ∙ its_type in
        subst (λ es. Follows t ms st' g (read_return t there (exports_at t x.reader.scope es) the_stack.w.ty) r)
        the_stack.has.exports
        (subst (λ n. Follows t ms st' g
        (read_return t there (exports_at t x.reader.scope (map named_item (its_exports root st o))) n) r) same follows)

    -- the reading is at the return
    reading_here : reading_from t ms limit is first
        ≡ reads_on t ms limit (the_stack.w ∷ the_stack.ws) x.reader o.next x.world
    reading_here = sym x.same ∙ ap (λ ws. reads_on t ms limit ws x.reader o.next x.world) the_stack.is

    return_fault : (k : Fault) → read_return t there gives the_stack.w.ty ≡ Err k → reading_from t ms limit is first
        ≡ fault k (place.Reading the_stack.w.reader.scope.component_instance the_stack.w.item)
    return_fault k stuck =
        reading_here ∙ child_ends t ms limit the_stack.w the_stack.ws x.reader o.next x.world none
        ∙ return_refused t ms limit the_stack.w the_stack.ws (record { exports = gives; world = x.world }) k stuck

    return_ends : (f : Frame) → g.component_instance ≡ caller.frame.component_instance → (e : ItemError)
        → Follows t ms st' g (read_return t there gives the_stack.w.ty) (Err e)
        → Ends t ms st' f (reading_from t ms limit is first)
        (Err (error_of e (place.Reading g.component_instance.0 caller.next)))
    unfolding Follows Ends
    return_ends f same (item_error.Fault k) follows =
        let number : the_stack.w.reader.scope.component_instance ≡ g.component_instance.0 =
        caller_open.frame.component_instance ∙ ap (λ (i : RuntimeComponentInstanceIndex). i.0) (sym same) in
        ends_fault t ms st' f (reading_from t ms limit is first) k (place.Reading g.component_instance.0 caller.next)
        (return_fault (fault_of k) follows
        ∙ (λ i. fault (fault_of k) (place.Reading (number i) (sym the_stack.waits.item i))))
    return_ends f same item_error.TooMany follows = follows
    return_ends f same item_error.NoMemory follows = tt

    -- what waits can't go on
    pub leave_fails : (f : Frame) → g.component_instance ≡ caller.frame.component_instance → (e : ItemError)
        → GivesBack t ms (its_exports root st o) ty st o.frame caller.frame st' g (Err e)
        → Fails t ms limit root st' f (reading_from t ms limit is first)
        (error_of e (place.Reading g.component_instance.0 caller.next))
    leave_fails f same e given =
        fails_so t ms limit root st' f (reading_from t ms limit is first)
        (error_of e (place.Reading g.component_instance.0 caller.next))
        (return_ends f same e (returned (Err e) given))

    goes_on : (done : ⊤) → GivesBack t ms (its_exports root st o) ty st o.frame caller.frame st' g (Ok done)
        → Goes t ms st' g (read_return t there gives the_stack.w.ty)
    unfolding Follows
    goes_on done given = returned (Ok done) given

    module _ (next : Goes t ms st' g (read_return t there gives the_stack.w.ty)) where
      -- as many component instances have begun
      pub return_begun : st'.graph.num_runtime_component_instances ≡ st.graph.num_runtime_component_instances
      return_begun =
          let kept = return_keeps t ms there next.now gives the_stack.w.ty next.done in
          sym next.stands.world.begun ∙ kept.begun ∙ x.world_stands.begun

      abbrev caller_then : Open
      caller_then = record caller { frame = g; next = caller.next + 1 }

      abbrev reader_then : Reader
      reader_then = record the_stack.w.reader { scope = next.now.scope }

      callers_then : AllStand t ms st.bodies.now root (tables_of st') the_stack.resources ks caller the_stack.ws
          the_stack.w.reader
      callers_then =
          all_kept t ms st.bodies.now root (tables_of st) (tables_of st') keeps the_stack.resources ks caller
          the_stack.ws the_stack.w.reader the_stack.rest

      open_then : OpenStands t ms st.bodies.now root (tables_of st') st'.types.resources caller_then reader_then
      open_then =
          let old = top_stands t ms st.bodies.now root (tables_of st') the_stack.resources ks caller the_stack.ws
          the_stack.w.reader callers_then in
          let kept = return_keeps t ms there next.now gives the_stack.w.ty next.done in
          record {
            frame = next.stands.frame;
            here = next.stands.here;
            converted = next.stands.converted;
            enclosed = subst (IsEnclosed ms (tables_of st') the_stack.w.reader.names caller.closure) (sym kept.chain)
                old.enclosed;
            closed = old.closed;
            items = old.items;
          }

      -- what waits has the child's instance
      pub return_reached : TrailsBack st o.frame caller.frame st' g
          → Reached t ms limit root is first st' ks caller_then total
      unfolding TrailsBack
      return_reached trails =
          let s = the_stack in
          let kept = return_keeps t ms there next.now gives s.w.ty next.done in
          let trail = trails s.resources s.resumes in
          record {
            waiting = s.ws;
            reader = reader_then;
            world = next.now.world;
            is_total = kept.total ∙ x.is_total;
            sound = next.stands.sound;
            world_stands = next.stands.world;
            unexported = next.stands.unexported;
            all = subst (λ bs. AllStand t ms bs root (tables_of st') st'.types.resources ks caller_then s.ws
                reader_then)
                (sym keeps.bodies)
                (top_goes t ms st.bodies.now root (tables_of st') s.resources st'.types.resources ks caller s.ws
                s.w.reader
                g (caller.next + 1) next.now.scope trail callers_then open_then);
            same = ap (λ k. reads_on t ms limit s.ws reader_then (k + 1) next.now.world) s.waits.item
                ∙ sym (return_on t ms limit s.w s.ws (record { exports = gives; world = x.world }) next.now next.done)
                ∙ sym (child_ends t ms limit s.w s.ws x.reader o.next x.world none)
                ∙ sym reading_here;
          }

    -- where it went on
    pub left_goes : (done : ⊤) → GivesBack t ms (its_exports root st o) ty st o.frame caller.frame st' g (Ok done)
        → TrailsBack st o.frame caller.frame st' g
        → Reached t ms limit root is first st' ks (record caller { frame = g; next = caller.next + 1 }) total
        × (st'.graph.num_runtime_component_instances ≡ st.graph.num_runtime_component_instances)
    left_goes done given trails =
        let next = goes_on done given in
        (return_reached next trails, return_begun next)

-- what a call asks for by which the child of one that waits ends
module _ (t : TypeTable) (ms : List ModuleRecord) (limit : ℕ) (root : Translation) (st : State) (caller : Open)
    (ks : List Open) (o : Open) (total : ℕ) (under : AreUnderway t ms limit root st (caller ∷ ks) o total) where
  -- the child has ended
  pub underway_return : IsReturn t ms st o.frame caller.frame
  underway_return =
      let r = underway_reached t ms limit root st (caller ∷ ks) o total under in
      is_return t ms limit root r.0 r.1 st caller ks o total r.2

  -- it has one of the bodies
  pub underway_has : (r : Reader) × ChildHas t ms st.bodies.now root o r
  underway_has =
      let r = underway_reached t ms limit root st (caller ∷ ks) o total under in
      (r.2.reader, (the_stack t ms limit root r.0 r.1 st caller ks o total r.2).has)

  -- its type is an instance type
  pub underway_type : has_entry t is_instance
      (unwrap_or (instance_type_at (items_of st.bodies.now root caller) caller.next) 0) ≡ true
  underway_type =
      let r = underway_reached t ms limit root st (caller ∷ ks) o total under in
      its_type_there t ms limit root r.0 r.1 st caller ks o total r.2
