-- A turn goes on with what is reached, and less is left to do.
use Rattle.std.proofs.Common.{◌≡◌, inl, inr, ◌<◌, ◌≤◌, ◌+◌, ◌*◌, ◌∙◌, ℕ, Bool, true, false, List, [], ◌∷◌, ◌++◌}
use Rattle.std.proofs.Common.{Option, None, Some, Result, Ok, Err, Vec, Global, length, refl, reverse, sym, ap, subst}
use Rattle.std.proofs.Common.{arith}
use Rattle.std.proofs.Common.{append-nil}
use Rattle.std.specs.Prelude.{⊤, IfErr, OnOk}
use Rattle.std.specs.Option.{option_to_list}
use Rattle.std.specs.Result.{IsErr, IsErrAnd}
use Rattle.std.proofs.lemmas.List.{length-append, reverse-append}
use Rattle.pc_numbers.specs.declared.runtime.ExportIndex.{ExportIndex}
use Rattle.pc_types.specs.declared.module_record.ModuleRecord.{ModuleRecord}
use Rattle.pc_types.specs.declared.parsed.TypeTable.{TypeTable}
use Rattle.pc_types.specs.declared.types.ComponentExternData.{ComponentExternData}
use Rattle.pc_inline_state.specs.declared.definition.Definition.{Definition}
use Rattle.pc_inline_state.specs.declared.error.ItemError.{ItemError}
use Rattle.pc_inline_state.specs.declared.error.ItemError.TheVariants as item_error
use Rattle.pc_inline_state.specs.declared.state.State.{State}
use Rattle.pc_inline_exports.specs.Found.{nests}
use Rattle.pc_inline_exports.specs.declared.build.Open.{Open}
use Rattle.pc_inline_exports.specs.declared.build.Stack.{Stack}
use Rattle.pc_inline_exports.specs.declared.part.Found.{Found}
use Rattle.pc_inline_exports.specs.Building.{AddsPath, Advances, AdvancesTo, Closes, Enters, Finds, GoesOn, Leaves}
use Rattle.pc_entity.specs.Lists.{value_of}
use Rattle.pc_spec_reading.specs.World.{World}
use Rattle.pc_inline_exports.specs.Subjects.{Subject}
use Rattle.pc_inline_exports.specs.Building.{Climbs, WaitFor}
use Rattle.pc_inline_exports.proofs.ClimbLemmas.{next_items, part_absent}
use Rattle.pc_inline_exports.specs.Building.{IsApart, IsWorking, OpenStands, Puts, StillStands, Turned, Working, adds}
use Rattle.pc_inline_exports.specs.Building.{enters}
use Rattle.pc_inline_exports.specs.Building.{items_among, items_of, with_item, work}
use Rattle.pc_inline_exports.specs.Exports.{IsUnder}
use Rattle.pc_inline_exports.specs.Subjects.{reads_on, resume}
use Rattle.pc_inline_state.specs.Points.{IsSoundState}
use Rattle.pc_spec_reading.specs.Nodes.{refused, within_total}
use Rattle.pc_spec_reading.specs.World.{grown}
use Rattle.std.specs.List.{AllZip}
use Rattle.pc_inline_exports.specs.Reaching.{IsReachable, NodeEnds, OneEnds, Reaches, ReachesOne}
use Rattle.pc_spec_reading.specs.Outcome.{unsupported}
use Rattle.pc_inline_state.specs.Adds.{Adds}
use Rattle.pc_inline_state.specs.Tables.{tables_of}
use Rattle.pc_inline_state.proofs.AddsLemmas.{adds_refl}
use Rattle.pc_inline_exports.proofs.LeaveLemmas as leave
use Rattle.pc_inline_exports.proofs.TurnLemmas.{climbs, fails_full, fails_leaf, fails_memory, fails_there, goes_in}
use Rattle.pc_inline_exports.proofs.TurnLemmas.{goes_leaf}
use Rattle.pc_inline_exports.proofs.TurnLemmas.{k}
use Rattle.pc_inline_exports.proofs.WithinLemmas.{room_here}

-- An item that is put into an instance, or isn't.
module _ (o : Open) (name : List ℕ) (meta : ComponentExternData) (made : Result ExportIndex ItemError) (o' : Open) where
  pub puts_unmade : (e : ItemError) → made ≡ Err e → (r : Result ⊤ ItemError) → IsErr r → IsErrAnd r (λ x. x ≡ e)
      → Puts o name meta made o' r
  unfolding Puts
  puts_unmade e is (Ok x) err same = absurd (let no : ⊥ = cc in no)
  puts_unmade e is (Err x) err same = inl (is ∙ ap Err (sym same))

  pub puts_unfed : (r : Result ⊤ ItemError) → IsErr r → IsErrAnd r (λ x. x ≡ item_error.NoMemory)
      → Puts o name meta made o' r
  unfolding Puts
  puts_unfed (Ok x) err same = absurd (let no : ⊥ = cc in no)
  puts_unfed (Err x) err same = inr same

  pub puts_ok : (n : ExportIndex) → made ≡ Ok n → o' ≡ with_item o name n meta → Puts o name meta made o' (Ok tt)
  unfolding Puts
  puts_ok n is put = (n, is, put)

-- an instance that has its item, where it was taken off the stack
pub leaves_as : (old new : State) (s s' : Stack) (caller child now : Open) (made : Result ExportIndex ItemError)
    (r : Result ⊤ ItemError) → child ≡ s.top → now ≡ caller → Closes old child.instance child.items new made
    → Puts now child.name child.data_ made s'.top r → s'.callers ≡ s.callers → s'.nodes ≡ s.nodes
    → Leaves old s caller new s' r
leaves_as old new s s' caller child now made r is was closes puts callers nodes = record {
  made = made;
  closes = subst (λ (o : Open). Closes old o.instance o.items new made) is closes;
  puts = subst (λ (o : Open). Puts caller o.name o.data_ made s'.top r) is
      (subst (λ (o : Open). Puts o child.name child.data_ made s'.top r) was puts);
  callers = callers;
  nodes = nodes;
}

-- there is no memory for an instance to wait
pub enters_unfed : (t : TypeTable) (ms : List ModuleRecord) (st : State) (s s' : Stack) (f : Found)
    → nests f.definition ≡ true → IsApart t ms st f.definition → (r : Result ⊤ ItemError) → IsErr r
    → IsErrAnd r (λ x. x ≡ item_error.NoMemory) → AdvancesTo t ms st s f st s' r
enters_unfed t ms st s s' f is apart (Ok x) err same = absurd (let no : ⊥ = cc in no)
enters_unfed t ms st s s' f is apart (Err x) err same = enters is apart refl tt same

module _ (t : TypeTable) (ms : List ModuleRecord) where
  pub advances_full : (st : State) (s : Stack) (f : Found) → 4294967295 ≤ s.nodes
      → Advances t ms st s f st s (Err item_error.TooMany)
  unfolding Advances
  advances_full st s f full = inl (full, refl, refl)

  pub advances_to : (st new : State) (s s' : Stack) (f : Found) (r : Result ⊤ ItemError) → s.nodes < 4294967295
      → AdvancesTo t ms st s f new s' r → Advances t ms st s f new s' r
  unfolding Advances
  advances_to st new s s' f r below to = inr (below, to)

  -- what is passed up
  pub goes_err : {A : Type 0} (old : State) (d : Definition) (new : State) (s : Stack) (e : ItemError)
      → Reaches t ms old d new (Err e) → (q : Result A ItemError) → IsErr q → IsErrAnd q (λ x. x ≡ e)
      → GoesOn t ms old d new s q
  unfolding GoesOn
  goes_err old d new s e reaches (Ok x) is same = absurd (let no : ⊥ = cc in no)
  goes_err old d new s e reaches (Err x) is same = subst (λ y. Reaches t ms old d new (Err y)) (sym same) reaches

  pub goes_ok : {A : Type 0} (x : A) (old : State) (d : Definition) (new : State) (s : Stack)
      → Working t ms old d new s → GoesOn t ms old d new s (Ok x)
  unfolding GoesOn
  goes_ok x old d new s working = working

  module _ (old : State) (d : Definition) (st0 st : State) (s : Stack) (k0 : Working t ms old d st0 s)
      (path : AddsPath t ms st0 st) (still : StillStands t ms st0 st) where
    module _ (f : Found) (finds : Finds t ms st0 s.top.instance s.top.next st (Ok (Some f))) (new : State) (s' : Stack)
      where
        moved_in : (r : Result ⊤ ItemError) → AdvancesTo t ms st s f new s' r → r ≡ Ok tt → Working t ms old d new s'
        unfolding Puts
        moved_in r (enters {r = q} is apart same ok err) done =
            subst (λ (y : State). Working t ms old d y s') (sym same)
            (goes_in t ms old d st0 st s k0 path still f finds is apart s'
            (subst (λ y. OnOk y (Enters (record s { nodes = s.nodes + 1 }) f s')) done ok))
        moved_in r (adds {r = q} isnt leaf callers nodes) done =
            let put : Puts s.top f.name f.data_ leaf.made s'.top (Ok tt) =
            subst (Puts s.top f.name f.data_ leaf.made s'.top) done leaf.puts in
            let same : ◌≡◌ {A = Stack} s' (record s { top = with_item s.top f.name put.0 f.data_; nodes = s.nodes + 1 }) =
            λ i. record { callers = callers i; top = put.2 i; nodes = nodes i } in
            subst (Working t ms old d new) (sym same)
            (goes_leaf t ms old d st0 st s k0 path still f finds new leaf.made leaf.reaches put.0 put.1)

        failed_in : (r : Result ⊤ ItemError) → AdvancesTo t ms st s f new s' r → (e : ItemError) → r ≡ Err e
            → Reaches t ms old d new (Err e)
        unfolding Puts
        failed_in r (enters {r = q} is apart same ok err) e done =
            let none : e ≡ item_error.NoMemory = subst (λ y. IfErr y (λ x. x ≡ item_error.NoMemory)) done err in
            subst (λ y. Reaches t ms old d new (Err y)) (sym none)
            (subst (λ (y : State). Reaches t ms old d y (Err item_error.NoMemory)) (sym same)
            (fails_memory t ms old d st s (k t ms old d st0 st s k0 path still f finds)))
        failed_in r (adds {r = q} isnt leaf callers nodes) e done =
            elim (subst (Puts s.top f.name f.data_ leaf.made s'.top) done leaf.puts)
            as (λ _. Reaches t ms old d new (Err e)) [
              | inl unmade ↦ fails_leaf t ms old d st0 st s k0 path still f finds new leaf.made leaf.reaches e unmade
              | inr none ↦ subst (λ y. Reaches t ms old d new (Err y)) (sym none)
                  (fails_there t ms old d st0 st s k0 path still f finds new leaf.made leaf.reaches)
            ]

        -- a part is reached
        pub advanced_ok : Advances t ms st s f new s' (Ok tt) → Working t ms old d new s'
        unfolding Advances
        advanced_ok (inl full) = absurd (let is = full.2 in let no : ⊥ = cc in no)
        advanced_ok (inr to) = moved_in (Ok tt) to.1 refl

        -- or it isn't
        pub advanced_err : (e : ItemError) → Advances t ms st s f new s' (Err e) → Reaches t ms old d new (Err e)
        unfolding Advances
        advanced_err e (inl full) =
            let same : e ≡ item_error.TooMany = (let is = full.2 in cc) in
            subst (λ y. Reaches t ms old d new (Err y)) (sym same)
            (subst (λ (y : State). Reaches t ms old d y (Err item_error.TooMany)) (sym full.1)
            (fails_full t ms old d st s (k t ms old d st0 st s k0 path still f finds) (inr full.0)))
        advanced_err e (inr to) = failed_in (Err e) to.1 e refl

    module _ (finds : Finds t ms st0 s.top.instance s.top.next st (Ok None)) where
      -- The instance around it waits for it.
      module _ (rest : Vec Open Global) (caller : Open) (o : Option Open)
          (popped : s.callers.items ≡ rest.items ++ option_to_list o) (some : o ≡ Some caller)
        where
          waiting : (w : World) × (x : Subject) × (c : Climbs t ms old x w st s)
              × leave.OneWaits t ms st caller (reverse rest.items) c.readers
          waiting =
              let y = k0.starts in
              let c = (leave.ended t ms old d st0 st s k0 path still finds y.world y.subject y.stands y.is).0 in
              let are = ap reverse (popped ∙ ap (λ z. rest.items ++ option_to_list z) some)
              ∙ reverse-append rest.items (caller ∷ []) in (
                y.world,
                y.subject,
                c,
                leave.one_waits t ms st caller (reverse rest.items) c.readers
                    (subst (λ ks. AllZip (OpenStands t ms st) ks c.readers) are c.callers),
              )

          pub left_absent : value_of s.top.name caller.items ≡ None
          left_absent =
              let v = waiting in
              let c = v.2 in
              let y = v.3 in
              let part = (subst (λ rs. WaitFor rs c.reader.name) y.are c.waits).0 in
              part_absent t ms st caller y.reader y.stands part.0 part.1 s.top.name (c.top.name ∙ sym part.2)

          pub left_next : caller.next ≡ length caller.items
          left_next = let y = waiting.3 in next_items t ms st caller y.reader y.stands

      module _ (rest : Vec Open Global) (caller : Open) (o : Option Open)
          (popped : s.callers.items ≡ rest.items ++ option_to_list o) (some : o ≡ Some caller) (new : State) (s' : Stack)
        where
          are : s.callers.items ≡ rest.items ++ caller ∷ []
          are = popped ∙ ap (λ x. rest.items ++ option_to_list x) some

          -- an instance has its item, and the one around it goes on
          pub left_ok : Leaves st (record s { callers = rest }) caller new s' (Ok tt) → Working t ms old d new s'
          unfolding Puts
          left_ok leaves =
              let put = leaves.puts in
              leave.goes_out t ms old d st0 st s k0 path still finds new leaves.made leaves.closes put.0 put.1 caller
              (reverse rest.items) (ap reverse are ∙ reverse-append rest.items (caller ∷ [])) s'
              (ap (λ (v : Vec Open Global). reverse v.items) leaves.callers)
              (ap length are ∙ length-append rest.items (caller ∷ [])
              ∙ ap (λ (v : Vec Open Global). length v.items + 1) (sym leaves.callers)) put.2 leaves.nodes

          -- or it hasn't
          pub left_err : (e : ItemError) → Leaves st (record s { callers = rest }) caller new s' (Err e)
              → Reaches t ms old d new (Err e)
          unfolding Puts
          left_err e leaves =
              elim leaves.puts as (λ _. Reaches t ms old d new (Err e)) [
                | inl unmade ↦ leave.fails_close t ms old d st0 st s k0 path still finds new leaves.made leaves.closes e
                    unmade
                | inr none ↦ subst (λ y. Reaches t ms old d new (Err y)) (sym none)
                    (leave.fails_there t ms old d st0 st s k0 path still finds new leaves.made leaves.closes)
              ]

  -- less is left to do
  module _ (st new : State) (s s' : Stack) where
    less_in : (f : Found) (r : Result ⊤ ItemError) → AdvancesTo t ms st s f new s' r → r ≡ Ok tt → s.nodes < 4294967295
        → work s' < work s
    less_in f r (enters {r = q} is apart same ok err) done below =
        let goes = subst (λ y. OnOk y (Enters (record s { nodes = s.nodes + 1 }) f s')) done ok in
        let more : length s'.callers.items ≡ length s.callers.items + 1 =
        ap length goes.0 ∙ length-append s.callers.items (s.top ∷ []) in
        let nodes = goes.2 in
        omega (arith, below, more, nodes)
    less_in f r (adds {r = q} isnt leaf callers nodes) done below =
        let same : length s'.callers.items ≡ length s.callers.items =
        ap (λ (v : Vec Open Global). length v.items) callers in
        omega (arith, below, nodes, same)

    pub advanced_less : (f : Found) → Advances t ms st s f new s' (Ok tt) → work s' < work s
    unfolding Advances
    advanced_less f (inl full) = absurd (let is = full.2 in let no : ⊥ = cc in no)
    advanced_less f (inr to) = less_in f (Ok tt) to.1 refl to.0

    pub left_less : (rest : Vec Open Global) (caller : Open) (o : Option Open)
        → s.callers.items ≡ rest.items ++ option_to_list o → o ≡ Some caller
        → Leaves st (record s { callers = rest }) caller new s' (Ok tt) → work s' < work s
    left_less rest caller o popped some leaves =
        let are : length s.callers.items ≡ length rest.items + 1 =
        ap length (popped ∙ ap (λ x. rest.items ++ option_to_list x) some) ∙ length-append rest.items (caller ∷ []) in
        let same : length s'.callers.items ≡ length rest.items =
        ap (λ (v : Vec Open Global). length v.items) leaves.callers in
        let nodes = leaves.nodes in
        omega (arith, are, same, nodes)

-- none was popped
pub none_popped : (xs ys : List Open) (o : Option Open) → xs ≡ ys ++ option_to_list o → o ≡ None → xs ≡ ys
none_popped xs ys o is none = is ∙ ap (λ x. ys ++ option_to_list x) none ∙ append-nil ys

-- so none is left
pub none_left : (xs : List Open) → length xs ≡ 0 → xs ≡ []
none_left [] is = refl
none_left (x ∷ xs) is = absurd (omega (arith, is))

module _ (t : TypeTable) (ms : List ModuleRecord) where
  -- the same instances stand on another stack
  pub working_same : (old : State) (d : Definition) (st : State) (s s' : Stack) → s'.callers.items ≡ s.callers.items
      → s'.top ≡ s.top → s'.nodes ≡ s.nodes → Working t ms old d st s → Working t ms old d st s'
  working_same old d st s s' items top nodes w =
      let few = w.few in
      let same = ap length items in
      record {
        made = w.made;
        few = omega (arith, few, same, nodes);
        keeps = w.keeps;
        adds = w.adds;
        types = w.types;
        exports = w.exports;
        starts = w.starts;
        reads = λ v x stands is.
            let c = w.reads v x stands is in
            record {
              readers = c.readers;
              reader = c.reader;
              world = c.world;
              total = c.total ∙ ap (λ m. grown v.total (8 * m)) (sym nodes);
              stands = c.stands;
              callers = subst (λ ks. AllZip (OpenStands t ms st) (reverse ks) c.readers) (sym items) c.callers;
              top = subst (λ o. OpenStands t ms st o c.reader) (sym top) c.top;
              waits = c.waits;
              same = c.same ∙ ap (λ m. within_total (grown v.total (8 * m))
                  (resume c.readers c.reader.name c.reader.meta (reads_on c.reader c.world))) (sym nodes);
              items = c.items;
              whole = λ n from to.
                  let now : items_of s' ≡ items_of s = λ i. (top i).items ++ items_among (reverse (items i)) in
                  subst (λ l. IsUnder st.graph.export_items l n) (sym now) (c.whole n from to);
            };
      }

  -- what is in order where something is reached
  pub working_sound : (st : State) (s : Stack) → IsWorking t ms st s → IsSoundState t ms st
  working_sound st s w =
      let c = (climbs t ms w.0 w.1 st s w.2).2 in c.stands.sound

  pub turned_on : (old new : State) (s s' : Stack) → work s' < work s → Turned t ms old s new s' true
  unfolding Turned
  turned_on old new s s' less = less

  pub turned_off : (old new : State) (s s' : Stack) → s.callers.items ≡ [] → s'.top ≡ s.top → AddsPath t ms old new
      → StillStands t ms old new → Finds t ms old s.top.instance s.top.next new (Ok None)
      → Turned t ms old s new s' false
  unfolding Turned
  turned_off old new s s' none top path still finds = (none, top, path, still, finds)

  pub less_turned : (old new : State) (s s' : Stack) (b : Bool) → b ≡ true → Turned t ms old s new s' b
      → work s' < work s
  unfolding Turned
  less_turned old new s s' b is turned =
      let on : Turned t ms old s new s' true = subst (Turned t ms old s new s') is turned in on

  -- after the last turn the outermost instance gets its item
  module _ (old : State) (d : Definition) (st0 st : State) (s s' : Stack) (k0 : Working t ms old d st0 s) where
    ended_turn : (b : Bool) → b ≡ false → Turned t ms st0 s st s' b → Turned t ms st0 s st s' false
    ended_turn b is turned = subst (Turned t ms st0 s st s') is turned

    pub last_closes : (b : Bool) → b ≡ false → Turned t ms st0 s st s' b → (new : State)
        (r : Result ExportIndex ItemError) → Closes st s'.top.instance s'.top.items new r → Reaches t ms old d new r
    unfolding Turned
    last_closes b is turned new r closes =
        let e = ended_turn b is turned in
        let closed = subst (λ (o : Open). Closes st o.instance o.items new r) e.1 closes in
        by r closed refl
      where
        by : (q : Result ExportIndex ItemError) → Closes st s.top.instance s.top.items new q → r ≡ q
            → Reaches t ms old d new q
        by (Ok n) c same =
            let e = ended_turn b is turned in
            leave.closed t ms old d st0 st s k0 e.2 e.3 e.4 new (Ok n) c n refl e.0
        by (Err x) c same =
            let e = ended_turn b is turned in
            leave.fails_close t ms old d st0 st s k0 e.2 e.3 e.4 new (Err x) c x refl

module _ (t : TypeTable) (ms : List ModuleRecord) (old : State) (d : Definition) (new : State)
    (reachable : IsReachable t ms old d) where
  -- what is no instance is reached as one node, or as none where it is refused
  pub reaches_one : (r : Result ExportIndex ItemError) → ReachesOne t ms old d new r → Reaches t ms old d new r
  unfolding OneEnds NodeEnds
  reaches_one (Ok n) one = record {
    nodes = 1;
    keeps = one.keeps;
    adds = one.adds;
    types = one.types;
    exports = one.exports;
    reads = λ w x room stands is. one.reads w x stands is;
  }
  reaches_one (Err (item_error.Fault q)) one =
      let ends = one.reads reachable.world reachable.subject reachable.stands reachable.is in
      record {
        nodes = 0;
        keeps = one.keeps;
        adds = subst (λ (y : State). Adds t (4 * 0) (tables_of old) (tables_of y)) (sym ends.3)
            (adds_refl t (4 * 0) (tables_of old));
        types = one.types;
        exports = one.exports;
        reads = λ w x room stands is.
            let e = one.reads w x stands is in
            (refused (unsupported e.0), e.2 ∙ room_here w.total (refused (unsupported e.0)) room, (e.0, e.1, refl));
      }
  reaches_one (Err item_error.TooMany) one = record {
    nodes = 1;
    keeps = one.keeps;
    adds = one.adds;
    types = one.types;
    exports = one.exports;
    reads = λ w x room stands is. let e = one.reads w x stands is in (e.1.0, e.1.1, inl e.0);
  }
  reaches_one (Err item_error.NoMemory) one = record {
    nodes = 1;
    keeps = one.keeps;
    adds = one.adds;
    types = one.types;
    exports = one.exports;
    reads = λ w x room stands is. let e = one.reads w x stands is in (e.0, e.1, tt);
  }

module _ (t : TypeTable) (ms : List ModuleRecord) (old : State) (d : Definition) (st : State) (s : Stack) where
  -- what went on
  pub went_on : {A : Type 0} (x : A) → GoesOn t ms old d st s (Ok x) → Working t ms old d st s
  unfolding GoesOn
  went_on x goes = goes

  -- an error that is passed up
  pub went_off : (A : Type 0) (e : ItemError) → GoesOn t ms {A = A} old d st s (Err e)
      → (q : Result ExportIndex ItemError) → IsErr q → IsErrAnd q (λ x. x ≡ e) → Reaches t ms old d st q
  unfolding GoesOn
  went_off A e goes (Ok x) is same = absurd (let no : ⊥ = cc in no)
  went_off A e goes (Err x) is same = subst (λ y. Reaches t ms old d st (Err y)) (sym same) goes
