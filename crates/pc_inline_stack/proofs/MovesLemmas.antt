-- The moves of the driver as its functions promise them.
use Rattle.std.proofs.Common.{◌≡◌, ◌<◌, ◌≤◌, ◌+◌, ◌*◌, ℕ, List, [], ◌∷◌, ◌++◌, None, Some, Result, Ok, Err, reverse}
use Rattle.std.proofs.Common.{length}
use Rattle.std.proofs.Common.{map, Bool, true, false}
use Rattle.std.proofs.Common.{refl, sym, ap, subst, ◌∙◌, arith, IsErrAnd}
use Rattle.std.specs.Prelude.{⊤, IfSome, Option, option_to_list, slice_get, unwrap_or}
use Rattle.std.proofs.lemmas.List.{append-nil, reverse-append}
use Rattle.std.proofs.lemmas.List.Elements.{All-nil, All-pop, All-push}
use Rattle.pc_numbers.specs.declared.runtime.RuntimeComponentInstanceIndex.{RuntimeComponentInstanceIndex}
use Rattle.pc_types.specs.declared.error.Error.{Error}
use Rattle.pc_types.specs.declared.error.Error.TheVariants as error
use Rattle.pc_types.specs.declared.error.Place.{Place}
use Rattle.pc_types.specs.declared.error.Place.TheVariants as place
use Rattle.pc_types.specs.declared.module_record.ModuleRecord.{ModuleRecord}
use Rattle.pc_types.specs.declared.parsed.TypeTable.{TypeTable}
use Rattle.pc_types.specs.Names.{distinct_names}
use Rattle.pc_types.specs.Table.{is_instance}
use Rattle.pc_spec_reading.specs.Types.{has_entry}
use Rattle.pc_local.specs.Sound.{IsSoundBody, export_name}
use Rattle.pc_types_builder.specs.Plain.{Layers}
use Rattle.pc_types_builder.specs.Converted.{AreConverted}
use Rattle.pc_types_lists.specs.Types.{Resources, Types}
use Rattle.pc_parsed.specs.declared.payload.ExternName.{ExternName}
use Rattle.pc_parsed.specs.declared.payload.ItemKind.{ItemKind}
use Rattle.pc_spec_reading.specs.Section.{argument_of}
use Rattle.pc_local.specs.declared.item.LocalInitializer.{LocalInitializer}
use Rattle.pc_local.specs.declared.item.LocalInitializer.TheVariants as local
use Rattle.pc_local.specs.declared.item.Translation.{Translation}
use Rattle.pc_weights.specs.Weighs.{HasWeight}
use Rattle.pc_dfg.specs.declared.dfg.ComponentDfg.{ComponentDfg}
use Rattle.pc_dfg.specs.Grows as graph
use Rattle.pc_inline_stack.specs.declared.driver.Call.{Call}
use Rattle.pc_inline_stack.specs.declared.driver.Open.{Open}
use Rattle.pc_inline_state.specs.declared.error.ItemError.{ItemError}
use Rattle.pc_inline_state.specs.declared.frame.Frame.{Frame}
use Rattle.pc_inline_state.specs.declared.state.State.{State}
use Rattle.pc_types_lists.specs.Adds.{most_types}
use Rattle.pc_inline_state.specs.Adds.{Adds, most_added, most_converted, types_among}
use Rattle.pc_inline_stack.specs.Begins.{Begins, converting_for}
use Rattle.pc_inline_stack.specs.Calls.{Calls, GivesBack, IsReturn, Stays, TrailsBack}
use Rattle.pc_inline_state.specs.Faults.{error_of}
use Rattle.pc_inline_stack.specs.declared.driver.Stack.{Stack}
use Rattle.pc_inline_stack.specs.Stacks.{AreCounted, AreUnderway, AreWeights, Driven, Failed, Falls, GoesOn, Moved}
use Rattle.pc_inline_stack.specs.Stacks.{Moves, Turned, begins_child, instance_type_at, items_of, work}
use Rattle.pc_inline_items.specs.StepsLocal.{StepsLocal}
use Rattle.pc_inline_state.specs.Tables.{Keeps, tables_of}
use Rattle.pc_inline_state.specs.Trails.{Trails}
use Rattle.pc_inline_stack.proofs.ChildLemmas.{call_failed, child_driven, child_unbegun, child_unfed, left_driven}
use Rattle.pc_inline_stack.proofs.ChildLemmas.{left_failed}
use Rattle.pc_inline_stack.proofs.EnterLemmas.{child_open, for_arguments}
use Rattle.pc_inline_stack.proofs.LeaveLemmas.{for_return, its_exports, underway_return, underway_type}
use Rattle.pc_inline_stack.proofs.SoundLemmas.{sound_exports}
use Rattle.pc_inline_stack.proofs.MoveLemmas.{item_fails, item_goes}
use Rattle.pc_inline_stack.proofs.WeighsLemmas.{weight_at}
use Rattle.pc_inline_stack.proofs.WorkLemmas.{falls_among, work_enters, work_goes, work_leaves}

-- an item that begins no component instance
pub plain_other : (l : LocalInitializer)
    → ((component : ℕ) (args : List (List ℕ × ItemKind × ℕ)) (ty : ℕ)
    → ¬ (l ≡ local.ComponentInstantiate component args ty))
    → begins_child l ≡ false
plain_other (local.ComponentInstantiate component args ty) other = absurd (other component args ty refl)
plain_other l other = refl

-- one more waits
pub one_waits : (xs ys : List Open) (c o : Open) → ys ≡ xs ++ c ∷ [] → c ≡ o → reverse ys ≡ o ∷ reverse xs
one_waits xs ys c o is same = ap reverse is ∙ reverse-append xs (c ∷ []) ∙ ap (λ k. k ∷ reverse xs) same

-- and where each is at an item after whose number there is another one, each still is
pub one_counted : (xs ys : List Open) (c o : Open) → ys ≡ xs ++ c ∷ [] → c ≡ o → o.next < 18446744073709551615
    → AreCounted xs → AreCounted ys
one_counted xs ys c o is same next each =
    subst AreCounted (sym is) (All-push (λ (k : Open). k.next < 18446744073709551615) xs c each
    (subst (λ (k : Open). k.next < 18446744073709551615) (sym same) next))

-- where the last no longer waits, each still is
pub counted_left : (xs ys : List Open) (o : Option Open) → xs ≡ ys ++ option_to_list o → AreCounted xs → AreCounted ys
counted_left xs ys o is each = (All-pop (λ (k : Open). k.next < 18446744073709551615) xs ys o is each).0

-- and of the last itself
pub counted_popped : (xs ys : List Open) (o : Option Open) (c : Open) → xs ≡ ys ++ option_to_list o → o ≡ Some c
    → AreCounted xs → c.next < 18446744073709551615
counted_popped xs ys o c is some each =
    let last : IfSome (Some c) (λ (k : Open). k.next < 18446744073709551615) =
    subst (λ x. IfSome x (λ (k : Open). k.next < 18446744073709551615)) some
    (All-pop (λ (k : Open). k.next < 18446744073709551615) xs ys o is each).1 in
    last

-- none waits at first
pub none_counted : (xs : List Open) → xs ≡ [] → AreCounted xs
none_counted xs is = subst AreCounted (sym is) (All-nil (λ (k : Open). k.next < 18446744073709551615))

-- a child of which nothing was read, by its frame
pub child_is : (call : Call) (c : RuntimeComponentInstanceIndex) (f : Frame) (done : Layers)
    → f ≡ (child_open call c done).frame
    → record { frame = f; closure = Some call.closure; body = Some call.body; next = 0 } ≡ child_open call c done
child_is call c f done is =
    ap (λ x. record { frame = x; closure = Some call.closure; body = Some call.body; next = 0 }) is

module _ (t : TypeTable) (ms : List ModuleRecord) (limit : ℕ) (root : Translation) (st : State) (ks : List Open)
    (o : Open) (total : ℕ) (st' : State) where
  -- a move that ends with an error
  move_fails : (ks' : List Open) (o' : Open) (total' : ℕ) {A : Type 0} (r : Result A Error) (e : Error)
      → IsErrAnd r (λ x. x ≡ e)
      → ((old : State) (f : Frame) (counted : ℕ) → Driven t ms limit root old f counted st ks o total
      → Failed t ms limit root old f counted st' total' e)
      → Moves t ms limit root st ks o total st' ks' o' total' r
  unfolding Moves GoesOn
  move_fails ks' o' total' (Ok x) e is each = absurd is
  move_fails ks' o' total' (Err x) e is each =
      λ old f counted driven.
      subst (Failed t ms limit root old f counted st' total') (sym is) (each old f counted driven)

  -- a move that goes on
  pub move_goes : (ks' : List Open) (o' : Open) (total' : ℕ) {A : Type 0} (x : A)
      → ((old : State) (f : Frame) (counted : ℕ) → Driven t ms limit root old f counted st ks o total
      → Driven t ms limit root old f counted st' ks' o' total')
      → Moves t ms limit root st ks o total st' ks' o' total' (Ok x)
  unfolding Moves GoesOn
  move_goes ks' o' total' x each = each

module _ (t : TypeTable) (ms : List ModuleRecord) (limit : ℕ) (root : Translation) (st : State) (ks : List Open)
    (o : Open) (total : ℕ)
  where
    module _ (component : ℕ) (args : List (List ℕ × ItemKind × ℕ)) (ty : ℕ)
        (at : slice_get (items_of st.bodies.now root o) o.next ≡ Some
        (local.ComponentInstantiate component args ty)) (st' : State) (keeps : Keeps (tables_of st) (tables_of st'))
        (adds : Adds t (for_arguments t args) (tables_of st) (tables_of st')) (g : Frame)
        (frame : g ≡ record o.frame { converted = g.converted }) where
      -- an instantiation is refused
      pub moves_refused : {A : Type 0} (e : ItemError) → Calls t ms component (map argument_of args) ty st o.frame st'
          (Err e) → (r : Result A Error) (p : Place) → p ≡ place.Reading g.component_instance.0 o.next
          → IsErrAnd r (λ x. x ≡ error_of e p) → (ks' : List Open) (o' : Open)
          → Moves t ms limit root st ks o total st' ks' o' total r
      moves_refused e calls r p there is ks' o' =
          let same : p ≡ place.Reading o.frame.component_instance.0 o.next =
          there ∙ ap (λ (h : Frame). place.Reading h.component_instance.0 o.next) frame in
          move_fails t ms limit root st ks o total st' ks' o' total r (error_of e p) is
          (λ old f counted driven. subst (λ q. Failed t ms limit root old f counted st' total (error_of e q))
          (sym same)
          (call_failed t ms limit root old f counted st ks o total driven component args ty at st' keeps adds e calls))

      module _ (known : st'.types.resources ≡ st.types.resources) (stays : Stays t ms st o.frame st' g) (call : Call)
          (calls : Calls t ms component (map argument_of args) ty st o.frame st' (Ok call)) (weights : List ℕ)
          (are : AreWeights t ms st.bodies.now weights) (weight : ℕ)
          (weight_is : weight ≡ unwrap_or (slice_get weights call.body.0) 4294967295) where
        -- this is the weight of the body of the child
        weighs : (tr : Translation) → slice_get st'.bodies.now call.body.0 ≡ Some tr → HasWeight t ms tr weight
        weighs tr there =
            weight_at t ms st.bodies.now weights are call.body.0 weight weight_is tr
            (ap (λ bs. slice_get bs call.body.0) (sym keeps.bodies) ∙ there)

        -- no child begins
        pub moves_unbegun : {A : Type 0} (h : ComponentDfg) (total' : ℕ) (e : Error)
            → Begins limit weight st'.graph h total total' (Err e)
            → (r : Result A Error) → IsErrAnd r (λ x. x ≡ e) → (ks' : List Open) (o' : Open)
            → Moves t ms limit root st ks o total (record st' { graph = h }) ks' o' total' r
        moves_unbegun h total' e begins r is ks' o' =
            move_fails t ms limit root st ks o total (record st' { graph = h }) ks' o' total' r e is
            (λ old f counted driven. child_unbegun t ms limit root old f counted st ks o total driven component args ty
            at st' keeps adds g frame known stays call calls weight weighs h total' e begins)

        module _ (c : RuntimeComponentInstanceIndex) (h : ComponentDfg) (total' : ℕ)
            (begins : Begins limit weight st'.graph h total total' (Ok c)) (grown : graph.Grows st'.graph h) where
          -- there was no memory
          pub moves_unfed : {A : Type 0} (r : Result A Error) → IsErrAnd r (λ x. x ≡ error.NoMemory)
              → (ks' : List Open) (o' : Open)
              → Moves t ms limit root st ks o total (record st' { graph = h }) ks' o' total' r
          moves_unfed r is ks' o' =
              move_fails t ms limit root st ks o total (record st' { graph = h }) ks' o' total' r error.NoMemory is
              (λ old f counted driven. child_unfed t ms limit root old f counted st ks o total driven component args ty
              at st' keeps adds g frame known stays call calls weight weighs c h total' begins grown)

          -- the child is read, and types are converted for it
          pub moves_entered : {A : Type 0} (x : A) (ts : Types) → ts ≡ converting_for st'.types c
              → (done : Layers) → ((r : Resources) → AreConverted (record st'.types { resources = r }) t done)
              → (ks' : List Open) (o' : Open) → ks' ≡ record o { frame = g } ∷ ks → o' ≡ child_open call c done
              → Moves t ms limit root st ks o total (record st' { graph = h; types = ts }) ks' o' total' (Ok x)
          moves_entered x ts current done none ks' o' wait is =
              subst (λ k. Moves t ms limit root st ks o total (record st' { graph = h; types = ts }) ks' k total'
              (Ok x)) (sym is)
              (subst (λ k. Moves t ms limit root st ks o total (record st' { graph = h; types = ts }) k
              (child_open call c done) total' (Ok x)) (sym wait)
              (move_goes t ms limit root st ks o total (record st' { graph = h; types = ts })
              (record o { frame = g } ∷ ks) (child_open call c done) total' x
              (λ old f counted driven. child_driven t ms limit root old f counted st ks o total driven component args ty
              at st' keeps adds g frame known stays call calls weight weighs c h total' begins grown ts current done
              none)))

      -- less is left to do where a child is read
      pub falls_entered : (call : Call) (c : RuntimeComponentInstanceIndex) (h : ComponentDfg) (weight total' : ℕ)
          → Begins limit weight st'.graph h total total' (Ok c) → (ts : Types) (done : Layers) (ks' : List Open)
          (o' : Open) → ks' ≡ record o { frame = g } ∷ ks → o' ≡ child_open call c done
          → Falls limit root st ks o (record st' { graph = h; types = ts }) ks' o'
      unfolding Begins work
      falls_entered call c h weight total' begins ts done ks' o' wait is =
          let more = keeps.graph.component_instances in
          let below = begins.0 in
          let number : h.num_runtime_component_instances ≡ st'.graph.num_runtime_component_instances + 1 =
          ap (λ (h : ComponentDfg). h.num_runtime_component_instances) begins.2 in
          subst (λ k. Falls limit root st ks o (record st' { graph = h; types = ts }) ks' k) (sym is)
          (subst (λ k. Falls limit root st ks o (record st' { graph = h; types = ts }) k (child_open call c done))
          (sym wait)
          (falls_among limit root st (record st' { graph = h; types = ts }) ks (record o { frame = g } ∷ ks) o
          (child_open call c done) (st.graph.num_runtime_component_instances + 1) keeps.bodies
          (omega (arith, number, more))
          (work_enters st.bodies.now root limit st.graph.num_runtime_component_instances ks (record o { frame = g })
          (child_open call c done) call.body refl refl (omega (arith, below, more)))))

    module _ (l : LocalInitializer) (at : slice_get (items_of st.bodies.now root o) o.next ≡ Some l)
        (plain : begins_child l ≡ false) (st' : State) (g : Frame) (keeps : Keeps (tables_of st) (tables_of st'))
        (adds : Adds t (most_added t l) (tables_of st) (tables_of st'))
        (same : g.component_instance ≡ o.frame.component_instance)
        (trail : Trails o.frame.changes st.types.resources g.changes st'.types.resources) where
      -- an item is refused
      pub moves_stuck : {A : Type 0} (e : ItemError) → StepsLocal t ms o.closure l st o.frame st' g (Err e)
          → (r : Result A Error) → (p : Place) → p ≡ place.Reading g.component_instance.0 o.next
          → IsErrAnd r (λ x. x ≡ error_of e p) → (ks' : List Open) (o' : Open)
          → Moves t ms limit root st ks o total st' ks' o' total r
      moves_stuck e steps r p there is ks' o' =
          move_fails t ms limit root st ks o total st' ks' o' total r (error_of e p) is
          (λ old f counted driven. subst (λ q. Failed t ms limit root old f counted st' total (error_of e q))
          (sym there)
          (item_fails t ms limit root old f counted st ks o total driven l at plain st' g keeps adds same trail e
          steps))

      -- an item is read
      pub moves_on : {A : Type 0} (x : A) (done : ⊤) → StepsLocal t ms o.closure l st o.frame st' g (Ok done)
          → Moves t ms limit root st ks o total st' ks (record o { frame = g; next = o.next + 1 }) total (Ok x)
      moves_on x done steps =
          move_goes t ms limit root st ks o total st' ks (record o { frame = g; next = o.next + 1 }) total x
          (λ old f counted driven. item_goes t ms limit root old f counted st ks o total driven l at plain st' g keeps
          adds same trail done steps)

      -- less is left to do
      pub falls_on : Falls limit root st ks o st' ks (record o { frame = g; next = o.next + 1 })
      falls_on =
          let more = keeps.graph.component_instances in
          falls_among limit root st st' ks ks o (record o { frame = g; next = o.next + 1 })
          st.graph.num_runtime_component_instances keeps.bodies more
          (work_goes st.bodies.now root limit st.graph.num_runtime_component_instances ks o g l at)

    module _ (caller : Open) (ty : ℕ)
        (ty_is : ty ≡ unwrap_or (instance_type_at (items_of st.bodies.now root caller) caller.next) 0)
        (end : length (items_of st.bodies.now root o) ≤ o.next) (st' : State) (g : Frame)
        (keeps : Keeps (tables_of st) (tables_of st'))
        (adds : Adds t (for_return t root st o) (tables_of st) (tables_of st'))
        (same : g.component_instance ≡ caller.frame.component_instance) where
      -- what waits for a child that has ended can't go on
      moves_crowded : {A : Type 0} (e : ItemError)
          → GivesBack t ms (its_exports root st o) ty st o.frame caller.frame st' g (Err e) → (p : Place)
          → p ≡ place.Reading g.component_instance.0 caller.next → (r : Result A Error)
          → IsErrAnd r (λ x. x ≡ error_of e p) → (ks' : List Open) (o' : Open)
          → Moves t ms limit root st (caller ∷ ks) o total st' ks' o' total r
      moves_crowded e gives p there r is ks' o' =
          move_fails t ms limit root st (caller ∷ ks) o total st' ks' o' total r (error_of e p) is
          (λ old f counted driven. subst (λ q. Failed t ms limit root old f counted st' total (error_of e q))
          (sym there)
          (left_failed t ms limit root old f counted st caller ks o total driven ty ty_is end st' g keeps adds same e
          gives))

      -- it has what the child exports
      moves_left : {A : Type 0} (x : A) (done : ⊤)
          → GivesBack t ms (its_exports root st o) ty st o.frame caller.frame st' g (Ok done)
          → TrailsBack st o.frame caller.frame st' g
          → Moves t ms limit root st (caller ∷ ks) o total st' ks (record caller { frame = g; next = caller.next + 1 })
          total (Ok x)
      moves_left x done gives trails =
          move_goes t ms limit root st (caller ∷ ks) o total st' ks
          (record caller { frame = g; next = caller.next + 1 }) total x
          (λ old f counted driven. left_driven t ms limit root old f counted st caller ks o total driven ty ty_is end
          st' g keeps adds same done gives trails)

      -- less is left to do
      falls_left : Falls limit root st (caller ∷ ks) o st' ks (record caller { frame = g; next = caller.next + 1 })
      falls_left =
          let more = keeps.graph.component_instances in
          falls_among limit root st st' (caller ∷ ks) ks o (record caller { frame = g; next = caller.next + 1 })
          st.graph.num_runtime_component_instances keeps.bodies more
          (work_leaves st.bodies.now root limit st.graph.num_runtime_component_instances ks o caller g)

module _ (t : TypeTable) (ms : List ModuleRecord) (limit : ℕ) (root : Translation) (st : State) (ks : List Open)
    (o : Open) (total : ℕ) (st' : State) (ks' : List Open) (o' : Open) (total' : ℕ) where
  -- a move that goes on, whatever it answers
  pub moves_as : {A B : Type 0} (x : A) (y : B) → Moves t ms limit root st ks o total st' ks' o' total' (Ok x)
      → Moves t ms limit root st ks o total st' ks' o' total' (Ok y)
  unfolding Moves GoesOn
  moves_as x y moves = moves

  -- and one that ends with an error
  pub moves_end : {B : Type 0} (A : Type 0) (e : Error)
      → Moves t ms limit root {A = A} st ks o total st' ks' o' total' (Err e)
      → (r : Result B Error) → IsErrAnd r (λ x. x ≡ e) → Moves t ms limit root st ks o total st' ks' o' total' r
  unfolding Moves GoesOn
  moves_end A e moves r is = move_fails t ms limit root st ks o total st' ks' o' total' r e is moves

  module _ (old : State) (f : Frame) (counted : ℕ) (driven : Driven t ms limit root old f counted st ks o total) where
    -- where a move went on
    pub moved : {A : Type 0} (x : A) → Moves t ms limit root st ks o total st' ks' o' total' (Ok x)
        → Driven t ms limit root old f counted st' ks' o' total'
    unfolding Moves GoesOn
    moved x moves = moves old f counted driven

    -- and where it ended
    pub unmoved : (A : Type 0) (e : Error) → Moves t ms limit root {A = A} st ks o total st' ks' o' total' (Err e)
        → Failed t ms limit root old f counted st' total' e
    unfolding Moves GoesOn
    unmoved A e moves = moves old f counted driven

-- a call that ends with an error
pub error_moved : {A : Type 0} (t : TypeTable) (ms : List ModuleRecord) (limit : ℕ) (root : Translation) (st : State)
    (ks : List Open) (s : Stack) (st' : State) (s' : Stack) (r : Result A Error) (P : Error → Type 0) → IsErrAnd r P
    → Moves t ms limit root st ks s.top s.total st' (reverse s'.callers.items) s'.top s'.total r
    → Moved t ms limit root st ks s st' s' r
error_moved t ms limit root st ks s st' s' (Ok x) P is moves = absurd is
error_moved t ms limit root st ks s st' s' (Err e) P is moves = record { moves = moves; falls = tt; waits = tt }

-- a turn with a move
pub turn_falls : (limit : ℕ) (root : Translation) (st : State) (ks : List Open) (o : Open) (st' : State)
    (ks' : List Open) (o' : Open) (more : Bool) → more ≡ true → Turned limit root st ks o st' ks' o' more
    → work limit st'.bodies.now root st'.graph.num_runtime_component_instances ks' o'
    < work limit st.bodies.now root st.graph.num_runtime_component_instances ks o
unfolding Turned Falls
turn_falls limit root st ks o st' ks' o' more is turned =
    subst (Turned limit root st ks o st' ks' o') is turned

-- the root has ended
pub turn_ends : (limit : ℕ) (root : Translation) (st : State) (ks : List Open) (o : Open) (st' : State)
    (ks' : List Open) (o' : Open) (more : Bool) → more ≡ false → Turned limit root st ks o st' ks' o' more
    → (ks' ≡ []) × (length (items_of st'.bodies.now root o') ≤ o'.next)
unfolding Turned
turn_ends limit root st ks o st' ks' o' more is turned =
    subst (Turned limit root st ks o st' ks' o') is turned

-- one that waited goes on
pub popped : (xs ys : List Open) (o : Option Open) (c : Open) → xs ≡ ys ++ option_to_list o → o ≡ Some c
    → reverse xs ≡ c ∷ reverse ys
popped xs ys o c is some =
    ap reverse (is ∙ ap (λ x. ys ++ option_to_list x) some) ∙ reverse-append ys (c ∷ [])

-- or none waited
pub none_popped : (xs ys : List Open) (o : Option Open) → xs ≡ ys ++ option_to_list o → o ≡ None
    → reverse ys ≡ reverse xs
none_popped xs ys o is none =
    ap reverse (sym (append-nil ys) ∙ ap (λ x. ys ++ option_to_list x) (sym none) ∙ sym is)

-- an empty list
pub none_wait : (xs : List Open) → length xs ≡ 0 → reverse xs ≡ []
none_wait [] is = refl
none_wait (x ∷ xs) is = absurd (omega (arith, is))

-- where the innermost is another name for the child, and the next for the one that waits for it
module _ (t : TypeTable) (ms : List ModuleRecord) (limit : ℕ) (root : Translation) (st : State) (ks : List Open)
    (o : Open) (total : ℕ) (caller : Open) (ty : ℕ)
    (ty_is : ty ≡ unwrap_or (instance_type_at (items_of st.bodies.now root caller) caller.next) 0)
    (end : length (items_of st.bodies.now root o) ≤ o.next) (st' : State) (g : Frame)
    (keeps : Keeps (tables_of st) (tables_of st')) (next child : Open) (after : next ≡ caller) (was : child ≡ o)
    (es : List (ExternName × ItemKind × ℕ)) (are : es ≡ its_exports root st child)
    (adds : Adds t (types_among es * (1 + most_types t) + most_converted t 1) (tables_of st) (tables_of st'))
    (same : g.component_instance ≡ next.frame.component_instance) where
  are_its : es ≡ its_exports root st o
  are_its = are ∙ ap (its_exports root st) was

  adds_so : Adds t (for_return t root st o) (tables_of st) (tables_of st')
  adds_so =
      subst (λ xs. Adds t (types_among xs * (1 + most_types t) + most_converted t 1) (tables_of st) (tables_of st'))
      are_its adds

  same_so : g.component_instance ≡ caller.frame.component_instance
  same_so = same ∙ ap (λ (k : Open). k.frame.component_instance) after

  gives_so : (r : Result ⊤ ItemError) → GivesBack t ms es ty st child.frame next.frame st' g r
      → GivesBack t ms (its_exports root st o) ty st o.frame caller.frame st' g r
  gives_so r gives =
      subst (λ xs. GivesBack t ms xs ty st o.frame caller.frame st' g r) are_its
      (subst (λ (k : Open). GivesBack t ms es ty st k.frame caller.frame st' g r) was
      (subst (λ (k : Open). GivesBack t ms es ty st child.frame k.frame st' g r) after gives))

  -- the one that waits can't go on
  pub leaves_crowded : {A : Type 0} (e : ItemError) → GivesBack t ms es ty st child.frame next.frame st' g (Err e)
      → (p : Place) → p ≡ place.Reading g.component_instance.0 next.next → (r : Result A Error)
      → IsErrAnd r (λ x. x ≡ error_of e p) → (ks' : List Open) (o' : Open)
      → Moves t ms limit root st (caller ∷ ks) o total st' ks' o' total r
  leaves_crowded e gives p there r is ks' o' =
      moves_crowded t ms limit root st ks o total caller ty ty_is end st' g keeps adds_so same_so e
      (gives_so (Err e) gives) p
      (there ∙ ap (λ (k : Open). place.Reading g.component_instance.0 k.next) after) r is ks' o'

  -- it goes on
  pub leaves : {A : Type 0} (x : A) (done : ⊤) → GivesBack t ms es ty st child.frame next.frame st' g (Ok done)
      → TrailsBack st child.frame next.frame st' g
      → Moves t ms limit root st (caller ∷ ks) o total st' ks (record next { frame = g; next = next.next + 1 }) total
      (Ok x)
  leaves x done gives trails =
      subst (λ k. Moves t ms limit root st (caller ∷ ks) o total st' ks (record k { frame = g; next = k.next + 1 })
      total (Ok x)) (sym after)
      (moves_left t ms limit root st ks o total caller ty ty_is end st' g keeps adds_so same_so x done
      (gives_so (Ok done) gives)
      (subst (λ (k : Open). TrailsBack st k.frame caller.frame st' g) was
      (subst (λ (k : Open). TrailsBack st child.frame k.frame st' g) after trails)))

  -- and less is left to do
  pub falls_leaving : Falls limit root st (caller ∷ ks) o st' ks (record next { frame = g; next = next.next + 1 })
  falls_leaving =
      subst (λ k. Falls limit root st (caller ∷ ks) o st' ks (record k { frame = g; next = k.next + 1 })) (sym after)
      (falls_left t ms limit root st ks o total caller ty ty_is end st' g keeps adds_so same_so)

-- the type of a child, as the code finds it
pub leaving_type : (st : State) (root : Translation) (caller : Open) (ty : ℕ) (found : Option ℕ)
    → found ≡ instance_type_at (items_of st.bodies.now root caller) caller.next → ty ≡ unwrap_or found 0
    → ty ≡ unwrap_or (instance_type_at (items_of st.bodies.now root caller) caller.next) 0
leaving_type st root caller ty found there is = is ∙ ap (λ o. unwrap_or o 0) there

-- what is asked where a child ends
module _ (t : TypeTable) (ms : List ModuleRecord) (limit : ℕ) (root : Translation) where
  -- it has ended
  pub leaving_return : (st : State) (caller : Open) (ks : List Open) (o : Open) (total : ℕ)
      → AreUnderway t ms limit root st (caller ∷ ks) o total → (next child : Open) → next ≡ caller → child ≡ o
      → IsReturn t ms st child.frame next.frame
  leaving_return st caller ks o total under next child after was =
      subst (λ (k : Open). IsReturn t ms st k.frame next.frame) (sym was)
      (subst (λ (k : Open). IsReturn t ms st o.frame k.frame) (sym after)
      (underway_return t ms limit root st caller ks o total under))

  -- its exports have names of their own
  pub leaving_named : IsSoundBody (length ms) root → (st : State) (caller : Open) (ks : List Open) (o : Open)
      (total : ℕ) → AreUnderway t ms limit root st (caller ∷ ks) o total → (child : Open) → child ≡ o
      → (es : List (ExternName × ItemKind × ℕ)) → es ≡ its_exports root st child
      → distinct_names (map export_name es) ≡ true
  leaving_named sound st caller ks o total under child was es are =
      ap (λ xs. distinct_names (map export_name xs)) (are ∙ ap (its_exports root st) was)
      ∙ sound_exports t ms limit root sound st (caller ∷ ks) o total under

  -- its type is an instance type
  pub leaving_typed : (st : State) (caller : Open) (ks : List Open) (o : Open) (total : ℕ)
      → AreUnderway t ms limit root st (caller ∷ ks) o total → (ty : ℕ)
      → ty ≡ unwrap_or (instance_type_at (items_of st.bodies.now root caller) caller.next) 0
      → has_entry t is_instance ty ≡ true
  leaving_typed st caller ks o total under ty is =
      ap (has_entry t is_instance) is ∙ underway_type t ms limit root st caller ks o total under
