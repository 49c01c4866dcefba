-- Component instances one inside another: those of the code against the readers of the reading.
use Rattle.std.specs.Prelude.{◌≡◌, ◌<◌, ◌≤◌, ◌+◌, ◌-◌, ◌⊎◌, ⊤, ℕ, zero, suc, Bool, true, false, List, [], ◌∷◌}
use Rattle.std.specs.Prelude.{◌*◌, All, drop, length, map, reverse, sum_by}
use Rattle.std.specs.Prelude.{Option, None, Some, Result, Ok, Err, option_and_then, slice_get}
use Rattle.std.specs.List.{AllZip}
use Rattle.std.specs.Result.{IfOk, OnOk}
use Rattle.pc_numbers.specs.declared.component_entity.StaticComponentIndex.{StaticComponentIndex}
use Rattle.pc_types.specs.declared.error.Error.{Error}
use Rattle.pc_types.specs.declared.error.Error.TheVariants as error
use Rattle.pc_types.specs.declared.module_record.ModuleRecord.{ModuleRecord}
use Rattle.pc_types.specs.declared.parsed.TypeTable.{TypeTable}
use Rattle.pc_types.specs.Table.{is_instance}
use Rattle.pc_types_lists.specs.Adds.{most_types}
use Rattle.pc_types_lists.specs.Known.{resource_of}
use Rattle.pc_types_lists.specs.Types.{Resources}
use Rattle.pc_types_builder.specs.Converted.{AreConverted}
use Rattle.pc_spec_reading.specs.Components.{read_return}
use Rattle.pc_parsed.specs.declared.payload.ItemKind.{ItemKind}
use Rattle.pc_parsed.specs.declared.payload.ItemKind.TheVariants as kind
use Rattle.pc_spec_reading.specs.Item.{ExportOf, Items, and_item, exports_in, instantiate_component_item}
use Rattle.pc_spec_reading.specs.Outcome.{Outcome, and_then, at_item, past}
use Rattle.pc_spec_reading.specs.Reading.{Return, returning, enter_at, read_items}
use Rattle.pc_spec_reading.specs.Scope.{Moment, Scope}
use Rattle.pc_spec_reading.specs.Section.{argument_of, named_item}
use Rattle.pc_spec_reading.specs.Types.{has_entry}
use Rattle.pc_spec_reading.specs.World.{World, full}
use Rattle.pc_local.specs.declared.item.LocalInitializer.{LocalInitializer}
use Rattle.pc_local.specs.declared.item.LocalInitializer.TheVariants as local
use Rattle.pc_local.specs.declared.item.Translation.{Translation}
use Rattle.pc_local.specs.Standing.{ItemsStand, Names, no_names}
use Rattle.pc_weights.specs.Weighs.{HasWeight}
pub use Rattle.pc_inline_names.specs.Named.{body_at}
use Rattle.pc_inline_state.specs.declared.closure.Closure.{Closure}
use Rattle.pc_inline_state.specs.declared.definition.ClosureId.{ClosureId}
use Rattle.pc_inline_stack.specs.declared.driver.Open.{Open}
use Rattle.pc_inline_stack.specs.declared.driver.Stack.{Stack}
use Rattle.pc_inline_state.specs.declared.frame.Frame.{Frame}
use Rattle.pc_inline_state.specs.declared.state.State.{State}
use Rattle.pc_inline_state.specs.Adds.{Adds, most_added, most_converted, most_of_items, types_among}
use Rattle.pc_inline_items.specs.Captures.{IsEnclosed}
use Rattle.pc_inline_stack.specs.Driving.{reading_from}
use Rattle.pc_inline_state.specs.Frames.{FrameStands}
use Rattle.pc_inline_state.specs.KnowsSame.{KnowsSame}
use Rattle.pc_inline_state.specs.Points.{IsFullSomewhere, IsSoundState, PointStands}
use Rattle.pc_inline_stack.specs.Reads.{Ends, items_from}
use Rattle.pc_inline_state.specs.Tables.{Keeps, Tables, tables_of}
use Rattle.pc_inline_state.specs.Trails.{undone}
use Rattle.pc_inline_state.specs.Worlds.{HasNoExports, WorldStands}

-- these are the weights of the bodies: of each body of the reading that a body stands for, cut where a total is full
abbrev pub AreWeights : TypeTable → List ModuleRecord → List Translation → List ℕ → Type 0
AreWeights t ms bodies weights = AllZip (HasWeight t ms) bodies weights

-- the items of a component instance
abbrev pub items_of : List Translation → (root : Translation) → Open → List LocalInitializer
items_of bodies root o = (body_at bodies root o.body).initializers

-- how many of them aren't read yet
abbrev pub items_left : List Translation → (root : Translation) → Open → ℕ
items_left bodies root o = length (items_of bodies root o) - o.next

-- how many items of all component instances that are being read; those that wait stand from the innermost out
abbrev pub all_left : List Translation → (root : Translation) → (callers : List Open) → Open → ℕ
all_left bodies root ks o = sum_by (items_left bodies root) ks + items_left bodies root o

-- whether an item is a type, as a count
abbrev pub type_count : ItemKind → ℕ
type_count kind.Type_ = 1
type_count k = 0

-- how many exports are types
abbrev pub types_exported : List ExportOf → ℕ
types_exported [] = 0
types_exported (e ∷ es) = type_count e.kind + types_exported es

-- how much the exports of the body of this number add at the most when its component instance ends: each type is
-- converted. Those of the root are read elsewhere
abbrev pub most_ended : TypeTable → List Translation → (root : Translation) → Option StaticComponentIndex → ℕ
most_ended t bodies root None = 0
most_ended t bodies root (Some s) = types_among (body_at bodies root (Some s)).exports * (1 + most_types t)

-- how much the items of a component instance add at the most from this number on, and its exports when it ends
abbrev pub most_from : TypeTable → List Translation → (root : Translation) → (n : ℕ) → Open → ℕ
most_from t bodies root n o =
    sum_by (most_added t) (drop n (items_of bodies root o)) + most_ended t bodies root o.body

-- the same of the innermost, which reads its next item
abbrev pub most_left : TypeTable → List Translation → (root : Translation) → Open → ℕ
most_left t bodies root o = most_from t bodies root o.next o

-- of one that waits for a child: what it adds at the most when the child has ended, and then its items behind
abbrev pub most_waiting : TypeTable → List Translation → (root : Translation) → Open → ℕ
most_waiting t bodies root o = most_converted t 1 + most_from t bodies root (suc o.next) o

-- of all component instances that are being read
abbrev pub all_most_left : TypeTable → List Translation → (root : Translation) → (callers : List Open) → Open → ℕ
all_most_left t bodies root ks o = sum_by (most_waiting t bodies root) ks + most_left t bodies root o

-- the items of all bodies
abbrev pub items_in : Translation → ℕ
items_in tr = length tr.initializers

-- so many times a number
abbrev pub times : ℕ → ℕ → ℕ
times zero n = 0
times (suc k) n = n + times k n

-- what is left to do: no more component instances begin than the limit, and each of them has items of one body
unfoldable pub work : (limit : ℕ) → List Translation → (root : Translation) → (begun : ℕ) → (callers : List Open) → Open
    → ℕ
work limit bodies root begun ks o =
    times (limit - begun) (items_in root + sum_by items_in bodies + 2) + (all_left bodies root ks o + (length ks + 1))

-- each that waits stands at an item after whose number there is another one
abbrev pub AreCounted : List Open → Type 0
AreCounted ks = All (λ (o : Open). o.next < 18446744073709551615) ks

-- a component instance of the reading: its scope, the names of what its body captures, and the body
pub record Reader : Type 0 where
  pub scope : Scope
  pub names : Names
  pub body : Items

-- one that waits for a child, which is begun by this item and has this type
pub record Waiting : Type 0 where
  pub reader : Reader
  pub item : ℕ
  pub ty : ℕ

module _ (t : TypeTable) (ms : List ModuleRecord) (limit : ℕ) where
  -- how many instantiations may still stand inside one another
  abbrev pub levels : List Waiting → ℕ
  levels ws = limit - length ws

  -- what is read when a child is done
  abbrev pub going_on : List Waiting → Waiting → Return → Outcome Moment
  going_on ws w r =
      and_then (at_item w.reader.scope.component_instance w.item
      (read_return t (record { scope = w.reader.scope; world = r.world }) r.exports w.ty))
      (read_items t ms (enter_at t ms limit (levels ws)) (w.item + 1) (items_from (w.item + 1) w.reader.body))

  -- how all that waits goes on when the items of the innermost have ended so
  unfoldable pub resume : List Waiting → (body : Items) → Outcome Moment → Outcome Moment
  resume [] body o = o
  resume (w ∷ ws) body o = resume ws w.reader.body (and_then (and_then o (returning t body)) (going_on ws w))

  -- the reading from item number n of the innermost on
  abbrev pub reads_on : List Waiting → Reader → (n : ℕ) → World → Outcome Moment
  reads_on ws r n w =
      resume ws r.body (read_items t ms (enter_at t ms limit (levels ws)) n (items_from n r.body)
      (record { scope = r.scope; world = w }))

-- with what a caller goes on when a child ends: the child's changes are taken back, and types are converted for the
-- caller again
pub record Waits (k : Resources) (child caller : Frame) (j : Resources) : Type 0 where
  pub known : (n : ℕ) → resource_of j.known n ≡ undone child.changes (resource_of k.known) n
  pub current : j.current ≡ caller.component_instance

module _ (t : TypeTable) (ms : List ModuleRecord) (bodies : List Translation) (root : Translation) where
  -- one that waits stands for one that waits: it is at the item that begins the child
  pub record CallerStands (o : Open) (w : Waiting) : Type 0 where
    pub item : o.next ≡ w.item
    pub is_typed : has_entry t is_instance w.ty ≡ true
    pub component : ℕ
    pub arguments : List (List ℕ × ItemKind × ℕ)
    pub there : slice_get (items_of bodies root o) o.next ≡ Some (local.ComponentInstantiate component arguments w.ty)
    pub at : items_from o.next w.reader.body
        ≡ and_item (instantiate_component_item component (map argument_of arguments) w.ty)
        (items_from (suc o.next) w.reader.body)

  -- a child has one of the bodies, and exports what its reader does
  pub record ChildHas (o : Open) (r : Reader) : Type 0 where
    pub index : StaticComponentIndex
    pub there : index.0 < length bodies
    pub is : o.body ≡ Some index
    pub exports : map named_item (body_at bodies root o.body).exports ≡ exports_in r.body

  module _ (b : Tables) where
    -- a component instance stands for a reader, where it goes on with these resources
    pub record OpenStands (k : Resources) (o : Open) (r : Reader) : Type 0 where
      pub frame : FrameStands ms b o.frame r.scope
      pub here : KnowsSame b.graph k r.scope
      pub converted : AreConverted (record b.types { resources = k }) t o.frame.converted
      pub enclosed : IsEnclosed ms b r.names o.closure r.scope.chain
      pub closed : (k : ClosureId) → o.closure ≡ Some k → (c : Closure) × (slice_get b.closures k.0 ≡ Some c)
      pub items : ItemsStand bodies r.names (items_of bodies root o) r.body

    -- the innermost, which goes on with these resources, stands for a reader, and those that wait, from the innermost
    -- out, for those that wait
    pub data AllStand : Resources → List Open → Open → List Waiting → Reader → Type 0 where
      root_stands : {k : Resources} {o : Open} {r : Reader} → OpenStands k o r → AllStand k [] o [] r
      child_stands : {k j : Resources} {os : List Open} {caller o : Open} {ws : List Waiting} {w : Waiting}
          {r : Reader} → OpenStands k o r → ChildHas o r → CallerStands caller w → Waits k o.frame caller.frame j
          → AllStand j os caller ws w.reader → AllStand k (caller ∷ os) o (w ∷ ws) r

-- what was added and what is left to be added is no more than the root's items add, and what a total has grown by
abbrev pub Grew : (counted total added left count : ℕ) → Type 0
Grew counted total added left count = (total < full) × (added + counted + left ≤ count + total)

module _ (t : TypeTable) (ms : List ModuleRecord) (limit : ℕ) (root : Translation) where
  -- the reading from a moment on is where the code is, in this total
  pub record Reached (is : Items) (first : Moment) (st : State) (ks : List Open) (o : Open) (total : ℕ)
      : Type 0 where
    pub waiting : List Waiting
    pub reader : Reader
    pub world : World
    pub is_total : world.total ≡ Some total
    pub sound : IsSoundState t ms st
    pub world_stands : WorldStands st.types st.graph world
    pub unexported : HasNoExports st.graph
    pub all : AllStand t ms st.bodies.now root (tables_of st) st.types.resources ks o waiting reader
    pub same : reads_on t ms limit waiting reader o.next world ≡ reading_from t ms limit is first

  -- the reading began in some moment with this total, and the names are those of this root
  pub record Starts (old : State) (f : Frame) (counted : ℕ) : Type 0 where
    pub items : Items
    pub first : Moment
    pub stand : ItemsStand old.bodies.now no_names root.initializers items
    pub at : PointStands t ms old f first
    pub is_total : first.world.total ≡ Some counted
    pub rooted : old.names.now.root ≡ root

  -- so much has been added since the reading began with a total, whatever the moment was
  pub record Driven (old : State) (f : Frame) (counted : ℕ) (st : State) (ks : List Open) (o : Open) (total : ℕ)
      : Type 0 where
    pub added : ℕ
    pub keeps : Keeps (tables_of old) (tables_of st)
    pub adds : Adds t added (tables_of old) (tables_of st)
    pub grew : Grew counted total added (all_most_left t st.bodies.now root ks o) (most_of_items t root.initializers)
    pub deep : length ks < st.graph.num_runtime_component_instances
    pub within : st.graph.num_runtime_component_instances ≤ limit
    pub starts : Starts old f counted
    pub reads : (is : Items) (first : Moment) → ItemsStand old.bodies.now no_names root.initializers is
        → PointStands t ms old f first → first.world.total ≡ Some counted → Reached is first st ks o total

  -- component instances stand somewhere in a reading, where the total is this
  unfoldable pub AreUnderway : State → List Open → Open → (total : ℕ) → Type 0
  AreUnderway st ks o total =
      (old : State) × (f : Frame) × (counted : ℕ) × Driven old f counted st ks o total

  -- a reading ends with an error; too much is there where a list is full, or where the reading is past its total
  unfoldable pub Fails : State → Frame → Outcome Moment → Error → Type 0
  Fails st f o error.TooMany = IsFullSomewhere (tables_of st) ⊎ (o ≡ past)
  Fails st f o e = Ends t ms st f o (Err e)

  -- the reading ends so, whatever the moment was in which it began with a total, and so much has been added
  pub record Failed (old : State) (f : Frame) (counted : ℕ) (st : State) (total : ℕ) (e : Error) : Type 0 where
    pub added : ℕ
    pub keeps : Keeps (tables_of old) (tables_of st)
    pub adds : Adds t added (tables_of old) (tables_of st)
    pub grew : Grew counted total added 0 (most_of_items t root.initializers)
    pub reads : (is : Items) (first : Moment) → ItemsStand old.bodies.now no_names root.initializers is
        → PointStands t ms old f first → first.world.total ≡ Some counted
        → Fails st f (reading_from t ms limit is first) e

  -- the code went on, or the reading ends with the error
  unfoldable pub GoesOn : {A : Type 0} → (old : State) → Frame → (counted : ℕ) → State → List Open → Open → (total : ℕ)
      → Result A Error → Type 0
  GoesOn old f counted st ks o total (Ok x) = Driven old f counted st ks o total
  GoesOn old f counted st ks o total (Err e) = Failed old f counted st total e

  -- a move goes on with the reading, wherever it began
  unfoldable pub Moves : {A : Type 0} → State → List Open → Open → (total : ℕ) → State → List Open → Open → (total' : ℕ)
      → Result A Error → Type 0
  Moves st ks o total st' ks' o' total' r =
      (old : State) (f : Frame) (counted : ℕ) → Driven old f counted st ks o total
      → GoesOn old f counted st' ks' o' total' r

-- less is left to do
unfoldable pub Falls : (limit : ℕ) → (root : Translation) → State → List Open → Open → State → List Open → Open → Type 0
Falls limit root st ks o st' ks' o' =
    work limit st'.bodies.now root st'.graph.num_runtime_component_instances ks' o'
    < work limit st.bodies.now root st.graph.num_runtime_component_instances ks o

-- there was a move, or the root has ended
unfoldable pub Turned : (limit : ℕ) → (root : Translation) → State → List Open → Open → State → List Open → Open → Bool
    → Type 0
Turned limit root st ks o st' ks' o' true = Falls limit root st ks o st' ks' o'
Turned limit root st ks o st' ks' o' false =
    (ks' ≡ []) × (length (items_of st'.bodies.now root o') ≤ o'.next)

-- a call on a stack, at first above these that wait, moves; less is left to do then, and each that waits stands at an
-- item after whose number there is another one
pub record Moved {A : Type 0} (t : TypeTable) (ms : List ModuleRecord) (limit : ℕ) (root : Translation) (st : State)
    (ks : List Open) (s : Stack) (st' : State) (s' : Stack) (r : Result A Error) : Type 0 where
  pub moves : Moves t ms limit root st ks s.top s.total st' (reverse s'.callers.items) s'.top s'.total r
  pub falls : OnOk r (Falls limit root st ks s.top st' (reverse s'.callers.items) s'.top)
  pub waits : OnOk r (AreCounted s.callers.items → AreCounted s'.callers.items)

-- a turn: a call moves, and less is left to do, or the root has ended; each that waits stands at an item after whose
-- number there is another one
pub record Turns (t : TypeTable) (ms : List ModuleRecord) (limit : ℕ) (root : Translation) (st : State) (s : Stack)
    (st' : State) (s' : Stack) (r : Result Bool Error) : Type 0 where
  pub moves : Moves t ms limit root st (reverse s.callers.items) s.top s.total st' (reverse s'.callers.items) s'.top
      s'.total r
  pub falls : IfOk r (Turned limit root st (reverse s.callers.items) s.top st' (reverse s'.callers.items) s'.top)
  pub waits : OnOk r (AreCounted s'.callers.items)

-- all turns: they move until the root has ended
pub record Ended (t : TypeTable) (ms : List ModuleRecord) (limit : ℕ) (root : Translation) (st : State) (s : Stack)
    (st' : State) (s' : Stack) (r : Result ⊤ Error) : Type 0 where
  pub moves : Moves t ms limit root st (reverse s.callers.items) s.top s.total st' (reverse s'.callers.items) s'.top
      s'.total r
  pub ends : OnOk r ((reverse s'.callers.items ≡ []) × (length (items_of st'.bodies.now root s'.top) ≤ s'.top.next))

-- whether an item begins a component instance
abbrev pub begins_child : LocalInitializer → Bool
begins_child (local.ComponentInstantiate component args ty) = true
begins_child l = false

-- the type of the component instance that the item at a place begins
abbrev pub instance_type : LocalInitializer → Option ℕ
instance_type (local.ComponentInstantiate component args ty) = Some ty
instance_type l = None

-- the same by the number of the item
abbrev pub instance_type_at : List LocalInitializer → (n : ℕ) → Option ℕ
instance_type_at ls n = option_and_then instance_type (slice_get ls n)
