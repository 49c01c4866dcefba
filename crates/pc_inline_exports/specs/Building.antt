-- Instances one inside another while their nodes are reached: those of the code against those of the reading.
use Rattle.std.specs.Prelude.{◌≡◌, ◌<◌, ◌≤◌, ◌+◌, ◌-◌, ◌*◌, ◌⊎◌, ◌++◌, ⊤, ℕ, Bool, true, false, List, [], ◌∷◌, Option}
use Rattle.std.specs.Prelude.{None}
use Rattle.std.specs.Prelude.{Some, Result, Ok, Err, IfErr, OnOk, length, map, reverse, slice_get, take}
use Rattle.pc_entity.specs.Lists.{AreDistinct, names_of}
use Rattle.std.specs.List.{AllZip}
use Rattle.pc_numbers.specs.declared.runtime.ExportIndex.{ExportIndex}
use Rattle.pc_types.specs.declared.error.Unsupported.{Unsupported}
use Rattle.pc_types.specs.declared.module_record.ModuleRecord.{ModuleRecord}
use Rattle.pc_types.specs.declared.parsed.TypeTable.{TypeTable}
use Rattle.pc_types.specs.declared.type_index.TypeComponentInstanceIndex.{TypeComponentInstanceIndex}
use Rattle.pc_types.specs.declared.types.ComponentExternData.{ComponentExternData}
use Rattle.pc_types.specs.TypeTree.{TypeTree}
use Rattle.pc_spec_reading.specs.Nodes.{refused, within_total}
use Rattle.pc_spec_reading.specs.Outcome.{unsupported}
use Rattle.pc_spec_reading.specs.World.{World, grown}
use Rattle.pc_dfg.specs.declared.export.Export.TheVariants as export
use Rattle.pc_dfg.specs.Lists.{NamedExport}
use Rattle.pc_inline_state.specs.declared.definition.Definition.{Definition}
use Rattle.pc_inline_state.specs.declared.definition.Definition.TheVariants as definition
use Rattle.pc_inline_state.specs.declared.error.ItemError.{ItemError}
use Rattle.pc_inline_state.specs.declared.error.ItemError.TheVariants as item_error
use Rattle.pc_inline_state.specs.declared.error.ItemFault.TheVariants as item_fault
use Rattle.pc_inline_state.specs.declared.state.State.{State}
use Rattle.pc_inline_state.specs.Adds.{Adds}
use Rattle.pc_inline_exports.specs.Found.{nests}
use Rattle.pc_inline_state.specs.Tables.{Keeps, tables_of}
use Rattle.pc_inline_exports.specs.declared.build.Open.{Open}
use Rattle.pc_inline_exports.specs.declared.build.Stack.{Stack}
use Rattle.pc_inline_exports.specs.declared.part.Found.{Found}
use Rattle.pc_inline_exports.specs.Exports.{IsUnder, NameStands, sizes}
use Rattle.pc_inline_exports.specs.Reaching.{HasParts, IsReachable, Pushes, Reaches, ReachesOne, SubjectStands}
use Rattle.pc_inline_exports.specs.Reaching.{WorkStands}
use Rattle.pc_inline_exports.specs.Subjects.{Part, Reader, Subject, reads_on, resume, subject_node}

-- how many items stand for the nodes that were reached in instances
abbrev pub sizes_in : List Reader → ℕ
sizes_in [] = 0
sizes_in (r ∷ rs) = sizes r.reads + sizes_in rs

-- the items of instances, one after the other
abbrev pub items_among : List Open → List NamedExport
items_among [] = []
items_among (o ∷ os) = o.items ++ items_among os

-- those of the instances on a stack, the innermost first
abbrev pub items_of : Stack → List NamedExport
items_of s = s.top.items ++ items_among (reverse s.callers.items)

-- the name of a part
abbrev pub part_name : Part → List ℕ
part_name p = p.name

-- each of these waits for its next part, the first for the one of this name
abbrev pub WaitFor : List Reader → (name : List ℕ) → Type 0
WaitFor [] name = Unit {0}
WaitFor (r ∷ rs) name =
    ((p : Part) × (slice_get r.parts (length r.reads) ≡ Some p) × (p.name ≡ name)) × WaitFor rs r.name

module _ (t : TypeTable) (ms : List ModuleRecord) where
  -- a part was found, and is what its name says
  pub record PartFound (st : State) (p : Part) (f : Found) : Type 0 where
    pub name : f.name ≡ p.name
    pub data_ : f.data_ ≡ p.meta
    pub is : SubjectStands ms (tables_of st) f.definition p.subject

  -- the part at a place, if there is one; or it is a component of the host, which is refused
  unfoldable pub FindsPart : State → Option Part → Result (Option Found) ItemError → Type 0
  FindsPart st o (Ok None) = o ≡ None
  FindsPart st o (Ok (Some f)) = (p : Part) × (o ≡ Some p) × PartFound st p f
  FindsPart st o (Err (item_error.Fault k)) =
      (p : Part) × (o ≡ Some p) × (u : Unsupported) × (k ≡ item_fault.Unsupported u)
      × ((w : World) → subject_node p.subject w ≡ refused (unsupported u))
  FindsPart st o (Err item_error.TooMany) = ⊥
  FindsPart st o (Err item_error.NoMemory) = Unit {0}

  -- so it is whatever parts the instance has
  abbrev pub Finds : (old : State) → Definition → (place : ℕ) → (new : State) → Result (Option Found) ItemError → Type 0
  Finds old d place new r =
      (parts : List Part) (tree : TypeTree) → HasParts ms (tables_of old) d parts tree
      → FindsPart new (slice_get parts place) r

  -- what changed is that there may be a path more
  pub record AddsPath (old new : State) : Type 0 where
    pub keeps : Keeps (tables_of old) (tables_of new)
    pub adds : Adds t 0 (tables_of old) (tables_of new)
    pub types : new.types ≡ old.types
    pub graph : new.graph ≡ old.graph

  -- what was in order is, in each world
  abbrev pub StillStands : (old new : State) → Type 0
  StillStands old new = (w : World) → WorkStands t ms old w → WorkStands t ms new w

  -- the parts of an instance have names of their own
  abbrev pub IsApart : State → Definition → Type 0
  IsApart st d = (parts : List Part) (tree : TypeTree) → HasParts ms (tables_of st) d parts tree
      → AreDistinct (map part_name parts)

  -- an instance in the code is one in the reading
  pub record OpenStands (st : State) (o : Open) (r : Reader) : Type 0 where
    pub name : o.name ≡ r.name
    pub data_ : o.data_ ≡ r.meta
    pub parts : HasParts ms (tables_of st) o.instance r.parts r.tree
    pub next : o.next ≡ length r.reads
    pub apart : AreDistinct (map part_name r.parts)
    pub named : names_of o.items ≡ take (length r.reads) (map part_name r.parts)
    pub items : AllZip (NameStands t st.types st.graph) o.items r.reads

  -- what is exported has been reached up to here
  pub record Climbs (old : State) (x : Subject) (w : World) (st : State) (s : Stack) : Type 0 where
    pub readers : List Reader
    pub reader : Reader
    pub world : World
    pub total : world.total ≡ grown w.total (8 * s.nodes)
    pub stands : WorkStands t ms st world
    pub callers : AllZip (OpenStands st) (reverse s.callers.items) readers
    pub top : OpenStands st s.top reader
    pub waits : WaitFor readers reader.name
    pub same : subject_node x w ≡ within_total (grown w.total (8 * s.nodes))
        (resume readers reader.name reader.meta (reads_on reader world))
    pub items : length st.graph.export_items
        ≡ length old.graph.export_items + (sizes reader.reads + sizes_in readers)
    -- what was made is an item of these instances, or inside one
    pub whole : (n : ℕ) → length old.graph.export_items ≤ n → n < length st.graph.export_items
        → IsUnder st.graph.export_items (items_of s) n

  -- the same in whatever world it began, where so many of the nodes have items
  pub record Working (old : State) (d : Definition) (st : State) (s : Stack) : Type 0 where
    pub made : ℕ
    pub few : made + (length s.callers.items + 1) ≤ s.nodes
    pub keeps : Keeps (tables_of old) (tables_of st)
    pub adds : Adds t (4 * made) (tables_of old) (tables_of st)
    pub types : st.types ≡ old.types
    pub exports : st.graph.exports ≡ old.graph.exports
    pub starts : IsReachable t ms old d
    pub reads : (w : World) (x : Subject) → WorkStands t ms old w → SubjectStands ms (tables_of old) d x
        → Climbs old x w st s

  -- the code goes on, or what is reached ends with the error
  unfoldable pub GoesOn : {A : Type 0} → (old : State) → Definition → State → Stack → Result A ItemError → Type 0
  GoesOn old d st s (Ok x) = Working old d st s
  GoesOn old d st s (Err e) = Reaches t ms old d st (Err e)

  -- there is something to go on with
  abbrev pub IsWorking : State → Stack → Type 0
  IsWorking st s = (old : State) × (d : Definition) × Working old d st s

-- an instance of which no part has been reached
abbrev pub opened : Found → Open
opened f = record { name = f.name; data_ = f.data_; instance = f.definition; next = 0; items = [] }

-- an instance with the item of one part more
abbrev pub with_item : Open → (name : List ℕ) → ExportIndex → ComponentExternData → Open
with_item o name n meta = record o { next = o.next + 1; items = o.items ++ (name, (n, meta)) ∷ [] }

-- the number of the type of an instance
abbrev pub instance_type : Definition → Option TypeComponentInstanceIndex
instance_type (definition.Instance n ty) = Some ty
instance_type (definition.HostInstance p ty entry) = Some ty
instance_type d = None

-- an instance becomes an item
pub record Closes (old : State) (d : Definition) (items : List NamedExport) (new : State)
    (r : Result ExportIndex ItemError) : Type 0 where
  pub ty : TypeComponentInstanceIndex
  pub typed : instance_type d ≡ Some ty
  pub pushes : Pushes old (export.Instance ty items) new r

-- an item that was made is put into an instance under a name; or it wasn't made, or there was no memory for it
unfoldable pub Puts : Open → (name : List ℕ) → ComponentExternData → Result ExportIndex ItemError → Open
    → Result ⊤ ItemError → Type 0
Puts o name meta made o' (Ok end) = (n : ExportIndex) × (made ≡ Ok n) × (o' ≡ with_item o name n meta)
Puts o name meta made o' (Err e) = (made ≡ Err e) ⊎ (e ≡ item_error.NoMemory)

-- the innermost instance waits for a part
abbrev pub Enters : Stack → Found → Stack → Type 0
Enters s f s' =
    (s'.callers.items ≡ s.callers.items ++ s.top ∷ []) × (s'.top ≡ opened f) × (s'.nodes ≡ s.nodes)

-- the innermost instance has its item, and the caller goes on
pub record Leaves (old : State) (s : Stack) (caller : Open) (new : State) (s' : Stack) (r : Result ⊤ ItemError)
    : Type 0 where
  pub made : Result ExportIndex ItemError
  pub closes : Closes old s.top.instance s.top.items new made
  pub puts : Puts caller s.top.name s.top.data_ made s'.top r
  pub callers : s'.callers ≡ s.callers
  pub nodes : s'.nodes ≡ s.nodes

-- what is left to do before too many nodes are reached
abbrev pub work : Stack → ℕ
work s = 2 * (4294967295 - s.nodes) + (length s.callers.items + 1)

module _ (t : TypeTable) (ms : List ModuleRecord) where
  -- a part that is no instance gets its item
  pub record AddsLeaf (old : State) (o : Open) (f : Found) (new : State) (o' : Open) (r : Result ⊤ ItemError)
      : Type 0 where
    pub made : Result ExportIndex ItemError
    pub reaches : ReachesOne t ms old f.definition new made
    pub puts : Puts o f.name f.data_ made o' r

  -- the part is an instance, whose parts are reached next; or it has its item
  pub data AdvancesTo (old : State) (s : Stack) (f : Found) : State → Stack → Result ⊤ ItemError → Type 0 where
    enters : {new : State} {s' : Stack} {r : Result ⊤ ItemError} → nests f.definition ≡ true
        → IsApart t ms old f.definition → new ≡ old → OnOk r (Enters (record s { nodes = s.nodes + 1 }) f s')
        → IfErr r (λ e. e ≡ item_error.NoMemory) → AdvancesTo old s f new s' r
    adds : {new : State} {s' : Stack} {r : Result ⊤ ItemError} → nests f.definition ≡ false
        → AddsLeaf old s.top f new s'.top r → s'.callers ≡ s.callers → s'.nodes ≡ s.nodes + 1
        → AdvancesTo old s f new s' r

  -- a part is reached, unless too many nodes are
  unfoldable pub Advances : State → Stack → Found → State → Stack → Result ⊤ ItemError → Type 0
  Advances old s f new s' r =
      ((4294967295 ≤ s.nodes) × (new ≡ old) × (r ≡ Err item_error.TooMany))
      ⊎ ((s.nodes < 4294967295) × AdvancesTo old s f new s' r)

  -- there was a turn, after which less is left to do; or no instance waits, and the outermost has no part more
  unfoldable pub Turned : (old : State) → Stack → (new : State) → Stack → Bool → Type 0
  Turned old s new s' true = work s' < work s
  Turned old s new s' false =
      (s.callers.items ≡ []) × (s'.top ≡ s.top) × AddsPath t ms old new × StillStands t ms old new
      × Finds t ms old s.top.instance s.top.next new (Ok None)
