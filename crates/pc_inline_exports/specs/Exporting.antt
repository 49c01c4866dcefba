-- The exports of the root while they are made, against the nodes of the reading.
use Rattle.std.specs.Prelude.{◌≡◌, ◌<◌, ◌≤◌, ◌+◌, ◌*◌, ◌⊎◌, ⊤, ℕ, true, List, [], ◌++◌, map, take, drop}
use Rattle.std.specs.Prelude.{Option, Result, Ok, Err, if◌then◌else◌}
use Rattle.std.specs.List.{AllZip}
use Rattle.pc_entity.specs.Lists.{names_of}
use Rattle.pc_types_lists.specs.Adds.{most_types}
use Rattle.pc_types_builder.specs.Converted.{AreConverted}
use Rattle.pc_types.specs.declared.error.Error.{Error}
use Rattle.pc_types.specs.declared.error.Error.TheVariants as error
use Rattle.pc_types.specs.declared.module_record.ModuleRecord.{ModuleRecord}
use Rattle.pc_types.specs.declared.parsed.TypeTable.{TypeTable}
use Rattle.pc_types.specs.Names.{has_name}
use Rattle.pc_parsed.specs.declared.payload.ExternName.{ExternName}
use Rattle.pc_parsed.specs.declared.payload.ItemKind.{ItemKind}
use Rattle.pc_parsed.specs.Mark.{Mark}
use Rattle.pc_spec_plan.specs.ExportNode.{NamedNode}
use Rattle.pc_spec_reading.specs.Nodes.{Finish}
use Rattle.pc_spec_reading.specs.Outcome.{Outcome, and_then, done, fault, past, unsupported}
use Rattle.pc_spec_reading.specs.Reading.{root_exports}
use Rattle.pc_spec_reading.specs.Scope.{Scope}
use Rattle.pc_spec_reading.specs.Section.{named_item}
use Rattle.pc_spec_reading.specs.World.{World, full, grown, has_room}
use Rattle.pc_inline_state.specs.declared.frame.Frame.{Frame}
use Rattle.pc_inline_state.specs.declared.state.State.{State}
use Rattle.pc_inline_state.specs.Adds.{Adds, types_among}
use Rattle.pc_inline_state.specs.Frames.{FrameStands}
use Rattle.pc_inline_state.specs.KnowsSame.{KnowsSame}
use Rattle.pc_inline_state.specs.Named.{export_name}
use Rattle.pc_inline_state.specs.Points.{IsFullSomewhere, IsSoundState}
use Rattle.pc_inline_state.specs.Tables.{Keeps, tables_of}
use Rattle.pc_inline_state.specs.Worlds.{WorldStands}
use Rattle.pc_inline_exports.specs.Exports.{NameStands, NumbersExports}

-- what is done, unless this total is past
abbrev pub if_room : {A : Type 0} → (total : Option ℕ) → Outcome A → Outcome A
if_room total o = if has_room total then o else past

-- what so many nodes add at the most, and so many types that are converted
abbrev pub most_exported : TypeTable → (nodes types : ℕ) → ℕ
most_exported t nodes types = 4 * nodes + types * (1 + most_types t)

-- what is refused is known before anything is done
unfoldable pub IsForetold : (old : State) → Frame → (new : State) → Frame → Result ⊤ Error → Type 0
IsForetold old f new g (Err (error.Unsupported u p)) = (new ≡ old) × (g ≡ f)
IsForetold old f new g r = Unit {0}

module _ (t : TypeTable) (ms : List ModuleRecord) where
  -- the root after its items, in a world, with the nodes of its exports so far
  pub record RootStands (st : State) (f : Frame) (s : Scope) (w : World) (nodes : List (NamedNode Mark)) : Type 0 where
    pub sound : IsSoundState t ms st
    pub here : KnowsSame st.graph st.types.resources s
    pub converted : AreConverted st.types t f.converted
    pub frame : FrameStands ms (tables_of st) f s
    pub world : WorldStands st.types st.graph w
    pub exports : AllZip (NameStands t st.types st.graph) st.graph.exports nodes

  -- what the rest gives, with these nodes in front
  abbrev pub behind : List (NamedNode Mark) → Finish → Outcome Finish
  behind nodes rest = done (nodes ++ rest.0, rest.1)

  -- the root with all its exports, when so many nodes have counted since this world
  pub record RootExports (st : State) (f : Frame) (s : Scope) (w : World) (nodes : ℕ) (o : Outcome Finish)
      : Type 0 where
    pub exported : List (NamedNode Mark)
    pub world : World
    pub is : o ≡ done (exported, world)
    pub total : world.total ≡ grown w.total (8 * nodes)
    pub stands : RootStands st f s world exported
    pub numbers : NumbersExports st.graph exported

  -- how the exports of the root end: they are made; or one is refused; or there are too many entries of a list, or too
  -- many nodes for a total
  unfoldable pub ExportsEnd : (total : ℕ) → State → Frame → Scope → World → (nodes : ℕ) → Outcome Finish
      → Result ⊤ Error → Type 0
  ExportsEnd total st f s w nodes o (Ok end) = RootExports st f s w nodes o
  ExportsEnd total st f s w nodes o (Err (error.Unsupported u p)) = o ≡ fault (unsupported u) p
  ExportsEnd total st f s w nodes o (Err error.TooMany) =
      IsFullSomewhere (tables_of st) ⊎ (full ≤ total + 8 * nodes)
  ExportsEnd total st f s w nodes o (Err error.NoMemory) = Unit {0}
  ExportsEnd total st f s w nodes o (Err e) = ⊥

  -- what the exports of the root give: so many nodes were reached, and so much was added; where a total counts these
  -- nodes and is past, the reading is past, and else it ends so
  pub record MakesExports (es : List (ExternName × ItemKind × ℕ)) (total : ℕ) (old : State) (f : Frame) (new : State)
      (g : Frame) (r : Result ⊤ Error) : Type 0 where
    pub nodes : ℕ
    pub keeps : Keeps (tables_of old) (tables_of new)
    pub adds : Adds t (most_exported t nodes (types_among es)) (tables_of old) (tables_of new)
    pub exports : (s : Scope) (w : World) → has_room w.total ≡ true → RootStands old f s w []
        → (o : Outcome Finish)
        × (root_exports t s (map named_item es) 0 w ≡ if_room (grown w.total (8 * nodes)) o)
        × ExportsEnd total new g s w nodes o r

  -- so many nodes are too many for a total, which was answered with nothing done
  pub record AreTooMany (total nodes : ℕ) (old : State) (f : Frame) (new : State) (g : Frame) (r : Result ⊤ Error)
      : Type 0 where
    pub reaches : full ≤ total + 8 * nodes
    pub is : r ≡ Err error.TooMany
    pub state : new ≡ old
    pub frame : g ≡ f

  -- all exports of the root, from a total on: the nodes that were reached leave it below, or they are too many. What is
  -- refused is known before anything is done
  pub record ExportsAll (es : List (ExternName × ItemKind × ℕ)) (total : ℕ) (old : State) (f : Frame) (new : State)
      (g : Frame) (r : Result ⊤ Error) : Type 0 where
    pub made : MakesExports es total old f new g r
    pub within : (total + 8 * made.nodes < full) ⊎ AreTooMany total made.nodes old f new g r
    pub foretold : IsForetold old f new g r

  -- the exports of the root so far, up to the ith, of which so many are there and have so many nodes
  pub record ExportedSoFar (es : List (ExternName × ItemKind × ℕ)) (i n nodes : ℕ) (old : State) (f : Frame)
      (st : State) (g : Frame) : Type 0 where
    pub root : (s : Scope) × (w : World) × RootStands old f s w []
    pub few : n ≤ i
    pub keeps : Keeps (tables_of old) (tables_of st)
    pub adds : Adds t (most_exported t nodes (types_among (take i es))) (tables_of old) (tables_of st)
    pub names : (name : List ℕ) → has_name (names_of st.graph.exports) name ≡ true
        → has_name (map export_name (take i es)) name ≡ true
    pub goes : (s : Scope) (w : World) → has_room w.total ≡ true → RootStands old f s w []
        → (exported : List (NamedNode Mark)) × (v : World) × (v.total ≡ grown w.total (8 * nodes))
        × RootStands st g s v exported × NumbersExports st.graph exported
        × (root_exports t s (map named_item es) 0 w ≡ if_room (grown w.total (8 * nodes))
        (and_then (root_exports t s (map named_item (drop i es)) n v) (behind exported)))
