-- A moment of the code against a moment of the reading, and what the code makes of an item.
use Rattle.std.specs.Prelude.{◌≡◌, ◌≤◌, ◌+◌, ℕ, ⊤, true, length, List, Result, Ok, Err, None}
use Rattle.std.specs.List.{list_all}
use Rattle.pc_entity.specs.Lists.{AreDistinct}
use Rattle.pc_types_lists.specs.Types.{IsFull}
use Rattle.pc_types_builder.specs.Converted.{AreConverted}
use Rattle.pc_types.specs.declared.module_record.ModuleRecord.{ModuleRecord}
use Rattle.pc_types.specs.declared.parsed.TypeTable.{TypeTable}
use Rattle.pc_types.specs.Record.{is_sound}
use Rattle.pc_types.specs.Table.{table_fault}
use Rattle.pc_dfg.specs.Lists.{ListName, entries_of}
use Rattle.pc_dfg.specs.Ordered.{IsOrdered}
use Rattle.pc_spec_reading.specs.Item.{Item}
use Rattle.pc_spec_reading.specs.Outcome.{Fault}
use Rattle.pc_spec_reading.specs.Rows.{read_row}
use Rattle.pc_spec_reading.specs.Scope.{Moment}
use Rattle.pc_local.specs.declared.item.Translation.{Translation}
use Rattle.pc_local.specs.Sound.{AreSoundBodies}
use Rattle.pc_inline_names.specs.Named.{Named}
use Rattle.pc_inline_state.specs.declared.error.ItemError.{ItemError}
use Rattle.pc_inline_state.specs.declared.error.ItemError.TheVariants as item_error
use Rattle.pc_inline_state.specs.declared.frame.Frame.{Frame}
use Rattle.pc_inline_state.specs.declared.state.State.{State}
use Rattle.pc_inline_state.specs.Faults.{fault_of}
use Rattle.pc_inline_state.specs.Instances.{HaveWidths, InstancesStand}
use Rattle.pc_inline_state.specs.Frames.{FrameStands}
use Rattle.pc_inline_state.specs.KnowsSame.{KnowsSame}
use Rattle.pc_inline_state.specs.Members.{AreEarlier}
use Rattle.pc_inline_state.specs.Placed.{ArePlaced}
use Rattle.pc_inline_state.specs.Tables.{Tables, tables_of}
use Rattle.pc_inline_state.specs.Typed.{AreNumbers}
use Rattle.pc_inline_state.specs.Worlds.{AreUsed, HasItems, HasNoExports, HoldsTypes, IsPlain, WorldStands}

-- a list of what all component instances share is full
pub data IsFullSomewhere (b : Tables) : Type 0 where
  full_types : IsFull b.types → IsFullSomewhere b
  full_graph : (l : ListName) → 4294967295 ≤ length (entries_of b.graph l) → IsFullSomewhere b
  full_instances : 4294967295 ≤ b.graph.num_runtime_component_instances → IsFullSomewhere b
  full_cores : 4294967295 ≤ length b.cores → IsFullSomewhere b
  full_definitions : 4294967295 ≤ length b.definitions → IsFullSomewhere b
  full_closures : 4294967295 ≤ length b.closures → IsFullSomewhere b
  full_exports : 4294967295 ≤ length b.instances → IsFullSomewhere b
  -- imported and declared resources share their numbers
  full_resources : 4294967295 ≤ length b.graph.imported_resources + length b.graph.resources → IsFullSomewhere b

module _ (t : TypeTable) (ms : List ModuleRecord) where
  -- what is asked of the input: a sound table, and sound records of the modules that were handed in
  pub record IsInput : Type 0 where
    pub table : table_fault t ≡ None
    pub modules : list_all (is_sound t) ms ≡ true

  -- the names are those of what is read, where these are the bodies, and each is there once; paths are written in them
  pub record AreItsNames (n : Named) (trs : List Translation) (path_names : List (List ℕ)) : Type 0 where
    pub modules : n.modules ≡ ms
    pub table : n.table ≡ t
    pub bodies : n.bodies ≡ trs
    pub distinct : AreDistinct n.texts
    pub paths : path_names ≡ n.texts

  -- what all component instances share is in order by itself
  pub record IsSoundState (st : State) : Type 0 where
    pub ordered : IsOrdered st.graph
    pub items : HasItems ms st.graph
    pub plain : IsPlain st.graph
    pub used : AreUsed st.graph st.paths.held st.used.items
    pub numbers : AreNumbers st.types t st.numbers
    pub held : HoldsTypes st.types t st.graph
    pub table : st.table.now ≡ t
    pub bodies : AreSoundBodies (length ms) st.bodies.now
    pub names : AreItsNames st.names.now st.bodies.now st.paths.names
    pub members : AreEarlier st.definitions st.instances
    pub instances : InstancesStand ms (tables_of st) st.runtime_instances.items
    pub widths : HaveWidths t ms st.runtime_instances.items st.graph
    pub placed : ArePlaced t ms st

  -- a component instance in the code at a moment of the reading: the types builder knows what the scope knows, and what
  -- the component instance has converted is so
  pub record PointStands (st : State) (f : Frame) (now : Moment) : Type 0 where
    pub sound : IsSoundState st
    pub here : KnowsSame st.graph st.types.resources now.scope
    pub converted : AreConverted st.types t f.converted
    pub frame : FrameStands ms (tables_of st) f now.scope
    pub world : WorldStands st.types st.graph now.world
    pub unexported : HasNoExports st.graph

  -- it is at some moment
  abbrev pub IsPoint : State → Frame → Type 0
  IsPoint st f = (now : Moment) × PointStands st f now

  -- the code is where the reading is after it went on
  pub record Goes (st : State) (f : Frame) (reads : Result Moment Fault) : Type 0 where
    pub now : Moment
    pub stands : PointStands st f now
    pub done : reads ≡ Ok now

  -- the code went where the reading goes, or says its fault; want of memory and full lists are free
  unfoldable pub Follows : State → Frame → Result Moment Fault → Result ⊤ ItemError → Type 0
  Follows st f reads (Ok done) = Goes st f reads
  Follows st f reads (Err (item_error.Fault k)) = reads ≡ Err (fault_of k)
  Follows st f reads (Err item_error.TooMany) = IsFullSomewhere (tables_of st)
  Follows st f reads (Err item_error.NoMemory) = Unit {0}

  -- what a step of the code makes of a moment is what the reading makes of it
  unfoldable pub Steps : (Moment → Result Moment Fault) → State → Frame → State → Frame → Result ⊤ ItemError → Type 0
  Steps reads st f st' f' r = (now : Moment) → PointStands st f now → Follows st' f' (reads now) r

  -- the step of an item
  abbrev pub StepsItem : Item → State → Frame → State → Frame → Result ⊤ ItemError → Type 0
  StepsItem i = Steps (λ now. read_row t ms now i)
