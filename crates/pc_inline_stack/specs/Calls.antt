-- What a child begins with, and what it gives back.
use Rattle.std.specs.Prelude.{◌≡◌, ⊤, ℕ, true, List, map, Some, Result, Ok, Err, slice_get}
use Rattle.pc_entity.specs.declared.string_pool.Atom.{Atom}
use Rattle.pc_types.specs.declared.module_record.ModuleRecord.{ModuleRecord}
use Rattle.pc_types.specs.declared.parsed.TypeTable.{TypeTable}
use Rattle.pc_types.specs.Table.{is_instance}
use Rattle.pc_types_lists.specs.Types.{Resources}
use Rattle.pc_types_builder.specs.Converted.{AreConverted}
use Rattle.pc_parsed.specs.declared.payload.ExternName.{ExternName}
use Rattle.pc_parsed.specs.declared.payload.ItemKind.{ItemKind}
use Rattle.pc_spec_reading.specs.Components as reading
use Rattle.pc_spec_reading.specs.Components.{read_return, read_call}
use Rattle.pc_spec_reading.specs.Item.{ArgumentOf, Items}
use Rattle.pc_spec_reading.specs.Items.{exports_at}
use Rattle.pc_spec_reading.specs.Outcome.{Fault}
use Rattle.pc_spec_reading.specs.Scope.{Moment, Scope}
use Rattle.pc_spec_reading.specs.Section.{named_item}
use Rattle.pc_spec_reading.specs.Types.{has_entry}
use Rattle.pc_spec_reading.specs.Value.{Chain, NamedValue, closed, pack_values}
use Rattle.pc_local.specs.declared.item.Translation.{Translation}
use Rattle.pc_local.specs.Standing.{BodyStands, Names}
use Rattle.pc_inline_names.specs.Numbers.{SameNamed}
use Rattle.pc_inline_state.specs.declared.closure.Closure.{Closure}
use Rattle.pc_inline_stack.specs.declared.driver.Call.{Call}
use Rattle.pc_inline_state.specs.declared.error.ItemError.{ItemError}
use Rattle.pc_inline_state.specs.declared.error.ItemError.TheVariants as item_error
use Rattle.pc_inline_state.specs.declared.frame.Frame.{Frame}
use Rattle.pc_inline_state.specs.declared.state.Member.{Member}
use Rattle.pc_inline_state.specs.declared.state.State.{State}
use Rattle.pc_inline_items.specs.Captures.{IsEnclosed}
use Rattle.pc_inline_state.specs.Faults.{fault_of}
use Rattle.pc_inline_state.specs.Frames.{FrameStands}
use Rattle.pc_inline_state.specs.KnowsSame.{KnowsSame}
use Rattle.pc_inline_state.specs.Points.{Follows, IsFullSomewhere, PointStands}
use Rattle.pc_inline_stack.specs.Stacks.{Waits}
use Rattle.pc_inline_state.specs.Stands.{MembersStand, Stands}
use Rattle.pc_inline_state.specs.Tables.{Tables, tables_of}
use Rattle.pc_inline_state.specs.Trails.{Trails}

module _ (t : TypeTable) (ms : List ModuleRecord) where
  -- a call of the code stands for one of the reading
  pub record CallStands (b : Tables) (call : Call) (c : reading.Call) : Type 0 where
    pub names : Names
    pub body : Items
    pub chain : Chain
    pub translation : Translation
    pub is : c.component ≡ closed body chain
    pub there : slice_get b.bodies call.body.0 ≡ Some translation
    pub stands : BodyStands b.bodies names translation body
    pub closure : Closure
    pub captured : slice_get b.closures call.closure.0 ≡ Some closure
    pub enclosed : IsEnclosed ms b names (Some call.closure) chain
    pub arguments : SameNamed b.names.texts (Stands ms b) call.arguments c.arguments

  -- a child can begin
  pub record CallReads (b : Tables) (ty : ℕ) (reads : Result reading.Call Fault) (call : Call) : Type 0 where
    pub read : reading.Call
    pub done : reads ≡ Ok read
    pub stands : CallStands b call read
    pub is_typed : has_entry t is_instance ty ≡ true

  -- a child can begin, or the item is refused as the reading says
  unfoldable pub CallFollows : (new : State) → (ty : ℕ) → Result reading.Call Fault → Result Call ItemError → Type 0
  CallFollows st ty reads (Ok call) = CallReads (tables_of st) ty reads call
  CallFollows st ty reads (Err (item_error.Fault k)) = reads ≡ Err (fault_of k)
  CallFollows st ty reads (Err item_error.TooMany) = IsFullSomewhere (tables_of st)
  CallFollows st ty reads (Err item_error.NoMemory) = Unit {0}

  -- at whatever moment
  unfoldable pub Calls : (component : ℕ) → List ArgumentOf → (ty : ℕ) → (old : State) → Frame → (new : State)
      → Result Call ItemError → Type 0
  Calls n args ty st f st' r =
      (now : Moment) → PointStands t ms st f now → CallFollows st' ty (read_call t now.scope n args ty) r

  -- a component instance is still at whatever moment it was
  unfoldable pub Stays : (old : State) → Frame → (new : State) → Frame → Type 0
  Stays st f st' f' = (now : Moment) → PointStands t ms st f now → PointStands t ms st' f' now

  -- what a component instance makes of these members of a child is what the reading makes of the values that they are
  unfoldable pub AddsChild : List (Atom × Member) → (ty : ℕ) → (old : State) → Frame → (new : State) → Frame
      → Result ⊤ ItemError → Type 0
  AddsChild members ty st f st' f' r =
      (now : Moment) (exports : List NamedValue) → PointStands t ms st f now
      → MembersStand ms (tables_of st) members (pack_values exports)
      → Follows t ms st' f' (read_return t now exports ty) r

  -- a child that has ended stands at a moment; the component instance that waits for it stands for a scope, where it
  -- goes on with these resources
  pub record ReturnStands (st : State) (child caller : Frame) (now : Moment) (s : Scope) (j : Resources) : Type 0 where
    pub ended : PointStands t ms st child now
    pub frame : FrameStands ms (tables_of st) caller s
    pub here : KnowsSame st.graph j s
    pub converted : AreConverted (record st.types { resources = j }) t caller.converted
    pub waits : Waits st.types.resources child caller j

  -- a child has ended
  unfoldable pub IsReturn : State → (child caller : Frame) → Type 0
  IsReturn st child caller = (now : Moment) × (s : Scope) × (j : Resources) × ReturnStands st child caller now s j

  -- what a component instance makes of a child with these exports is what the reading makes of it
  unfoldable pub GivesBack : List (ExternName × ItemKind × ℕ) → (ty : ℕ) → (old : State) → (child : Frame) → Frame
      → (new : State) → Frame → Result ⊤ ItemError → Type 0
  GivesBack es ty st child f st' f' r =
      (now : Moment) (s : Scope) (j : Resources) → ReturnStands st child f now s j
      → Follows t ms st' f' (read_return t (record { scope = s; world = now.world })
      (exports_at t now.scope (map named_item es)) ty) r

-- from the resources with which it goes on it has made known what it notes
unfoldable pub TrailsBack : (old : State) → (child : Frame) → Frame → (new : State) → Frame → Type 0
TrailsBack st child f st' f' =
    (j : Resources) → Waits st.types.resources child f j → Trails f.changes j f'.changes st'.types.resources
