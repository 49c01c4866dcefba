-- The exports of the root counted before a node of them is made, against the nodes of the reading.
use Rattle.std.specs.Prelude.{◌≡◌, ◌<◌, ◌≤◌, ◌+◌, ◌*◌, ⊤, ℕ, true, List, [], Option, None, Some, Result, Ok, Err, drop}
use Rattle.std.specs.Prelude.{map, option_map, slice_get}
use Rattle.pc_types.specs.declared.error.Error.{Error}
use Rattle.pc_types.specs.declared.error.Error.TheVariants as error
use Rattle.pc_types.specs.declared.error.Place.TheVariants as place
use Rattle.pc_types.specs.declared.module_record.ModuleRecord.{ModuleRecord}
use Rattle.pc_types.specs.declared.parsed.DeclType.{DeclType}
use Rattle.pc_types.specs.declared.parsed.TypeTable.{TypeTable}
use Rattle.pc_parsed.specs.declared.payload.ExternName.{ExternName}
use Rattle.pc_parsed.specs.declared.payload.ItemKind.{ItemKind}
use Rattle.pc_parsed.specs.Mark.{Mark}
use Rattle.pc_spec_plan.specs.ExportNode.{NamedNode}
use Rattle.pc_spec_reading.specs.Items.{value_at}
use Rattle.pc_spec_reading.specs.Nodes.{Finish, value_node}
use Rattle.pc_spec_reading.specs.Outcome.{and_then, done}
use Rattle.pc_spec_reading.specs.Reading.{root_exports}
use Rattle.pc_spec_reading.specs.Scope.{Scope}
use Rattle.pc_spec_reading.specs.Section.{named_item}
use Rattle.pc_spec_reading.specs.Value.{Value}
use Rattle.pc_spec_reading.specs.World.{World, full, grown, has_room}
use Rattle.pc_inline_state.specs.declared.frame.Frame.{Frame}
use Rattle.pc_inline_state.specs.declared.state.State.{State}
use Rattle.pc_inline_state.specs.Frames.{Both}
use Rattle.pc_inline_state.specs.Tables.{tables_of}
use Rattle.pc_inline_counts.specs.declared.count.NodeCount.{NodeCount}
use Rattle.pc_inline_counts.specs.Counts.{one_node}
use Rattle.pc_inline_counts.specs.Follows.{Follows, HasHostTypes}
use Rattle.pc_inline_exports.specs.Exporting.{ExportsAll, RootStands, behind, if_room}

-- the count of a type by its number, if it is held
abbrev pub type_count : TypeTable → ℕ → Option NodeCount
type_count t n = option_map (λ (e : DeclType). one_node) (slice_get t.types n)

-- so many nodes and those of one export more, which isn't refused; or they are too many for a total, in which each
-- counts eight, or it is refused at its number
unfoldable pub CountsMore : (total nodes : ℕ) → NodeCount → (number : ℕ) → Result ℕ Error → Type 0
CountsMore total nodes c number (Ok m) = (m ≡ nodes + c.nodes) × (total + 8 * m < full) × (c.refusal ≡ None)
CountsMore total nodes c number (Err (error.Unsupported u p)) =
    (total + 8 * (nodes + c.nodes) < full) × (c.refusal ≡ Some u) × (p ≡ place.Export number)
CountsMore total nodes c number (Err error.TooMany) = full ≤ total + 8 * (nodes + c.nodes)
CountsMore total nodes c number (Err e) = ⊥

module _ (t : TypeTable) (ms : List ModuleRecord) where
  -- what is reached at a value follows a count, in each world in which the host items have their types
  abbrev pub CountsValue : State → NodeCount → Value → Type 0
  CountsValue st c v =
      (w : World) → has_room w.total ≡ true → HasHostTypes ms (tables_of st) w.imports → Follows c w (value_node v w)

  -- so it is of what a kind and an index name in the root, or neither is there
  abbrev pub CountsExport : State → Frame → ItemKind → (index : ℕ) → Option NodeCount → Type 0
  CountsExport st f k n c =
      (s : Scope) (w : World) (nodes : List (NamedNode Mark)) → RootStands t ms st f s w nodes
      → Both (CountsValue st) c (value_at t s k n)

  -- all exports have so few nodes that a total stays below, and none of them is refused
  pub record AreFew (es : List (ExternName × ItemKind × ℕ)) (total : ℕ) (st : State) (f : Frame) : Type 0 where
    pub nodes : ℕ
    pub few : total + 8 * nodes < full
    pub reads : (s : Scope) (w : World) → has_room w.total ≡ true → RootStands t ms st f s w []
        → (x : Finish) × (root_exports t s (map named_item es) 0 w ≡ if_room (grown w.total (8 * nodes)) (done x))

  -- all exports are counted: they can be made, or this is how they end, with nothing done
  unfoldable pub CountsExports : List (ExternName × ItemKind × ℕ) → (total : ℕ) → State → Frame → Result ⊤ Error
      → Type 0
  CountsExports es total st f (Ok end) = AreFew es total st f
  CountsExports es total st f (Err e) = ExportsAll t ms es total st f st f (Err e)

  -- the exports up to the ith are counted, of which so many are there and have so many nodes
  pub record CountedSoFar (es : List (ExternName × ItemKind × ℕ)) (total i n nodes : ℕ) (st : State) (f : Frame)
      : Type 0 where
    pub there : n ≤ i
    pub few : total + 8 * nodes < full
    pub goes : (s : Scope) (w : World) → has_room w.total ≡ true → RootStands t ms st f s w []
        → (exported : List (NamedNode Mark)) × (v : World) × (v.total ≡ grown w.total (8 * nodes))
        × (v.imports ≡ w.imports)
        × (root_exports t s (map named_item es) 0 w ≡ if_room (grown w.total (8 * nodes))
        (and_then (root_exports t s (map named_item (drop i es)) n v) (behind t ms exported)))
