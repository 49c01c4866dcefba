-- The step of a local item is that of the item which it stands for.
use Rattle.std.specs.Prelude.{List, Option, Result, Ok, ⊤}
use Rattle.pc_types.specs.declared.module_record.ModuleRecord.{ModuleRecord}
use Rattle.pc_types.specs.declared.parsed.TypeTable.{TypeTable}
use Rattle.pc_spec_reading.specs.Item.{Item, import_item}
use Rattle.pc_spec_reading.specs.Outcome.{Fault}
use Rattle.pc_spec_reading.specs.Scope.{Moment}
use Rattle.pc_local.specs.declared.item.LocalInitializer.{LocalInitializer}
use Rattle.pc_local.specs.Standing.{ItemStands, Names, no_names}
use Rattle.pc_inline_state.specs.declared.definition.ClosureId.{ClosureId}
use Rattle.pc_inline_state.specs.declared.error.ItemError.{ItemError}
use Rattle.pc_inline_state.specs.declared.frame.Frame.{Frame}
use Rattle.pc_inline_state.specs.declared.state.State.{State}
use Rattle.pc_inline_items.specs.Captures.{IsEnclosed}
use Rattle.pc_inline_state.specs.Points.{Follows, PointStands, Steps}
use Rattle.pc_inline_state.specs.Tables.{tables_of}
use Rattle.pc_spec_reading.specs.Imports.{prepare}
use Rattle.pc_spec_reading.specs.Rows.{read_row}

-- whatever names a body has for what it captured, and whatever item a local item of it stands for, its step is that of
-- the item, where the component instance captured what the names say
unfoldable pub StepsLocal : TypeTable → List ModuleRecord → Option ClosureId → LocalInitializer → State → Frame → State
    → Frame → Result ⊤ ItemError → Type 0
StepsLocal t ms k l st f st' f' r =
    (names : Names) (i : Item) → ItemStands st.bodies.now names l i → (now : Moment) → PointStands t ms st f now
    → IsEnclosed ms (tables_of st) names k now.scope.chain → Follows t ms st' f' (read_row t ms now i) r

-- what preparing makes of an item: an import is prepared, and another item is passed over
abbrev pub prepare_row : TypeTable → List ModuleRecord → Item → Moment → Result Moment Fault
prepare_row t ms (import_item name e) now = prepare t name e now
prepare_row t ms i now = Ok now

-- whatever item a local item stands for, it is prepared as the item is
unfoldable pub PreparesLocal : TypeTable → List ModuleRecord → LocalInitializer → State → Frame → State → Frame
    → Result ⊤ ItemError → Type 0
PreparesLocal t ms l st f st' f' r =
    (i : Item) → ItemStands st.bodies.now no_names l i → Steps t ms (prepare_row t ms i) st f st' f' r
