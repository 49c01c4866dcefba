-- The items of the root, read in order, with those of all component instances that they begin.
use Rattle.std.specs.Prelude.{◌≡◌, ◌<◌, ◌≤◌, ◌+◌, ◌⊎◌, ℕ, List, Result, Ok, Err, Some}
use Rattle.pc_types.specs.declared.error.Error.{Error}
use Rattle.pc_types.specs.declared.error.Error.TheVariants as error
use Rattle.pc_types.specs.declared.module_record.ModuleRecord.{ModuleRecord}
use Rattle.pc_types.specs.declared.parsed.TypeTable.{TypeTable}
use Rattle.pc_spec_reading.specs.Item.{Items}
use Rattle.pc_spec_reading.specs.Outcome.{Outcome, done, past}
use Rattle.pc_spec_reading.specs.Reading.{enter_at, read_items}
use Rattle.pc_spec_reading.specs.Scope.{Moment}
use Rattle.pc_spec_reading.specs.World.{full}
use Rattle.pc_local.specs.declared.item.LocalInitializer.{LocalInitializer}
use Rattle.pc_local.specs.Standing.{ItemsStand, no_names}
use Rattle.pc_inline_state.specs.declared.frame.Frame.{Frame}
use Rattle.pc_inline_state.specs.declared.state.State.{State}
use Rattle.pc_inline_state.specs.Adds.{Adds, most_of_items}
use Rattle.pc_inline_state.specs.Points.{IsFullSomewhere, PointStands}
use Rattle.pc_inline_stack.specs.Reads.{Ends}
use Rattle.pc_inline_state.specs.Tables.{tables_of}

module _ (t : TypeTable) (ms : List ModuleRecord) (limit : ℕ) where
  -- the items of a root from a moment on
  abbrev pub reading_from : Items → Moment → Outcome Moment
  reading_from is now = read_items t ms (enter_at t ms limit limit) 0 is now

  -- the root after its items, where the reading has this total; or the error of an item; or there is too much: a list
  -- is full, or the total
  unfoldable pub EndsRun : State → Frame → (total : ℕ) → Outcome Moment → Result Frame Error → Type 0
  EndsRun st f total o (Ok g) =
      (last : Moment) × (o ≡ done last) × (last.world.total ≡ Some total) × PointStands t ms st g last
  EndsRun st f total o (Err error.TooMany) = IsFullSomewhere (tables_of st) ⊎ (o ≡ past)
  EndsRun st f total o (Err e) = Ends t ms st f o (Err e)

  -- the items of the root were read, from one total to another
  unfoldable pub Runs : List LocalInitializer → (old : State) → Frame → (counted : ℕ) → (new : State) → (total : ℕ)
      → Result Frame Error → Type 0
  Runs ls old f counted new total r =
      (is : Items) (now : Moment) → ItemsStand old.bodies.now no_names ls is → PointStands t ms old f now
      → now.world.total ≡ Some counted → EndsRun new f total (reading_from is now) r

-- from one total to another no more was added than these items of the root add at the most, and what the total grew by:
-- the weights of the component instances that began
pub record AddsCounted (t : TypeTable) (ls : List LocalInitializer) (counted total : ℕ) (old new : State) : Type 0 where
  pub added : ℕ
  pub adds : Adds t added (tables_of old) (tables_of new)
  pub few : added + counted ≤ most_of_items t ls + total
  pub below : total < full
