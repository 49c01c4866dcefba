-- A pass over the items of the root: its imports are prepared.
use Rattle.std.specs.Prelude.{◌≡◌, ⊤, ℕ, zero, suc, List, Result, Ok, Err}
use Rattle.pc_types.specs.declared.error.Error.{Error}
use Rattle.pc_types.specs.declared.error.Error.TheVariants as error
use Rattle.pc_types.specs.declared.module_record.ModuleRecord.{ModuleRecord}
use Rattle.pc_types.specs.declared.parsed.TypeTable.{TypeTable}
use Rattle.pc_spec_reading.specs.Item.{Items, and_item, no_items}
use Rattle.pc_spec_reading.specs.Outcome.{Outcome, bad_type, done, fault, invalid, over, unknown_intrinsic}
use Rattle.pc_spec_reading.specs.Outcome.{unsupported}
use Rattle.pc_spec_reading.specs.Reading.{prepare_all}
use Rattle.pc_spec_reading.specs.Scope.{Moment}
use Rattle.pc_local.specs.declared.item.LocalInitializer.{LocalInitializer}
use Rattle.pc_local.specs.declared.item.Translation.{Translation}
use Rattle.pc_local.specs.Standing.{ItemsStand, no_names}
use Rattle.pc_inline_state.specs.declared.frame.Frame.{Frame}
use Rattle.pc_inline_state.specs.declared.state.State.{State}
use Rattle.pc_inline_state.specs.Points.{IsFullSomewhere, IsPoint, PointStands}
use Rattle.pc_inline_state.specs.Tables.{Keeps, tables_of}

-- the items of a body from number n on
abbrev pub items_from : ℕ → Items → Items
items_from zero is = is
items_from (suc n) no_items = no_items
items_from (suc n) (and_item i is) = items_from n is

-- among these bodies, local items of the root stand for the items of some body
abbrev pub AreItems : (bodies : List Translation) → List LocalInitializer → Type 0
AreItems bodies ls = (is : Items) × ItemsStand bodies no_names ls is

module _ (t : TypeTable) (ms : List ModuleRecord) where
  -- a pass over items ends at a moment, or with the error of an item
  unfoldable pub Ends : State → Frame → Outcome Moment → Result ⊤ Error → Type 0
  Ends st f o (Ok end) = (now : Moment) × (o ≡ done now) × PointStands t ms st f now
  Ends st f o (Err (error.Invalid p)) = o ≡ fault invalid p
  Ends st f o (Err (error.BadType p)) = o ≡ fault bad_type p
  Ends st f o (Err (error.UnknownIntrinsic p)) = o ≡ fault unknown_intrinsic p
  Ends st f o (Err (error.Unsupported u p)) = o ≡ fault (unsupported u) p
  Ends st f o (Err error.TooManyInstances) = o ≡ over
  Ends st f o (Err error.TooMany) = IsFullSomewhere (tables_of st)
  Ends st f o (Err error.NoMemory) = Unit {0}
  Ends st f o (Err e) = ⊥

  -- a pass over local items is one over the items that they stand for
  unfoldable pub Passes : (Items → Moment → Outcome Moment) → List LocalInitializer → (old : State) → Frame
      → (new : State) → Frame → Result ⊤ Error → Type 0
  Passes reads ls old f new f' r =
      (is : Items) (now : Moment) → ItemsStand old.bodies.now no_names ls is → PointStands t ms old f now
      → Ends new f' (reads is now) r

  -- a pass over items so far, from item n on: what is left goes on from where the code is
  pub record SoFar (reads : ℕ → Items → Moment → Outcome Moment) (ls : List LocalInitializer) (n : ℕ) (old : State)
      (f : Frame) (new : State) (g : Frame) : Type 0 where
    pub point : IsPoint t ms new g
    pub place : g.component_instance ≡ f.component_instance
    pub keeps : Keeps (tables_of old) (tables_of new)
    pub goes : (is : Items) (now : Moment) → ItemsStand old.bodies.now no_names ls is → PointStands t ms old f now
        → (here : Moment) × PointStands t ms new g here × (reads 0 is now ≡ reads n (items_from n is) here)

  -- the imports of the root are prepared
  abbrev pub Prepared : List LocalInitializer → State → Frame → State → Frame → Result ⊤ Error → Type 0
  Prepared = Passes (prepare_all t 0)
