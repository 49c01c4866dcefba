-- Errors that say no more than that there was no room.
use Rattle.std.specs.Prelude.{◌≡◌, ◌≤◌, ℕ}
use Rattle.pc_inline_state.specs.declared.error.ItemError.{ItemError}
use Rattle.pc_inline_state.specs.declared.error.ItemError.TheVariants as item_error
use Rattle.pc_inline_state.specs.declared.error.ItemFault.{ItemFault}
use Rattle.pc_inline_state.specs.declared.state.State.{State}
use Rattle.pc_inline_state.specs.Points.{IsFullSomewhere}
use Rattle.pc_inline_state.specs.Tables.{tables_of}

-- an error of a call that has no fault: a list is full now, or memory ran out
unfoldable pub LacksRoom : State → ItemError → Type 0
LacksRoom st (item_error.Fault k) = ⊥
LacksRoom st item_error.TooMany = IsFullSomewhere (tables_of st)
LacksRoom st item_error.NoMemory = Unit {0}

-- the same, or this fault, which has this cause
unfoldable pub LacksRoomOr : ItemFault → (cause : Type 0) → State → ItemError → Type 0
LacksRoomOr k cause st (item_error.Fault j) = (j ≡ k) × cause
LacksRoomOr k cause st item_error.TooMany = IsFullSomewhere (tables_of st)
LacksRoomOr k cause st item_error.NoMemory = Unit {0}

-- an error of a call that adds to a table of so many entries: it is full, or memory ran out
unfoldable pub LacksEntry : ℕ → ItemError → Type 0
LacksEntry n (item_error.Fault k) = ⊥
LacksEntry n item_error.TooMany = 4294967295 ≤ n
LacksEntry n item_error.NoMemory = Unit {0}
