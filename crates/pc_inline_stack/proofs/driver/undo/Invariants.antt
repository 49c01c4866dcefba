use Rattle.std.proofs.Common.{◌≡◌, ◌≤◌, ℕ, drop, length}
use Rattle.pc_types_lists.specs.Known.{resource_of}
use Rattle.pc_inline_state.specs.Trails.{undone}
use Rattle.pc_inline_stack.proofs.driver.undo.Given as goal

abbrev pub invariant-back : goal.invariant-back
invariant-back l =
    (l.left ≤ length l.changes)
    × ((q : ℕ) → resource_of l.types.resources.known q
    ≡ undone (drop l.left l.changes) (resource_of l.initial.types.resources.known) q)
    × (l.types ≡ record l.initial.types {
      resources = record l.initial.types.resources { known = l.types.resources.known };
    })

abbrev pub decreases-back : goal.decreases-back
decreases-back l = l.left
