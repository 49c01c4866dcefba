-- How the paths to host items grow.
use Rattle.std.specs.Prelude.{◌≡◌, ◌<◌, ◌≤◌, ◌⊎◌, ◌++◌, ◌∷◌, [], List, Option, None, Some, length, slice_get}
use Rattle.pc_numbers.specs.declared.runtime.RuntimeImportIndex.{RuntimeImportIndex}
use Rattle.pc_types.specs.declared.module_record.ModuleRecord.{ModuleRecord}
use Rattle.pc_types.specs.declared.parsed.TypeTable.{TypeTable}
use Rattle.pc_types.specs.TypeTree.{Path}
use Rattle.pc_inline_paths.specs.declared.path_id.PathId.{PathId}
use Rattle.pc_inline_state.specs.declared.state.State.{State}
use Rattle.pc_inline_state.specs.Points.{IsSoundState}

-- a path has a number of its own: the one that it had, or the next
pub record TakesPath (path : Path) (old new : State) (id : PathId) : Type 0 where
  pub held : slice_get new.paths.held id.0 ≡ Some path
  pub grows : (new.paths.held ≡ old.paths.held) ⊎ (new.paths.held ≡ old.paths.held ++ path ∷ [])

-- a state that is sound still is
abbrev pub SoundWithPaths : State → State → Type 0
SoundWithPaths old new = (t : TypeTable) (ms : List ModuleRecord) → IsSoundState t ms old → IsSoundState t ms new

-- where there is a path more than places, there is one place more, and it is free
abbrev pub NotesPath : List Path → (old new : List (Option RuntimeImportIndex)) → Type 0
NotesPath paths old new =
    ((length old < length paths) × (new ≡ old ++ None ∷ [])) ⊎ ((length paths ≤ length old) × (new ≡ old))
