-- Lists of paths, and what becomes of one as a path is taken in.
use Rattle.std.specs.Prelude.{◌≡◌, ◌⊎◌, ℕ, List, [], ◌∷◌, ◌++◌, Some, Contains, length, slice_get}
use Rattle.pc_numbers.specs.declared.runtime.ImportIndex.{ImportIndex}
use Rattle.pc_types.specs.TypeTree.{Path}
use Rattle.pc_inline_paths.specs.declared.path_id.PathId.{PathId}

-- the path to an import of the root itself
abbrev pub at_import : ImportIndex → Path
at_import i = record { import = i.0; names = [] }

-- the path one name further
abbrev pub further : Path → (name : List ℕ) → Path
further p name = record { import = p.import; names = p.names ++ name ∷ [] }

-- a path stands in a list at the place that its id says: the list has it already, or gets it at its end
pub record TakesIn (path : Path) (old new : List Path) (id : PathId) : Type 0 where
  pub held : slice_get new id.0 ≡ Some path
  pub grows : (Contains old path × (new ≡ old)) ⊎ ((¬ Contains old path) × (new ≡ old ++ path ∷ []))

-- a list has no place left for a path that it doesn't have
abbrev pub IsFull : Path → List Path → Type 0
IsFull path old = (length old ≡ 4294967295) × (¬ Contains old path)
