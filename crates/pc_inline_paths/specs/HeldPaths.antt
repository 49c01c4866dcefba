-- Paths that are held, and the names that they are written in.
use Rattle.std.specs.Prelude.{ℕ, List}
use Rattle.pc_types.specs.TypeTree.{Path}

-- names, each at its number, and paths in them, each at the place that its id says
pub record HeldPaths : Type 0 where
  pub names : List (List ℕ)
  pub held : List Path
