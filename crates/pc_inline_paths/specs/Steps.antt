-- Paths by their last steps, each of which goes further than a path before it.
use Rattle.std.specs.Prelude.{◌≡◌, ◌<◌, ◌≤◌, ℕ, List, [], ◌∷◌, ◌++◌, Option, None, Some, length, slice_get}
use Rattle.std.specs.Prelude.{unwrap_or}
use Rattle.pc_entity.specs.declared.string_pool.Atom.{Atom}
use Rattle.pc_entity.specs.Lists.{AreDistinct}
use Rattle.pc_types.specs.TypeTree.{Path}
use Rattle.pc_inline_paths.specs.declared.step.Step.{Step}
use Rattle.pc_inline_paths.specs.declared.step.Step.TheVariants as step
use Rattle.pc_inline_paths.specs.Paths.{at_import, further}

-- the path one name further than this one; there is always one in a list of steps
abbrev pub behind : Option Path → (name : List ℕ) → Path
behind (Some p) name = further p name
behind None name = record { import = 0; names = name ∷ [] }

module _ (names : List (List ℕ)) where
  -- the name of a number; there is always one in a list of steps
  abbrev pub name_at : Atom → List ℕ
  name_at n = unwrap_or (slice_get names n.0) []

  -- a step goes further than one of the first k paths, by a name that there is, if it goes further than any
  abbrev pub IsBefore : (k : ℕ) → Step → Type 0
  IsBefore k (step.Import i) = Unit {0}
  IsBefore k (step.Member p n) = (p.0 < k) × (n.0 < length names)

  -- the path with this last step, where these are the paths before it
  abbrev pub path_at : List Path → Step → Path
  path_at ps (step.Import i) = at_import i
  path_at ps (step.Member p n) = behind (slice_get ps p.0) (name_at n)

  -- these paths, and those with these last steps in order
  abbrev pub paths_after : List Path → List Step → List Path
  paths_after ps [] = ps
  paths_after ps (s ∷ ss) = paths_after (ps ++ path_at ps s ∷ []) ss

  -- the paths with these last steps, in order
  abbrev pub paths_of : List Step → List Path
  paths_of ss = paths_after [] ss

  -- the last steps of distinct paths, each further than an earlier one, and not too many; no name has two numbers
  pub record AreSteps (ss : List Step) : Type 0 where
    pub apart : AreDistinct names
    pub before : (k : ℕ) (s : Step) → slice_get ss k ≡ Some s → IsBefore k s
    pub distinct : AreDistinct (paths_of ss)
    pub few : length ss ≤ 4294967295
