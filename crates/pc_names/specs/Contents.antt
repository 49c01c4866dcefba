-- What a contract sees of a name map.
use Rattle.std.specs.Prelude.{ℕ, List, []}
use Rattle.semver.specs.Parse.{Parts}

-- the place of a definition, and the version of its name
abbrev pub Newest : Type 0
Newest = ℕ × Parts

-- the definitions in order, each under its key, and for each track that has a name the newest one, by the track's key
pub record Contents (K V : Type 0) : Type 0 where
  pub definitions : List (K × V)
  pub tracks : List (K × Newest)

-- a map without names
abbrev pub no_names : {K V : Type 0} → Contents K V
no_names = record { definitions = []; tracks = [] }
