-- What the reading does as resources become known.
use Rattle.std.specs.Prelude.{ℕ, List, Option, Result, Ok}
use Rattle.pc_types.specs.declared.parsed.Entity.{Entity}
use Rattle.pc_types.specs.declared.parsed.Entity.TheVariants as entity
use Rattle.pc_types.specs.declared.parsed.TypeTable.{TypeTable}
use Rattle.pc_types.specs.TypeTree.{Identity}
use Rattle.pc_spec_reading.specs.Member.{resource_among, resource_at}
use Rattle.pc_spec_reading.specs.Outcome.{Fault, after, bad_type, found}
use Rattle.pc_spec_reading.specs.Resource.{ResourcePath, knowing, registered, resource_paths}
use Rattle.pc_spec_reading.specs.Scope.{Moment, with_known}
use Rattle.pc_spec_reading.specs.Value.{NamedValues, Value}

-- a number stands for a resource from now on
unfoldable pub known_as : (n : ℕ) → Identity → Moment → Result Moment Fault
known_as n i now = Ok (with_known now (knowing now.scope.known n i))

-- a moment with what is known after a walk, if that didn't end early
abbrev pub with_found : Moment → Result (List (ℕ × Identity)) Fault → Result Moment Fault
with_found now known = after known (λ (ks : List (ℕ × Identity)). Ok (with_known now ks))

-- the number of a path stands for what is found at its end from now on; `BadType` where nothing is
unfoldable pub known_if : (find : List (List ℕ) → Option Identity) → ResourcePath → Moment → Result Moment Fault
known_if find p now = found bad_type (find p.names) (λ (i : Identity). known_as p.number i now)

module _ (t : TypeTable) where
  -- the resources of an argument become known by their paths
  unfoldable pub taken : Entity → Value → Moment → Result Moment Fault
  taken e v now =
      with_found now (registered (λ names. resource_at names v) (resource_paths t e) now.scope.known)

  -- the resources of an instance type become known by their paths in what a child exports
  unfoldable pub returned : (ty : ℕ) → NamedValues → Moment → Result Moment Fault
  returned ty vs now =
      with_found now (registered (resource_among vs) (resource_paths t (entity.Instance ty)) now.scope.known)
