-- What names mean after a list of insertions, each of a name and a value.
use Rattle.std.specs.Prelude.{◌≡◌, ℕ, List, [], ◌∷◌, reverse, fold, Bool, false, Option, Some, None, IsSome}
use Rattle.std.specs.Prelude.{MatchOption, if◌then◌else◌}
use Rattle.std.specs.Map.{lookup}
use Rattle.std.specs.Ordering.{is_gt}
use Rattle.std.specs.Str.{bytes_eq}
use Rattle.pc_names.specs.Track.{track_of, version_cmp}
use Rattle.semver.specs.Parse.{Parts}

-- the insertions in order, each with its name and value
abbrev pub Inserted : Type 0 → Type 0
Inserted V = List (List ℕ × V)

-- the value of a name: that of its last insertion
abbrev pub last_value : {V : Type 0} → Inserted V → List ℕ → Option V
last_value inserted name = lookup (bytes_eq name) (reverse inserted)

-- definitions after one more: a name among them gets the value where it stands, and a new one is added at the end
abbrev pub define : {V : Type 0} → List (List ℕ × V) → List ℕ → V → List (List ℕ × V)
define [] name value = (name, value) ∷ []
define (d ∷ ds) name value = if bytes_eq name d.0 then (d.0, value) ∷ ds else d ∷ define ds name value

-- what insertions define: each name once, where it was first inserted, with its last value
abbrev pub definitions_of : {V : Type 0} → Inserted V → List (List ℕ × V)
definitions_of inserted = fold (λ ds e. define ds e.0 e.1) [] inserted

-- the name was inserted, and stands on the track at this version
pub record IsOn {V : Type 0} (inserted : Inserted V) (track : List ℕ) (version : Parts) (name : List ℕ) : Type 0 where
  pub is_inserted : IsSome (last_value inserted name)
  pub stands : track_of name ≡ Some (track, version)

-- of the names inserted on the track, this one has the greatest version
pub record IsGreatest {V : Type 0} (inserted : Inserted V) (track : List ℕ) (name : List ℕ) : Type 0 where
  pub version : Parts
  pub is_on : IsOn inserted track version name
  pub greatest : (v : Parts) (other : List ℕ) → IsOn inserted track v other → is_gt (version_cmp v version) ≡ false

-- what a track gives: the value of the greatest version inserted on it, or nothing where none was
abbrev pub TrackGives : {V : Type 0} → Inserted V → Option (List ℕ × Parts) → Option V → Type 0
TrackGives inserted None answer = answer ≡ None
TrackGives inserted (Some t) answer = MatchOption answer
    ((v : Parts) (name : List ℕ) → ¬ IsOn inserted t.0 v name)
    (λ value. (name : List ℕ) × IsGreatest inserted t.0 name × (last_value inserted name ≡ Some value))

-- what a look-up answers: a name that was inserted gives its value, whatever other versions were, and one that was not
-- what its track gives
pub record Answers {V : Type 0} (inserted : Inserted V) (name : List ℕ) (answer : Option V) : Type 0 where
  pub defined : (value : V) → last_value inserted name ≡ Some value → answer ≡ Some value
  pub undefined : last_value inserted name ≡ None → TrackGives inserted (track_of name) answer

-- shadowing is off, and the name was inserted before
abbrev pub IsTwice : {V : Type 0} → Inserted V → List ℕ → Bool → Type 0
IsTwice inserted name allow_shadowing = (allow_shadowing ≡ false) × IsSome (last_value inserted name)
