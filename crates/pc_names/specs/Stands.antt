-- Which insertions a name map stands for, where `has_key text key` says which text has which key. What the map's
-- contracts say of it is all that a caller needs: an empty map stands for nothing, and each call says what the map
-- stands for after it.
use Rattle.std.specs.Prelude.{◌≡◌, ℕ, List, Option, None, Some, false, slice_get}
use Rattle.std.specs.List.{AllZip}
use Rattle.std.specs.Map.{lookup}
use Rattle.std.specs.Ordering.{is_gt}
use Rattle.std.specs.Str.{bytes_eq}
use Rattle.pc_names.specs.Contents.{Contents, Newest}
use Rattle.pc_names.specs.Inserted.{Inserted, IsOn, definitions_of}
use Rattle.pc_names.specs.Track.{track_of, version_cmp}
use Rattle.semver.specs.Parse.{Parts}

-- entries under keys are the entries under the texts that have those keys
abbrev pub AreKeyed : {K X : Type 0} → (List ℕ → K → Type 0) → List (K × X) → List (List ℕ × X) → Type 0
AreKeyed has_key entries named = AllZip (λ e n. has_key n.0 e.0 × (e.1 ≡ n.1)) entries named

-- the definition at a place stands on the track at a version that no name inserted there has a greater one than
pub record IsNewest {V : Type 0} (inserted : Inserted V) (track : List ℕ) (newest : Newest) : Type 0 where
  pub name : List ℕ
  pub value : V
  pub at : slice_get (definitions_of inserted) newest.0 ≡ Some (name, value)
  pub stands : track_of name ≡ Some (track, newest.1)
  pub greatest : (v : Parts) (other : List ℕ) → IsOn inserted track v other → is_gt (version_cmp v newest.1) ≡ false

-- a track has its newest version, or none where no name was inserted on it
abbrev pub TrackHas : {V : Type 0} → Inserted V → List ℕ → Option Newest → Type 0
TrackHas inserted track None = (v : Parts) (name : List ℕ) → ¬ IsOn inserted track v name
TrackHas inserted track (Some newest) = IsNewest inserted track newest

-- the definitions are those of the insertions, and each track has its newest version, all under the keys of their texts
pub record StandsFor {K V : Type 0} (has_key : List ℕ → K → Type 0) (map : Contents K V)
    (inserted : Inserted V) : Type 0 where
  pub definitions : AreKeyed has_key map.definitions (definitions_of inserted)
  pub tracks_by_text : List (List ℕ × Newest)
  pub tracks : AreKeyed has_key map.tracks tracks_by_text
  pub newest : (track : List ℕ) → TrackHas inserted track (lookup (bytes_eq track) tracks_by_text)
