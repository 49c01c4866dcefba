-- What one call does to the contents of a name map.
use Rattle.std.specs.Prelude.{◌≡◌, ℕ, Bool, false, List, [], ◌∷◌, ◌++◌, Option, None, Some, IsSome, length, slice_get}
use Rattle.std.specs.Prelude.{unwrap_or}
use Rattle.std.specs.Option.{option_map}
use Rattle.pc_names.specs.Contents.{Contents, Newest}
use Rattle.pc_names.specs.Definitions.{place_in, with_value}
use Rattle.pc_names.specs.Tracks.{noted}
use Rattle.semver.specs.Identifiers.{parts_of}
use Rattle.semver.specs.Parse.{Parts}
use Rattle.semver.specs.declared.Version.{Version}

-- shadowing is off, and the key is among the definitions
abbrev pub IsHeld : {K V : Type 0} → (K → K → Bool) → Contents K V → K → Bool → Type 0
IsHeld eq map key allow_shadowing = (allow_shadowing ≡ false) × IsSome (place_in eq map.definitions key)

-- the key of a name's track, and the name's version there, where it has a track
abbrev pub IsTrackKey : {K : Type 0} → (List ℕ → K → Type 0) → Option (List ℕ × Parts) → Option (K × Parts) → Type 0
IsTrackKey has_key None None = Unit {0}
IsTrackKey has_key None (Some t) = ⊥
IsTrackKey has_key (Some n) None = ⊥
IsTrackKey has_key (Some n) (Some t) = has_key n.0 t.0 × (t.1 ≡ n.1)

-- a track's key with the version as its parts
abbrev pub keyed_version : {K : Type 0} → Option (K × Version) → Option (K × Parts)
keyed_version None = None
keyed_version (Some t) = Some (t.0, parts_of t.1)

-- definitions with a value at a place, or under a key more where there is no place
abbrev pub defined_at : {K V : Type 0} → List (K × V) → Option ℕ → K → V → List (K × V)
defined_at ds None key value = ds ++ (key, value) ∷ []
defined_at ds (Some place) key value = with_value ds place value

-- tracks with the version at a place, where the name has a track
abbrev pub noted_at : {K : Type 0} → (K → K → Bool) → List (K × Newest) → Option (K × Parts) → ℕ
    → List (K × Newest)
noted_at eq tracks None place = tracks
noted_at eq tracks (Some t) place = noted eq tracks t.0 (place, t.1)

-- a map with a definition more: a key among its definitions stays where it is
abbrev pub with_definition : {K V : Type 0} → (K → K → Bool) → Contents K V → K → Option (K × Parts) → V
    → Contents K V
with_definition eq map key track value = record {
  definitions = defined_at map.definitions (place_in eq map.definitions key) key value;
  tracks = noted_at eq map.tracks track (unwrap_or (place_in eq map.definitions key) (length map.definitions));
}

-- the value of the definition that a track has as its newest
abbrev pub newest_value : {K V : Type 0} → Contents K V → Option Newest → Option V
newest_value map None = None
newest_value map (Some newest) = option_map (λ d. d.1) (slice_get map.definitions newest.0)
