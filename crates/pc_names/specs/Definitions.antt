-- Definitions under keys, in the order in which the keys came.
use Rattle.std.specs.Prelude.{◌≡◌, ℕ, zero, suc, Bool, List, [], ◌∷◌, Option, None, Some, slice_get, if◌then◌else◌}
use Rattle.std.specs.Map.{keys_of}
use Rattle.std.specs.Option.{option_map}

-- the place of the first key that passes
abbrev pub place_by : {K : Type 0} → (K → Bool) → List K → Option ℕ
place_by test [] = None
place_by test (k ∷ ks) = if test k then Some 0 else option_map suc (place_by test ks)

-- the place of a key among definitions
abbrev pub place_in : {K V : Type 0} → (K → K → Bool) → List (K × V) → K → Option ℕ
place_in eq definitions k = place_by (eq k) (keys_of definitions)

-- definitions with another value at a place
abbrev pub with_value : {K V : Type 0} → List (K × V) → ℕ → V → List (K × V)
with_value [] place v = []
with_value (d ∷ ds) zero v = (d.0, v) ∷ ds
with_value (d ∷ ds) (suc place) v = d ∷ with_value ds place v

-- each key is found at its own place, so no two keys are the same
abbrev pub HaveOwnPlaces : {K : Type 0} → (K → K → Bool) → List K → Type 0
HaveOwnPlaces {K} same keys = (p : ℕ) (k : K) → slice_get keys p ≡ Some k → place_by (same k) keys ≡ Some p
