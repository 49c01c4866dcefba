-- What a call does to the bytes that are left or written, where they are told, and to the count of faults.
use Rattle.std.specs.Prelude.{◌≡◌, ◌⊎◌, ℕ, ◌-◌, ◌^◌, ◌<◌, List, [], ◌++◌, Option, None, Some, ⊤}

-- the source gave these bytes from the front of those left; one that tells its bytes goes on telling them
abbrev pub Gives : Option (List ℕ) → Option (List ℕ) → List ℕ → Type 0
Gives None new bytes = ⊤
Gives (Some before) None bytes = ⊥
Gives (Some before) (Some after) bytes = before ≡ bytes ++ after

-- where bytes are told, none is left
abbrev pub IsAtEnd : Option (List ℕ) → Type 0
IsAtEnd None = ⊤
IsAtEnd (Some bytes) = bytes ≡ []

-- the sink wrote these bytes behind those before; one that no longer tells its bytes doesn't begin again
abbrev pub Takes : Option (List ℕ) → Option (List ℕ) → List ℕ → Type 0
Takes None None bytes = ⊤
Takes None (Some after) bytes = ⊥
Takes (Some before) None bytes = ⊤
Takes (Some before) (Some after) bytes = after ≡ before ++ bytes

-- a fault shows: more faults are counted than before, or as many as the count can tell
abbrev pub ShowsFault : ℕ → ℕ → Type 0
ShowsFault before after = (before < after) ⊎ (after ≡ 2 ^ 64 - 1)
