-- What two input forms may differ in.
use Rattle.std.specs.Prelude.{ℕ, List, [], ◌∷◌, Bool, true, false, Option, slice_get, if◌then◌else◌}
use Rattle.serde_json.specs.Data.{Data}
use Rattle.serde_json.specs.Find.{as_str}
use Rattle.pc_input_values.specs.Tree.{◌>>=◌, whole, making, each}

-- what a form says of its own: the text of a tree that stands where a name is due, and whether the value of a
-- section's key is a list of entries; else it is one entry
pub record Rules : Type 0 where
  pub name : Data → Option (List ℕ)
  pub listed : Bool

-- form 1: a name is a text, and a section has a list of entries
abbrev pub plain : Rules
plain = record { name = as_str; listed = true }

-- form 2: a name is the number of a text in a table, and a section has one entry
abbrev pub tabled : List (List ℕ) → Rules
tabled names = record { name = λ d. whole d >>= slice_get names; listed = false }

-- a list of one
abbrev pub single : {A : Type 0} → A → List A
single x = x ∷ []

-- the entries of a section, each read by f
abbrev pub section : {A : Type 0} → Rules → (Data → Option A) → Data → Option (List A)
section r f d = if r.listed then each f d else making single f d
