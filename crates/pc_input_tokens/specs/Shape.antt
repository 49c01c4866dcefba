-- How a tree of JSON is taken apart. Each function is None where the tree has another shape.
use Rattle.std.specs.Prelude.{ℕ, ◌==◌, List, [], ◌∷◌, Bool, false, Option, Some, None, option_map}
use Rattle.std.specs.Option.{option_map_or}
use Rattle.serde_json.specs.Data.{Data, Items, no_items, item, Members, no_members, member}
use Rattle.serde_json.specs.Events.{members_len}
use Rattle.serde_json.specs.Find.{as_str, as_array, as_object}

infixl 10 ◌>>=◌
-- f of the value, where there is one
abbrev pub ◌>>=◌ : {A B : Type 0} → Option A → (A → Option B) → Option B
(Some x) >>= f = f x
None >>= f = None

-- the elements, as a list
abbrev pub elements : Items → List Data
elements no_items = []
elements (item d ds) = d ∷ elements ds

-- the elements of an array
abbrev pub list_of : Data → Option (List Data)
list_of d = option_map elements (as_array d)

-- the text at the head of a list, and the elements after it
abbrev pub head_from : List Data → Option (List ℕ × List Data)
head_from [] = None
head_from (d ∷ rest) = option_map (λ w. (w, rest)) (as_str d)

-- the text at the head of an array, and the elements after it
abbrev pub headed : Data → Option (List ℕ × List Data)
headed d = list_of d >>= head_from

-- whether the tree is an object of exactly n members
abbrev pub has_members : ℕ → Data → Bool
has_members n d = option_map_or (λ ms. members_len ms == n) (as_object d) false

-- the one member among members, as key and value
abbrev pub only : Members → Option (List ℕ × Data)
only no_members = None
only (member k d no_members) = Some (k, d)
only (member k d (member l e ms)) = None

-- the one member of an object, as key and value
abbrev pub tagged : Data → Option (List ℕ × Data)
tagged d = as_object d >>= only
