-- How a tree of JSON is taken apart. Each function is None where the tree has another shape.
use Rattle.std.specs.Prelude.{ℕ, ◌^◌, List, [], ◌∷◌, ⊤, Option, Some, None, option_map, is_some, nat_lt, if◌then◌else◌}
use Rattle.serde_json.specs.Data.{Data}
use Rattle.serde_json.specs.Find.{get, as_null, as_number, as_u64, as_str}
use Rattle.pc_entity.specs.Lists.{map_all, value_of}
pub use Rattle.pc_input_tokens.specs.Shape.{◌>>=◌, elements, list_of, head_from, headed, has_members, only, tagged}

-- a whole number from 0 to 4294967295, written without fraction and exponent
abbrev pub whole : Data → Option ℕ
whole d = do
  x ← as_number d
  n ← as_u64 x
  if nat_lt n (2 ^ 32) then Some n else None

-- what a word stands for, by a table of words
abbrev pub word : {A : Type 0} → List (List ℕ × A) → Data → Option A
word table d = as_str d >>= λ w. value_of w table

-- nothing where null stands, else what f reads
abbrev pub or_null : {A : Type 0} → (Data → Option A) → Data → Option (Option A)
or_null f d = if is_some (as_null d) then Some None else option_map Some (f d)

-- a value made of what f reads
abbrev pub making : {A B : Type 0} → (A → B) → (Data → Option A) → Data → Option B
making make f d = option_map make (f d)

-- ---- arrays

-- an array, with each element read by f
abbrev pub each : {A : Type 0} → (Data → Option A) → Data → Option (List A)
each f d = list_of d >>= map_all f

-- two elements
abbrev pub two : {A B : Type 0} → (Data → Option A) → (Data → Option B) → List Data → Option (A × B)
two f g (a ∷ b ∷ []) = do
  x ← f a
  y ← g b
  Some (x, y)
two f g _ = None

-- three elements
abbrev pub three : {A B C : Type 0} → (Data → Option A) → (Data → Option B) → (Data → Option C) → List Data
    → Option (A × B × C)
three f g h (a ∷ b ∷ c ∷ []) = do
  x ← two f g (a ∷ b ∷ [])
  z ← h c
  Some (x.0, x.1, z)
three f g h _ = None

-- an array of two
abbrev pub pair : {A B : Type 0} → (Data → Option A) → (Data → Option B) → Data → Option (A × B)
pair f g d = list_of d >>= two f g

-- an array of three
abbrev pub triple : {A B C : Type 0} → (Data → Option A) → (Data → Option B) → (Data → Option C) → Data
    → Option (A × B × C)
triple f g h d = list_of d >>= three f g h

-- a value made of an array of two
abbrev pub of_pair : {A B C : Type 0} → (A → B → C) → (Data → Option A) → (Data → Option B) → Data → Option C
of_pair {A} {B} make f g d = option_map (λ (p : A × B). make p.0 p.1) (pair f g d)

-- a value made of an array of three
abbrev pub of_triple : {A B C D : Type 0} → (A → B → C → D) → (Data → Option A) → (Data → Option B) → (Data → Option C)
    → Data → Option D
of_triple {A} {B} {C} make f g h d = option_map (λ (t : A × B × C). make t.0 t.1 t.2) (triple f g h d)

-- a value that a word makes of a number after it, by a table of makers
abbrev pub numbered : {A : Type 0} → List (List ℕ × (ℕ → A)) → List ℕ → Data → Option A
numbered table w d = do
  n ← whole d
  option_map (λ make. make n) (value_of w table)

-- ---- objects

-- goes on at an object of exactly n members
abbrev pub exactly : ℕ → Data → Option ⊤
exactly n d = if has_members n d then Some tt else None

-- the member under a key, read by f
abbrev pub field : {A : Type 0} → List ℕ → (Data → Option A) → Data → Option A
field key f d = get key d >>= f

-- what the row of a key reads
abbrev pub by_row : {A : Type 0} → List (List ℕ × (Data → Option A)) → List ℕ → Data → Option A
by_row rows key d = value_of key rows >>= λ f. f d

-- an object of one member, read by the row of its key
abbrev pub by_key : {A : Type 0} → List (List ℕ × (Data → Option A)) → Data → Option A
by_key rows d = tagged d >>= λ t. by_row rows t.0 t.1

-- a word of a table, or an object of one member
abbrev pub word_or_key : {A : Type 0} → List (List ℕ × A) → List (List ℕ × (Data → Option A)) → Data → Option A
word_or_key table rows d = if is_some (as_str d) then word table d else by_key rows d
