-- The words on lists that every layer uses.
use Rattle.std.specs.Prelude.{◌≡◌, ℕ, List, [], ◌∷◌, Option, None, Some, slice_get, map, if◌then◌else◌}
use Rattle.std.specs.Option.{option_map}
use Rattle.std.specs.Prelude.{option_and_then}
use Rattle.std.specs.Str.{bytes_eq}

-- f of each item in order, or nothing where f has nothing for one of them
abbrev pub map_all : {A B : Type 0} → (A → Option B) → List A → Option (List B)
map_all f [] = Some []
map_all f (x ∷ xs) = option_and_then (λ y. option_map (λ ys. y ∷ ys) (map_all f xs)) (f x)

-- each look-up that answered in xs answers the same in ys
abbrev pub Kept : {A : Type 0} → List A → List A → Type 0
Kept {A} xs ys = (i : ℕ) (x : A) → slice_get xs i ≡ Some x → slice_get ys i ≡ Some x

-- no value stands at two places
abbrev pub AreDistinct : {A : Type 0} → List A → Type 0
AreDistinct {A} xs = (i j : ℕ) (x : A) → slice_get xs i ≡ Some x → slice_get xs j ≡ Some x → i ≡ j

-- the value at the first entry of this name
abbrev pub value_of : {V : Type 0} → List ℕ → List (List ℕ × V) → Option V
value_of name [] = None
value_of name (e ∷ es) = if bytes_eq name e.0 then Some e.1 else value_of name es

-- the entries after a value is put at a name: a name that is there keeps its place, and another goes last
abbrev pub with_value : {V : Type 0} → List (List ℕ × V) → List ℕ → V → List (List ℕ × V)
with_value [] name value = (name, value) ∷ []
with_value (e ∷ es) name value = if bytes_eq name e.0 then (e.0, value) ∷ es else e ∷ with_value es name value

-- the names of the entries
abbrev pub names_of : {V : Type 0} → List (List ℕ × V) → List (List ℕ)
names_of es = map (λ e. e.0) es
