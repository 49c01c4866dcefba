-- Names by number. Each name has one number, so that what stands under a name is found without its text.
use Rattle.std.specs.Prelude.{◌≡◌, ℕ, List, [], ◌∷◌, ◌++◌, map, slice_get, Option, Some, is_some, nat_eq, if◌then◌else◌}
use Rattle.std.specs.List.{AllZip}
use Rattle.std.specs.Map.{lookup}
use Rattle.pc_entity.specs.declared.string_pool.Atom.{Atom}
use Rattle.pc_entity.specs.Lists.{value_of}
use Rattle.pc_types.specs.declared.parsed.CoreEntity.{CoreEntity}
use Rattle.pc_inline_names.specs.Both.{Both}

-- the value at the first entry of this number
abbrev pub numbered_value : {V : Type 0} → Atom → List (Atom × V) → Option V
numbered_value n es = lookup (λ k. nat_eq n.0 k.0) es

-- the entries with one more at the end, unless its number has a value
abbrev pub with_first_number : {V : Type 0} → List (Atom × V) → Atom → V → List (Atom × V)
with_first_number es n value = if is_some (numbered_value n es) then es else es ++ (n, value) ∷ []

-- the numbers of some entries, in order
abbrev pub numbers_of : {V : Type 0} → List (Atom × V) → List Atom
numbers_of es = map (λ e. e.0) es

module _ (names : List (List ℕ)) where
  -- a name has this number
  abbrev pub IsNumber : Atom → List ℕ → Type 0
  IsNumber n name = slice_get names n.0 ≡ Some name

  -- these numbers are those of these names, in order
  abbrev pub AreNumbersOf : List (List ℕ) → List Atom → Type 0
  AreNumbersOf xs ns = AllZip (λ (name : List ℕ) (n : Atom). IsNumber n name) xs ns

  -- two numbers are those of the module name and of the name of an import
  pub record AreNumbers (i : List ℕ × List ℕ × CoreEntity) (ns : Atom × Atom) : Type 0 where
    pub of_module : IsNumber ns.0 i.0
    pub of_name : IsNumber ns.1 i.1

  -- the numbers of the two names of each import, in order
  abbrev pub AreImportNumbers : List (List ℕ × List ℕ × CoreEntity) → List (Atom × Atom) → Type 0
  AreImportNumbers is ns = AllZip AreNumbers is ns

  -- the number of each name has the value that the name has
  abbrev pub HasNumbers : {V : Type 0} → List (List ℕ × V) → List (Atom × V) → Type 0
  HasNumbers xs numbered = (n : Atom) (name : List ℕ) → IsNumber n name → numbered_value n numbered ≡ value_of name xs

  -- what stands under the number of a name on one side stands so for what the name has on the other, or both have
  -- nothing
  abbrev pub SameNamed : {A B : Type 0} → (A → B → Type 0) → List (Atom × A) → List (List ℕ × B) → Type 0
  SameNamed {A} {B} R xs ys =
      (n : Atom) (name : List ℕ) → IsNumber n name → Both R (numbered_value n xs) (value_of name ys)
