-- The arguments of a module of the host, by module name and name.
use Rattle.std.specs.Prelude.{ℕ, Bool, List, [], ◌∷◌, map, filter, unwrap_or}
use Rattle.std.specs.List.{flat_map}
use Rattle.std.specs.Str.{bytes_eq}
use Rattle.pc_entity.specs.FirstValues.{with_first}
use Rattle.pc_entity.specs.Lists.{value_of, with_value}
use Rattle.pc_types.specs.declared.parsed.CoreEntity.{CoreEntity}
use Rattle.pc_spec_reading.specs.Once.{each_once}
use Rattle.pc_dfg.specs.declared.core_def.CoreDef.{CoreDef}

-- the names of an import
abbrev pub pair_of : List ℕ × List ℕ × CoreEntity → List ℕ × List ℕ
pair_of i = (i.0, i.1)

-- each import with what is given for it
abbrev pub paired : List (List ℕ × List ℕ × CoreEntity) → List CoreDef → List (List ℕ × List ℕ × CoreDef)
paired [] ds = []
paired (i ∷ is) [] = []
paired (i ∷ is) (d ∷ ds) = (i.0, i.1, d) ∷ paired is ds

module _ {A : Type 0} where
  -- arguments with one more: behind those of its module name
  abbrev pub with_argument : List (List ℕ × List (List ℕ × A)) → (module_name name : List ℕ) → A
      → List (List ℕ × List (List ℕ × A))
  with_argument args m n x = with_value args m (with_first (unwrap_or (value_of m args) []) (n, x))

  -- whether it is given to a module name
  abbrev pub is_given_to : List ℕ → List ℕ × List ℕ × A → Bool
  is_given_to m x = bytes_eq m x.0

  -- what is given to a module name, in order
  abbrev pub given_to : List (List ℕ × List ℕ × A) → List ℕ → List (List ℕ × List ℕ × A)
  given_to xs m = filter (is_given_to m) xs

  -- the module names, in order, each once
  abbrev pub module_names : List (List ℕ × List ℕ × A) → List (List ℕ)
  module_names xs = each_once bytes_eq (map (λ x. x.0) xs)

  -- what is given to each module name, in order
  abbrev pub by_module : List (List ℕ × List ℕ × A) → List (List ℕ × List (List ℕ × A))
  by_module xs = map (λ m. (m, map (λ x. (x.1, x.2)) (given_to xs m))) (module_names xs)

  -- those of one module name together, where it first stands
  abbrev pub grouped_by : List (List ℕ × List ℕ × A) → List (List ℕ × List ℕ × A)
  grouped_by xs = flat_map (given_to xs) (module_names xs)
