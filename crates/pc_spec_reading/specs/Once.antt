-- Lists in which nothing stands twice.
use Rattle.std.specs.Prelude.{Bool, List, [], ◌∷◌, ◌++◌, if◌then◌else◌}
use Rattle.std.specs.List.{fold, list_any}

module _ {A : Type 0} (same : A → A → Bool) where
  -- a list with one item more at its end, unless the same stands in it
  abbrev pub with_once : List A → A → List A
  with_once xs x = if list_any (same x) xs then xs else xs ++ x ∷ []

  -- the items of a list in order, each where it first stands
  abbrev pub each_once : List A → List A
  each_once xs = fold with_once [] xs
