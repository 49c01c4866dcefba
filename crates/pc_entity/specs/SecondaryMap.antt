-- A value for every number, all but finitely many of them the default.
use Rattle.std.specs.Prelude.{ℕ, ◌+◌, ◌-◌, List, ◌++◌, length, replicate, slice_get, slice_set, unwrap_or}

-- the values of the first numbers, and the value of all others
pub record Defaulted (V : Type 0) : Type 0 where
  pub items : List V
  pub default : V

module _ {V : Type 0} where
  -- the value of a number
  abbrev pub value_at : Defaulted V → ℕ → V
  value_at m key = unwrap_or (slice_get m.items key) m.default

  -- the items, filled up with the default until there are n
  abbrev pub filled : Defaulted V → ℕ → List V
  filled m n = m.items ++ replicate (n - length m.items) m.default

  -- the map after a value is set at a number
  abbrev pub with_value_at : Defaulted V → ℕ → V → Defaulted V
  with_value_at m key value = record { items = slice_set (filled m (key + 1)) key value; default = m.default }
