-- Which entries name an entry, as a map holds them.
use Rattle.std.specs.Prelude.{ℕ, List, [], Option, Some, None, Vec}
use Rattle.std.specs.Ordering.{nat_cmp}
use Rattle.std.specs.BTreeMap.{BTreeMap, get}
use Rattle.pc_types_convert.specs.Needed.{IsAmong}

module _ {A : Type 0} where
  -- the numbers in a vector, and none where there is no vector
  abbrev pub numbers_in : Option (Vec ℕ A) → List ℕ
  numbers_in None = []
  numbers_in (Some ns) = ns.items

  -- the entries that are noted for entry `p`
  abbrev pub users_of : BTreeMap ℕ (Vec ℕ A) → ℕ → List ℕ
  users_of users p = numbers_in (get nat_cmp users p)

  -- what was noted is noted
  abbrev pub KeepsUsers : BTreeMap ℕ (Vec ℕ A) → BTreeMap ℕ (Vec ℕ A) → Type 0
  KeepsUsers old new = (p k : ℕ) → IsAmong k (users_of old p) → IsAmong k (users_of new p)
