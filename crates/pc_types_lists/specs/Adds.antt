-- How many types the conversion of one entry of a table may add, and where a list may have no place for them.
use Rattle.std.specs.Prelude.{◌≡◌, ◌≤◌, ◌<◌, ◌⊎◌, ◌+◌, ◌*◌, ℕ, Bool, true, false, Contains, length}
use Rattle.pc_types.specs.declared.parsed.CoreFuncSig.{CoreFuncSig}
use Rattle.pc_types.specs.declared.parsed.TypeTable.{TypeTable}
use Rattle.pc_types.specs.declared.types.TypeKind.{TypeKind}
use Rattle.pc_types.specs.declared.types.TypeKind.TheVariants as kind
use Rattle.pc_types_lists.specs.Types.{HasNumber, Types, held}

-- how many types the conversion of one entry may add to a list: one for each entry of the table, two tuples for each
-- function besides, and one table of error contexts
abbrev pub most_types : TypeTable → ℕ
most_types t = 1 + 3 * length t.types

-- whether new types of a kind are bounded by their count: all but core signatures, whose new ones are the table's
abbrev pub is_counted : TypeKind → Bool
is_counted kind.Signature = false
is_counted _ = true

-- no list of types has grown by more than w, but that of core signatures, whose new ones are the table's
pub record AddsTypes (t : TypeTable) (w : ℕ) (old new : Types) : Type 0 where
  pub few : (k : TypeKind) → is_counted k ≡ true → held new k ≤ held old k + w
  pub signatures : (s : CoreFuncSig) → HasNumber new.signatures s → HasNumber old.signatures s ⊎ Contains t.core_funcs s

-- what one entry of the table may need in the list of a kind: as many types as it may add, and of core signatures one
-- more than the table has
abbrev pub most_of : TypeTable → TypeKind → ℕ
most_of t kind.Signature = 1 + length t.core_funcs
most_of t _ = most_types t

-- some list may have no place for what one entry of the table may need
pub record HasNoPlaceFor (t : TypeTable) (b : Types) : Type 0 where
  pub of_kind : TypeKind
  pub past : 4294967294 < held b of_kind + most_of t of_kind
