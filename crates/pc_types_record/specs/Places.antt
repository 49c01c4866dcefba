-- The places of imports, by kind, and how they lie in one list.
use Rattle.std.specs.Prelude.{◌≡◌, ◌≤◌, ℕ, List, length, slice_range}
use Rattle.pc_types.specs.declared.parsed.CoreEntity.{CoreEntity}
use Rattle.pc_types.specs.declared.parsed.CoreKind.{CoreKind}
use Rattle.pc_types.specs.declared.by_kind.ByKind.{ByKind}
use Rattle.pc_types.specs.ByKind.{of_kind}
use Rattle.pc_types.specs.Record.{places_from}

-- they are the places of these imports, by kind
abbrev pub ArePlacesOf : List (List ℕ × List ℕ × CoreEntity) → ByKind (List ℕ) → Type 0
ArePlacesOf imports places = (k : CoreKind) → of_kind places k ≡ places_from k 0 imports

-- the parts of a list for each kind, one after the other, where they end there
abbrev pub parts : List ℕ → (ends : ByKind ℕ) → ByKind (List ℕ)
parts xs ends = record {
  funcs = slice_range xs 0 ends.funcs;
  tables = slice_range xs ends.funcs ends.tables;
  memories = slice_range xs ends.tables ends.memories;
  globals = slice_range xs ends.memories ends.globals;
  tags = slice_range xs ends.globals ends.tags;
}

-- these ends follow one another within the list
pub record AreEnds (xs : List ℕ) (ends : ByKind ℕ) : Type 0 where
  pub tables : ends.funcs ≤ ends.tables
  pub memories : ends.tables ≤ ends.memories
  pub globals : ends.memories ≤ ends.globals
  pub tags : ends.globals ≤ ends.tags
  pub within : ends.tags ≤ length xs
