-- What the parts of an index say of a list of imports.
use Rattle.std.specs.Prelude.{◌≡◌, ℕ, List, [], ◌∷◌, ◌++◌, count_by}
use Rattle.std.specs.List.{filter_map}
use Rattle.pc_numbers.specs.declared.entity_index.EntityIndex.{EntityIndex}
use Rattle.pc_types.specs.declared.parsed.CoreEntity.{CoreEntity}
use Rattle.pc_types.specs.Record.{entity_at, imports_kind, kind_of, import_signature, import_width}
use Rattle.pc_types_record.specs.Places.{ArePlacesOf}
use Rattle.pc_types_record.specs.declared.import_index.ImportIndex.{ImportIndex}

-- the entity that each import is, where these others stand before them all
abbrev pub entities_after : (before imports : List (List ℕ × List ℕ × CoreEntity)) → List EntityIndex
entities_after before [] = []
entities_after before (i ∷ is) =
    entity_at (kind_of i.2) (count_by (imports_kind (kind_of i.2)) before) ∷ entities_after (before ++ i ∷ []) is

-- this is what is kept of these imports
pub record IsImportIndex (imports : List (List ℕ × List ℕ × CoreEntity)) (s : ImportIndex) : Type 0 where
  pub positions : ArePlacesOf imports s.positions
  pub entities : s.entities ≡ entities_after [] imports
  pub signatures : s.signatures ≡ filter_map import_signature imports
  pub widths : s.widths ≡ filter_map import_width imports
