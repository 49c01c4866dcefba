-- What an index says of the entities of a core module.
use Rattle.std.specs.Prelude.{◌≡◌, ℕ, ◌-◌, Bool, ◌&&◌, nat_le, nat_lt, List, length, Option, Some, slice_get}
use Rattle.pc_numbers.specs.declared.entity_index.EntityIndex.{EntityIndex}
use Rattle.pc_types.specs.declared.by_kind.ByKind.{ByKind}
use Rattle.pc_types.specs.declared.module_record.ModuleRecord.{ModuleRecord}
use Rattle.pc_types.specs.declared.parsed.CoreKind.{CoreKind}
use Rattle.pc_types.specs.ByKind.{of_kind}
use Rattle.pc_types.specs.Record.{defined, index_kind, index_number}
use Rattle.pc_types_record.specs.Places.{ArePlacesOf}
use Rattle.pc_analysis_contexts.specs.declared.import_index.ImportIndex.{ImportIndex}

-- so many entities of each kind a module defines
abbrev pub AreDefinedOf : ModuleRecord → ByKind ℕ → Type 0
AreDefinedOf r counts = (k : CoreKind) → of_kind counts k ≡ defined r k

-- an index is that of a record
pub record IsIndex (r : ModuleRecord) (s : ImportIndex) : Type 0 where
  pub places : ArePlacesOf r.imports s.places
  pub counts : AreDefinedOf r s.defined

-- the place of the import that is this entity, by the index
abbrev pub place_in : ImportIndex → EntityIndex → Option ℕ
place_in s e = slice_get (of_kind s.places (index_kind e)) (index_number e)

-- whether the module defines an entity, by the index
abbrev pub defines : ImportIndex → EntityIndex → Bool
defines s e =
    nat_le (length (of_kind s.places (index_kind e))) (index_number e)
    && nat_lt (index_number e - length (of_kind s.places (index_kind e))) (of_kind s.defined (index_kind e))

-- each index is that of the record of its number
pub record AreIndexes (records : List ModuleRecord) (indexes : List ImportIndex) : Type 0 where
  pub count : length indexes ≡ length records
  pub each : (m : ℕ) (r : ModuleRecord) (s : ImportIndex) → slice_get records m ≡ Some r
      → slice_get indexes m ≡ Some s → IsIndex r s
