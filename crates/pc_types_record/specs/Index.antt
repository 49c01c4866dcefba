-- When the parts of an index are those of its record.
use Rattle.std.specs.Prelude.{◌≡◌, ℕ, List}
use Rattle.pc_entity.specs.Lists.{value_of}
use Rattle.pc_types_record.specs.Indexed.{IsImportIndex}
use Rattle.pc_types_record.specs.declared.record_index.RecordIndex.TheInside.{Inside}

-- the parts of an index are made of its record's imports and exports
pub record IsIndex (s : Inside) : Type 0 where
  pub imports : IsImportIndex s.record.now.imports s.imports
  pub exports : (name : List ℕ) → value_of name s.exports ≡ value_of name s.record.now.exports
