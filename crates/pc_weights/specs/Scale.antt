-- What is computed once for a type table and its core modules.
use Rattle.std.specs.Prelude.{◌≡◌, [], map}
use Rattle.pc_spec_reading.specs.Total.{most_imports, names_from}
use Rattle.pc_weights.specs.declared.scale.Scale.{Scale}
use Rattle.pc_weights.specs.Capped.{capped}

-- the names of each entry of the table, and the most imports of a core module
pub record IsScale (s : Scale) : Type 0 where
  pub names : s.names.items ≡ map capped (names_from [] s.table.now.types)
  pub imports : s.most_imports ≡ most_imports s.table.now s.modules.now
