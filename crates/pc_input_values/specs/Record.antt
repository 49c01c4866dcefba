-- What a core module has, without its type.
use Rattle.std.specs.Prelude.{ℕ, Bool, List, Option, Some, codes}
use Rattle.serde_json.specs.Data.{Data}
use Rattle.serde_json.specs.Find.{as_bool}
use Rattle.pc_numbers.specs.declared.entity_index.EntityIndex.{EntityIndex}
use Rattle.pc_types.specs.declared.parsed.CoreEntity.{CoreEntity}
use Rattle.pc_types.specs.declared.module_record.ModuleRecord.{ModuleRecord}
use Rattle.pc_input_values.specs.Tree.{◌>>=◌, whole, each, field}
use Rattle.pc_input_values.specs.Rules.{Rules}
use Rattle.pc_input_values.specs.Names.{core_item}
use Rattle.pc_input_values.specs.Types.{core_import}

-- what a core module imports, defines and exports
abbrev pub module_record : List (List ℕ × List ℕ × CoreEntity) → List ℕ → ℕ → List Bool → ℕ → ℕ
    → List (List ℕ × EntityIndex) → ModuleRecord
module_record imports funcs tables memories globals tags exports = record {
  imports = imports;
  funcs = funcs;
  tables = tables;
  memories = memories;
  globals = globals;
  tags = tags;
  exports = exports;
}

-- how many tables, globals and tags there are
abbrev pub counts : Data → Option (ℕ × ℕ × ℕ)
counts d = do
  tables ← field (codes "tables") whole d
  globals ← field (codes "globals") whole d
  tags ← field (codes "tags") whole d
  Some (tables, globals, tags)

-- what the members of a core module say, without its type
abbrev pub record_members : Rules → Data → Option ModuleRecord
record_members r d = do
  imports ← field (codes "imports") (each (core_import r)) d
  funcs ← field (codes "funcs") (each whole) d
  memories ← field (codes "memories") (each as_bool) d
  exports ← field (codes "exports") (each (core_item r)) d
  n ← counts d
  Some (module_record imports funcs n.0 memories n.1 n.2 exports)
