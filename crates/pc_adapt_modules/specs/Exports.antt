-- What a module of adapters exports, and its whole record.
use Rattle.std.specs.Prelude.{ℕ, zero, suc, ◌+◌, List, [], ◌∷◌, count_by}
use Rattle.pc_numbers.specs.declared.entity_index.EntityIndex.{EntityIndex}
use Rattle.pc_types.specs.declared.module_record.ModuleRecord.{ModuleRecord}
use Rattle.pc_types.specs.declared.parsed.CoreEntity.{CoreEntity}
use Rattle.pc_types.specs.declared.parsed.CoreKind.TheVariants as kind
use Rattle.pc_types.specs.Record.{entity_at, imports_kind}
use Rattle.pc_spec_adapt.specs.Record.{adapter_name}

-- as many adapters as exports, from this function and this number on
abbrev pub exports_of : (function number many : ℕ) → List (List ℕ × EntityIndex)
exports_of f n zero = []
exports_of f n (suc k) = (adapter_name n, entity_at kind.Func f) ∷ exports_of (f + 1) (n + 1) k

-- the record of a module with these imports and functions, which are as many adapters from this number on
abbrev pub record_of_parts : List (List ℕ × List ℕ × CoreEntity) → List ℕ → (number many : ℕ) → ModuleRecord
record_of_parts imports funcs n many = record {
  imports = imports;
  funcs = funcs;
  tables = 0;
  memories = [];
  globals = 0;
  tags = 0;
  exports = exports_of (count_by (imports_kind kind.Func) imports) n many;
}
