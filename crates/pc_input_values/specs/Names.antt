-- Names of imports, exports and items.
use Rattle.std.specs.Prelude.{ℕ, List, Option, None, is_some, if◌then◌else◌}
use Rattle.serde_json.specs.Data.{Data}
use Rattle.serde_json.specs.Find.{as_array}
use Rattle.pc_numbers.specs.declared.entity_index.EntityIndex.{EntityIndex}
use Rattle.pc_types.specs.Record.{entity_at}
use Rattle.pc_parsed.specs.declared.payload.ExternName.{ExternName}
use Rattle.pc_input_values.specs.Tree.{whole, word, or_null, making, of_triple}
use Rattle.pc_input_values.specs.Rules.{Rules}
use Rattle.pc_input_values.specs.Words.{core_kinds}

-- the name that stands alone
abbrev pub bare_name : List ℕ → ExternName
bare_name name = record { name = name; implements = None; external_id = None }

-- the name with what it implements and its id
abbrev pub full_name : List ℕ → Option (List ℕ) → Option (List ℕ) → ExternName
full_name name implements id = record { name = name; implements = implements; external_id = id }

-- an import's or export's name: a name, or an array of it, what it implements and its id
unfoldable pub extern_name : Rules → Data → Option ExternName
extern_name r d = if is_some (as_array d)
    then of_triple full_name r.name (or_null r.name) (or_null r.name) d
    else making bare_name r.name d

-- a core item by name: ["name", core kind, number]
unfoldable pub core_item : Rules → Data → Option (List ℕ × EntityIndex)
core_item r = of_triple (λ name kind i. (name, entity_at kind i)) r.name (word core_kinds) whole
