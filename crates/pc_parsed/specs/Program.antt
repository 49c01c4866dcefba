-- Which inputs can be numbered.
use Rattle.std.specs.Prelude.{ℕ, ◌+◌, Bool, List, ◌&&◌, nat_lt, sum_by, length}
use Rattle.pc_types.specs.declared.module_record.ModuleRecord.{ModuleRecord}
use Rattle.pc_types.specs.declared.parsed.TypeTable.{TypeTable}
use Rattle.pc_parsed.specs.declared.payload.Payload.{Payload}
use Rattle.pc_parsed.specs.declared.payload.Payload.TheVariants as payload

-- how many items a payload counts as; one without a list counts as one
abbrev pub item_count : Payload → ℕ
item_count (payload.ComponentTypeSection items) = length items
item_count (payload.ComponentImportSection items) = length items
item_count (payload.ComponentCanonicalSection items) = length items
item_count (payload.InstanceSection items) = length items
item_count (payload.ComponentInstanceSection items) = length items
item_count (payload.ComponentExportSection items) = length items
item_count (payload.ComponentAliasSection items) = length items
item_count _ = 1

-- how many entities of all kinds a core module imports and defines
abbrev pub record_entities : ModuleRecord → ℕ
record_entities r = length r.imports + length r.funcs + r.tables + length r.memories + r.globals + r.tags

-- how many entities the core module of a payload has, if it is one
abbrev pub entity_total : Payload → ℕ
entity_total (payload.ModuleSection r ty) = record_entities r
entity_total _ = 0

-- whether the entries of a table, the entities of the core modules of a list and its items can be numbered
abbrev pub is_numbered : TypeTable → List Payload → Bool
is_numbered t ps =
    nat_lt (length t.core_funcs) 4294967295 && nat_lt (length t.types) 4294967295
    && nat_lt (sum_by entity_total ps) 4294967295 && nat_lt (sum_by item_count ps) 4294967295
