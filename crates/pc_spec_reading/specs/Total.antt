-- The total that bounds a translation: what the input has, then what each component instance that begins weighs, and
-- each export node that is reached.
use Rattle.std.specs.Prelude.{ℕ, ◌+◌, ◌*◌, max, List, [], ◌∷◌, ◌++◌, length, sum_by, Option, Some, slice_get, unwrap_or}
use Rattle.pc_types.specs.declared.module_record.ModuleRecord.{ModuleRecord}
use Rattle.pc_types.specs.declared.parsed.DeclType.{DeclType}
use Rattle.pc_types.specs.declared.parsed.DeclType.TheVariants as entry
use Rattle.pc_types.specs.declared.parsed.Entity.{Entity}
use Rattle.pc_types.specs.declared.parsed.Entity.TheVariants as entity
use Rattle.pc_types.specs.declared.parsed.TypeTable.{TypeTable}
use Rattle.pc_types.specs.declared.parsed.ValType.{ValType}
use Rattle.pc_types.specs.declared.parsed.ValType.TheVariants as val
use Rattle.pc_parsed.specs.declared.payload.ItemKind.{ItemKind}
use Rattle.pc_parsed.specs.declared.payload.ItemKind.TheVariants as item
use Rattle.pc_parsed.specs.declared.payload.Payload.{Payload}
use Rattle.pc_parsed.specs.Program.{item_count, record_entities}
use Rattle.pc_spec_reading.specs.Item
use Rattle.pc_spec_reading.specs.Section.{modules_of}

-- the total before the first item: the entries of the table's two lists, the items of the list, read or not, the
-- entities of its module records, and the types that were held before
unfoldable pub counted : TypeTable → (types_held : ℕ) → List Payload → ℕ
counted t types_held ps =
    length t.core_funcs + length t.types + sum_by item_count ps + sum_by record_entities (modules_of ps) + types_held

-- how many names stand in the exports of an entity, through instances; with those of the entries before
abbrev pub entity_names : (earlier : List ℕ) → Entity → ℕ
entity_names earlier (entity.Instance n) = unwrap_or (slice_get earlier n) 0
entity_names earlier _ = 0

-- an export, with the names in its tree
abbrev pub export_names : (earlier : List ℕ) → List ℕ × Entity → ℕ
export_names earlier e = 1 + entity_names earlier e.1

-- the names in the tree of an entry, with those of the entries before
abbrev pub entry_names : (earlier : List ℕ) → DeclType → ℕ
entry_names earlier (entry.Instance exports) = sum_by (export_names earlier) exports
entry_names earlier _ = 0

-- the names of each entry, where these stand before them
abbrev pub names_from : (earlier : List ℕ) → List DeclType → List ℕ
names_from earlier [] = earlier
names_from earlier (e ∷ es) = names_from (earlier ++ entry_names earlier e ∷ []) es

-- the imports of a module type
abbrev pub entry_imports : DeclType → ℕ
entry_imports (entry.Module imports exports) = length imports
entry_imports _ = 0

-- the greatest of the numbers of a list
abbrev pub greatest : {A : Type 0} → (A → ℕ) → List A → ℕ
greatest f [] = 0
greatest f (x ∷ xs) = max (f x) (greatest f xs)

-- the imports of a module record
abbrev pub record_imports : ModuleRecord → ℕ
record_imports r = length r.imports

-- What an item weighs: 8, and 1 for each option, argument and export that it has; for each type number or entity that
-- it names, three and three times the entries of the table, which are its types alone; and for four kinds more. An
-- argument or export whose index is that of a type names a type number. An export item is an export and has none.
module _ (t : TypeTable) (ms : List ModuleRecord) where
  -- what a type number weighs
  abbrev pub type_weight : ℕ
  type_weight = 3 + 3 * length t.types

  -- how many imports a module record or a module type has at the most
  abbrev pub most_imports : ℕ
  most_imports = max (greatest record_imports ms) (greatest entry_imports t.types)

  -- how many names stand in the exports of an entity, through instances
  abbrev pub names_in : Entity → ℕ
  names_in e = entity_names (names_from [] t.types) e

  -- an index is a type number where its kind is a type
  abbrev pub index_weight : ItemKind → ℕ
  index_weight item.Type_ = type_weight
  index_weight _ = 0

  -- what an item has for an export
  abbrev pub export_weight : Item.ExportOf → ℕ
  export_weight e = 1 + index_weight e.kind

  -- what it has for an argument
  abbrev pub argument_weight : Item.ArgumentOf → ℕ
  argument_weight a = 1 + index_weight a.kind

  -- the type number in a value type, if it is one
  abbrev pub value_weight : Option ValType → ℕ
  value_weight (Some (val.Type_ n)) = type_weight
  value_weight _ = 0

  -- what an operand weighs
  abbrev pub operand_weight : Item.Operand → ℕ
  operand_weight (Item.a_resource n) = type_weight
  operand_weight (Item.a_stream n) = type_weight
  operand_weight (Item.a_future n) = type_weight
  operand_weight (Item.a_flag is_async) = 0
  operand_weight (Item.the_options opts) = length opts

  -- what an item weighs besides 8
  abbrev pub added_weight : Item.Item → ℕ
  added_weight (Item.import_item name e) = type_weight + names_in e
  added_weight (Item.resource_item id representation destructor) = type_weight
  added_weight (Item.lift_item func ty signature opts) = type_weight + length opts
  added_weight (Item.lower_item func ty signature opts) = type_weight + length opts + 32
  added_weight (Item.builtin_item k signature operands) = sum_by operand_weight operands
  added_weight (Item.task_return_item signature result opts) = value_weight result + length opts
  added_weight (Item.error_context_item k signature opts) = length (unwrap_or opts [])
  added_weight (Item.module_item number ty) = type_weight
  added_weight (Item.instantiate_module_item n args) = length args + most_imports
  added_weight (Item.core_exports_item items) = length items
  added_weight (Item.instantiate_component_item n args ty) =
      sum_by argument_weight args + type_weight + names_in (entity.Instance ty)
  added_weight (Item.component_exports_item es ty) = sum_by export_weight es + type_weight
  added_weight (Item.export_item e) = index_weight e.kind
  added_weight _ = 0

  -- what an item weighs
  unfoldable pub item_weight : Item.Item → ℕ
  item_weight i = 8 + added_weight i

  -- the weight of a body: that of its items, read or not; a nested body weighs as one item
  unfoldable pub body_weight : Item.Items → ℕ
  body_weight Item.no_items = 0
  body_weight (Item.and_item i is) = item_weight i + body_weight is

  -- what the imports of the root weigh once more, since they are prepared
  unfoldable pub prepared_weight : Item.Items → ℕ
  prepared_weight Item.no_items = 0
  prepared_weight (Item.and_item (Item.import_item name e) is) =
      item_weight (Item.import_item name e) + prepared_weight is
  prepared_weight (Item.and_item i is) = prepared_weight is
