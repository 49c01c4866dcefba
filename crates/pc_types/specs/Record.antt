-- What a module record says of the entities of its core module.
use Rattle.std.specs.Prelude.{ℕ, ◌+◌, Bool, true, false, List, [], ◌∷◌, ◌++◌, length, take, count_by, Option, Some}
use Rattle.std.specs.Prelude.{None, ◌&&◌, nat_lt, nat_le, if◌then◌else◌, slice_get, option_map}
use Rattle.std.specs.List.{list_all, filter_map}
use Rattle.pc_numbers.specs.declared.entity_index.EntityIndex.{EntityIndex}
use Rattle.pc_numbers.specs.declared.entity_index.EntityIndex.TheVariants as index
use Rattle.pc_types.specs.declared.parsed.CoreKind.{CoreKind}
use Rattle.pc_types.specs.declared.parsed.CoreKind.TheVariants as kind
use Rattle.pc_types.specs.declared.parsed.CoreEntity.{CoreEntity}
use Rattle.pc_types.specs.declared.parsed.CoreEntity.TheVariants as entity
use Rattle.pc_types.specs.declared.parsed.TypeTable.{TypeTable}
use Rattle.pc_types.specs.declared.module_record.ModuleRecord.{ModuleRecord}
use Rattle.pc_entity.specs.Lists.{value_of, names_of}
use Rattle.pc_types.specs.Names.{distinct_names}

-- whether two kinds are one
abbrev pub same_kind : CoreKind → CoreKind → Bool
same_kind kind.Func kind.Func = true
same_kind kind.Table kind.Table = true
same_kind kind.Memory kind.Memory = true
same_kind kind.Global kind.Global = true
same_kind kind.Tag kind.Tag = true
same_kind a b = false

-- the kind of what is imported or exported
abbrev pub kind_of : CoreEntity → CoreKind
kind_of (entity.Func s) = kind.Func
kind_of entity.Table = kind.Table
kind_of (entity.Memory wide) = kind.Memory
kind_of entity.Global = kind.Global
kind_of entity.Tag = kind.Tag

-- the signature number of a function entity
abbrev pub signature_in : CoreEntity → Option ℕ
signature_in (entity.Func s) = Some s
signature_in entity.Table = None
signature_in (entity.Memory wide) = None
signature_in entity.Global = None
signature_in entity.Tag = None

-- whether a memory entity is 64-bit
abbrev pub width_in : CoreEntity → Option Bool
width_in (entity.Func s) = None
width_in entity.Table = None
width_in (entity.Memory wide) = Some wide
width_in entity.Global = None
width_in entity.Tag = None

-- the kind of an entity
abbrev pub index_kind : EntityIndex → CoreKind
index_kind (index.Function i) = kind.Func
index_kind (index.Table i) = kind.Table
index_kind (index.Memory i) = kind.Memory
index_kind (index.Global i) = kind.Global
index_kind (index.Tag i) = kind.Tag

-- the number of an entity among those of its kind
abbrev pub index_number : EntityIndex → ℕ
index_number (index.Function i) = i.0
index_number (index.Table i) = i.0
index_number (index.Memory i) = i.0
index_number (index.Global i) = i.0
index_number (index.Tag i) = i.0

-- whether an import is of a kind
abbrev pub imports_kind : CoreKind → List ℕ × List ℕ × CoreEntity → Bool
imports_kind k i = same_kind k (kind_of i.2)

-- how many entities of a kind the module imports
abbrev pub imported : ModuleRecord → CoreKind → ℕ
imported r k = count_by (imports_kind k) r.imports

-- the entity of a kind and a number
abbrev pub entity_at : CoreKind → ℕ → EntityIndex
entity_at kind.Func n = index.Function (record { 0 = n })
entity_at kind.Table n = index.Table (record { 0 = n })
entity_at kind.Memory n = index.Memory (record { 0 = n })
entity_at kind.Global n = index.Global (record { 0 = n })
entity_at kind.Tag n = index.Tag (record { 0 = n })

-- the places of the imports of a kind, in order, where the first import stands at `first`
abbrev pub places_from : CoreKind → (first : ℕ) → List (List ℕ × List ℕ × CoreEntity) → List ℕ
places_from k first [] = []
places_from k first (i ∷ is) =
    if imports_kind k i then first ∷ places_from k (first + 1) is else places_from k (first + 1) is

-- the place of the import that is this entity, if it is imported: the one with as many others of its kind before it
abbrev pub import_place : ModuleRecord → EntityIndex → Option ℕ
import_place r e = slice_get (places_from (index_kind e) 0 r.imports) (index_number e)

-- the entity that the import at a place is
abbrev pub imported_entity : ModuleRecord → ℕ → Option EntityIndex
imported_entity r place =
    option_map (λ (i : List ℕ × List ℕ × CoreEntity).
    entity_at (kind_of i.2) (count_by (imports_kind (kind_of i.2)) (take place r.imports)))
    (slice_get r.imports place)

-- the signature number of an imported function
abbrev pub import_signature : List ℕ × List ℕ × CoreEntity → Option ℕ
import_signature i = signature_in i.2

-- whether an imported memory is 64-bit
abbrev pub import_width : List ℕ × List ℕ × CoreEntity → Option Bool
import_width i = width_in i.2

-- the signature numbers of the functions, the imported ones first
abbrev pub func_signatures : ModuleRecord → List ℕ
func_signatures r = filter_map import_signature r.imports ++ r.funcs

-- whether each memory is 64-bit, the imported ones first
abbrev pub memory_widths : ModuleRecord → List Bool
memory_widths r = filter_map import_width r.imports ++ r.memories

-- how many entities of a kind the module defines
abbrev pub defined : ModuleRecord → CoreKind → ℕ
defined r kind.Func = length r.funcs
defined r kind.Table = r.tables
defined r kind.Memory = length r.memories
defined r kind.Global = r.globals
defined r kind.Tag = r.tags

-- how many entities of a kind the module has; the imported ones come first
abbrev pub entity_count : ModuleRecord → CoreKind → ℕ
entity_count r k = imported r k + defined r k

-- whether the module has this entity
abbrev pub has_entity : ModuleRecord → EntityIndex → Bool
has_entity r e = nat_lt (index_number e) (entity_count r (index_kind e))

-- the entity that the module exports under a name
abbrev pub export_of : ModuleRecord → List ℕ → Option EntityIndex
export_of r name = value_of name r.exports

-- a core signature number that a table holds
abbrev pub has_signature : TypeTable → ℕ → Bool
has_signature t s = nat_lt s (length t.core_funcs)

-- a function entity names a signature that the table holds
abbrev pub is_typed : TypeTable → CoreEntity → Bool
is_typed t (entity.Func s) = has_signature t s
is_typed t entity.Table = true
is_typed t (entity.Memory wide) = true
is_typed t entity.Global = true
is_typed t entity.Tag = true

-- a module has at most a million entities of a kind
abbrev pub is_within : ModuleRecord → CoreKind → Bool
is_within r k = nat_le (entity_count r k) 1000000

-- a record that can be translated: its signatures are held, its entities are not too many, each export is
-- an entity that it has, and no name is exported twice
abbrev pub is_sound : TypeTable → ModuleRecord → Bool
is_sound t r =
    list_all (λ (i : List ℕ × List ℕ × CoreEntity). is_typed t i.2) r.imports
    && list_all (has_signature t) r.funcs
    && is_within r kind.Func && is_within r kind.Table && is_within r kind.Memory
    && is_within r kind.Global && is_within r kind.Tag
    && list_all (λ (e : List ℕ × EntityIndex). has_entity r e.1) r.exports
    && distinct_names (names_of r.exports)
