-- The type table of an input.
use Rattle.std.specs.Prelude.{ℕ, List, [], ◌∷◌, Option, Some, None, codes, is_some, if◌then◌else◌}
use Rattle.std.specs.Str.{bytes_eq}
use Rattle.serde_json.specs.Data.{Data}
use Rattle.serde_json.specs.Find.{as_number, as_bool}
use Rattle.pc_entity.specs.Lists.{value_of}
use Rattle.pc_types.specs.declared.parsed.WasmValType.{WasmValType}
use Rattle.pc_types.specs.declared.parsed.CoreFuncSig.{CoreFuncSig}
use Rattle.pc_types.specs.declared.parsed.ValType.{ValType}
use Rattle.pc_types.specs.declared.parsed.ValType.TheVariants as val
use Rattle.pc_types.specs.declared.parsed.Entity.{Entity}
use Rattle.pc_types.specs.declared.parsed.Entity.TheVariants as entity_
use Rattle.pc_types.specs.declared.parsed.CoreEntity.{CoreEntity}
use Rattle.pc_types.specs.declared.parsed.CoreEntity.TheVariants as core
use Rattle.pc_types.specs.declared.parsed.DeclType.{DeclType}
use Rattle.pc_types.specs.declared.parsed.DeclType.TheVariants as entry
use Rattle.pc_types.specs.declared.parsed.TypeTable.{TypeTable}
use Rattle.pc_input_values.specs.Tree.{◌>>=◌, whole, word, or_null, making, each, pair, triple, of_pair, headed, numbered}
use Rattle.pc_input_values.specs.Tree.{exactly, field, word_or_key}
use Rattle.pc_input_values.specs.Rules.{Rules}
use Rattle.pc_input_values.specs.Words.{core_types, prim_types}

-- a signature of parameters and results
abbrev pub signature : List WasmValType → List WasmValType → CoreFuncSig
signature params results = record { params = params; results = results }

-- [[params],[results]]
unfoldable pub core_sig : Data → Option CoreFuncSig
core_sig = of_pair signature (each (word core_types)) (each (word core_types))

-- a value type: the number of a table entry, or a primitive
unfoldable pub val_type : Data → Option ValType
val_type d = if is_some (as_number d) then making val.Type_ whole d else making val.Prim (word prim_types) d

-- the kinds of an entity that has a number
unfoldable pub entity_kinds : List (List ℕ × (ℕ → Entity))
entity_kinds =
    (codes "func", entity_.Func)
    ∷ (codes "instance", entity_.Instance)
    ∷ (codes "component", entity_.Component)
    ∷ (codes "module", entity_.Module)
    ∷ (codes "type", entity_.Type_)
    ∷ []

-- an entity of what follows the word of its kind
abbrev pub entity_from : List ℕ → List Data → Option Entity
entity_from w [] = if bytes_eq w (codes "value") then Some entity_.Value else None
entity_from w (n ∷ []) = numbered entity_kinds w n
entity_from w _ = None

-- ["func",n] and its kin, or ["value"]
unfoldable pub entity : Data → Option Entity
entity d = headed d >>= λ t. entity_from t.0 t.1

-- core entities that their kind alone says
unfoldable pub bare_core_entities : List (List ℕ × CoreEntity)
bare_core_entities = (codes "table", core.Table) ∷ (codes "global", core.Global) ∷ (codes "tag", core.Tag) ∷ []

-- a core entity of the word of its kind and one part
abbrev pub core_entity_of : List ℕ → Data → Option CoreEntity
core_entity_of w part =
    if bytes_eq w (codes "func") then making core.Func whole part
    else (if bytes_eq w (codes "memory") then making core.Memory as_bool part else None)

-- a core entity of what follows the word of its kind
abbrev pub core_entity_from : List ℕ → List Data → Option CoreEntity
core_entity_from w [] = value_of w bare_core_entities
core_entity_from w (part ∷ []) = core_entity_of w part
core_entity_from w _ = None

-- ["table"], ["global"], ["tag"], ["func",s], or ["memory",b], b true for 64-bit
unfoldable pub core_entity : Data → Option CoreEntity
core_entity d = headed d >>= λ t. core_entity_from t.0 t.1

-- what the members of a function type say
unfoldable pub func_members : Rules → Data → Option DeclType
func_members r d = do
  params ← field (codes "params") (each (pair r.name val_type)) d
  outcome ← field (codes "result") (or_null val_type) d
  is_async ← field (codes "async") as_bool d
  Some (entry.Func params outcome is_async)

-- {"params":[["name",V],...],"result":V?,"async":bool}
unfoldable pub func_type : Rules → Data → Option DeclType
func_type r d = do
  _ ← exactly 3 d
  func_members r d

-- ["name",E]
abbrev pub named_entity : Rules → Data → Option (List ℕ × Entity)
named_entity r = pair r.name entity

-- ["module","name",C]
abbrev pub core_import : Rules → Data → Option (List ℕ × List ℕ × CoreEntity)
core_import r = triple r.name r.name core_entity

-- ["name",C]
abbrev pub core_export : Rules → Data → Option (List ℕ × CoreEntity)
core_export r = pair r.name core_entity

-- entries over resources, streams and futures, by key
abbrev pub handle_keys : List (List ℕ × (Data → Option DeclType))
handle_keys =
    (codes "own", making entry.Own whole)
    ∷ (codes "borrow", making entry.Borrow whole)
    ∷ (codes "stream", making entry.Stream (or_null val_type))
    ∷ (codes "future", making entry.Future (or_null val_type))
    ∷ []

-- entries over value types, resources, streams and futures, by key
unfoldable pub value_keys : List (List ℕ × (Data → Option DeclType))
value_keys =
    (codes "val", making entry.Val val_type)
    ∷ (codes "list", making entry.List val_type)
    ∷ (codes "option", making entry.Option val_type)
    ∷ (codes "tuple", making entry.Tuple (each val_type))
    ∷ (codes "result", of_pair entry.Result (or_null val_type) (or_null val_type))
    ∷ handle_keys

-- entries whose parts have names, and those over value types, by key
abbrev pub named_keys : Rules → List (List ℕ × (Data → Option DeclType))
named_keys r =
    (codes "record", making entry.Record (each (pair r.name val_type)))
    ∷ (codes "variant", making entry.Variant (each (pair r.name (or_null val_type))))
    ∷ (codes "flags", making entry.Flags (each r.name))
    ∷ (codes "enum", making entry.Enum (each r.name))
    ∷ value_keys

-- all entries that are objects, by key
unfoldable pub entry_keys : Rules → List (List ℕ × (Data → Option DeclType))
entry_keys r =
    (codes "func", func_type r)
    ∷ (codes "instance", making entry.Instance (each (named_entity r)))
    ∷ (codes "component", of_pair entry.Component (each (named_entity r)) (each (named_entity r)))
    ∷ (codes "module", of_pair entry.Module (each (core_import r)) (each (core_export r)))
    ∷ named_keys r

-- an entry of the table: "resource", or an object of one member
unfoldable pub decl_type : Rules → Data → Option DeclType
decl_type r = word_or_key ((codes "resource", entry.Resource) ∷ []) (entry_keys r)

-- {"core":[..],"types":[..]}
unfoldable pub type_table : Rules → Data → Option TypeTable
type_table r d = do
  _ ← exactly 2 d
  core_funcs ← field (codes "core") (each core_sig) d
  types ← field (codes "types") (each (decl_type r)) d
  Some (record { core_funcs = core_funcs; types = types })
