-- Payloads, and the entries of their sections.
use Rattle.std.specs.Prelude.{ℕ, List, [], ◌∷◌, Option, codes}
use Rattle.serde_json.specs.Data.{Data}
use Rattle.pc_parsed.specs.declared.payload.Encoding.TheVariants as encoding
use Rattle.pc_parsed.specs.declared.payload.ExternName.{ExternName}
use Rattle.pc_parsed.specs.declared.payload.ItemKind.{ItemKind}
use Rattle.pc_parsed.specs.declared.payload.TypeItem.{TypeItem}
use Rattle.pc_parsed.specs.declared.payload.TypeItem.TheVariants as type_
use Rattle.pc_parsed.specs.declared.payload.ImportItem.{ImportItem}
use Rattle.pc_parsed.specs.declared.payload.InstanceItem.{InstanceItem}
use Rattle.pc_parsed.specs.declared.payload.InstanceItem.TheVariants as instance
use Rattle.pc_parsed.specs.declared.payload.ComponentInstanceItem.{ComponentInstanceItem}
use Rattle.pc_parsed.specs.declared.payload.ComponentInstanceItem.TheVariants as component_instance
use Rattle.pc_parsed.specs.declared.payload.ExportEntry.{ExportEntry}
use Rattle.pc_parsed.specs.declared.payload.AliasItem.{AliasItem}
use Rattle.pc_parsed.specs.declared.payload.AliasItem.TheVariants as alias
use Rattle.pc_parsed.specs.declared.payload.Payload.{Payload}
use Rattle.pc_parsed.specs.declared.payload.Payload.TheVariants as payload
use Rattle.pc_input_values.specs.Tree.{whole, word, or_null, making, each, pair, triple, of_pair, of_triple, by_key}
use Rattle.pc_input_values.specs.Tree.{word_or_key}
use Rattle.pc_input_values.specs.Rules.{Rules, section}
use Rattle.pc_input_values.specs.Words.{core_types, core_kinds, item_kinds, outer_kinds}
use Rattle.pc_input_values.specs.Names.{extern_name, core_item}
use Rattle.pc_input_values.specs.Types.{entity}
use Rattle.pc_input.specs.Canon.{canon_item}
use Rattle.pc_input.specs.Module.{core_module}

-- [id,rep,dtor], dtor a number or null
abbrev pub resource_item : Data → Option TypeItem
resource_item = of_triple type_.Resource whole (word core_types) (or_null whole)

-- "other", or {"resource":[id,rep,dtor]}
unfoldable pub type_item : Data → Option TypeItem
type_item = word_or_key ((codes "other", type_.Other) ∷ []) ((codes "resource", resource_item) ∷ [])

-- [NAME,E]
unfoldable pub import_item : Rules → Data → Option ImportItem
import_item r = of_pair (λ name ty. record { name = name; ty = ty }) (extern_name r) entity

-- [NAME,item kind,i], as three values
abbrev pub item_by_name : Rules → Data → Option (ExternName × ItemKind × ℕ)
item_by_name r = triple (extern_name r) (word item_kinds) whole

-- [NAME,item kind,i], as an entry
unfoldable pub export_entry : Rules → Data → Option ExportEntry
export_entry r =
    of_triple (λ name kind i. record { name = name; kind = kind; index = i }) (extern_name r) (word item_kinds) whole

-- core instances, by key
abbrev pub instance_keys : Rules → List (List ℕ × (Data → Option InstanceItem))
instance_keys r =
    (codes "instantiate", of_pair instance.Instantiate whole (each (pair r.name whole)))
    ∷ (codes "exports", making instance.FromExports (each (core_item r)))
    ∷ []

-- {"instantiate":[module,[["name",i],...]]} or {"exports":[["name",core kind,i],...]}
unfoldable pub instance_item : Rules → Data → Option InstanceItem
instance_item r = by_key (instance_keys r)

-- [component,[["name",item kind,i],...],ty]
abbrev pub component_instantiation : Rules → Data → Option ComponentInstanceItem
component_instantiation r =
    of_triple component_instance.Instantiate whole (each (triple r.name (word item_kinds) whole)) whole

-- [[[NAME,item kind,i],...],ty]
abbrev pub component_exports : Rules → Data → Option ComponentInstanceItem
component_exports r = of_pair component_instance.FromExports (each (item_by_name r)) whole

-- component instances, by key
abbrev pub component_instance_keys : Rules → List (List ℕ × (Data → Option ComponentInstanceItem))
component_instance_keys r =
    (codes "instantiate", component_instantiation r) ∷ (codes "exports", component_exports r) ∷ []

-- {"instantiate":[component,[["name",item kind,i],...],ty]} or {"exports":[[[NAME,item kind,i],...],ty]}
unfoldable pub component_instance_item : Rules → Data → Option ComponentInstanceItem
component_instance_item r = by_key (component_instance_keys r)

-- aliases, by key
abbrev pub alias_keys : Rules → List (List ℕ × (Data → Option AliasItem))
alias_keys r =
    (codes "export", of_triple alias.InstanceExport (word item_kinds) whole r.name)
    ∷ (codes "core-export", of_triple alias.CoreInstanceExport (word core_kinds) whole r.name)
    ∷ (codes "outer", of_triple alias.Outer (word outer_kinds) whole whole)
    ∷ []

-- {"export":[item kind,i,"name"]}, {"core-export":[core kind,i,"name"]} or {"outer":[k,count,i]}
unfoldable pub alias_item : Rules → Data → Option AliasItem
alias_item r = by_key (alias_keys r)

-- payloads that are words
unfoldable pub payload_words : List (List ℕ × Payload)
payload_words =
    (codes "version", payload.Version encoding.Component)
    ∷ (codes "version-module", payload.Version encoding.Module)
    ∷ (codes "core-types", payload.CoreTypeSection)
    ∷ (codes "custom", payload.CustomSection)
    ∷ (codes "start", payload.ComponentStartSection)
    ∷ (codes "component", payload.ComponentSection)
    ∷ (codes "end", payload.End)
    ∷ []

-- payloads of core modules, instances and aliases, by key
abbrev pub instance_sections : Rules → List (List ℕ × (Data → Option Payload))
instance_sections r =
    (codes "module", core_module r)
    ∷ (codes "instances", making payload.InstanceSection (section r (instance_item r)))
    ∷ (codes "component-instances", making payload.ComponentInstanceSection (section r (component_instance_item r)))
    ∷ (codes "aliases", making payload.ComponentAliasSection (section r (alias_item r)))
    ∷ []

-- payloads that are objects, by key
unfoldable pub payload_keys : Rules → List (List ℕ × (Data → Option Payload))
payload_keys r =
    (codes "types", making payload.ComponentTypeSection (section r type_item))
    ∷ (codes "imports", making payload.ComponentImportSection (section r (import_item r)))
    ∷ (codes "canon", making payload.ComponentCanonicalSection (section r canon_item))
    ∷ (codes "exports", making payload.ComponentExportSection (section r (export_entry r)))
    ∷ instance_sections r

-- a payload: a word, or an object of one member
unfoldable pub payload_of : Rules → Data → Option Payload
payload_of r = word_or_key payload_words (payload_keys r)
