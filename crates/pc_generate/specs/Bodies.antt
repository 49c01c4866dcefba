-- The payloads of a generated input, one item each, and the two components that are made of them.
use Rattle.std.specs.Prelude.{ℕ, List, [], ◌∷◌, None, codes}
use Rattle.pc_numbers.specs.declared.entity_index.EntityIndex.TheVariants as index
use Rattle.pc_types.specs.declared.module_record.ModuleRecord.{ModuleRecord}
use Rattle.pc_types.specs.declared.parsed.CoreEntity.{CoreEntity}
use Rattle.pc_types.specs.declared.parsed.CoreEntity.TheVariants as core_entity
use Rattle.pc_types.specs.declared.parsed.CoreKind.TheVariants as core
use Rattle.pc_types.specs.declared.parsed.Entity.TheVariants as entity
use Rattle.pc_parsed.specs.declared.canon.CanonItem.TheVariants as canon
use Rattle.pc_parsed.specs.declared.payload.AliasItem.TheVariants as alias
use Rattle.pc_parsed.specs.declared.payload.ComponentInstanceItem.TheVariants as component_instance
use Rattle.pc_parsed.specs.declared.payload.Encoding.TheVariants as encoding
use Rattle.pc_parsed.specs.declared.payload.ExternName.{ExternName}
use Rattle.pc_parsed.specs.declared.payload.InstanceItem.TheVariants as instance
use Rattle.pc_parsed.specs.declared.payload.ItemKind.TheVariants as item
use Rattle.pc_parsed.specs.declared.payload.Payload.{Payload}
use Rattle.pc_parsed.specs.declared.payload.Payload.TheVariants as payload
use Rattle.pc_generate.specs.Table.{f}

-- the name of each import and export
abbrev pub extern_name : ExternName
extern_name = record { name = f; implements = None; external_id = None }

-- a component begins
abbrev pub version : Payload
version = payload.Version encoding.Component

-- a core module with these imports: it defines one function, and exports the function of this number
abbrev pub module_record : (imports : List (List ℕ × List ℕ × CoreEntity)) → (func : ℕ) → ModuleRecord
module_record imports func = record {
  imports = imports;
  funcs = 0 ∷ [];
  tables = 0;
  memories = [];
  globals = 0;
  tags = 0;
  exports = (f, index.Function (record { 0 = func })) ∷ [];
}

-- such a module, of the type that the table has for modules
abbrev pub core_module : (imports : List (List ℕ × List ℕ × CoreEntity)) → (func : ℕ) → Payload
core_module imports func = payload.ModuleSection (module_record imports func) 1

-- an instance of the first core module, with these arguments
abbrev pub core_instance : (args : List (List ℕ × ℕ)) → Payload
core_instance args = payload.InstanceSection (instance.Instantiate 0 args ∷ [])

-- a core instance that has the first core function
abbrev pub core_items : Payload
core_items = payload.InstanceSection (instance.FromExports ((f, index.Function (record { 0 = 0 })) ∷ []) ∷ [])

-- the function of a core instance
abbrev pub core_aliasing : (instance : ℕ) → Payload
core_aliasing i = payload.ComponentAliasSection (alias.CoreInstanceExport core.Func i f ∷ [])

-- a core function becomes a function
abbrev pub lifting : (func : ℕ) → Payload
lifting func = payload.ComponentCanonicalSection (canon.Lift func 0 0 [] ∷ [])

-- the first function becomes a core function
abbrev pub lowering : Payload
lowering = payload.ComponentCanonicalSection (canon.Lower 0 0 0 [] ∷ [])

-- a function is imported
abbrev pub importing : Payload
importing = payload.ComponentImportSection (record { name = extern_name; ty = entity.Func 0 } ∷ [])

-- a function is exported
abbrev pub exporting : (func : ℕ) → Payload
exporting func =
    payload.ComponentExportSection (record { name = extern_name; kind = item.Func; index = func } ∷ [])

-- the function of a component instance
abbrev pub aliasing : (instance : ℕ) → Payload
aliasing i = payload.ComponentAliasSection (alias.InstanceExport item.Func i f ∷ [])

-- an instance of the first component, which takes nothing
abbrev pub first_instance : Payload
first_instance = payload.ComponentInstanceSection (component_instance.Instantiate 0 [] 2 ∷ [])

-- an instance of the second component, which takes a function
abbrev pub instance_with : (func : ℕ) → Payload
instance_with func =
    payload.ComponentInstanceSection (component_instance.Instantiate 1 ((f, item.Func, func) ∷ []) 2 ∷ [])

-- what each component ends with: it takes the function of a core instance, lifts the core function of the same number,
-- and exports the function of that number
abbrev pub giving : (number : ℕ) → List Payload
giving n = core_aliasing n ∷ lifting n ∷ exporting n ∷ payload.End ∷ []

-- the first component, from its version on: a core module, its instance, and its function
abbrev pub first : List Payload
first = version ∷ core_module [] 0 ∷ core_instance [] ∷ giving 0

-- what the core module of the second component imports
abbrev pub taken : List ℕ × List ℕ × CoreEntity
taken = (codes "e", f, core_entity.Func 0)

-- the second component, from its version on: it imports a function, lowers it for its core module, and gives the
-- function of that one
abbrev pub second : List Payload
second =
    version ∷ importing ∷ lowering ∷ core_module (taken ∷ []) 1 ∷ core_items ∷ core_instance ((codes "e", 0) ∷ [])
    ∷ giving 1
