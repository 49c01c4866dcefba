-- What is recorded of the imports of one module.
use Rattle.std.specs.Prelude.{◌≡◌, ℕ, ◌&&◌, not, List, [], ◌∷◌, length, map, Option, None, Some, option_map, slice_get, unwrap_or}
use Rattle.std.specs.Prelude.{if◌then◌else◌}
use Rattle.std.specs.FinSet as set
use Rattle.pc_entity.specs.SecondaryMap.{value_at}
use Rattle.pc_numbers.specs.declared.component_entity.StaticModuleIndex.{StaticModuleIndex}
use Rattle.pc_numbers.specs.declared.entity_index.EntityIndex.{EntityIndex}
use Rattle.pc_numbers.specs.declared.module_entity.DefinedMemoryIndex.{DefinedMemoryIndex}
use Rattle.pc_numbers.specs.declared.module_entity.DefinedTableIndex.{DefinedTableIndex}
use Rattle.pc_types.specs.declared.module_record.ModuleRecord.{ModuleRecord}
use Rattle.pc_types.specs.declared.parsed.CoreKind.{CoreKind}
use Rattle.pc_types.specs.declared.parsed.CoreKind.TheVariants as kind
use Rattle.pc_types.specs.Record.{entity_at, import_place, same_kind}
use Rattle.pc_trampoline.specs.declared.trampoline.Trampoline.TheVariants as trampoline
use Rattle.pc_trampoline.specs.View.{PlanTrampoline}
use Rattle.pc_info.specs.declared.known.KnownEntity.{KnownEntity}
use Rattle.pc_info.specs.declared.known.KnownFunc.{KnownFunc}
use Rattle.pc_info.specs.declared.known.KnownFunc.TheVariants as func
use Rattle.pc_info.specs.declared.known.KnownGlobal.{KnownGlobal}
use Rattle.pc_info.specs.declared.known.KnownGlobal.TheVariants as global
use Rattle.pc_info.specs.declared.module.ModuleTranslation.{ModuleTranslation}
use Rattle.pc_analysis_imports.specs.declared.ambiguous.Hidden.{Hidden}
use Rattle.pc_analysis_imports.specs.declared.imports.Imports.{Imports}
use Rattle.pc_dfg.specs.declared.instantiations.AbstractInstantiations.{AbstractInstantiations}
use Rattle.pc_dfg.specs.declared.instantiations.AbstractInstantiations.TheVariants as abstract
use Rattle.pc_analysis_imports.specs.declared.source.Instance.{Instance}
use Rattle.pc_analysis_imports.specs.declared.source.Source.{Source}
use Rattle.pc_analysis_imports.specs.declared.source.Source.TheVariants as source
use Rattle.pc_analysis_imports.specs.Followed.{source_of}
use Rattle.pc_analysis_imports.specs.Marked.{is_hidden_in}
use Rattle.pc_analysis_imports.specs.Marks.{Marks}

-- what a trampoline is known to be
abbrev pub func_of_trampoline : PlanTrampoline → Option KnownFunc
func_of_trampoline trampoline.EnterSyncCall = Some func.EnterSyncCall
func_of_trampoline trampoline.ExitSyncCall = Some func.ExitSyncCall
func_of_trampoline (trampoline.Trap code) = Some (func.Trap code)
func_of_trampoline t = None

-- the same, if it is held
abbrev pub func_of_held : Option PlanTrampoline → Option KnownFunc
func_of_held None = None
func_of_held (Some t) = func_of_trampoline t

-- what a function import is known to be, from what it is given
abbrev pub func_from : List PlanTrampoline → Source → Option KnownFunc
func_from ts (source.Defined m kind.Func n) = Some (func.DefinedWasmFunction m (record { 0 = n }))
func_from ts (source.Trampoline t) = func_of_held (slice_get ts t.0)
func_from ts (source.Intrinsic i) = Some (func.UnsafeIntrinsic i)
func_from ts s = None

-- the entity of a kind that an import is known to be: the module, and the number among what it defines of that kind
abbrev pub entity_from : Marks → CoreKind → Source → Option (StaticModuleIndex × ℕ)
entity_from a k (source.Defined m j n) =
    if same_kind k j && not (is_hidden_in (slice_get a.modules m.0) j n) then Some (m, n) else None
entity_from a k s = None

-- an entity of a module as a known global, memory or table
abbrev pub global_entity : StaticModuleIndex × ℕ → KnownGlobal
global_entity e = global.Defined (record { «module» = e.0; index = record { 0 = e.1 } })

-- the same as a known memory
abbrev pub memory_entity : StaticModuleIndex × ℕ → KnownEntity DefinedMemoryIndex
memory_entity e = record { «module» = e.0; index = record { 0 = e.1 } }

-- the same as a known table
abbrev pub table_entity : StaticModuleIndex × ℕ → KnownEntity DefinedTableIndex
table_entity e = record { «module» = e.0; index = record { 0 = e.1 } }

-- what a global import is known to be
abbrev pub global_from : Marks → Source → Option KnownGlobal
global_from a (source.Flags c) = if set.contains a.flags c.0 then None else Some (global.ComponentInstanceFlags c)
global_from a s =
    option_map global_entity (entity_from a kind.Global s)

-- what a memory import is known to be
abbrev pub memory_from : Marks → Source → Option (KnownEntity DefinedMemoryIndex)
memory_from a s = option_map memory_entity (entity_from a kind.Memory s)

-- what a table import is known to be
abbrev pub table_from : Marks → Source → Option (KnownEntity DefinedTableIndex)
table_from a s = option_map table_entity (entity_from a kind.Table s)

-- what the import at a place is given
abbrev pub source_at : (given : List Source) → (place : Option ℕ) → Source
source_at given None = source.Unknown
source_at given (Some place) = unwrap_or (slice_get given place) source.Unknown

-- what an import is given
abbrev pub import_source : ModuleRecord → (given : List Source) → EntityIndex → Source
import_source r given e = source_at given (import_place r e)

-- what a module is always given
abbrev pub always_given : List ModuleRecord → List Instance → Option AbstractInstantiations → List Source
always_given records instances (Some (abstract.One args)) = map (source_of records instances) args.now
always_given records instances w = []

-- this is recorded of the imports of a module with this record that is always given this
pub record AreImports (ts : List PlanTrampoline) (a : Marks) (r : ModuleRecord) (given : List Source) (i : Imports)
    : Type 0 where
  pub functions : (n : ℕ) → value_at i.functions n ≡ func_from ts (import_source r given (entity_at kind.Func n))
  pub globals : (n : ℕ) → value_at i.globals n ≡ global_from a (import_source r given (entity_at kind.Global n))
  pub memories : (n : ℕ) → value_at i.memories n ≡ memory_from a (import_source r given (entity_at kind.Memory n))
  pub tables : (n : ℕ) → value_at i.tables n ≡ table_from a (import_source r given (entity_at kind.Table n))

-- a module of which this is recorded
abbrev pub with_imports : ModuleTranslation → Imports → ModuleTranslation
with_imports m i = record m {
  known_imported_functions = i.functions;
  known_imported_globals = i.globals;
  known_imported_memories = i.memories;
  known_imported_tables = i.tables;
}

-- a module of which all is known to importers but this
abbrev pub with_known_but : ModuleTranslation → Hidden → ModuleTranslation
with_known_but m h = record m {
  globals_known_to_importers = record { defined = m.module.globals; unknown = h.globals };
  memories_known_to_importers = record { defined = length m.module.memories; unknown = h.memories };
  tables_known_to_importers = record { defined = m.module.tables; unknown = h.tables };
}

-- each item with the one at its place in another list, where that has one
abbrev pub each_with : {A B : Type 0} → (A → B → A) → List A → List B → List A
each_with f [] bs = []
each_with f (a ∷ as_) [] = a ∷ as_
each_with f (a ∷ as_) (b ∷ bs) = f a b ∷ each_with f as_ bs
