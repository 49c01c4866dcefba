-- What is recorded of the core modules of a plan, as look-ups in the words of wiring; and modules of which nothing is.
use Rattle.std.specs.Prelude.{ℕ, Bool, true, false, List, Option, None, Some, map, option_map, slice_get}
use Rattle.pc_entity.specs.PackedOption.{as_option}
use Rattle.pc_entity.specs.SecondaryMap.{value_at}
use Rattle.pc_numbers.specs.declared.module_entity.FuncIndex.{FuncIndex}
use Rattle.pc_types.specs.declared.module_record.ModuleRecord.{ModuleRecord}
use Rattle.pc_types.specs.declared.parsed.CoreKind.{CoreKind}
use Rattle.pc_types.specs.declared.parsed.CoreKind.TheVariants as kind
use Rattle.pc_types.specs.IntrinsicType.{intrinsic_place}
use Rattle.pc_info.specs.declared.known.KnownEntity.{KnownEntity}
use Rattle.pc_info.specs.declared.known.KnownFunc.{KnownFunc}
use Rattle.pc_info.specs.declared.known.KnownFunc.TheVariants as func
use Rattle.pc_info.specs.declared.known.KnownGlobal.{KnownGlobal}
use Rattle.pc_info.specs.declared.known.KnownGlobal.TheVariants as global
use Rattle.pc_info.specs.declared.known.KnownToImporters.{KnownToImporters}
use Rattle.pc_info.specs.declared.module.ModuleTranslation.{ModuleTranslation}
use Rattle.pc_info.specs.Known.{is_known_to_importers}
use Rattle.pc_info.specs.Modules.{without_facts}
use Rattle.pc_spec_wiring.specs.Facts.{ModuleFacts}
use Rattle.pc_spec_wiring.specs.Known.{Known, KnownFunction, a_defined, the_flags, a_function, an_intrinsic}
use Rattle.pc_spec_wiring.specs.Known.{enters_call, exits_call, traps}

-- a known function, by its numbers
abbrev pub function_of : KnownFunc → KnownFunction
function_of func.EnterSyncCall = enters_call
function_of func.ExitSyncCall = exits_call
function_of (func.Trap code) = traps code.0
function_of (func.UnsafeIntrinsic i) = an_intrinsic (intrinsic_place i)
function_of (func.DefinedWasmFunction m n) = a_function m.0 n.0

-- a known global, likewise
abbrev pub global_of : KnownGlobal → Known
global_of (global.Defined e) = a_defined e.«module».0 kind.Global e.index.0
global_of (global.ComponentInstanceFlags c) = the_flags c.0

-- what is recorded of the nth import of a kind
abbrev pub import_in : ModuleTranslation → CoreKind → (n : ℕ) → Option Known
import_in m kind.Global n = option_map global_of (value_at m.known_imported_globals n)
import_in m kind.Memory n =
    option_map (λ e. a_defined e.«module».0 kind.Memory e.index.0) (value_at m.known_imported_memories n)
import_in m kind.Table n =
    option_map (λ e. a_defined e.«module».0 kind.Table e.index.0) (value_at m.known_imported_tables n)
import_in m k n = None

-- whether an entity is among those that importers may know
abbrev pub is_known_by : {K : Type 0} → KnownToImporters K → (n : ℕ) → Bool
is_known_by known n = is_known_to_importers known.defined known.unknown n

-- whether it is recorded that importers may know the nth entity of a kind that the module defines
abbrev pub is_known_in : ModuleTranslation → CoreKind → (n : ℕ) → Bool
is_known_in m kind.Global n = is_known_by m.globals_known_to_importers n
is_known_in m kind.Memory n = is_known_by m.memories_known_to_importers n
is_known_in m kind.Table n = is_known_by m.tables_known_to_importers n
is_known_in m k n = false

-- the representative that is recorded of a function import
abbrev pub representative_in : ModuleTranslation → (f : ℕ) → Option ℕ
representative_in m f =
    option_map (λ (r : FuncIndex). r.0) (as_option (value_at m.imported_func_vmctx_representative f))

-- what is recorded of a module
abbrev pub facts_of : ModuleTranslation → ModuleFacts
facts_of m = record {
  representative = representative_in m;
  function = λ f. option_map function_of (value_at m.known_imported_functions f);
  import = import_in m;
  is_known = is_known_in m;
}

-- nothing is recorded
abbrev pub no_facts : ModuleFacts
no_facts = record {
  representative = λ f. None;
  function = λ f. None;
  import = λ k n. None;
  is_known = λ k n. false;
}

-- what is recorded of a module, if there is one
abbrev pub facts_if : Option ModuleTranslation → ModuleFacts
facts_if None = no_facts
facts_if (Some m) = facts_of m

-- what is recorded of the module of a number
abbrev pub facts_at : List ModuleTranslation → (number : ℕ) → ModuleFacts
facts_at modules n = facts_if (slice_get modules n)

-- a module with its adapters, of which no fact is recorded
abbrev pub bare : ModuleTranslation → ModuleTranslation
bare m = without_facts m.«module» m.adapters
