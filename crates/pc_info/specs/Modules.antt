-- How the plan machine sees the core modules of a plan: the handed-in ones, which have no adapter records, and then the
-- adapter modules, which have some.
use Rattle.std.specs.Prelude.{◌≡◌, ℕ, ◌+◌, Bool, true, false, List, [], ◌∷◌, ◌++◌, map, filter, All}
use Rattle.std.specs.Prelude.{if◌then◌else◌, None}
use Rattle.std.specs.FinSet as set
use Rattle.pc_entity.specs.declared.packed_option.PackedOption.TheVariants as packed
use Rattle.pc_spec_plan.specs.PlanView as plan
use Rattle.pc_types.specs.declared.module_record.ModuleRecord.{ModuleRecord}
use Rattle.pc_types.specs.declared.type_index.TypeFuncIndex.{TypeFuncIndex}
use Rattle.pc_types.specs.declared.types.TypeDef.TheVariants as type
use Rattle.pc_trampoline.specs.declared.part.Mark.{Mark}
use Rattle.pc_trampoline.specs.declared.part.Mark.TheVariants as mark
use Rattle.pc_info.specs.declared.module.AdapterRecord.{AdapterRecord}
use Rattle.pc_info.specs.declared.module.ModuleTranslation.{ModuleTranslation}
use Rattle.pc_info.specs.Options.{side_view}

-- whether a list has items
abbrev pub has_some : {T : Type 0} → List T → Bool
has_some [] = false
has_some (x ∷ xs) = true

-- whether a module is one of adapters
abbrev pub is_adapter_module : ModuleTranslation → Bool
is_adapter_module m = has_some m.adapters

-- whether a module was handed in
abbrev pub is_handed_in : ModuleTranslation → Bool
is_handed_in m = if has_some m.adapters then false else true

-- a module with these adapters, of which no fact is recorded: none of its imports is known, none of what it defines is
-- known to those that import it, and no imported function has a representative
abbrev pub without_facts : ModuleRecord → List AdapterRecord → ModuleTranslation
without_facts r adapters = record {
  «module» = r;
  adapters = adapters;
  known_imported_functions = record { items = []; default = None };
  known_imported_globals = record { items = []; default = None };
  known_imported_memories = record { items = []; default = None };
  known_imported_tables = record { items = []; default = None };
  globals_known_to_importers = record { defined = 0; unknown = set.empty };
  memories_known_to_importers = record { defined = 0; unknown = set.empty };
  tables_known_to_importers = record { defined = 0; unknown = set.empty };
  imported_func_vmctx_representative = record { items = []; default = packed.None };
}

-- a module of the plan, as it was handed in
abbrev pub module_view : ModuleTranslation → ModuleRecord
module_view m = m.module

-- the modules that were handed in
abbrev pub handed_in_view : List ModuleTranslation → List ModuleRecord
handed_in_view modules = map module_view (filter is_handed_in modules)

-- modules stand in order: first those that were handed in, which have these records, and then those of adapters
pub record StandInOrder (records : List ModuleRecord) (modules : List ModuleTranslation) : Type 0 where
  pub handed_in : List ModuleTranslation
  pub adapters : List ModuleTranslation
  pub are : modules ≡ handed_in ++ adapters
  pub have : map module_view handed_in ≡ records
  pub none : All (λ m. is_adapter_module m ≡ false) handed_in
  pub some : All (λ m. is_adapter_module m ≡ true) adapters

-- a function type as a mark
abbrev pub function_mark : TypeFuncIndex → Mark
function_mark ty = mark.Type_ (type.ComponentFunc ty)

-- an adapter's record, in the nth module
abbrev pub adapter_view : (n : ℕ) → AdapterRecord → plan.AdapterRecord Mark
adapter_view n a = record {
  core_module = n;
  adapter = a.adapter;
  function = a.func.0;
  callee = a.callee;
  lift_type = function_mark a.lift_ty;
  lift = side_view a.lift;
  lower_type = function_mark a.lower_ty;
  lower = side_view a.lower;
}

-- the adapters of modules, the first of which is the nth one
abbrev pub adapters_view : (n : ℕ) → List ModuleTranslation → List (plan.AdapterRecord Mark)
adapters_view n [] = []
adapters_view n (m ∷ ms) = map (adapter_view n) m.adapters ++ adapters_view (n + 1) ms
