-- When what is recorded of imports is exactly what a plan gives, and which plans can be looked through for it.
use Rattle.std.specs.Prelude.{◌≡◌, ◌<◌, ◌↔◌, ℕ, Bool, true, List, [], length, map, take, count_by, Contains, None, Option}
use Rattle.std.specs.Prelude.{Some, slice_get}
use Rattle.std.specs.FinSet as set
use Rattle.pc_types.specs.declared.module_record.ModuleRecord.{ModuleRecord}
use Rattle.pc_types.specs.declared.parsed.CoreKind.{CoreKind}
use Rattle.pc_spec_plan.specs.CoreValue.{ExportedItem}
use Rattle.pc_spec_plan.specs.Counts.{makes_instance}
use Rattle.pc_spec_plan.specs.PlanView as plan
use Rattle.pc_trampoline.specs.declared.part.Mark.{Mark}
use Rattle.pc_info.specs.declared.component.ComponentTranslation.{ComponentTranslation}
use Rattle.pc_info.specs.declared.module.ModuleTranslation.{ModuleTranslation}
use Rattle.pc_info.specs.Modules.{module_view}
use Rattle.pc_info.specs.Slots.{step_definitions}
use Rattle.pc_info.specs.Standing.{steps_in, trampolines_in}
use Rattle.pc_spec_wiring.specs.Facts.{ModuleFacts}
use Rattle.pc_spec_wiring.specs.Known.{Known, KnownFunction, IsKnown, IsKnownFunction, IsKnownToImporters}
use Rattle.pc_spec_facts.specs.Recorded.{facts_at}
use Rattle.pc_analysis_imports.specs.Exported.{is_exported_in}

-- imports and defined memories of a module can be numbered
pub record IsNumbered (r : ModuleRecord) : Type 0 where
  pub imports : length r.imports < 4294967295
  pub memories : length r.memories < 4294967296

-- The steps of a plan can be followed from front to back, where modules have these records.
pub record CanBeFollowed (records : List ModuleRecord) (steps : List plan.Initializer) : Type 0 where
  -- a module of which a step makes an instance is held
  pub held : (m : ℕ) (args : List plan.Definition) (c : Option ℕ)
      → Contains steps (plan.instantiate_static m args c) → m < length records
  -- an argument of an instance names an instance that was made before
  pub earlier : (i r : ℕ) (s : plan.Initializer) (item : ExportedItem) → slice_get steps i ≡ Some s
      → makes_instance s ≡ true → Contains (step_definitions s) (plan.export r item)
      → r < count_by makes_instance (take i steps)

-- what is recorded of imports is exactly what these steps give, where modules have these records
pub record AreKnown (records : List ModuleRecord) (steps : List plan.Initializer)
    (trampolines : List (plan.TrampolineEntry Mark)) (is_exported : ℕ → Bool) (facts : (number : ℕ) → ModuleFacts)
    : Type 0 where
  pub functions : (m f : ℕ) (x : KnownFunction) → ((facts m).function f ≡ Some x)
      ↔ IsKnownFunction records steps is_exported trampolines m f x
  pub imports : (m : ℕ) (k : CoreKind) (n : ℕ) (x : Known) → ((facts m).import k n ≡ Some x)
      ↔ IsKnown records steps is_exported m k n x
  pub known_to_importers : (m : ℕ) (k : CoreKind) (n : ℕ) → ((facts m).is_known k n ≡ true)
      ↔ IsKnownToImporters records steps is_exported m k n

-- the same of the modules of a plan
abbrev pub KnowImports : ComponentTranslation → (modules : List ModuleTranslation) → Type 0
KnowImports p modules =
    AreKnown (map module_view modules) (steps_in p) (trampolines_in p) (is_exported_in p.component.export_items)
    (facts_at modules)

-- a module without what is recorded of imports; the representatives of its function imports stay
abbrev pub without_imports : ModuleTranslation → ModuleTranslation
without_imports m = record m {
  known_imported_functions = record { items = []; default = None };
  known_imported_globals = record { items = []; default = None };
  known_imported_memories = record { items = []; default = None };
  known_imported_tables = record { items = []; default = None };
  globals_known_to_importers = record { defined = 0; unknown = set.empty };
  memories_known_to_importers = record { defined = 0; unknown = set.empty };
  tables_known_to_importers = record { defined = 0; unknown = set.empty };
}
