-- A memory that one module defines, a second exports again, and a third imports.
use Rattle.std.specs.Prelude.{ℕ, Bool, false, List, [], ◌∷◌, ◌++◌, Some}
use Rattle.pc_numbers.specs.declared.entity_index.EntityIndex.TheVariants as index
use Rattle.pc_types.specs.declared.module_record.ModuleRecord.{ModuleRecord}
use Rattle.pc_types.specs.declared.parsed.CoreEntity.TheVariants as entity
use Rattle.pc_types.specs.declared.parsed.CoreKind.TheVariants as kind
use Rattle.pc_spec_plan.specs.CoreValue.{by_index}
use Rattle.pc_spec_plan.specs.PlanView as plan
use Rattle.pc_spec_wiring.specs.Known.{IsKnown, IsKnownToImporters, Known}
use Rattle.pc_spec_wiring.specs.Origin.{ComesFrom, Origin, PlanEnd, cores_in}

-- the module that defines the memory
abbrev pub defining : ModuleRecord
defining = record {
  imports = [];
  funcs = [];
  tables = 0;
  memories = false ∷ [];
  globals = 0;
  tags = 0;
  exports = [];
}

-- a module that imports one
abbrev pub importing : ModuleRecord
importing = record {
  imports = ([], [], entity.Memory false) ∷ [];
  funcs = [];
  tables = 0;
  memories = [];
  globals = 0;
  tags = 0;
  exports = [];
}

-- the records of the three
abbrev pub records : List ModuleRecord
records = defining ∷ importing ∷ importing ∷ []

-- the memory of a core instance
abbrev pub memory_of : (instance : ℕ) → plan.Definition
memory_of r = plan.export r (by_index (index.Memory (record { 0 = 0 })))

-- the second module is given the memory of the first, and the third that of the second
abbrev pub steps : List plan.Initializer
steps =
    plan.instantiate_static 0 [] (Some 0) ∷ plan.instantiate_static 1 (memory_of 0 ∷ []) (Some 0)
    ∷ plan.instantiate_static 2 (memory_of 1 ∷ []) (Some 0)
    ∷ []

-- what a module of the host is given: the memory of the second
abbrev pub of_second : plan.NamedDefinition
of_second = record { module_name = []; name = []; definition = memory_of 1 }

-- the same, and a module of the host is given it too
abbrev pub steps_with_host : List plan.Initializer
steps_with_host = steps ++ plan.instantiate_import 0 (of_second ∷ []) (Some 0) ∷ []

-- the root exports no module
abbrev pub kept : (number : ℕ) → Bool
kept m = false

-- the memory of a core instance comes from there
abbrev pub MemoryComesFrom : (instance : ℕ) → Origin PlanEnd → Type 0
MemoryComesFrom n o = ComesFrom (cores_in records steps) n (index.Memory (record { 0 = 0 })) o

-- the memory that a module imports is known to be this
abbrev pub IsMemoryIn : List plan.Initializer → (number : ℕ) → Known → Type 0
IsMemoryIn is m x = IsKnown records is kept m kind.Memory 0 x

-- those that import the memory of the first module may know it
abbrev pub IsFirstKnown : List plan.Initializer → Type 0
IsFirstKnown is = IsKnownToImporters records is kept 0 kind.Memory 0
