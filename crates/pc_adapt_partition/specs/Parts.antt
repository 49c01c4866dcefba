-- Modules of adapters, by the facts of the adapters' types: records, what is said of the adapters, and their functions.
use Rattle.std.specs.Prelude.{ℕ, Bool, zero, suc, ◌+◌, List, [], ◌∷◌, ◌++◌, count_by, drop, length, map, take}
use Rattle.pc_numbers.specs.declared.entity_index.EntityIndex.{EntityIndex}
use Rattle.pc_numbers.specs.declared.entity_index.EntityIndex.TheVariants as entity
use Rattle.pc_types.specs.declared.module_record.ModuleRecord.{ModuleRecord}
use Rattle.pc_types.specs.declared.parsed.CoreEntity.{CoreEntity}
use Rattle.pc_types.specs.declared.parsed.CoreKind.TheVariants as kind
use Rattle.pc_types.specs.Record.{imports_kind}
use Rattle.pc_info.specs.declared.module.AdapterRecord.{AdapterRecord}
use Rattle.pc_info.specs.declared.module.ModuleTranslation.{ModuleTranslation}
use Rattle.pc_info.specs.Modules.{without_facts}
use Rattle.pc_dfg.specs.declared.adapter.Adapter.{Adapter}
use Rattle.pc_dfg.specs.declared.ids.AdapterModuleId.{AdapterModuleId}
use Rattle.pc_spec_adapt.specs.Asked.{FunctionFacts}
use Rattle.pc_adapt.specs.declared.import.Import.{Import}
use Rattle.pc_adapt.specs.Imports.{imports_of}
use Rattle.pc_adapt.specs.Places.{record_of}
use Rattle.pc_adapt_modules.specs.Entities.{all_entities}
use Rattle.pc_adapt_modules.specs.Exports.{record_of_parts}
use Rattle.pc_adapt_modules.specs.Members.{signatures_of}

-- as many items from a place on
abbrev pub slice : {A : Type 0} → (first many : ℕ) → List A → List A
slice first many xs = take many (drop first xs)

-- an adapter with what is imported for it
abbrev pub Part : Type 0
Part = Adapter × List Import

-- the adapters alone
abbrev pub adapters_in : List Part → List Adapter
adapters_in ps = map (λ (p : Part). p.0) ps

-- each adapter with how many imports it has
abbrev pub counted : List Part → List (Adapter × ℕ)
counted ps = map (λ (p : Part). (p.0, length p.1)) ps

-- how many imports there are
abbrev pub total_imports : List Part → ℕ
total_imports [] = 0
total_imports (p ∷ ps) = length p.1 + total_imports ps

-- what a module of these adapters imports, of which the first has this number
abbrev pub entities_of : (number : ℕ) → List Part → List (List ℕ × List ℕ × CoreEntity)
entities_of n ps = all_entities n (counted ps)

-- how many functions it imports
abbrev pub functions_in : (number : ℕ) → List Part → ℕ
functions_in n ps = count_by (imports_kind kind.Func) (entities_of n ps)

-- what the module is
abbrev pub record_for : (number : ℕ) → List Part → ModuleRecord
record_for n ps = record_of_parts (entities_of n ps) (signatures_of (adapters_in ps)) n (length ps)

-- what is said of the adapters, the first of which has this first place and this number, before functions are known
abbrev pub records_from : (first number : ℕ) → List Part → List AdapterRecord
records_from first n [] = []
records_from first n (p ∷ ps) = record_of first n p.0 ∷ records_from (first + length p.1) (n + 1) ps

-- what is said of adapters that are functions from this one on
abbrev pub with_functions : (function : ℕ) → List AdapterRecord → List AdapterRecord
with_functions f [] = []
with_functions f (r ∷ rs) = record r { func = record { 0 = f } } ∷ with_functions (f + 1) rs

-- a module of these adapters with what is said of them
abbrev pub module_for : (number : ℕ) → List Part → ModuleTranslation
module_for n ps = without_facts (record_for n ps) (with_functions (functions_in n ps) (records_from 0 n ps))

-- as many functions of a module of adapters, from this one on
abbrev pub functions_from : (adapter_module function many : ℕ) → List (AdapterModuleId × EntityIndex)
functions_from m f zero = []
functions_from m f (suc k) =
    (record { 0 = m }, entity.Function (record { 0 = f })) ∷ functions_from m (f + 1) k

-- The facts of the types of each adapter, and whether it is transparent.
module _ (lift lower : ℕ → FunctionFacts) (transparent : ℕ → Bool) where
  -- adapters with what is imported for them, the first of which has this number
  abbrev pub parts_of : (number : ℕ) → List Adapter → List Part
  parts_of n [] = []
  parts_of n (x ∷ xs) = (x, imports_of (lift n) (lower n) (transparent n) x) ∷ parts_of (n + 1) xs

  -- the modules of groups of adapters, the first of which has this number
  abbrev pub modules_of : (number : ℕ) → List (List Adapter) → List ModuleTranslation
  modules_of n [] = []
  modules_of n (xs ∷ groups) = module_for n (parts_of n xs) ∷ modules_of (n + length xs) groups

  -- the module of each adapter of these groups and its function there, where the first has this module and this number
  abbrev pub places_of : (adapter_module number : ℕ) → List (List Adapter) → List (AdapterModuleId × EntityIndex)
  places_of m n [] = []
  places_of m n (xs ∷ groups) =
      functions_from m (functions_in n (parts_of n xs)) (length xs) ++ places_of (m + 1) (n + length xs) groups
