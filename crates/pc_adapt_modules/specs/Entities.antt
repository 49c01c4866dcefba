-- As what a module imports what an adapter of a graph needs.
use Rattle.std.specs.Prelude.{ℕ, ◌+◌, ◌-◌, Bool, false, List, [], ◌∷◌, ◌++◌, Some, None, is_some, length, replicate}
use Rattle.std.specs.Prelude.{if◌then◌else◌}
use Rattle.std.specs.Fmt.{decimal}
use Rattle.pc_numbers.specs.declared.module_entity.ModuleInternedTypeIndex.{ModuleInternedTypeIndex}
use Rattle.pc_types.specs.declared.parsed.CoreEntity.{CoreEntity}
use Rattle.pc_types.specs.declared.parsed.CoreEntity.TheVariants as core
use Rattle.pc_trampoline.specs.declared.part.Mark.{Mark}
use Rattle.pc_trampoline.specs.declared.part.Mark.TheVariants as mark
use Rattle.pc_dfg.specs.declared.adapter.Adapter.{Adapter}
use Rattle.pc_dfg.specs.declared.adapter.AdapterOptions.{AdapterOptions}
use Rattle.pc_dfg.specs.declared.adapter.DataModel.{DataModel}
use Rattle.pc_dfg.specs.declared.adapter.DataModel.TheVariants as side
use Rattle.pc_spec_adapt.specs.Record.{adapter_name}

-- the number of a core signature
abbrev pub signature_number : Mark → ℕ
signature_number (mark.Signature s) = s.0
signature_number (mark.Type_ ty) = 0

-- a function, where it is there
abbrev pub function_if : Bool → ModuleInternedTypeIndex → List CoreEntity
function_if there s = if there then core.Func s.0 ∷ [] else []

-- the memory of a side, if it has one
abbrev pub memory_entities : DataModel → List CoreEntity
memory_entities side.Gc = []
memory_entities (side.LinearMemory None realloc) = []
memory_entities (side.LinearMemory (Some m) realloc) = core.Memory m.1 ∷ []

-- whether a side has a realloc
abbrev pub has_realloc : DataModel → Bool
has_realloc side.Gc = false
has_realloc (side.LinearMemory memory realloc) = is_some realloc

-- what the options of a side hold, with functions under this core signature
abbrev pub side_entities : ModuleInternedTypeIndex → AdapterOptions → List CoreEntity
side_entities s o =
    memory_entities o.data_model ++ function_if (has_realloc o.data_model) s ++ function_if (is_some o.callback) s
    ++ function_if (is_some o.post_return) s

-- what is called, two flags, and what the options of both sides hold
abbrev pub first_entities : Adapter → List CoreEntity
first_entities x =
    (core.Func x.lift_options.core_type.0 ∷ core.Global ∷ core.Global ∷ [])
    ++ side_entities x.lower_options.core_type x.lift_options
    ++ side_entities x.lower_options.core_type x.lower_options

-- as what the imports of an adapter are imported, of which there are this many
abbrev pub entities_for : Adapter → ℕ → List CoreEntity
entities_for x many =
    first_entities x ++ replicate (many - length (first_entities x)) (core.Func x.lower_options.core_type.0)

-- what is imported for an adapter, under its name, the first at this place
abbrev pub named_entities : (adapter place : ℕ) → List CoreEntity → List (List ℕ × List ℕ × CoreEntity)
named_entities n i [] = []
named_entities n i (e ∷ es) = (adapter_name n, decimal i, e) ∷ named_entities n (i + 1) es

-- the same, of adapters one after the other, each with how many imports it has
abbrev pub all_entities : (first : ℕ) → List (Adapter × ℕ) → List (List ℕ × List ℕ × CoreEntity)
all_entities n [] = []
all_entities n (x ∷ xs) = named_entities n 0 (entities_for x.0 x.1) ++ all_entities (n + 1) xs
