-- What the rows have in common. Types and core signatures are numbers.
use Rattle.std.specs.Prelude.{ℕ, Bool, List, [], ◌∷◌}
use Rattle.pc_numbers.specs.declared.entity_index.EntityIndex.TheVariants as entity
use Rattle.pc_spec_plan.specs.CoreValue as value
use Rattle.pc_spec_plan.specs.CoreValue.{CoreValue, MaybeValue, Part, Parts}
use Rattle.pc_spec_adapt.specs.Import.{Import, a_function, a_global, a_memory}

-- the number of a core signature is itself
abbrev pub same : ℕ → ℕ
same s = s

-- a function of a core instance, by number
abbrev pub func : (instance number : ℕ) → CoreValue ℕ
func n i = value.exported n (value.by_index (entity.Function (record { 0 = i })))

-- the first memory of a core instance
abbrev pub memory : (instance : ℕ) → CoreValue ℕ
memory n = value.exported n (value.by_index (entity.Memory (record { 0 = 0 })))

-- a function of a core signature
abbrev pub as_function : ℕ → CoreValue ℕ → Import ℕ
as_function s v = record { value = v; imported_as = a_function s }

-- a memory, with whether its addresses have 64 bits
abbrev pub as_memory : Bool → CoreValue ℕ → Import ℕ
as_memory wide v = record { value = v; imported_as = a_memory wide }

-- the flags of a component instance
abbrev pub as_flags : ℕ → Import ℕ
as_flags c = record { value = value.flags c; imported_as = a_global }

-- parts, one after the other
abbrev pub parts : List (Part ℕ) → Parts ℕ
parts [] = value.no_parts
parts (p ∷ ps) = value.and_part p (parts ps)

-- a value as a part
abbrev pub held : CoreValue ℕ → Part ℕ
held v = value.value_part (value.a_value v)

-- nothing as a part
abbrev pub nothing : Part ℕ
nothing = value.value_part value.no_value
