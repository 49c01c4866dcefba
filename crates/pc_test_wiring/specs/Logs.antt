-- The log of two component instances of one component and of a third that lowers a function of each.
use Rattle.std.specs.Prelude.{ℕ, false, true, List, [], ◌∷◌}
use Rattle.pc_numbers.specs.declared.entity_index.EntityIndex.TheVariants as index
use Rattle.pc_types.specs.declared.encoding.StringEncoding.TheVariants.{Utf8}
use Rattle.pc_types.specs.declared.parsed.PrimType.TheVariants as prim
use Rattle.pc_types.specs.declared.parsed.WasmValType.TheVariants as core
use Rattle.pc_types.specs.TypeTree.{TypeTree, a_tree, and_field, func_of, no_fields, primitive}
use Rattle.pc_types.specs.TypeTree.{abstract, list_of, own_of}
use Rattle.pc_spec_plan.specs.CoreValue.{CoreValue, Options, adapter, by_index, exported, linear, lowered, no_value}
use Rattle.pc_spec_plan.specs.CoreValue.{options}
use Rattle.pc_spec_plan.specs.CoreValue.{a_value, intrinsic}
use Rattle.pc_spec_plan.specs.Log.{Entry, declared, declared_resource, instantiated, made, of_static}
use Rattle.pc_parsed.specs.Mark.{Mark, of_signature, of_type}

-- a function that takes a number and gives one
abbrev pub number_to_number : TypeTree
number_to_number = func_of (and_field [] (primitive prim.U32) no_fields) (a_tree (primitive prim.U32)) false

-- the options of silence, in a component instance
abbrev pub silent : (component_instance : ℕ) → Options Mark
silent c =
    options c Utf8 false (of_signature (record { params = core.I32 ∷ []; results = core.I32 ∷ [] })) no_value no_value
    (linear no_value no_value)

-- the function of a core instance that is lifted
abbrev pub lifted_function : (instance : ℕ) → CoreValue Mark
lifted_function n = exported n (by_index (index.Function (record { 0 = 0 })))

-- the adapter over the function of the first instance
abbrev pub first_adapter : CoreValue Mark
first_adapter =
    adapter (of_type number_to_number) (silent 1) (of_type number_to_number) (silent 3) (lifted_function 0)

-- and over that of the second
abbrev pub second_adapter : CoreValue Mark
second_adapter =
    adapter (of_type number_to_number) (silent 2) (of_type number_to_number) (silent 3) (lifted_function 1)

-- what the reading does
abbrev pub log : List (Entry Mark)
log =
    instantiated (of_static 0 []) 1 ∷ instantiated (of_static 0 []) 2 ∷ made first_adapter ∷ made second_adapter
    ∷ instantiated (of_static 1 (first_adapter ∷ second_adapter ∷ [])) 3
    ∷ []

-- the same, where the first component instance lowers a function of the host
abbrev pub log_with_host : List (Entry Mark)
log_with_host =
    declared (lowered (record { import = 0; names = [] }) (of_type number_to_number) (silent 1)) ∷ log

-- a function that is lowered by another component instance
abbrev pub inner_adapter : CoreValue Mark
inner_adapter =
    adapter (of_type number_to_number) (silent 1) (of_type number_to_number) (silent 2) (lifted_function 0)

-- the same function, lifted again by that component instance and lowered by a third
abbrev pub outer_adapter : CoreValue Mark
outer_adapter =
    adapter (of_type number_to_number) (silent 2) (of_type number_to_number) (silent 3) (lifted_function 1)

-- its log
abbrev pub chain : List (Entry Mark)
chain =
    instantiated (of_static 0 []) 1 ∷ made inner_adapter ∷ instantiated (of_static 1 (inner_adapter ∷ [])) 2
    ∷ made outer_adapter ∷ instantiated (of_static 1 (outer_adapter ∷ [])) 3
    ∷ []

-- an adapter that is lowered as async
abbrev pub async_adapter : CoreValue Mark
async_adapter =
    adapter (of_type number_to_number) (silent 1) (of_type number_to_number)
    (options 3 Utf8 true (of_signature (record { params = core.I32 ∷ []; results = core.I32 ∷ [] })) no_value no_value
    (linear no_value no_value))
    (lifted_function 0)

-- a function that takes a handle inside a list
abbrev pub handle_to_number : TypeTree
handle_to_number =
    func_of (and_field [] (list_of (own_of (abstract 0))) no_fields) (a_tree (primitive prim.U32)) false

-- an adapter over it
abbrev pub handle_adapter : CoreValue Mark
handle_adapter =
    adapter (of_type handle_to_number) (silent 1) (of_type handle_to_number) (silent 3) (lifted_function 0)

-- the intrinsic that reads the first slot of a context is the destructor of a resource of the first component instance
abbrev pub log_with_context : List (Entry Mark)
log_with_context = declared_resource core.I32 (a_value (intrinsic 17)) 1 ∷ log

-- an intrinsic that loads a byte is
abbrev pub log_with_load : List (Entry Mark)
log_with_load = declared_resource core.I32 (a_value (intrinsic 1)) 1 ∷ log
