-- Short words for expectations.
use Rattle.std.specs.Prelude.{ℕ, false, List, [], ◌∷◌, None, codes}
use Rattle.pc_numbers.specs.declared.entity_index.EntityIndex.TheVariants as index
use Rattle.pc_types.specs.declared.encoding.StringEncoding.TheVariants.{Utf8}
use Rattle.pc_types.specs.declared.parsed.CoreFuncSig.{CoreFuncSig}
use Rattle.pc_types.specs.declared.parsed.PrimType.TheVariants as prim
use Rattle.pc_types.specs.declared.parsed.WasmValType.{WasmValType}
use Rattle.pc_types.specs.declared.parsed.WasmValType.TheVariants as core
use Rattle.pc_types.specs.declared.types.ComponentExternData.{ComponentExternData}
use Rattle.pc_types.specs.TypeTree.{TypeTree, Fields, Path, primitive, func_of, module_of, and_field, no_fields, a_tree}
use Rattle.pc_types.specs.TypeTree.{no_tree}
use Rattle.pc_spec_plan.specs.CoreValue.{CoreValue, Options, MaybeValue, exported, by_index, options, no_value, a_value}
use Rattle.pc_spec_plan.specs.CoreValue.{linear}
use Rattle.pc_spec_plan.specs.ExportNode.{ExportNode, NamedNode}
use Rattle.pc_spec_plan.specs.Log.{Entry, instantiated, of_static}
use Rattle.pc_parsed.specs.Mark.{Mark, of_signature}
use Rattle.pc_spec_reading.specs.World.{HostImport, AddedIntrinsic}

-- a function of the nth core instance, by index
abbrev pub func_of_instance : (order number : ℕ) → CoreValue Mark
func_of_instance order n = exported order (by_index (index.Function (record { 0 = n })))

-- a memory of it
abbrev pub memory_of_instance : (order number : ℕ) → CoreValue Mark
memory_of_instance order n = exported order (by_index (index.Memory (record { 0 = n })))

-- a table of it
abbrev pub table_of_instance : (order number : ℕ) → CoreValue Mark
table_of_instance order n = exported order (by_index (index.Table (record { 0 = n })))

-- the options of silence, in a component instance
abbrev pub silent : (component_instance : ℕ) → CoreFuncSig → Options Mark
silent c s = options c Utf8 false (of_signature s) no_value no_value (linear no_value no_value)

-- the same with a memory and perhaps a realloc
abbrev pub with_memory : (component_instance : ℕ) → CoreFuncSig → CoreValue Mark → MaybeValue Mark → Options Mark
with_memory c s memory realloc =
    options c Utf8 false (of_signature s) no_value no_value (linear (a_value memory) realloc)

-- a core instance of a handed-in module is made for a component instance
abbrev pub ran : (number : ℕ) → List (CoreValue Mark) → (component_instance : ℕ) → Entry Mark
ran number args c = instantiated (of_static number args) c

-- a core signature
abbrev pub signature : List WasmValType → List WasmValType → CoreFuncSig
signature params results = record { params = params; results = results }

-- a host item: the place of its import, and the names from there
abbrev pub path : ℕ → List (List ℕ) → Path
path n names = record { import = n; names = names }

-- an import that the host gives, under a name that says nothing more
abbrev pub import_named : List ℕ → TypeTree → HostImport
import_named name tree =
    record { name = record { name = name; implements = None; external_id = None }; import_type = tree }

-- an unsafe intrinsic, by its place, with a core signature
abbrev pub intrinsic_under : CoreFuncSig → (place : ℕ) → AddedIntrinsic
intrinsic_under s n = record { place = n; signature = s }

-- an export under a name that says nothing more
abbrev pub node_named : List ℕ → ExportNode Mark → NamedNode Mark
node_named name n = record { name = name; extern_data = record { implements = None; external_id = None }; node = n }

-- a name that says nothing more
abbrev pub no_data : ComponentExternData
no_data = record { implements = None; external_id = None }

-- the core signature of many rows
abbrev pub i32_to_i32 : CoreFuncSig
i32_to_i32 = signature (core.I32 ∷ []) (core.I32 ∷ [])

-- two numbers to nothing
abbrev pub two_i32 : CoreFuncSig
two_i32 = signature (core.I32 ∷ core.I32 ∷ []) []

-- one number to nothing
abbrev pub one_i32 : CoreFuncSig
one_i32 = signature (core.I32 ∷ []) []

-- a function of x, a u32, to a u32
abbrev pub u32_to_u32 : TypeTree
u32_to_u32 = func_of (and_field (codes "x") (primitive prim.U32) no_fields) (a_tree (primitive prim.U32)) false

-- a function of s, a string, to nothing
abbrev pub of_string : TypeTree
of_string = func_of (and_field (codes "s") (primitive prim.String) no_fields) no_tree false

-- the type of a module without imports and exports
abbrev pub plain_module : TypeTree
plain_module = module_of [] []

-- functions of strings, under names
abbrev pub functions_named : List (List ℕ) → Fields
functions_named [] = no_fields
functions_named (name ∷ names) = and_field name of_string (functions_named names)
