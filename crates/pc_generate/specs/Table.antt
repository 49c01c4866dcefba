-- The types that a generated input names.
use Rattle.std.specs.Prelude.{ℕ, false, List, [], ◌∷◌, Some, codes}
use Rattle.pc_types.specs.declared.parsed.CoreFuncSig.{CoreFuncSig}
use Rattle.pc_types.specs.declared.parsed.DeclType.{DeclType}
use Rattle.pc_types.specs.declared.parsed.DeclType.TheVariants as entry
use Rattle.pc_types.specs.declared.parsed.Entity.TheVariants as entity
use Rattle.pc_types.specs.declared.parsed.PrimType.TheVariants.{U32}
use Rattle.pc_types.specs.declared.parsed.TypeTable.{TypeTable}
use Rattle.pc_types.specs.declared.parsed.ValType.TheVariants as val
use Rattle.pc_types.specs.declared.parsed.WasmValType.TheVariants.{I32}

-- the name of each function
abbrev pub f : List ℕ
f = codes "f"

-- the core signature: one number is taken, and one given
abbrev pub signature : CoreFuncSig
signature = record { params = I32 ∷ []; results = I32 ∷ [] }

-- the type of each function: one number is taken, and one given
abbrev pub function : DeclType
function = entry.Func ((codes "x", val.Prim U32) ∷ []) (Some (val.Prim U32)) false

-- the type of an instance that exports such a function
abbrev pub instance : DeclType
instance = entry.Instance ((f, entity.Func 0) ∷ [])

-- the table: a function, a core module, an instance that exports a function, and one that exports nothing
unfoldable pub table : TypeTable
table = record {
  core_funcs = signature ∷ [];
  types = function ∷ entry.Module [] [] ∷ instance ∷ entry.Instance [] ∷ [];
}
