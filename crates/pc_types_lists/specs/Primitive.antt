-- The value types of primitives.
use Rattle.std.specs.Prelude.{Option, None, Some}
use Rattle.pc_types.specs.declared.parsed.PrimType.{PrimType}
use Rattle.pc_types.specs.declared.parsed.PrimType.TheVariants as prim
use Rattle.pc_types.specs.declared.types.InterfaceType.{InterfaceType}
use Rattle.pc_types.specs.declared.types.InterfaceType.TheVariants as ty

-- the value type of a primitive that needs no table
abbrev pub plain_type : PrimType → Option InterfaceType
plain_type prim.Bool = Some ty.Bool
plain_type prim.S8 = Some ty.S8
plain_type prim.U8 = Some ty.U8
plain_type prim.S16 = Some ty.S16
plain_type prim.U16 = Some ty.U16
plain_type prim.S32 = Some ty.S32
plain_type prim.U32 = Some ty.U32
plain_type prim.S64 = Some ty.S64
plain_type prim.U64 = Some ty.U64
plain_type prim.F32 = Some ty.F32
plain_type prim.F64 = Some ty.F64
plain_type prim.Char = Some ty.Char
plain_type prim.String = Some ty.String
plain_type prim.ErrorContext = None
