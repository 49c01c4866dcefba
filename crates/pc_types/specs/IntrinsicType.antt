-- What each unsafe intrinsic takes and answers.
use Rattle.std.specs.Prelude.{ℕ, List, [], ◌∷◌, Option, slice_get}
use Rattle.pc_types.specs.declared.intrinsic.UnsafeIntrinsic.{UnsafeIntrinsic}
use Rattle.pc_types.specs.declared.intrinsic.UnsafeIntrinsic.TheVariants as intrinsic
use Rattle.pc_types.specs.declared.parsed.PrimType.{PrimType}
use Rattle.pc_types.specs.declared.parsed.PrimType.TheVariants as prim
use Rattle.pc_types.specs.declared.parsed.WasmValType.{WasmValType}
use Rattle.pc_types.specs.declared.parsed.WasmValType.TheVariants as wasm
use Rattle.pc_types.specs.declared.types.InterfaceType.{InterfaceType}
use Rattle.pc_types.specs.declared.types.InterfaceType.TheVariants as interface

-- the integers that intrinsics take and answer
pub data Integer : Type 0 where
  u8 : Integer
  u16 : Integer
  u32 : Integer
  u64 : Integer

-- what an intrinsic takes and answers
pub record IntrinsicType : Type 0 where
  pub params : List Integer
  pub results : List Integer

-- one that takes and answers these
abbrev pub takes : List Integer → List Integer → IntrinsicType
takes params results = record { params = params; results = results }

-- the types of the intrinsics, each at the place of its name
abbrev pub intrinsic_types : List IntrinsicType
intrinsic_types =
    takes [] (u64 ∷ [])
    ∷ takes (u64 ∷ []) (u8 ∷ [])
    ∷ takes (u64 ∷ u8 ∷ []) []
    ∷ takes (u64 ∷ []) (u16 ∷ [])
    ∷ takes (u64 ∷ u16 ∷ []) []
    ∷ takes (u64 ∷ []) (u32 ∷ [])
    ∷ takes (u64 ∷ u32 ∷ []) []
    ∷ takes (u64 ∷ []) (u64 ∷ [])
    ∷ takes (u64 ∷ u64 ∷ []) []
    ∷ takes (u64 ∷ u64 ∷ u64 ∷ []) (u8 ∷ [])
    ∷ takes (u64 ∷ u64 ∷ u64 ∷ u8 ∷ []) []
    ∷ takes (u64 ∷ u64 ∷ u64 ∷ []) (u16 ∷ [])
    ∷ takes (u64 ∷ u64 ∷ u64 ∷ u16 ∷ []) []
    ∷ takes (u64 ∷ u64 ∷ u64 ∷ []) (u32 ∷ [])
    ∷ takes (u64 ∷ u64 ∷ u64 ∷ u32 ∷ []) []
    ∷ takes (u64 ∷ u64 ∷ u64 ∷ []) (u64 ∷ [])
    ∷ takes (u64 ∷ u64 ∷ u64 ∷ u64 ∷ []) []
    ∷ takes [] (u32 ∷ [])
    ∷ takes (u32 ∷ []) []
    ∷ takes [] (u32 ∷ [])
    ∷ takes (u32 ∷ []) []
    ∷ []

-- the place of an intrinsic among the names
abbrev pub intrinsic_place : UnsafeIntrinsic → ℕ
intrinsic_place intrinsic.StoreDataAddress = 0
intrinsic_place intrinsic.U8NativeLoad = 1
intrinsic_place intrinsic.U8NativeStore = 2
intrinsic_place intrinsic.U16NativeLoad = 3
intrinsic_place intrinsic.U16NativeStore = 4
intrinsic_place intrinsic.U32NativeLoad = 5
intrinsic_place intrinsic.U32NativeStore = 6
intrinsic_place intrinsic.U64NativeLoad = 7
intrinsic_place intrinsic.U64NativeStore = 8
intrinsic_place intrinsic.U8CheckedNativeLoad = 9
intrinsic_place intrinsic.U8CheckedNativeStore = 10
intrinsic_place intrinsic.U16CheckedNativeLoad = 11
intrinsic_place intrinsic.U16CheckedNativeStore = 12
intrinsic_place intrinsic.U32CheckedNativeLoad = 13
intrinsic_place intrinsic.U32CheckedNativeStore = 14
intrinsic_place intrinsic.U64CheckedNativeLoad = 15
intrinsic_place intrinsic.U64CheckedNativeStore = 16
intrinsic_place intrinsic.ContextGetI32_0 = 17
intrinsic_place intrinsic.ContextSetI32_0 = 18
intrinsic_place intrinsic.ContextGetI32_1 = 19
intrinsic_place intrinsic.ContextSetI32_1 = 20

-- the type of an intrinsic
abbrev pub intrinsic_type : UnsafeIntrinsic → Option IntrinsicType
intrinsic_type i = slice_get intrinsic_types (intrinsic_place i)

-- an integer as a core value type
abbrev pub core_type : Integer → WasmValType
core_type u64 = wasm.I64
core_type i = wasm.I32

-- an integer as a primitive of the type table
abbrev pub prim_type : Integer → PrimType
prim_type u8 = prim.U8
prim_type u16 = prim.U16
prim_type u32 = prim.U32
prim_type u64 = prim.U64

-- an integer as a converted type
abbrev pub interface_type : Integer → InterfaceType
interface_type u8 = interface.U8
interface_type u16 = interface.U16
interface_type u32 = interface.U32
interface_type u64 = interface.U64
