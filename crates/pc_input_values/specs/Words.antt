-- The words of the input form, and what each stands for.
use Rattle.std.specs.Prelude.{ℕ, List, [], ◌∷◌, codes}
use Rattle.pc_types.specs.declared.parsed.WasmValType.{WasmValType}
use Rattle.pc_types.specs.declared.parsed.WasmValType.TheVariants as core
use Rattle.pc_types.specs.declared.parsed.PrimType.{PrimType}
use Rattle.pc_types.specs.declared.parsed.PrimType.TheVariants as prim
use Rattle.pc_types.specs.declared.parsed.CoreKind.{CoreKind}
use Rattle.pc_types.specs.declared.parsed.CoreKind.TheVariants as core_kind
use Rattle.pc_parsed.specs.declared.payload.ItemKind.{ItemKind}
use Rattle.pc_parsed.specs.declared.payload.ItemKind.TheVariants as kind
use Rattle.pc_parsed.specs.declared.payload.OuterKind.{OuterKind}
use Rattle.pc_parsed.specs.declared.payload.OuterKind.TheVariants as outer

-- core value types
unfoldable pub core_types : List (List ℕ × WasmValType)
core_types =
    (codes "i32", core.I32)
    ∷ (codes "i64", core.I64)
    ∷ (codes "f32", core.F32)
    ∷ (codes "f64", core.F64)
    ∷ (codes "v128", core.V128)
    ∷ (codes "funcref", core.FuncRef)
    ∷ (codes "externref", core.ExternRef)
    ∷ []

-- primitive types
unfoldable pub prim_types : List (List ℕ × PrimType)
prim_types =
    (codes "bool", prim.Bool)
    ∷ (codes "s8", prim.S8)
    ∷ (codes "u8", prim.U8)
    ∷ (codes "s16", prim.S16)
    ∷ (codes "u16", prim.U16)
    ∷ (codes "s32", prim.S32)
    ∷ (codes "u32", prim.U32)
    ∷ (codes "s64", prim.S64)
    ∷ (codes "u64", prim.U64)
    ∷ (codes "f32", prim.F32)
    ∷ (codes "f64", prim.F64)
    ∷ (codes "char", prim.Char)
    ∷ (codes "string", prim.String)
    ∷ (codes "error-context", prim.ErrorContext)
    ∷ []

-- kinds of a core module's entities
unfoldable pub core_kinds : List (List ℕ × CoreKind)
core_kinds =
    (codes "func", core_kind.Func)
    ∷ (codes "table", core_kind.Table)
    ∷ (codes "memory", core_kind.Memory)
    ∷ (codes "global", core_kind.Global)
    ∷ (codes "tag", core_kind.Tag)
    ∷ []

-- kinds of a component's items
unfoldable pub item_kinds : List (List ℕ × ItemKind)
item_kinds =
    (codes "func", kind.Func)
    ∷ (codes "module", kind.Module)
    ∷ (codes "instance", kind.Instance)
    ∷ (codes "component", kind.Component)
    ∷ (codes "type", kind.Type_)
    ∷ (codes "value", kind.Value)
    ∷ []

-- kinds of what an outer alias names
unfoldable pub outer_kinds : List (List ℕ × OuterKind)
outer_kinds =
    (codes "core-type", outer.CoreType)
    ∷ (codes "type", outer.Type_)
    ∷ (codes "core-module", outer.CoreModule)
    ∷ (codes "component", outer.Component)
    ∷ []
