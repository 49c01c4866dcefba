-- The types of handed-in modules that a graph exports, by numbers of the type table.
use Rattle.std.specs.Prelude.{ℕ, List, Option, None, Some, slice_get, option_and_then, unwrap_or, IsSome, IfSome}
use Rattle.pc_types.specs.declared.type_index.TypeModuleIndex.{TypeModuleIndex}
use Rattle.pc_types.specs.declared.types.TypeDef.TheVariants as def
use Rattle.pc_trampoline.specs.declared.part.Mark.{Mark}
use Rattle.pc_trampoline.specs.declared.part.Mark.TheVariants as mark
use Rattle.pc_dfg.specs.declared.export.Export.{Export}
use Rattle.pc_dfg.specs.declared.export.Export.TheVariants as export

-- the type of a module type of the table, if it was converted
abbrev pub type_at : List (Option TypeModuleIndex) → ℕ → Option TypeModuleIndex
type_at types n = option_and_then (λ (t : Option TypeModuleIndex). t) (slice_get types n)

-- the type of a module type of the table that was converted
abbrev pub module_type : List (Option TypeModuleIndex) → ℕ → TypeModuleIndex
module_type types n = unwrap_or (type_at types n) (record { 0 = 0 })

-- the mark of a module type of the table that was converted
abbrev pub module_mark : List (Option TypeModuleIndex) → ℕ → Mark
module_mark types n = mark.Type_ (def.Module (module_type types n))

-- the number in the table that the type of a handed-in module has, where such a one is exported
abbrev pub static_type : Export → Option ℕ
static_type (export.LiftedFunction ty d o) = None
static_type (export.ImportedFunction ty r) = None
static_type (export.ModuleStatic ty m) = Some ty
static_type (export.ModuleImport ty r) = None
static_type (export.Instance ty es) = None
static_type (export.Type_ ty) = None

-- the type of a handed-in module that is exported was converted
abbrev pub IsTyped : List (Option TypeModuleIndex) → Export → Type 0
IsTyped types e = IfSome (static_type e) (λ ty. IsSome (type_at types ty))
