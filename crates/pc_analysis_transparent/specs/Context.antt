-- Which definitions of a graph are intrinsics that read or write the slots of a context.
use Rattle.std.specs.Prelude.{Bool, false, List}
use Rattle.std.specs.List.{list_any}
use Rattle.pc_types.specs.IntrinsicType.{intrinsic_place}
use Rattle.pc_spec_wiring.specs.Opaque.{is_context}
use Rattle.pc_dfg.specs.declared.core_def.CoreDef.{CoreDef}
use Rattle.pc_dfg.specs.declared.core_def.CoreDef.TheVariants as def

-- whether a definition is one of them
abbrev pub is_context_def : CoreDef → Bool
is_context_def (def.UnsafeIntrinsic s i) = is_context (intrinsic_place i)
is_context_def d = false

-- whether one of these definitions is
unfoldable pub uses_context : List CoreDef → Bool
uses_context ds = list_any is_context_def ds
