-- Exports that are taken out of a graph to become those of its plan.
use Rattle.std.specs.Prelude.{List, [], length, Option, IfSome}
use Rattle.pc_types.specs.declared.type_index.TypeModuleIndex.{TypeModuleIndex}
use Rattle.pc_dfg.specs.declared.dfg.ComponentDfg.{ComponentDfg}
use Rattle.pc_dfg.specs.declared.export.Export.{Export}
use Rattle.pc_dfg_linearize.specs.declared.state.Finish.{Finish}
use Rattle.pc_dfg_linearize.specs.Ready.{IsReadyDef}
use Rattle.pc_dfg_finish.specs.Exports.{IsExportable, function_of}
use Rattle.pc_dfg_finish.specs.ModuleTypes.{IsTyped}

-- a graph that has let go of its exports
abbrev pub without_exports : ComponentDfg → ComponentDfg
without_exports g = record g { exports = []; export_items = [] }

-- the function of an export names what was made
abbrev pub IsReadyItem : ComponentDfg → Finish → Export → Type 0
IsReadyItem g f e = IfSome (function_of e) (λ x. IsReadyDef g (length f.instances) x.0)

-- an export can become one of the plan: all that its function names was made and has its number, and a handed-in module
-- has its type
pub record CanConvert (g : ComponentDfg) (types : List (Option TypeModuleIndex)) (f : Finish) (e : Export) : Type 0
  where
    pub ready : IsReadyItem g f e
    pub numbered : IsExportable g f e
    pub typed : IsTyped types e
