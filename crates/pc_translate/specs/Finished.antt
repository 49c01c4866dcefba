-- What `finish` promises: a plan of the graph, and the types of the handed-in modules that it exports.
use Rattle.std.specs.Prelude.{List, Option, All}
use Rattle.pc_types.specs.declared.parsed.TypeTable.{TypeTable}
use Rattle.pc_types.specs.declared.type_index.TypeModuleIndex.{TypeModuleIndex}
use Rattle.pc_types_builder.specs.Types.{Types}
use Rattle.pc_info.specs.declared.component.ComponentTranslation.{ComponentTranslation}
use Rattle.pc_dfg.specs.declared.dfg.ComponentDfg.{ComponentDfg}
use Rattle.pc_dfg_finish.specs.Finishes.{Finishes}
use Rattle.pc_dfg_finish.specs.ModuleTypes.{IsTyped, module_mark}
use Rattle.pc_translate.specs.ModuleTypes.{AreModuleTypes}

-- a plan is that of a graph, where the types of a table stand in this types builder
pub record IsFinished (b : Types) (t : TypeTable) (g : ComponentDfg) (plan : ComponentTranslation) : Type 0 where
  -- the numbers of module types of the table
  pub types : List (Option TypeModuleIndex)
  pub are : AreModuleTypes b t types
  -- among them those of all handed-in modules that are exported
  pub typed : All (IsTyped types) g.export_items
  pub finishes : Finishes g (module_mark types) plan
