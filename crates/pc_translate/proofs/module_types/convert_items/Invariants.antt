use Rattle.std.proofs.Common.{All, take}
use Rattle.pc_types_builder.specs.Types.{Grows}
use Rattle.pc_dfg_finish.specs.ModuleTypes.{IsTyped}
use Rattle.pc_translate.specs.ModuleTypes.{AddsModules, AreModuleTypes, IsExported}
use Rattle.pc_translate.proofs.module_types.convert_items.Given as goal

abbrev pub invariant-loop-item : goal.invariant-loop-item
invariant-loop-item l =
    Grows l.initial.types l.types × AreModuleTypes l.types l.table l.done
    × All (IsTyped l.done) (take l.item-index l.items)
    × AddsModules l.table (IsExported l.items) l.initial.types l.types
