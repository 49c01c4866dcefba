-- Items of core instances of a graph whose entities are mapped.
use Rattle.pc_info.specs.Mapped.{map_item}
use Rattle.pc_dfg.specs.declared.core_def.CoreExport.{CoreExport}

-- an item with its entity mapped, of the same instance: a name stays
abbrev pub map_export : {T U : Type 0} → (T → U) → CoreExport T → CoreExport U
map_export f e = record { instance = e.instance; item = map_item f e.item }
