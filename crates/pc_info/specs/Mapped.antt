-- Items of core instances whose entities are mapped.
use Rattle.std.specs.Prelude.{◌≡◌, List, ℕ}
use Rattle.pc_info.specs.declared.core_def.CoreExport.{CoreExport}
use Rattle.pc_info.specs.declared.core_def.ExportItem.{ExportItem}
use Rattle.pc_info.specs.declared.core_def.ExportItem.TheVariants as item

-- a fact of the entity of an item, where it has one
abbrev pub ForIndex : {T : Type 0} → ExportItem T → (T → Type 0) → Type 0
ForIndex (item.Index t) fact = fact t
ForIndex (item.Name name) fact = Unit {0}

-- an item with its entity mapped: a name stays
abbrev pub map_item : {T U : Type 0} → (T → U) → ExportItem T → ExportItem U
map_item f (item.Index t) = item.Index (f t)
map_item f (item.Name name) = item.Name name

-- the same of an item with its instance
abbrev pub map_export : {T U : Type 0} → (T → U) → CoreExport T → CoreExport U
map_export f e = record { instance = e.instance; item = map_item f e.item }

-- an item is another one with its entity mapped to one that it may be mapped to
abbrev pub IsMapped : {T U : Type 0} → (T → U → Type 0) → ExportItem T → ExportItem U → Type 0
IsMapped maps (item.Index t) (item.Index u) = maps t u
IsMapped maps (item.Index t) (item.Name name) = ⊥
IsMapped maps (item.Name name) (item.Index u) = ⊥
IsMapped maps (item.Name name) (item.Name other) = other ≡ name
