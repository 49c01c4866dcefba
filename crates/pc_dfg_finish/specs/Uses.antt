-- What in a plan names a definition.
use Rattle.std.specs.Prelude.{◌≡◌, ◌⊎◌, ℕ, Contains, Some, slice_get}
use Rattle.std.specs.List.{flat_map}
use Rattle.pc_spec_plan.specs.PlanView.{Definition}
use Rattle.pc_info.specs.declared.component.ComponentTranslation.{ComponentTranslation}
use Rattle.pc_info.specs.declared.export.Export.{Export}
use Rattle.pc_info.specs.declared.export.Export.TheVariants as item
use Rattle.pc_info.specs.Definitions.{def_view}
use Rattle.pc_info.specs.Slots.{definitions_in}

-- an exported function is this definition
abbrev pub IsFunction : Definition → Export → Type 0
IsFunction d (item.LiftedFunction ty f o) = def_view f ≡ d
IsFunction d _ = ⊥

-- a step or an exported function of a plan names this definition
unfoldable pub UsesDefinition : ComponentTranslation → Definition → Type 0
UsesDefinition p d =
    Contains (flat_map definitions_in p.component.initializers) d
    ⊎ ((k : ℕ) × (e : Export) × (slice_get p.component.export_items k ≡ Some e) × IsFunction d e)
