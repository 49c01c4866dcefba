-- Which adapters a graph is told to be transparent.
use Rattle.std.specs.Prelude.{◌≡◌, ◌↔◌, ℕ, true, Some, slice_get}
use Rattle.std.specs.FinSet as set
use Rattle.pc_parsed.specs.Mark.{Mark}
use Rattle.pc_spec_plan.specs.CoreValue.{CoreValue}
use Rattle.pc_spec_adapt.specs.Needs.{adapters_of}
use Rattle.pc_spec_reading.specs.Reading.{Reading}
use Rattle.pc_spec_wiring.specs.Opaque.{IsTransparentIn}
use Rattle.pc_dfg.specs.declared.dfg.ComponentDfg.{ComponentDfg}

-- of the adapters that a reading makes a graph names just those that are transparent, by their numbers
unfoldable pub TellsTransparent : Reading → ComponentDfg → Type 0
TellsTransparent r g =
    (k : ℕ) (v : CoreValue Mark) → slice_get (adapters_of r.log) k ≡ Some v
    → (set.contains g.transparent_adapters k ≡ true) ↔ IsTransparentIn r.log r.nodes v
