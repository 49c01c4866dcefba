-- What a count says of what is reached.
use Rattle.std.specs.Prelude.{◌≡◌, ◌<◌, ◌*◌, true, false, List, length, None, Some}
use Rattle.pc_entity.specs.Lists.{Kept}
use Rattle.pc_types.specs.declared.error.Unsupported.{Unsupported}
use Rattle.pc_types.specs.declared.module_record.ModuleRecord.{ModuleRecord}
use Rattle.pc_types.specs.Table.{table_fault}
use Rattle.pc_types.specs.TypeTree.{Path, TypeTree}
use Rattle.pc_spec_reading.specs.HostTypes.{type_at}
use Rattle.pc_spec_reading.specs.Nodes.{Reached, passed, reached, refused, value_node}
use Rattle.pc_spec_reading.specs.Value.{Value}
use Rattle.pc_spec_reading.specs.Outcome.{Fault, unsupported}
use Rattle.pc_spec_reading.specs.World.{HostImport, World, grown, has_room}
use Rattle.pc_inline_state.specs.declared.definition.Definition.{Definition}
use Rattle.pc_inline_state.specs.declared.definition.ExportsId.{ExportsId}
use Rattle.pc_inline_state.specs.Definitions.{exports_of}
use Rattle.pc_inline_state.specs.Members.{AreEarlier}
use Rattle.pc_inline_state.specs.Stands.{DefinitionStands, IsHostType}
use Rattle.pc_inline_state.specs.Tables.{Tables}
use Rattle.pc_inline_counts.specs.declared.count.NodeCount.{NodeCount}
use Rattle.pc_inline_counts.specs.declared.instances.NodeCounts.{NodeCounts}
use Rattle.pc_inline_counts.specs.Counts.{AreCounts}

-- from one world to another so many nodes were reached, none of them was refused, and the total isn't past
pub record Grew (w v : World) (c : NodeCount) : Type 0 where
  pub imports : v.imports ≡ w.imports
  pub unrefused : c.refusal ≡ None
  pub total : v.total ≡ grown w.total (8 * c.nodes)
  pub room : has_room v.total ≡ true

-- so many nodes leave the total below, and what is refused behind them is what was counted as refused
pub record RefusedAfter (c : NodeCount) (w : World) (f : Fault) : Type 0 where
  pub what : Unsupported
  pub refusal : c.refusal ≡ Some what
  pub is : f ≡ unsupported what
  pub room : has_room (grown w.total (8 * c.nodes)) ≡ true

-- what is reached from a world on is what was counted: the total is past with so many nodes, or they are reached, all of
-- them or those before the one that is refused
unfoldable pub Follows : {A : Type 0} → NodeCount → World → Reached A → Type 0
Follows c w (reached x v) = Grew w v c
Follows c w (refused f) = RefusedAfter c w f
Follows c w passed = has_room (grown w.total (8 * c.nodes)) ≡ false

-- each path to a host item has its type in the imports of a world
abbrev pub HasHostTypes : List ModuleRecord → Tables → List HostImport → Type 0
HasHostTypes ms b imports =
    (path : Path) (tree : TypeTree) → IsHostType ms b path tree → type_at imports path ≡ Some tree

-- these are counts of tables that have only grown since
pub record AreStillCounts (b : Tables) (counts : NodeCounts) : Type 0 where
  pub made_of : Tables
  pub made : AreCounts made_of counts
  pub earlier : AreEarlier made_of.definitions made_of.instances
  pub definitions : Kept made_of.definitions b.definitions
  pub instances : Kept made_of.instances b.instances
  pub table : b.table ≡ made_of.table

-- a definition was counted: if it is an instance, then one that was there
abbrev pub IsCounted : NodeCounts → Definition → Type 0
IsCounted counts d = (j : ExportsId) → exports_of d ≡ Some j → j.0 < length counts.instances

-- so many nodes count for a definition, whatever it stands for
unfoldable pub CountsNodes : NodeCounts → Definition → NodeCount → Type 0
CountsNodes counts d c =
    (ms : List ModuleRecord) (b : Tables) (v : Value) (w : World) → table_fault b.table ≡ None → AreStillCounts b counts
    → IsCounted counts d → DefinitionStands ms b d v → has_room w.total ≡ true → HasHostTypes ms b w.imports
    → Follows c w (value_node v w)
