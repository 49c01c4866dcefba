-- How an adapter gets into the graph.
use Rattle.std.specs.Prelude.{◌≡◌, List, Some, slice_get}
use Rattle.pc_types.specs.declared.module_record.ModuleRecord.{ModuleRecord}
use Rattle.pc_types.specs.declared.parsed.TypeTable.{TypeTable}
use Rattle.pc_dfg.specs.declared.adapter.Adapter.{Adapter}
use Rattle.pc_dfg.specs.declared.ids.AdapterId.{AdapterId}
use Rattle.pc_dfg.specs.Grows as graph
use Rattle.pc_dfg.specs.Held.{HeldAdapter}
use Rattle.pc_dfg.specs.Ordered.{IsOrdered}
use Rattle.pc_dfg.specs.Pushed.{IsPut}
use Rattle.pc_inline_state.specs.declared.adapters.AdapterKey.{AdapterKey}
use Rattle.pc_inline_state.specs.declared.state.State.{State}
use Rattle.pc_inline_state.specs.Placed.{IsMadeOfKey}
use Rattle.pc_inline_state.specs.Places.{NotesAdapter}

-- the adapter of a key is in the graph under this number, where it was or to where it is put, and is noted
pub record GetsAdapter (t : TypeTable) (ms : List ModuleRecord) (old new : State) (key : AdapterKey) (n : AdapterId)
    : Type 0 where
  pub adapter : Adapter
  pub made : IsMadeOfKey t ms old key adapter
  pub held : slice_get new.graph.adapters n.0 ≡ Some adapter
  pub put : IsPut old.graph.adapters new.graph.adapters adapter
  pub grows : graph.Grows old.graph new.graph
  pub ordered : HeldAdapter old.graph adapter → IsOrdered old.graph → IsOrdered new.graph
  pub notes : NotesAdapter key n old.places new.places
