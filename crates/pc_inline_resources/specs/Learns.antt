-- What changes as resources become known.
use Rattle.std.specs.Prelude.{◌≡◌}
use Rattle.pc_types.specs.declared.parsed.TypeTable.{TypeTable}
use Rattle.pc_inline_state.specs.declared.frame.Frame.{Frame}
use Rattle.pc_inline_state.specs.declared.state.State.{State}
use Rattle.pc_inline_state.specs.Adds.{Adds}
use Rattle.pc_inline_state.specs.Tables.{Keeps, tables_of}
use Rattle.pc_inline_state.specs.Trails.{Trails}

-- other resources are known, and the frame has noted the changes; nothing else has changed
pub record Learns (t : TypeTable) (st : State) (f : Frame) (st' : State) (f' : Frame) : Type 0 where
  pub keeps : Keeps (tables_of st) (tables_of st')
  pub adds : Adds t 0 (tables_of st) (tables_of st')
  pub trail : Trails f.changes st.types.resources f'.changes st'.types.resources
  pub state : st' ≡ record st { types = record st.types { resources = st'.types.resources } }
  pub frame : f' ≡ record f { converted = f'.converted; changes = f'.changes }
