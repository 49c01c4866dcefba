-- A state before anything is read, and what a graph counts at the end.
use Rattle.std.specs.Prelude.{◌≡◌, [], length}
use Rattle.pc_types_lists.specs.Types.{Types}
use Rattle.pc_types.specs.declared.parsed.TypeTable.{TypeTable}
use Rattle.pc_dfg.specs.declared.dfg.ComponentDfg.{ComponentDfg}
use Rattle.pc_dfg.specs.Empty.{empty_graph}
use Rattle.pc_inline_state.specs.declared.state.State.{State}
use Rattle.pc_inline_state.specs.Places.{no_places}
use Rattle.pc_inline_state.specs.Typed.{AreNumbers, no_resources}

-- nothing was read yet, and no resource is known; paths are written in the names
pub record IsFresh (t : TypeTable) (st : State) : Type 0 where
  pub graph : st.graph ≡ empty_graph
  pub cores : st.cores ≡ []
  pub definitions : st.definitions ≡ []
  pub closures : st.closures ≡ []
  pub instances : st.instances ≡ []
  pub paths : st.paths.held ≡ []
  pub path_names : st.paths.names ≡ st.names.now.texts
  pub used : st.used.items ≡ []
  pub runtime_instances : st.runtime_instances.items ≡ []
  pub places : st.places ≡ no_places
  pub table : st.table.now ≡ t
  pub resources : st.types.resources ≡ no_resources
  pub numbers : AreNumbers st.types t st.numbers

-- a graph that counts the tables that a builder holds
abbrev pub counted_tables : ComponentDfg → Types → ComponentDfg
counted_tables g types = record g {
  num_future_tables = length types.future_tables;
  num_stream_tables = length types.stream_tables;
  num_error_context_tables = length types.error_context_tables;
}
