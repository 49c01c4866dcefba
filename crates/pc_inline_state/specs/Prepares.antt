-- What changes before anything is done: tables, types and slots grow, and the graph does what it did.
use Rattle.std.specs.Prelude.{◌≡◌, List}
use Rattle.pc_types.specs.declared.module_record.ModuleRecord.{ModuleRecord}
use Rattle.pc_types.specs.declared.parsed.TypeTable.{TypeTable}
use Rattle.pc_types_lists.specs.Types as builder
use Rattle.pc_types_builder.specs.Plain.{Layers}
use Rattle.pc_types_builder.specs.Converted.{AreConverted}
use Rattle.pc_inline_state.specs.declared.state.State.{State}
use Rattle.pc_inline_state.specs.Points.{IsSoundState}
use Rattle.pc_inline_state.specs.Tables.{Keeps, tables_of}
use Rattle.pc_inline_state.specs.Typed.{AreNumbers}

-- what all component instances share has grown, and does what it did
pub record Prepares (t : TypeTable) (ms : List ModuleRecord) (old new : State) : Type 0 where
  pub keeps : Keeps (tables_of old) (tables_of new)
  pub sound : IsSoundState t ms old → IsSoundState t ms new
  pub resources : new.types.resources ≡ old.types.resources
  pub side_effects : new.graph.side_effects ≡ old.graph.side_effects
  pub instances : new.graph.instances ≡ old.graph.instances
  pub trampolines : new.graph.trampolines ≡ old.graph.trampolines
  pub adapters : new.graph.adapters ≡ old.graph.adapters
  pub imports : new.graph.imports ≡ old.graph.imports
  pub imported_resources : new.graph.imported_resources ≡ old.graph.imported_resources
  pub declared_resources : new.graph.resources ≡ old.graph.resources
  pub import_types : new.graph.import_types ≡ old.graph.import_types
  pub begun : new.graph.num_runtime_component_instances ≡ old.graph.num_runtime_component_instances
  pub unsafe_intrinsics : new.graph.unsafe_intrinsics ≡ old.graph.unsafe_intrinsics
  pub exports : new.graph.exports ≡ old.graph.exports
  pub export_items : new.graph.export_items ≡ old.graph.export_items
  pub paths : new.paths ≡ old.paths
  pub used : new.used ≡ old.used

-- types were converted for a component instance, which had converted these before, and has those after
pub record Converts (t : TypeTable) (old : State) (before : Layers) (new : State)
    (after : Layers) : Type 0 where
  pub grows : builder.Grows old.types new.types
  pub converted : AreConverted old.types t before → AreConverted new.types t after
  pub numbers : AreNumbers old.types t old.numbers → AreNumbers new.types t new.numbers
  pub rest : new ≡ record old { types = new.types; numbers = new.numbers }
