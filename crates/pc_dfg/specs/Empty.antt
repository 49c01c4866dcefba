-- A graph with nothing in it.
use Rattle.std.specs.Prelude.{[], replicate}
use Rattle.std.specs.FinSet as set
use Rattle.pc_entity.specs.declared.packed_option.PackedOption.TheVariants as packed
use Rattle.pc_dfg.specs.declared.dfg.ComponentDfg.{ComponentDfg}

-- a graph without imports, definitions, side effects and exports
abbrev pub empty_graph : ComponentDfg
empty_graph = record {
  import_types = [];
  imports = [];
  exports = [];
  export_items = [];
  trampolines = [];
  unsafe_intrinsics = replicate 21 packed.None;
  reallocs = [];
  callbacks = [];
  post_returns = [];
  memories = [];
  tables = [];
  adapters = [];
  instances = [];
  num_runtime_component_instances = 0;
  adapter_modules = [];
  adapter_partitionings = [];
  resources = [];
  imported_resources = [];
  num_future_tables = 0;
  num_stream_tables = 0;
  num_error_context_tables = 0;
  side_effects = [];
  options = [];
  transparent_adapters = set.empty;
}
