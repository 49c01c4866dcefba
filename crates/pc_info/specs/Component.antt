-- A plan with nothing in it, and the numbers of its resources.
use Rattle.std.specs.Prelude.{ℕ, ◌-◌, nat_le, [], replicate, Option, Some, None, if◌then◌else◌}
use Rattle.pc_entity.specs.declared.packed_option.PackedOption.TheVariants as packed
use Rattle.pc_names.specs.Contents.{no_names}
use Rattle.pc_numbers.specs.declared.runtime.DefinedResourceIndex.{DefinedResourceIndex}
use Rattle.pc_numbers.specs.declared.runtime.ResourceIndex.{ResourceIndex}
use Rattle.pc_info.specs.declared.component.Component.{Component}

-- a plan without imports, steps and exports
abbrev pub empty_component : Component
empty_component = record {
  import_types = [];
  imports = [];
  exports = no_names;
  export_items = [];
  initializers = [];
  num_runtime_instances = 0;
  num_runtime_component_instances = 0;
  num_lowerings = 0;
  num_runtime_memories = 0;
  num_runtime_tables = 0;
  num_runtime_reallocs = 0;
  num_runtime_callbacks = 0;
  num_runtime_post_returns = 0;
  num_resources = 0;
  num_future_tables = 0;
  num_stream_tables = 0;
  num_error_context_tables = 0;
  trampolines = [];
  unsafe_intrinsics = replicate 21 packed.None;
  imported_resources = [];
  defined_resource_instances = [];
  options = [];
}

-- the number of a resource among the declared ones: those at or above the number of imported ones are declared
abbrev pub defined_resource : (imported : ℕ) → ResourceIndex → Option DefinedResourceIndex
defined_resource imported r = if nat_le imported r.0 then Some (record { 0 = r.0 - imported }) else None
