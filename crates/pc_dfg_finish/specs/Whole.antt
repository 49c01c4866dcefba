-- The whole of a plan: with what it begins, how it is made, and how it is put together.
use Rattle.std.specs.Prelude.{ℕ, ◌+◌, List, [], length, Option, None, replicate}
use Rattle.pc_entity.specs.declared.packed_option.PackedOption.TheVariants as packed
use Rattle.pc_names.specs.Contents.{Contents}
use Rattle.pc_info.specs.declared.component.Component.{Component}
use Rattle.pc_info.specs.declared.component.ComponentTranslation.{ComponentTranslation}
use Rattle.pc_info.specs.declared.export.Export.{Export as PlanItem}
use Rattle.pc_types.specs.declared.type_index.TypeModuleIndex.{TypeModuleIndex}
use Rattle.pc_dfg.specs.declared.dfg.ComponentDfg.{ComponentDfg}
use Rattle.pc_dfg.specs.Told.{AreInterned}
use Rattle.pc_dfg_linearize.specs.declared.state.Finish.{Finish}
use Rattle.pc_dfg_linearize.specs.declared.state.Numbers.{Numbers}
use Rattle.pc_dfg_linearize.specs.Arguments.{OnlyFromThese}
use Rattle.pc_dfg_finish.specs.Exports.{Exports, GoesFurther, Target, in_exports}
use Rattle.pc_dfg_finish.specs.Instantiated.{AreInstantiated}
use Rattle.pc_dfg_linearize.specs.Made.{DoneBefore}

-- no entry has its number
abbrev pub no_numbers : ComponentDfg → Numbers
no_numbers g = record {
  memories = replicate (length g.memories) None;
  tables = replicate (length g.tables) None;
  reallocs = replicate (length g.reallocs) None;
  callbacks = replicate (length g.callbacks) None;
  post_returns = replicate (length g.post_returns) None;
  options = replicate (length g.options) None;
  lowerings = replicate (length g.trampolines) None;
  trampolines = replicate (length g.trampolines) None;
  adapter_modules = replicate (length g.adapter_modules) None;
}

-- a plan with nothing in it
abbrev pub empty_plan : ComponentDfg → Finish
empty_plan g = record {
  steps = [];
  signatures = [];
  trampolines = [];
  options = [];
  intrinsics = replicate 21 packed.None;
  resources = [];
  instances = [];
  counts = record {
    instances = 0;
    lowerings = 0;
    memories = 0;
    tables = 0;
    reallocs = 0;
    callbacks = 0;
    post_returns = 0;
  };
  numbers = no_numbers g;
}

-- a plan of a graph was made, with its exports, where module types of the table have these types
pub record IsMade (g : ComponentDfg) (types : List (Option TypeModuleIndex)) (f : Finish)
    (names : Contents (List ℕ) Target) (items : List PlanItem) : Type 0 where
  -- all side effects were done
  pub before : Finish
  pub done : DoneBefore g (length g.side_effects) before
  pub instantiated : AreInstantiated g before
  -- what the exports depend on was made
  pub further : GoesFurther g before f
  pub only : OnlyFromThese g before f (in_exports g g.export_items)
  -- and so were the exports
  pub exports : Exports g types f names items
  -- no entry of an interned list of the graph stands twice
  pub interned : AreInterned g

-- a plan that was made, with its exports
abbrev pub component_of : ComponentDfg → Finish → Contents (List ℕ) Target → List PlanItem → Component
component_of g f names items = record {
  import_types = g.import_types;
  imports = g.imports;
  exports = names;
  export_items = items;
  initializers = f.steps;
  num_runtime_instances = f.counts.instances;
  num_runtime_component_instances = g.num_runtime_component_instances;
  num_lowerings = f.counts.lowerings;
  num_runtime_memories = f.counts.memories;
  num_runtime_tables = f.counts.tables;
  num_runtime_reallocs = f.counts.reallocs;
  num_runtime_callbacks = f.counts.callbacks;
  num_runtime_post_returns = f.counts.post_returns;
  num_resources = length g.imported_resources + length f.resources;
  num_future_tables = g.num_future_tables;
  num_stream_tables = g.num_stream_tables;
  num_error_context_tables = g.num_error_context_tables;
  trampolines = f.signatures;
  unsafe_intrinsics = f.intrinsics;
  imported_resources = g.imported_resources;
  defined_resource_instances = f.resources;
  options = f.options;
}

-- with what each trampoline does
unfoldable pub translation_of : ComponentDfg → Finish → Contents (List ℕ) Target → List PlanItem → ComponentTranslation
translation_of g f names items = record { component = component_of g f names items; trampolines = f.trampolines }
