-- How the plan machine sees a plan.
use Rattle.std.specs.Prelude.{ℕ, ◌+◌, List, [], ◌∷◌, length, map, filter, Option, option_map, slice_get, unwrap_or}
use Rattle.pc_entity.specs.PackedOption.{as_option}
use Rattle.pc_entity.specs.declared.packed_option.PackedOption.{PackedOption}
use Rattle.pc_numbers.specs.declared.module_entity.ModuleInternedTypeIndex.{ModuleInternedTypeIndex}
use Rattle.pc_numbers.specs.declared.runtime.ImportIndex.{ImportIndex}
use Rattle.pc_numbers.specs.declared.runtime.RuntimeImportIndex.{RuntimeImportIndex}
use Rattle.pc_spec_plan.specs.PlanView as plan
use Rattle.pc_types.specs.declared.types.ComponentExtern.{ComponentExtern}
use Rattle.pc_types.specs.declared.types.TypeDef.{TypeDef}
use Rattle.pc_types.specs.declared.types.TypeDef.TheVariants as type
use Rattle.pc_trampoline.specs.declared.part.Mark.{Mark}
use Rattle.pc_trampoline.specs.declared.part.Mark.TheVariants as mark
use Rattle.pc_trampoline.specs.View.{PlanTrampoline, entry_view}
use Rattle.pc_info.specs.declared.component.Component.{Component}
use Rattle.pc_info.specs.declared.component.ComponentTranslation.{ComponentTranslation}
use Rattle.pc_info.specs.declared.module.ModuleTranslation.{ModuleTranslation}
use Rattle.pc_info.specs.Definitions.{initializer_view}
use Rattle.pc_info.specs.Exports.{exports_view}
use Rattle.pc_info.specs.Modules.{adapters_view, handed_in_view, is_adapter_module}
use Rattle.pc_info.specs.Options.{options_view}

-- the kind of an import, from its type: every type that is no function, instance or module is one of the last kind
abbrev pub import_kind : TypeDef → plan.ImportKind
import_kind (type.ComponentFunc n) = plan.function_kind
import_kind (type.ComponentInstance n) = plan.instance_kind
import_kind (type.Module n) = plan.module_kind
import_kind ty = plan.type_kind

-- an import of the root
abbrev pub import_type_view : List ℕ × ComponentExtern → plan.ImportType Mark
import_type_view i = record {
  name = i.0;
  kind = import_kind i.1.ty;
  import_type = mark.Type_ i.1.ty;
  extern_data = i.1.data_;
}

-- a host item that the plan uses
abbrev pub import_view : ImportIndex × List (List ℕ) → plan.RuntimeImport
import_view i = record { import_type = i.0.0; names = i.1 }

-- the signature of an intrinsic, if the plan uses it
abbrev pub intrinsic_view : PackedOption ModuleInternedTypeIndex → Option Mark
intrinsic_view signature = option_map mark.Signature (as_option signature)

-- a number that no list of the builder has, for the signature of a trampoline that has none
abbrev pub no_signature : ModuleInternedTypeIndex
no_signature = record { 0 = 4294967295 }

-- trampolines, the first of which is the nth one, with the signatures under their numbers
abbrev pub trampolines_view : (n : ℕ) → List ModuleInternedTypeIndex → List PlanTrampoline
    → List (plan.TrampolineEntry Mark)
trampolines_view n signatures [] = []
trampolines_view n signatures (t ∷ ts) =
    entry_view (unwrap_or (slice_get signatures n) no_signature) t ∷ trampolines_view (n + 1) signatures ts

-- how many entries of each kind a run makes
abbrev pub counts_view : Component → plan.Counts
counts_view c = record {
  runtime_instances = c.num_runtime_instances;
  component_instances = c.num_runtime_component_instances;
  lowerings = c.num_lowerings;
  memories = c.num_runtime_memories;
  tables = c.num_runtime_tables;
  reallocs = c.num_runtime_reallocs;
  callbacks = c.num_runtime_callbacks;
  post_returns = c.num_runtime_post_returns;
  resources = c.num_resources;
  future_tables = c.num_future_tables;
  stream_tables = c.num_stream_tables;
  error_context_tables = c.num_error_context_tables;
}

-- a plan with its modules
abbrev pub view : ComponentTranslation → List ModuleTranslation → plan.PlanView Mark
view t modules = record {
  handed_in = handed_in_view modules;
  adapter_modules = length (filter is_adapter_module modules);
  adapters = adapters_view 0 modules;
  import_types = map import_type_view t.component.import_types;
  imports = map import_view t.component.imports;
  imported_resources = map (λ (r : RuntimeImportIndex). r.0) t.component.imported_resources;
  initializers = map initializer_view t.component.initializers;
  options = map options_view t.component.options;
  trampolines = trampolines_view 0 t.component.trampolines t.trampolines;
  intrinsics = map intrinsic_view t.component.unsafe_intrinsics;
  exports = exports_view t.component;
  counts = counts_view t.component;
}
