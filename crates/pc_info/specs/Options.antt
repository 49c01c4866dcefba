-- How the plan machine sees options.
use Rattle.std.specs.Prelude.{ℕ, Bool, Option, None, option_map, if◌then◌else◌}
use Rattle.pc_numbers.specs.declared.runtime.RuntimeMemoryIndex.{RuntimeMemoryIndex}
use Rattle.pc_spec_plan.specs.PlanView as plan
use Rattle.pc_trampoline.specs.declared.part.Mark.{Mark}
use Rattle.pc_trampoline.specs.declared.part.Mark.TheVariants as mark
use Rattle.pc_info.specs.declared.module.SideRecord.{SideRecord}
use Rattle.pc_info.specs.declared.options.CanonicalOptions.{CanonicalOptions}
use Rattle.pc_info.specs.declared.options.CanonicalOptionsDataModel.{CanonicalOptionsDataModel}
use Rattle.pc_info.specs.declared.options.CanonicalOptionsDataModel.TheVariants as model

-- the slot of the memory that values lie in: none where they lie in the heap
abbrev pub memory_of : CanonicalOptionsDataModel → Option RuntimeMemoryIndex
memory_of model.Gc = None
memory_of (model.LinearMemory o) = o.memory

-- where values lie: in the heap, or in a memory with a realloc
abbrev pub model_view : CanonicalOptionsDataModel → plan.ModelEntry
model_view model.Gc = plan.gc
model_view (model.LinearMemory o) = plan.linear (option_map (λ m. m.0) o.memory) (option_map (λ r. r.0) o.realloc)

-- the options of a lifted or lowered function
abbrev pub options_view : CanonicalOptions → plan.PlanOptions Mark
options_view o = record {
  component_instance = o.instance.0;
  encoding = o.string_encoding;
  is_async = o.async_;
  signature = mark.Signature o.core_type;
  callback = option_map (λ c. c.0) o.callback;
  post_return = option_map (λ p. p.0) o.post_return;
  model = model_view o.data_model;
}

-- where the values of one side of an adapter lie
abbrev pub side_model : (gc : Bool) → (memory realloc : Option ℕ) → plan.ModelEntry
side_model gc memory realloc = if gc then plan.gc else plan.linear memory realloc

-- the options of one side of an adapter, with positions among the module's imports
abbrev pub side_view : SideRecord → plan.PlanOptions Mark
side_view s = record {
  component_instance = s.instance.0;
  encoding = s.string_encoding;
  is_async = s.async_;
  signature = mark.Signature s.core_type;
  callback = s.callback;
  post_return = s.post_return;
  model = side_model s.gc s.memory s.realloc;
}
