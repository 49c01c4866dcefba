-- What giving an id its number makes of a plan: a step, an options entry, a trampoline or a signature, and the number.
use Rattle.std.specs.Prelude.{ℕ, ◌+◌, ◌≤◌, List, [], ◌∷◌, ◌++◌, length, slice_set, None}
use Rattle.pc_entity.specs.declared.packed_option.PackedOption.TheVariants as packed
use Rattle.pc_numbers.specs.declared.component_entity.StaticModuleIndex.{StaticModuleIndex}
use Rattle.pc_numbers.specs.declared.module_entity.ModuleInternedTypeIndex.{ModuleInternedTypeIndex}
use Rattle.pc_numbers.specs.declared.runtime.RuntimeImportIndex.{RuntimeImportIndex}
use Rattle.pc_types.specs.declared.intrinsic.UnsafeIntrinsic.{UnsafeIntrinsic}
use Rattle.pc_types.specs.IntrinsicType.{intrinsic_place}
use Rattle.pc_spec_plan.specs.PlanView as plan
use Rattle.pc_trampoline.specs.View.{PlanTrampoline}
use Rattle.pc_info.specs.declared.core_def.CoreDef.{CoreDef as PlanDef}
use Rattle.pc_info.specs.declared.initializer.GlobalInitializer.{GlobalInitializer}
use Rattle.pc_info.specs.declared.initializer.GlobalInitializer.TheVariants as init
use Rattle.pc_info.specs.declared.initializer.InstantiateModule.TheVariants as source
use Rattle.pc_info.specs.declared.options.CanonicalOptions.{CanonicalOptions as PlanOptions}
use Rattle.pc_dfg_linearize.specs.declared.id.Id.{Id}
use Rattle.pc_dfg_linearize.specs.declared.id.Id.TheVariants as id
use Rattle.pc_dfg_linearize.specs.declared.state.Counts.{Counts}
use Rattle.pc_dfg_linearize.specs.declared.state.Finish.{Finish}
use Rattle.pc_dfg_linearize.specs.declared.state.Numbers.{Numbers}
use Rattle.pc_dfg_linearize.specs.Numbers.{with_number}
use Rattle.pc_dfg_linearize.specs.Plan.{slot_count}

-- the counts with one more slot of a kind
abbrev pub more_slots : plan.SlotKind → Counts → Counts
more_slots plan.memory c = record c { memories = c.memories + 1 }
more_slots plan.table c = record c { tables = c.tables + 1 }
more_slots plan.realloc c = record c { reallocs = c.reallocs + 1 }
more_slots plan.callback c = record c { callbacks = c.callbacks + 1 }
more_slots plan.post_return c = record c { post_returns = c.post_returns + 1 }

-- the numbers with that of a slot's entry
abbrev pub number_slot : plan.SlotKind → (entry number : ℕ) → Numbers → Numbers
number_slot plan.memory k n m = record m { memories = with_number m.memories k n }
number_slot plan.table k n m = record m { tables = with_number m.tables k n }
number_slot plan.realloc k n m = record m { reallocs = with_number m.reallocs k n }
number_slot plan.callback k n m = record m { callbacks = with_number m.callbacks k n }
number_slot plan.post_return k n m = record m { post_returns = with_number m.post_returns k n }

-- a plan with one more slot, which a step fills for an entry of the graph
abbrev pub add_slot : plan.SlotKind → (entry : ℕ) → GlobalInitializer → Finish → Finish
add_slot k entry i f = record f {
  steps = f.steps ++ i ∷ [];
  counts = more_slots k f.counts;
  numbers = number_slot k entry (slot_count f k) f.numbers;
}

-- a plan with one more lowering, of a host item
abbrev pub add_lowering : (trampoline : ℕ) → RuntimeImportIndex → Finish → Finish
add_lowering t r f = record f {
  steps = f.steps ++ init.LowerImport (record { 0 = f.counts.lowerings }) r ∷ [];
  counts = record f.counts { lowerings = f.counts.lowerings + 1 };
  numbers = record f.numbers { lowerings = with_number f.numbers.lowerings t f.counts.lowerings };
}

-- a plan with one more instance of a module of adapters
abbrev pub add_module : (adapter_module : ℕ) → StaticModuleIndex → List PlanDef → Finish → Finish
add_module m static args f = record f {
  steps = f.steps ++ init.InstantiateModule (source.Static static args) None ∷ [];
  counts = record f.counts { instances = f.counts.instances + 1 };
  numbers = record f.numbers { adapter_modules = with_number f.numbers.adapter_modules m f.counts.instances };
}

-- a plan with one more options entry
abbrev pub add_options : (entry : ℕ) → PlanOptions → Finish → Finish
add_options entry o f = record f {
  options = f.options ++ o ∷ [];
  numbers = record f.numbers { options = with_number f.numbers.options entry (length f.options) };
}

-- a plan with one more trampoline, under its core signature
abbrev pub add_trampoline : (entry : ℕ) → ModuleInternedTypeIndex → PlanTrampoline → Finish → Finish
add_trampoline entry signature t f = record f {
  signatures = f.signatures ++ signature ∷ [];
  trampolines = f.trampolines ++ t ∷ [];
  numbers = record f.numbers { trampolines = with_number f.numbers.trampolines entry (length f.trampolines) };
}

-- a plan in which an intrinsic has this core signature
abbrev pub note_intrinsic : UnsafeIntrinsic → ModuleInternedTypeIndex → Finish → Finish
note_intrinsic i signature f = record f {
  intrinsics = slice_set f.intrinsics (intrinsic_place i) (packed.Some signature);
}

-- the list that an id gets its number in is full
unfoldable pub IsFull : Finish → Id → Type 0
IsFull f (id.Memory n) = 4294967294 ≤ f.counts.memories
IsFull f (id.Table n) = 4294967294 ≤ f.counts.tables
IsFull f (id.Realloc n) = 4294967294 ≤ f.counts.reallocs
IsFull f (id.Callback n) = 4294967294 ≤ f.counts.callbacks
IsFull f (id.PostReturn n) = 4294967294 ≤ f.counts.post_returns
IsFull f (id.Options o) = 4294967294 ≤ length f.options
IsFull f (id.Lowering t) = 4294967294 ≤ f.counts.lowerings
IsFull f (id.Trampoline t) = 4294967294 ≤ length f.trampolines
IsFull f (id.Intrinsic s i) = ⊥
IsFull f (id.AdapterModule m) = 4294967294 ≤ f.counts.instances
