-- What uses the slots, lowerings and trampolines of a plan.
use Rattle.std.specs.Prelude.{◌≡◌, ◌⊎◌, ℕ, List, [], ◌∷◌, map, Contains, Option, None, Some, slice_get}
use Rattle.std.specs.List.{flat_map}
use Rattle.std.specs.Option.{option_to_list}
use Rattle.pc_numbers.specs.declared.module_entity.ModuleInternedTypeIndex.{ModuleInternedTypeIndex}
use Rattle.pc_spec_plan.specs.PlanView as plan
use Rattle.pc_trampoline.specs.declared.part.Mark.{Mark}
use Rattle.pc_trampoline.specs.View.{PlanTrampoline}
use Rattle.pc_info.specs.declared.component.ComponentTranslation.{ComponentTranslation}
use Rattle.pc_info.specs.declared.export.Export.{Export as PlanItem}
use Rattle.pc_info.specs.declared.export.Export.TheVariants as item
use Rattle.pc_info.specs.declared.initializer.GlobalInitializer.{GlobalInitializer}
use Rattle.pc_info.specs.declared.options.CanonicalOptions.{CanonicalOptions as PlanOptions}
use Rattle.pc_info.specs.Definitions.{def_view, initializer_view}
use Rattle.pc_info.specs.Options.{options_view}
use Rattle.pc_info.specs.View.{trampolines_view}

-- how many slots of a kind are counted
abbrev pub slots_in : plan.Counts → plan.SlotKind → ℕ
slots_in c plan.memory = c.memories
slots_in c plan.table = c.tables
slots_in c plan.realloc = c.reallocs
slots_in c plan.callback = c.callbacks
slots_in c plan.post_return = c.post_returns

-- the memory where values lie
abbrev pub model_memory : plan.ModelEntry → Option ℕ
model_memory plan.gc = None
model_memory (plan.linear m r) = m

-- the realloc for values that lie there
abbrev pub model_realloc : plan.ModelEntry → Option ℕ
model_realloc plan.gc = None
model_realloc (plan.linear m r) = r

-- the slot of a kind that options name
abbrev pub options_slot : plan.SlotKind → plan.PlanOptions Mark → Option ℕ
options_slot plan.memory o = model_memory o.model
options_slot plan.table o = None
options_slot plan.realloc o = model_realloc o.model
options_slot plan.callback o = o.callback
options_slot plan.post_return o = o.post_return

-- a trampoline names this slot
abbrev pub TakesSlot : plan.SlotKind → ℕ → plan.TrampolineEntry Mark → Type 0
TakesSlot k n (plan.lowers r s ty o) = ⊥
TakesSlot k n (plan.builtin b symbol c ps) = Contains ps (plan.slot k (Some n))
TakesSlot k n (plan.helper b symbol ps) = Contains ps (plan.slot k (Some n))

-- an options entry or a trampoline of a plan names this slot
unfoldable pub UsesSlot : ComponentTranslation → plan.SlotKind → ℕ → Type 0
UsesSlot p k n =
    ((m : ℕ) × (o : PlanOptions) × (slice_get p.component.options m ≡ Some o)
    × (options_slot k (options_view o) ≡ Some n))
    ⊎ ((m : ℕ) × (x : plan.TrampolineEntry Mark)
    × (slice_get (trampolines_view 0 p.component.trampolines p.trampolines) m ≡ Some x) × TakesSlot k n x)

-- an exported function of a plan has the options of this number
abbrev pub HasOptions : ℕ → PlanItem → Type 0
HasOptions n (item.LiftedFunction ty f o) = o.0 ≡ n
HasOptions n _ = ⊥

-- a trampoline of a plan names the options of this number
abbrev pub TakesOptions : ℕ → plan.TrampolineEntry Mark → Type 0
TakesOptions n (plan.lowers r s ty o) = o ≡ n
TakesOptions n (plan.builtin k symbol c ps) = Contains ps (plan.options n)
TakesOptions n (plan.helper k symbol ps) = Contains ps (plan.options n)

-- an exported function or a trampoline of a plan has the options of this number
unfoldable pub IsUsed : ComponentTranslation → ℕ → Type 0
IsUsed p n =
    ((k : ℕ) × (e : PlanItem) × (slice_get p.component.export_items k ≡ Some e) × HasOptions n e)
    ⊎ ((k : ℕ) × (x : plan.TrampolineEntry Mark)
    × (slice_get (trampolines_view 0 p.component.trampolines p.trampolines) k ≡ Some x) × TakesOptions n x)

-- a trampoline of a plan stands at this place, under this signature
abbrev pub StandsAt : ComponentTranslation → ModuleInternedTypeIndex → PlanTrampoline → (place : ℕ) → Type 0
StandsAt p s x n =
    (slice_get p.component.trampolines n ≡ Some s) × (slice_get p.trampolines n ≡ Some x)

-- a trampoline is the lowering of this number
abbrev pub TakesLowering : ℕ → plan.TrampolineEntry Mark → Type 0
TakesLowering n (plan.lowers r s ty o) = r ≡ n
TakesLowering n x = ⊥

-- a trampoline of a plan is the lowering of this number
unfoldable pub UsesLowering : ComponentTranslation → ℕ → Type 0
UsesLowering p n =
    (m : ℕ) × (x : plan.TrampolineEntry Mark)
    × (slice_get (trampolines_view 0 p.component.trampolines p.trampolines) m ≡ Some x) × TakesLowering n x

-- the definitions that a step names
abbrev pub step_definitions : plan.Initializer → List plan.Definition
step_definitions (plan.instantiate_static m args c) = args
step_definitions (plan.instantiate_import r args c) = map (λ (a : plan.NamedDefinition). a.definition) args
step_definitions (plan.lower_import n r) = []
step_definitions (plan.extract k n d) = d ∷ []
step_definitions (plan.declare_resource n rep destructor c) = option_to_list destructor

-- the definitions that a step of a plan names, as they are seen
abbrev pub definitions_in : GlobalInitializer → List plan.Definition
definitions_in i = step_definitions (initializer_view i)

-- steps name the trampoline of this number
abbrev pub StepsName : List GlobalInitializer → ℕ → Type 0
StepsName steps n = Contains (flat_map definitions_in steps) (plan.trampoline n)

-- an exported function is the trampoline of this number
abbrev pub IsTrampoline : ℕ → PlanItem → Type 0
IsTrampoline n (item.LiftedFunction ty f o) = def_view f ≡ plan.trampoline n
IsTrampoline n _ = ⊥

-- a step or an exported function of a plan names the trampoline of this number
unfoldable pub UsesTrampoline : ComponentTranslation → ℕ → Type 0
UsesTrampoline p n =
    StepsName p.component.initializers n
    ⊎ ((k : ℕ) × (e : PlanItem) × (slice_get p.component.export_items k ≡ Some e) × IsTrampoline n e)

-- a step fills a slot of a kind with a definition
abbrev pub FillsWith : plan.SlotKind → plan.Definition → plan.Initializer → Type 0
FillsWith k d (plan.extract l n e) = (l ≡ k) × (e ≡ d)
FillsWith k d i = ⊥

-- a step makes an instance of this module of adapters
abbrev pub MakesAdapters : (core_module : ℕ) → plan.Initializer → Type 0
MakesAdapters m (plan.instantiate_static n args None) = n ≡ m
MakesAdapters m i = ⊥

-- at most one item of a list is such
abbrev pub AtMostOne : {A : Type 0} → (A → Type 0) → List A → Type 0
AtMostOne {A} P xs =
    (i j : ℕ) (x y : A) → slice_get xs i ≡ Some x → slice_get xs j ≡ Some y → P x → P y → i ≡ j
