-- The plan of a graph: what it does, and what it has.
use Rattle.std.specs.List.{AllZip}
use Rattle.std.specs.Prelude.{◌≡◌, ◌<◌, ◌≤◌, ℕ, List, length, map, take, None, Some}
use Rattle.std.specs.Prelude.{slice_get, count_by, true, false}
use Rattle.pc_numbers.specs.declared.runtime.TrampolineIndex.{TrampolineIndex}
use Rattle.pc_spec_plan.specs.CoreValue.{CoreValue}
use Rattle.pc_spec_plan.specs.Counts.{own_counts}
use Rattle.pc_spec_plan.specs.ExportNode.{NamedNode}
use Rattle.pc_spec_plan.specs.Log.{Entry, instances_of}
use Rattle.pc_spec_plan.specs.Machine.{NeverStuck, RuntimeInstance, State, owned_instances, resolve}
use Rattle.pc_spec_plan.specs.PlanView as plan
use Rattle.pc_spec_plan.specs.PlanView.{Definition, Initializer, PlanView, SlotKind, TrampolineEntry, intrinsic}
use Rattle.pc_spec_plan.specs.Trace.{run_trace}
use Rattle.pc_trampoline.specs.declared.part.Mark.{Mark}
use Rattle.pc_trampoline.specs.View.{PlanTrampoline, entry_view}
use Rattle.pc_names.specs.Stands.{StandsFor}
use Rattle.pc_info.specs.declared.component.ComponentTranslation.{ComponentTranslation}
use Rattle.pc_info.specs.declared.export.Export.{Export as PlanItem}
use Rattle.pc_info.specs.declared.export.Export.TheVariants as item
use Rattle.pc_info.specs.declared.module.ModuleTranslation.{ModuleTranslation}
use Rattle.pc_info.specs.Exports.{has_items}
use Rattle.pc_info.specs.declared.options.CanonicalOptions.{CanonicalOptions as PlanOptions}
use Rattle.pc_info.specs.declared.core_def.CoreDef.{CoreDef as PlanDef}
use Rattle.pc_info.specs.Options.{options_view}
use Rattle.pc_info.specs.View.{counts_view, trampolines_view, view}
use Rattle.pc_entity.specs.Lists.{AreDistinct}
use Rattle.pc_entity.specs.declared.packed_option.PackedOption.TheVariants as packed
use Rattle.pc_numbers.specs.declared.module_entity.ModuleInternedTypeIndex.{ModuleInternedTypeIndex}
use Rattle.pc_numbers.specs.declared.runtime.OptionsIndex.{OptionsIndex}
use Rattle.pc_types.specs.declared.intrinsic.UnsafeIntrinsic.{UnsafeIntrinsic}
use Rattle.pc_types.specs.declared.type_index.TypeFuncIndex.{TypeFuncIndex}
use Rattle.pc_types.specs.IntrinsicType.{intrinsic_place}
use Rattle.pc_dfg.specs.declared.core_def.CoreDef.TheVariants as def
use Rattle.pc_dfg.specs.declared.options.CanonicalOptions.{CanonicalOptions}
use Rattle.pc_dfg.specs.declared.dfg.ComponentDfg.{ComponentDfg}
use Rattle.pc_dfg.specs.declared.export.Export.{Export}
use Rattle.pc_dfg.specs.declared.export.Export.TheVariants as export
use Rattle.pc_dfg.specs.declared.instance.Resource.{Resource}
use Rattle.pc_dfg.specs.Effects.{EffectsMean}
use Rattle.pc_dfg.specs.Means.{Means}
use Rattle.pc_dfg.specs.Nodes.{ExportsMean}
use Rattle.pc_dfg.specs.Numbers.{SignedTrampoline, options_entry, trampoline_entry}
use Rattle.pc_dfg.specs.Told.{IsTold, Unsaid}
use Rattle.pc_info.specs.Apart.{AreApart}
use Rattle.pc_info.specs.Slots.{FillsWith, MakesAdapters}
use Rattle.pc_dfg_finish.specs.Apart.{IsOfAdapters, TellsSlots, module_of}
use Rattle.pc_dfg_finish.specs.Headed.{is_headed}
use Rattle.pc_info.specs.Slots.{AtMostOne, IsUsed, StandsAt, TakesLowering, UsesLowering}
use Rattle.pc_info.specs.Slots.{UsesSlot, UsesTrampoline, slots_in}
use Rattle.pc_info.specs.Standing.{AreNumberedBehind, CarriesNext, IsMadeLate, Makes, Piece, a_trampoline}
use Rattle.pc_info.specs.Standing.{an_options_entry, is_side_effect, steps_in}
use Rattle.pc_dfg_finish.specs.Renumbered.{IsRenumbered}
use Rattle.pc_dfg_finish.specs.Uses.{UsesDefinition}
use Rattle.pc_dfg_finish.specs.Unnumbered.{unnumbered, unnumbered_options}
use Rattle.pc_dfg_linearize.specs.Wired.{IsWired, Occurs}

-- in this state of its run with all modules, a trampoline of a plan resolves to what one of the graph means, and stands
-- under the signature of that one; it is a helper exactly where that one is
pub record StandsForOne (g : ComponentDfg) (p : ComponentTranslation) (ms : List ModuleTranslation) (s : State Mark)
    (n : ℕ) : Type 0 where
  pub trampoline : TrampolineIndex
  pub entry : SignedTrampoline
  pub at : slice_get g.trampolines trampoline.0 ≡ Some entry
  pub signature : slice_get p.component.trampolines n ≡ Some entry.0
  pub value : CoreValue Mark
  pub means : Means g (def.Trampoline trampoline) value
  pub resolves : resolve (view p ms) s (plan.trampoline n) ≡ Some value
  pub headed : (x : TrampolineEntry Mark) → slice_get (view p ms).trampolines n ≡ Some x
      → is_headed x ≡ is_headed (trampoline_entry entry)

-- a plan never gets stuck: run from nothing it does what a trace says, in order, and it ends with these exports
pub record Does (p : PlanView Mark) (trace : List (Entry Mark)) (nodes : List (NamedNode Mark)) : Type 0 where
  pub never_stuck : NeverStuck p
  pub traced : run_trace p ≡ Some trace
  pub instances : owned_instances never_stuck.last ≡ instances_of trace
  pub exports : never_stuck.nodes ≡ nodes

-- an item of the plan is of the form that an item of the graph has, with its type but for that of a handed-in module;
-- an instance has the same names, and finds what is under each
unfoldable pub IsItem : Export → PlanItem → Type 0
IsItem (export.LiftedFunction ty f o) (item.LiftedFunction ty' f' o') = ty ≡ ty'
IsItem (export.ImportedFunction ty r) (item.ImportedFunction ty' r') = (ty ≡ ty') × (r ≡ r')
IsItem (export.ModuleStatic ty m) (item.ModuleStatic ty' m') = m ≡ m'
IsItem (export.ModuleImport ty r) (item.ModuleImport ty' r') = (ty ≡ ty') × (r ≡ r')
IsItem (export.Instance ty es) (item.Instance ty' es') =
    (ty ≡ ty') × (es'.definitions ≡ es) × StandsFor (λ text key. key ≡ text) es' es
IsItem (export.Type_ ty) (item.Type_ ty') = ty ≡ ty'
IsItem e e' = ⊥

-- an options entry of the plan is one of the graph, but for the numbers of its slots
unfoldable pub IsOptionsOf : ComponentDfg → PlanOptions → Type 0
IsOptionsOf g o =
    (k : ℕ) × (x : CanonicalOptions) × (slice_get g.options k ≡ Some x) × (o.core_type ≡ x.core_type)
    × (unnumbered_options (options_view o) ≡ unnumbered_options (options_entry x))

-- a trampoline of the plan, at this place, is one of the graph under its signature, but for the numbers of what it
-- names
unfoldable pub IsTrampolineOf : ComponentDfg → ComponentTranslation → (place : ℕ) → PlanTrampoline → Type 0
IsTrampolineOf g p n x =
    (t : ℕ) × (e : SignedTrampoline) × (slice_get g.trampolines t ≡ Some e)
    × (slice_get p.component.trampolines n ≡ Some e.0)
    × (unnumbered (entry_view e.0 x) ≡ unnumbered (trampoline_entry e))

-- a plan is that of a graph, where each module type of the table has this mark
pub record Finishes (g : ComponentDfg) (converted : ℕ → Mark) (plan : ComponentTranslation) : Type 0 where
  -- with all modules to which the graph is wired it does what the side effects do, and exports what the graph exports
  pub does : (ms : List ModuleTranslation) (trace : List (Entry Mark)) (nodes : List (NamedNode Mark))
      → IsWired g ms → EffectsMean g trace → ExportsMean g converted nodes → Does (view plan ms) trace nodes
  -- and where its run ends, each trampoline resolves to what one of the graph means, under its signature
  pub meanings : (ms : List ModuleTranslation) (trace : List (Entry Mark)) (nodes : List (NamedNode Mark))
      (wired : IsWired g ms) (effects : EffectsMean g trace) (exports : ExportsMean g converted nodes) (n : ℕ)
      → n < length plan.trampolines
      → StandsForOne g plan ms (does ms trace nodes wired effects exports).never_stuck.last n
  -- what the run filled has values of its own there (each slot of a kind, each options entry, each trampoline), where
  -- the graph tells what values leave out
  pub values_apart : (ms : List ModuleTranslation) (trace : List (Entry Mark)) (nodes : List (NamedNode Mark))
      (wired : IsWired g ms) (effects : EffectsMean g trace) (exports : ExportsMean g converted nodes) (u : Unsaid)
      → IsTold u g → AreApart (view plan ms) (does ms trace nodes wired effects exports).never_stuck.last
  -- and an instance without a component instance is that of a module of adapters, with its arguments
  pub adapters : (ms : List ModuleTranslation) (trace : List (Entry Mark)) (nodes : List (NamedNode Mark))
      (wired : IsWired g ms) (effects : EffectsMean g trace) (exports : ExportsMean g converted nodes) (r : ℕ)
      (m : RuntimeInstance Mark)
      → slice_get (does ms trace nodes wired effects exports).never_stuck.last.instances r ≡ Some m
      → m.component_instance ≡ None → IsOfAdapters g m.instantiation
  -- its core instances are those of the graph and of its modules of adapters, with their arguments
  pub renumbered : IsRenumbered g plan
  -- what it has of the host is what the graph has of it
  pub import_types : plan.component.import_types ≡ g.import_types
  pub imports : plan.component.imports ≡ g.imports
  pub imported_resources : plan.component.imported_resources ≡ g.imported_resources
  -- each resource has its component instance
  pub resources : plan.component.defined_resource_instances ≡ map (λ (r : Resource). r.instance) g.resources
  -- it counts its steps, and the component instances and tables of the graph
  pub counts : (ms : List ModuleTranslation)
      → counts_view plan.component ≡ own_counts (view plan ms) g.num_runtime_component_instances g.num_future_tables
      g.num_stream_tables g.num_error_context_tables
  -- each trampoline has its signature, is one of the graph, and there are no more than there, nor more that are no
  -- helpers; none stands twice
  pub signatures : length plan.component.trampolines ≡ length plan.trampolines
  pub trampolines : (n : ℕ) (x : PlanTrampoline) → slice_get plan.trampolines n ≡ Some x → IsTrampolineOf g plan n x
  pub few_trampolines : length plan.trampolines ≤ length g.trampolines
  pub few_headed : count_by is_headed (trampolines_view 0 plan.component.trampolines plan.trampolines)
      ≤ count_by (λ (x : SignedTrampoline). is_headed (trampoline_entry x)) g.trampolines
  pub apart : (i j : ℕ) (s : ModuleInternedTypeIndex) (x : PlanTrampoline) → StandsAt plan s x i → StandsAt plan s x j
      → i ≡ j
  -- and a step or an exported function names each
  pub trampolines_used : (n : ℕ) → n < length plan.trampolines → UsesTrampoline plan n
  -- it has the graph's names, and finds what is under each
  pub names : plan.component.exports.definitions ≡ g.exports
  pub finds : StandsFor (λ text key. key ≡ text) plan.component.exports g.exports
  -- it has an item for each of the graph's, under its number, and each name has one
  pub items : AllZip IsItem g.export_items plan.component.export_items
  pub held : has_items plan.component ≡ true
  -- no options entry stands twice; each is that of an entry of the graph, and something uses it
  pub shared : AreDistinct plan.component.options
  pub options : (n : ℕ) (o : PlanOptions) → slice_get plan.component.options n ≡ Some o → IsOptionsOf g o
  pub used : (n : ℕ) → n < length plan.component.options → IsUsed plan n
  -- no slot is filled and no import lowered that nothing uses
  pub slots_used : (k : SlotKind) (n : ℕ) → n < slots_in (counts_view plan.component) k → UsesSlot plan k n
  pub lowerings_used : (n : ℕ) → n < plan.component.num_lowerings → UsesLowering plan n
  -- a lowering is that of one trampoline
  pub lowered_once : (n : ℕ)
      → AtMostOne (TakesLowering n) (trampolines_view 0 plan.component.trampolines plan.trampolines)
  -- no module of adapters is instantiated twice, where no two of the graph are one core module
  pub adapters_once : AreDistinct (map module_of g.adapter_modules) → (m : ℕ)
      → AtMostOne (MakesAdapters m) (steps_in plan)
  -- lowerings and slots carry their numbers in order; no two steps fill slots of a kind with one definition, where the
  -- graph tells slots apart; and what is no side effect stands before the first one that uses it, with no other
  -- between, or behind them all
  pub carry : (i : ℕ) (s : Initializer) → slice_get (steps_in plan) i ≡ Some s → CarriesNext (take i (steps_in plan)) s
  pub slots_apart : TellsSlots g → (k : SlotKind) (d : Definition) → AtMostOne (FillsWith k d) (steps_in plan)
  pub late : (i : ℕ) (s : Initializer) (x : Piece) → slice_get (steps_in plan) i ≡ Some s → is_side_effect s ≡ false
      → Makes (take i (steps_in plan)) s x → IsMadeLate plan i x
  -- an options entry has its number after those that it leads to, and so has a trampoline
  pub options_rise : AreNumberedBehind plan an_options_entry
  pub trampolines_rise : AreNumberedBehind plan a_trampoline
  -- and what options, trampolines and exports name is there
  pub slots_filled : (k : SlotKind) (n : ℕ) → UsesSlot plan k n → n < slots_in (counts_view plan.component) k
  pub imports_lowered : (n : ℕ) → UsesLowering plan n → n < plan.component.num_lowerings
  pub options_there : (n : ℕ) → IsUsed plan n → n < length plan.component.options
  -- a function that is exported has an options entry
  pub lifted : (n : ℕ) (ty : TypeFuncIndex) (f : PlanDef) (o : OptionsIndex)
      → slice_get plan.component.export_items n ≡ Some (item.LiftedFunction ty f o)
      → o.0 < length plan.component.options
  -- an unsafe intrinsic has a signature where the graph has it as a definition, under that signature
  pub intrinsics : (n : ℕ) (s : ModuleInternedTypeIndex)
      → slice_get plan.component.unsafe_intrinsics n ≡ Some (packed.Some s)
      → (i : UnsafeIntrinsic) × (intrinsic_place i ≡ n) × Occurs g (def.UnsafeIntrinsic s i)
  -- and only where a step or an exported function names it
  pub intrinsics_used : (n : ℕ) (s : ModuleInternedTypeIndex)
      → slice_get plan.component.unsafe_intrinsics n ≡ Some (packed.Some s) → UsesDefinition plan (intrinsic n)
