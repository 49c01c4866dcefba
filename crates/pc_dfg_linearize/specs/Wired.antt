-- A graph is wired to core modules: each module is given what it imports, and has what is taken from its instances.
use Rattle.std.specs.Prelude.{◌≡◌, ◌<◌, ◌≤◌, ◌+◌, ◌==◌, ℕ, Bool, true, false, List, length, filter, Some, slice_get}
use Rattle.std.specs.Prelude.{Contains}
use Rattle.std.specs.List.{list_all, AllZip}
use Rattle.pc_dfg.specs.declared.ids.AdapterModuleId.{AdapterModuleId}
use Rattle.pc_dfg.specs.declared.ids.OptionsId.{OptionsId}
use Rattle.pc_numbers.specs.declared.component_entity.StaticModuleIndex.{StaticModuleIndex}
use Rattle.pc_numbers.specs.declared.entity_index.EntityIndex.{EntityIndex}
use Rattle.pc_types.specs.declared.module_record.ModuleRecord.{ModuleRecord}
use Rattle.pc_types.specs.declared.parsed.CoreKind.TheVariants as kind
use Rattle.pc_types.specs.declared.type_index.TypeFuncIndex.{TypeFuncIndex}
use Rattle.pc_types.specs.Record.{index_kind, same_kind}
use Rattle.pc_spec_plan.specs.CoreValue.{CoreValue, ExportedItem, by_index, by_name}
use Rattle.pc_spec_plan.specs.Machine.{has_item, has_places, adapter_module, static_item}
use Rattle.pc_spec_plan.specs.PlanView as plan
use Rattle.pc_trampoline.specs.declared.part.Mark.{Mark}
use Rattle.pc_info.specs.declared.module.ModuleTranslation.{ModuleTranslation}
use Rattle.pc_info.specs.Definitions.{item_view}
use Rattle.pc_info.specs.Modules.{adapters_view, handed_in_view, is_adapter_module}
use Rattle.pc_dfg.specs.declared.adapter.Adapter.{Adapter}
use Rattle.pc_dfg.specs.declared.core_def.CoreDef.{CoreDef}
use Rattle.pc_dfg.specs.declared.core_def.CoreDef.TheVariants as def
use Rattle.pc_dfg.specs.declared.core_def.CoreExport.{CoreExport}
use Rattle.pc_dfg.specs.declared.dfg.ComponentDfg.{ComponentDfg}
use Rattle.pc_dfg.specs.declared.export.Export.TheVariants as export
use Rattle.pc_dfg.specs.declared.instance.Instance.TheVariants as source
use Rattle.pc_dfg.specs.declared.instance.SideEffect.{SideEffect}
use Rattle.pc_dfg.specs.Means.{Means}
use Rattle.pc_dfg.specs.Names.{in_adapter, in_effect}
use Rattle.pc_dfg.specs.Numbers.{slots_of}

-- whether an item is a function, as far as its number tells
abbrev pub may_be_function : ExportedItem → Bool
may_be_function (by_index e) = same_kind (index_kind e) kind.Func
may_be_function (by_name name) = true

-- whether a definition is one of a function
abbrev pub is_function : CoreDef → Bool
is_function (def.Export e) = may_be_function (item_view e.item)
is_function (def.InstanceFlags c) = false
is_function d = true

-- the slots that functions are in
pub data OfFunctions : plan.SlotKind → Type 0 where
  reallocs : OfFunctions plan.realloc
  callbacks : OfFunctions plan.callback
  post_returns : OfFunctions plan.post_return

module _ (g : ComponentDfg) where
  -- a definition stands in a slot or in an adapter, is an argument or a destructor, or is exported
  pub data Occurs : CoreDef → Type 0 where
    in_a_slot : (k : plan.SlotKind) (n : ℕ) {d : CoreDef} → slice_get (slots_of g k) n ≡ Some d → Occurs d
    in_an_effect : (i : ℕ) (e : SideEffect) {d : CoreDef} → slice_get g.side_effects i ≡ Some e
        → Contains (in_effect g e) d → Occurs d
    in_a_module : (m : ℕ) (x : StaticModuleIndex × List CoreDef) {d : CoreDef}
        → slice_get g.adapter_modules m ≡ Some x → Contains x.1 d → Occurs d
    in_an_adapter : (a : ℕ) (x : Adapter) {d : CoreDef} → slice_get g.adapters a ≡ Some x → Contains (in_adapter x) d
        → Occurs d
    in_an_export : (n : ℕ) (ty : TypeFuncIndex) (o : OptionsId) {d : CoreDef}
        → slice_get g.export_items n ≡ Some (export.LiftedFunction ty d o) → Occurs d

  module _ (ms : List ModuleTranslation) where
    -- a plan has these modules, and the component instances of the graph
    pub record Has (p : plan.PlanView Mark) : Type 0 where
      pub handed_in : p.handed_in ≡ handed_in_view ms
      pub adapter_modules : p.adapter_modules ≡ length (filter is_adapter_module ms)
      pub adapters : p.adapters ≡ adapters_view 0 ms
      pub component_instances : p.counts.component_instances ≡ g.num_runtime_component_instances

    -- the adapters of a module, by its number
    abbrev pub records_of : ℕ → List (plan.AdapterRecord Mark)
    records_of m = filter (λ (r : plan.AdapterRecord Mark). r.core_module == m) (adapters_view 0 ms)

    -- a module of adapters is one of the plan's, and with the values of its arguments its functions are its adapters
    pub record IsWiredModule (m : ℕ) (x : StaticModuleIndex × List CoreDef) : Type 0 where
      pub behind : length (handed_in_view ms) ≤ x.0.0
      pub there : x.0.0 < length (handed_in_view ms) + length (filter is_adapter_module ms)
      pub places : list_all (has_places (length x.1)) (records_of x.0.0) ≡ true
      pub values : List (CoreValue Mark)
      pub means : AllZip (Means g) x.1 values
      pub functions : (a : ℕ) (p : AdapterModuleId × EntityIndex) (v : CoreValue Mark) (view : plan.PlanView Mark)
          → slice_get g.adapter_partitionings a ≡ Some p → p.0.0 ≡ m
          → Means g (def.Adapter (record { 0 = a })) v → Has view
          → static_item view 0 values (by_index p.1) (adapter_module (records_of x.0.0)) ≡ Some v

    -- the graph is wired to these modules
    pub record IsWired : Type 0 where
      -- a handed-in module is there, and is given as many arguments as it imports
      pub arguments : (i : ℕ) (m : StaticModuleIndex) (args : List CoreDef)
          → slice_get g.instances i ≡ Some (source.Static m args)
          → (r : ModuleRecord) × (slice_get (handed_in_view ms) m.0 ≡ Some r) × (length args ≡ length r.imports)
      -- what is taken from an instance of it is an item of it
      pub items : (i : ℕ) (m : StaticModuleIndex) (args : List CoreDef) (e : CoreExport EntityIndex) (r : ModuleRecord)
          → slice_get g.instances i ≡ Some (source.Static m args) → Occurs (def.Export e) → e.instance.0 ≡ i
          → slice_get (handed_in_view ms) m.0 ≡ Some r → has_item r (item_view e.item) ≡ true
      -- what stands in a slot of functions is one
      pub functions : (k : plan.SlotKind) (n : ℕ) (d : CoreDef) → OfFunctions k
          → slice_get (slots_of g k) n ≡ Some d → is_function d ≡ true
      pub adapter_modules : (m : ℕ) (x : StaticModuleIndex × List CoreDef) → slice_get g.adapter_modules m ≡ Some x
          → IsWiredModule m x
      -- a module that is exported is there
      pub exports : (n ty : ℕ) (m : StaticModuleIndex) → slice_get g.export_items n ≡ Some (export.ModuleStatic ty m)
          → m.0 < length (handed_in_view ms)
