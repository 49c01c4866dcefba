-- Component instances while their items are read, against the scopes of the reading.
use Rattle.std.specs.Prelude.{◌≡◌, ℕ, List, Some, slice_get}
use Rattle.std.specs.List.{AllZip}
use Rattle.pc_entity.specs.declared.string_pool.Atom.{Atom}
use Rattle.pc_dfg.specs.declared.ids.InstanceId.{InstanceId}
use Rattle.pc_numbers.specs.declared.component_entity.StaticModuleIndex.{StaticModuleIndex}
use Rattle.pc_types.specs.declared.module_record.ModuleRecord.{ModuleRecord}
use Rattle.pc_types.specs.declared.parsed.CoreKind.{CoreKind}
use Rattle.pc_types.specs.declared.parsed.CoreKind.TheVariants as core
use Rattle.pc_types.specs.Table.{is_module}
use Rattle.pc_types.specs.TypeTree.{TypeTree}
use Rattle.pc_spec_plan.specs.CoreValue.{CoreValue}
use Rattle.pc_parsed.specs.Mark.{Mark}
use Rattle.pc_spec_reading.specs.Scope as reading
use Rattle.pc_spec_reading.specs.Scope.{CoreItem, Scope}
use Rattle.pc_spec_reading.specs.Value.{Component, Function, Instance, Module, component_value, func_value, instance_value}
use Rattle.pc_spec_reading.specs.Value.{module_value}
use Rattle.pc_dfg.specs.declared.core_def.CoreDef.{CoreDef}
use Rattle.pc_dfg.specs.declared.instance.Instance.TheVariants as source
use Rattle.pc_dfg.specs.Held.{HasBegun}
pub use Rattle.pc_inline_names.specs.Both.{Both, both, neither}
use Rattle.pc_inline_names.specs.Numbers.{SameNamed}
use Rattle.pc_inline_state.specs.declared.definition.CoreId.{CoreId}
use Rattle.pc_inline_state.specs.declared.definition.DefinitionId.{DefinitionId}
use Rattle.pc_inline_state.specs.declared.frame.CoreInstance.{CoreInstance}
use Rattle.pc_inline_state.specs.declared.frame.CoreInstance.TheVariants as instance
use Rattle.pc_inline_state.specs.declared.frame.Frame.{Frame}
use Rattle.pc_inline_state.specs.Stands.{IsTableTree, ItemStands, Stands}
use Rattle.pc_inline_state.specs.Tables.{IsHostInstance, Tables}

module _ (ms : List ModuleRecord) (b : Tables) where
  -- core items by number, of a kind
  abbrev pub ItemsStand : CoreKind → List CoreId → List (CoreValue Mark) → Type 0
  ItemsStand k ns vs = AllZip (ItemStands ms b k) ns vs

  -- an item of a bag
  pub record BagItemStands (x : CoreKind × CoreId) (i : CoreItem) : Type 0 where
    pub kind : i.kind ≡ x.0
    pub item : ItemStands ms b x.0 x.1 i.value

  -- a core instance
  pub data CoreInstanceStands : CoreInstance → reading.CoreInstance → Type 0 where
    made_stands : {i : InstanceId} {m : StaticModuleIndex} {args : List CoreDef}
        → slice_get b.graph.instances i.0 ≡ Some (source.Static m args)
        → CoreInstanceStands (instance.Made i m) (reading.of_module i.0 m.0)
    host_stands : {i : InstanceId} {entry : ℕ} {tree : TypeTree} → IsHostInstance b.graph i
        → IsTableTree ms b is_module entry tree → CoreInstanceStands (instance.Host i entry) (reading.of_host_module i.0 tree)
    bag_stands : {xs : List (Atom × (CoreKind × CoreId))} {items : List (List ℕ × CoreItem)}
        → SameNamed b.names.texts BagItemStands xs items → CoreInstanceStands (instance.Bag xs) (reading.bag items)

  -- a function, by number
  abbrev pub FuncStands : DefinitionId → Function → Type 0
  FuncStands n f = Stands ms b n (func_value f)

  -- the same of a module
  abbrev pub ModuleStands : DefinitionId → Module → Type 0
  ModuleStands n m = Stands ms b n (module_value m)

  -- of a component
  abbrev pub ComponentStands : DefinitionId → Component → Type 0
  ComponentStands n c = Stands ms b n (component_value c)

  -- and of a component instance
  abbrev pub InstanceStands : DefinitionId → Instance → Type 0
  InstanceStands n i = Stands ms b n (instance_value i)

  -- a component instance
  pub record FrameStands (f : Frame) (s : Scope) : Type 0 where
    pub core_funcs : ItemsStand core.Func f.core_funcs s.core_funcs
    pub memories : ItemsStand core.Memory f.memories s.memories
    pub tables : ItemsStand core.Table f.tables s.tables
    pub globals : ItemsStand core.Global f.globals s.globals
    pub tags : ItemsStand core.Tag f.tags s.tags
    pub modules : AllZip ModuleStands f.modules s.modules
    pub funcs : AllZip FuncStands f.funcs s.funcs
    pub core_instances : AllZip CoreInstanceStands f.core_instances s.core_instances
    pub instances : AllZip InstanceStands f.instances s.instances
    pub components : AllZip ComponentStands f.components s.components
    pub arguments : SameNamed b.names.texts (Stands ms b) f.arguments s.arguments
    pub component_instance : s.component_instance ≡ f.component_instance.0
    pub begun : HasBegun b.graph f.component_instance.0
