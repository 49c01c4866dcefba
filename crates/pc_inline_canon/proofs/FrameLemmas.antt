-- A component instance with one item more.
use Rattle.std.proofs.Common.{◌≡◌, List, [], ◌∷◌, ◌++◌, sym, ap, subst, ◌∙◌}
use Rattle.std.specs.List.{AllZip}
use Rattle.pc_types.specs.declared.module_record.ModuleRecord.{ModuleRecord}
use Rattle.pc_types.specs.declared.parsed.CoreKind.{CoreKind}
use Rattle.pc_types.specs.declared.parsed.CoreKind.TheVariants as core
use Rattle.pc_types.specs.declared.parsed.TypeTable.{TypeTable}
use Rattle.pc_types_builder.specs.Plain.{Layers}
use Rattle.pc_types_builder.specs.Converted.{AreConverted}
use Rattle.pc_spec_plan.specs.CoreValue.{CoreValue}
use Rattle.pc_parsed.specs.Mark.{Mark}
use Rattle.pc_spec_reading.specs.Scope as reading
use Rattle.pc_spec_reading.specs.Scope.{Moment, Scope, with_core, with_core_instance, with_value}
use Rattle.pc_spec_reading.specs.Value.{Component, Function, Instance, Module, component_value, func_value, instance_value}
use Rattle.pc_spec_reading.specs.Value.{module_value}
use Rattle.pc_inline_state.specs.declared.definition.CoreId.{CoreId}
use Rattle.pc_inline_state.specs.declared.definition.DefinitionId.{DefinitionId}
use Rattle.pc_inline_state.specs.declared.frame.CoreInstance.{CoreInstance}
use Rattle.pc_inline_state.specs.declared.frame.Frame.{Frame}
use Rattle.pc_inline_state.specs.declared.state.State.{State}
use Rattle.pc_inline_state.specs.Frames.{ComponentStands, CoreInstanceStands, FrameStands, FuncStands, InstanceStands}
use Rattle.pc_inline_state.specs.Frames.{ItemsStand, ModuleStands}
use Rattle.pc_inline_state.specs.Lists.{with_core_id}
use Rattle.pc_inline_state.specs.Points.{PointStands}
use Rattle.pc_inline_state.specs.Stands.{ItemStands}
use Rattle.pc_inline_state.specs.Tables.{Tables, tables_of}
use Rattle.pc_inline_state.specs.Prepares.{Converts}
use Rattle.pc_inline_state.proofs.KnowsLemmas.{knows_in}
use Rattle.pc_inline_state.proofs.StateLemmas.{converts_prepares}
use Rattle.pc_inline_state.proofs.ZipLemmas.{zip_push}
use Rattle.pc_inline_canon.proofs.WorldLemmas.{point_kept}

module _ (ms : List ModuleRecord) (b : Tables) (f : Frame) (s : Scope) (h : FrameStands ms b f s) where
  -- with other core items
  framed : (funcs memories tables globals tags : List CoreId)
      (vfuncs vmemories vtables vglobals vtags : List (CoreValue Mark))
      → ItemsStand ms b core.Func funcs vfuncs → ItemsStand ms b core.Memory memories vmemories
      → ItemsStand ms b core.Table tables vtables → ItemsStand ms b core.Global globals vglobals
      → ItemsStand ms b core.Tag tags vtags
      → FrameStands ms b
      (record f { core_funcs = funcs; memories = memories; tables = tables; globals = globals; tags = tags })
      (record s { core_funcs = vfuncs; memories = vmemories; tables = vtables; globals = vglobals; tags = vtags })
  framed _ _ _ _ _ _ _ _ _ _ funcs memories tables globals tags = record {
    core_funcs = funcs;
    memories = memories;
    tables = tables;
    globals = globals;
    tags = tags;
    modules = h.modules;
    funcs = h.funcs;
    core_instances = h.core_instances;
    instances = h.instances;
    components = h.components;
    arguments = h.arguments;
    component_instance = h.component_instance;
    begun = h.begun;
  }

  -- with one core item more
  pub core_framed : (k : CoreKind) (n : CoreId) (v : CoreValue Mark) → ItemStands ms b k n v
      → FrameStands ms b (with_core_id f k n) (with_core s k v)
  core_framed core.Func n v x =
      framed _ _ _ _ _ _ _ _ _ _ (zip_push _ f.core_funcs s.core_funcs n v h.core_funcs x) h.memories h.tables h.globals
      h.tags
  core_framed core.Table n v x =
      framed _ _ _ _ _ _ _ _ _ _ h.core_funcs h.memories (zip_push _ f.tables s.tables n v h.tables x) h.globals h.tags
  core_framed core.Memory n v x =
      framed _ _ _ _ _ _ _ _ _ _ h.core_funcs (zip_push _ f.memories s.memories n v h.memories x) h.tables h.globals
      h.tags
  core_framed core.Global n v x =
      framed _ _ _ _ _ _ _ _ _ _ h.core_funcs h.memories h.tables (zip_push _ f.globals s.globals n v h.globals x)
      h.tags
  core_framed core.Tag n v x =
      framed _ _ _ _ _ _ _ _ _ _ h.core_funcs h.memories h.tables h.globals (zip_push _ f.tags s.tags n v h.tags x)

  -- with other modules, functions and core instances
  others_framed : (modules funcs : List DefinitionId) (instances : List CoreInstance) (vmodules : List Module)
      (vfuncs : List Function) (vinstances : List reading.CoreInstance) → AllZip (ModuleStands ms b) modules vmodules
      → AllZip (FuncStands ms b) funcs vfuncs → AllZip (CoreInstanceStands ms b) instances vinstances
      → FrameStands ms b (record f { modules = modules; funcs = funcs; core_instances = instances })
      (record s { modules = vmodules; funcs = vfuncs; core_instances = vinstances })
  others_framed _ _ _ _ _ _ modules funcs instances = record {
    core_funcs = h.core_funcs;
    memories = h.memories;
    tables = h.tables;
    globals = h.globals;
    tags = h.tags;
    modules = modules;
    funcs = funcs;
    core_instances = instances;
    instances = h.instances;
    components = h.components;
    arguments = h.arguments;
    component_instance = h.component_instance;
    begun = h.begun;
  }

  -- with one module more
  pub module_framed : (n : DefinitionId) (m : Module) → ModuleStands ms b n m
      → FrameStands ms b (record f { modules = f.modules ++ n ∷ [] }) (with_value s (module_value m))
  module_framed n m x =
      others_framed _ _ _ _ _ _ (zip_push _ f.modules s.modules n m h.modules x) h.funcs h.core_instances

  -- with one function more
  pub func_framed : (n : DefinitionId) (v : Function) → FuncStands ms b n v
      → FrameStands ms b (record f { funcs = f.funcs ++ n ∷ [] }) (with_value s (func_value v))
  func_framed n v x =
      others_framed _ _ _ _ _ _ h.modules (zip_push _ f.funcs s.funcs n v h.funcs x) h.core_instances

  -- with one core instance more
  pub instance_framed : (i : CoreInstance) (x : reading.CoreInstance) → CoreInstanceStands ms b i x
      → FrameStands ms b (record f { core_instances = f.core_instances ++ i ∷ [] }) (with_core_instance s x)
  instance_framed i x y =
      others_framed _ _ _ _ _ _ h.modules h.funcs (zip_push _ f.core_instances s.core_instances i x h.core_instances y)

  -- with other components and component instances
  nested_framed : (components instances : List DefinitionId) (vcomponents : List Component) (vinstances : List Instance)
      → AllZip (ComponentStands ms b) components vcomponents → AllZip (InstanceStands ms b) instances vinstances
      → FrameStands ms b (record f { components = components; instances = instances })
      (record s { components = vcomponents; instances = vinstances })
  nested_framed _ _ _ _ components instances = record {
    core_funcs = h.core_funcs;
    memories = h.memories;
    tables = h.tables;
    globals = h.globals;
    tags = h.tags;
    modules = h.modules;
    funcs = h.funcs;
    core_instances = h.core_instances;
    instances = instances;
    components = components;
    arguments = h.arguments;
    component_instance = h.component_instance;
    begun = h.begun;
  }

  -- with other types converted
  pub converted_framed : (done : Layers) → FrameStands ms b (record f { converted = done }) s
  converted_framed done = record {
    core_funcs = h.core_funcs;
    memories = h.memories;
    tables = h.tables;
    globals = h.globals;
    tags = h.tags;
    modules = h.modules;
    funcs = h.funcs;
    core_instances = h.core_instances;
    instances = h.instances;
    components = h.components;
    arguments = h.arguments;
    component_instance = h.component_instance;
    begun = h.begun;
  }

  -- with one component more
  pub component_framed : (n : DefinitionId) (c : Component) → ComponentStands ms b n c
      → FrameStands ms b (record f { components = f.components ++ n ∷ [] }) (with_value s (component_value c))
  component_framed n c x =
      nested_framed _ _ _ _ (zip_push _ f.components s.components n c h.components x) h.instances

  -- with one component instance more
  pub made_framed : (n : DefinitionId) (i : Instance) → InstanceStands ms b n i
      → FrameStands ms b (record f { instances = f.instances ++ n ∷ [] }) (with_value s (instance_value i))
  made_framed n i x = nested_framed _ _ _ _ h.components (zip_push _ f.instances s.instances n i h.instances x)

-- a moment at which the component instance has other items alone, and knows the same resources
pub framed_point : (t : TypeTable) (ms : List ModuleRecord) (st : State) (f g : Frame) (now : Moment) (u : Scope)
    → PointStands t ms st f now → g.component_instance ≡ f.component_instance → g.converted ≡ f.converted
    → u.known ≡ now.scope.known → FrameStands ms (tables_of st) g u → PointStands t ms st g (record now { scope = u })
framed_point t ms st f g now u at same done known frame = record {
  sound = at.sound;
  here = knows_in st.graph st.types.resources now.scope at.here u known
      (frame.component_instance ∙ ap (λ c. c.0) same ∙ sym at.frame.component_instance);
  converted = subst (AreConverted st.types t) (sym done) at.converted;
  frame = frame;
  world = at.world;
  unexported = at.unexported;
}

-- a point is where it was when types were converted
pub converted_point : (t : TypeTable) (ms : List ModuleRecord) (old : State) (f : Frame) (new : State)
    (done : Layers) → Converts t old f.converted new done → (now : Moment) → PointStands t ms old f now
    → PointStands t ms new (record f { converted = done }) now
converted_point t ms old f new done converts now at =
    let kept = point_kept t ms old new (converts_prepares t ms old f.converted new done converts) f now at in
    record {
      sound = kept.sound;
      here = kept.here;
      converted = converts.converted at.converted;
      frame = converted_framed ms (tables_of new) f now.scope kept.frame done;
      world = kept.world;
      unexported = kept.unexported;
    }
