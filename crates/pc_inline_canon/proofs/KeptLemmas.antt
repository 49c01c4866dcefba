-- What numbers stand for they stand for when the tables have grown.
use Rattle.std.proofs.Common.{◌≡◌, ℕ, List, Option, Some, sym, subst, ◌∙◌, arith}
use Rattle.std.specs.Prelude.{slice_get}
use Rattle.pc_entity.specs.declared.string_pool.Atom.{Atom}
use Rattle.pc_entity.specs.Lists.{value_of}
use Rattle.pc_types.specs.declared.module_record.ModuleRecord.{ModuleRecord}
use Rattle.pc_types.specs.declared.parsed.CoreKind.{CoreKind}
use Rattle.pc_types.specs.declared.parsed.CoreKind.TheVariants as core
use Rattle.pc_types.specs.declared.types.TypeDef.TheVariants as type
use Rattle.pc_types.specs.IntrinsicType.{intrinsic_place}
use Rattle.pc_types.specs.Table.{is_instance, is_module}
use Rattle.pc_types_lists.specs.Types.{Types}
use Rattle.pc_types_lists.specs.Types as builder
use Rattle.pc_dfg.specs.declared.ids.InstanceId.{InstanceId}
use Rattle.pc_numbers.specs.declared.entity_index.EntityIndex.{EntityIndex}
use Rattle.pc_spec_plan.specs.CoreValue as value
use Rattle.pc_spec_plan.specs.CoreValue.{CoreValue, MaybeValue, map_options, map_value}
use Rattle.pc_parsed.specs.Mark.{Mark}
use Rattle.pc_spec_reading.specs.Item.{Lent, a_component, a_module}
use Rattle.pc_spec_reading.specs.Scope as reading
use Rattle.pc_spec_reading.specs.Scope.{CoreItem, Scope}
use Rattle.pc_spec_reading.specs.Value.{Chain, NamedValues, Value, component_value, func_value, instance_value, module_value}
use Rattle.pc_local.specs.Standing.{BodyStands}
use Rattle.pc_dfg.specs.declared.core_def.CoreDef.{CoreDef}
use Rattle.pc_dfg.specs.declared.dfg.ComponentDfg.{ComponentDfg}
use Rattle.pc_dfg.specs.declared.instance.Instance.TheVariants as source
use Rattle.pc_dfg.specs.Grows as graph
use Rattle.pc_dfg.specs.Lists as list
use Rattle.pc_dfg.specs.Means.{Means, MeansOptions}
use Rattle.pc_dfg.proofs.GrowLemmas.{kept, within}
use Rattle.pc_dfg.proofs.KeptLemmas.{means_kept}
use Rattle.pc_dfg.proofs.KeptLemmas.{options_kept as options_means_kept}
use Rattle.pc_dfg.specs.Held.{HasBegun}
use Rattle.pc_inline_names.specs.Named.{Named}
use Rattle.pc_inline_names.specs.Numbers.{IsNumber, SameNamed, numbered_value}
use Rattle.pc_inline_state.specs.declared.definition.CoreId.{CoreId}
use Rattle.pc_inline_state.specs.declared.definition.DataModel.{DataModel}
use Rattle.pc_inline_state.specs.declared.definition.Definition.{Definition}
use Rattle.pc_inline_state.specs.declared.definition.DefinitionId.{DefinitionId}
use Rattle.pc_inline_state.specs.declared.definition.Options.{Options}
use Rattle.pc_inline_state.specs.declared.frame.CoreInstance.{CoreInstance}
use Rattle.pc_inline_state.specs.declared.frame.Frame.{Frame}
use Rattle.pc_inline_state.specs.Frames.{BagItemStands, ComponentStands, CoreInstanceStands, FrameStands, FuncStands}
use Rattle.pc_inline_state.specs.declared.state.Member.{Member}
use Rattle.pc_inline_state.specs.Frames.{InstanceStands, ModuleStands, bag_stands, host_stands, made_stands}
use Rattle.pc_inline_state.specs.Stands.{Captured, CoreStands, DefinitionStands}
use Rattle.pc_inline_state.specs.Stands.{ItemStands, MaybeStands, MembersStand, ModelStands, OptionsStand, Stands}
use Rattle.pc_inline_state.specs.Stands.{and_member, captures_more, captures_none, gc_stands, linear_stands, no_members}
use Rattle.pc_inline_state.specs.Stands.{none_stands, options_stand, some_stands, stands, stands_component, stands_host}
use Rattle.pc_inline_state.specs.Stands.{stands_host_instance, stands_host_module, stands_instance, stands_intrinsic}
use Rattle.pc_inline_state.specs.Stands.{stands_intrinsics, stands_lifted, stands_static, stands_type}
use Rattle.pc_inline_state.specs.Tables.{HasEntity, IsHostInstance, IsItem, Keeps, Tables, is_adapter, is_entity}
use Rattle.pc_inline_state.specs.Tables.{is_intrinsic, is_named, is_trampoline}
use Rattle.pc_inline_state.specs.Fits.{Fits, FitsBefore}
use Rattle.pc_inline_state.specs.Holds.{Numbered, number_of, whole_of}
use Rattle.pc_inline_state.specs.Slots.{EntryStands}
pub use Rattle.pc_inline_state.proofs.TypeKeptLemmas.{host_type_kept, table_tree_kept, type_kept}
use Rattle.pc_inline_canon.proofs.MarkLemmas.{options_twice, still, value_twice}
use Rattle.pc_inline_state.proofs.ZipLemmas.{both_more, zip_more}

-- a definition keeps its value
pub core_kept : (old new : Types) (g h : ComponentDfg) → builder.KeepsTypes old new → graph.Grows g h → FitsBefore g h
    → (d : CoreDef) (v : CoreValue Mark) → CoreStands old g d v → CoreStands new h d v
core_kept old new g h types grows fits d v c =
    let on : Numbered old (Fits g) → Numbered new (Fits h) = still old new types g h fits in
    record {
      numbered = map_value on c.numbered;
      means = subst (Means h d) (sym (value_twice on (number_of new (Fits h)) c.numbered))
          (means_kept g h grows c.means);
      is = value_twice on (whole_of new (Fits h)) c.numbered ∙ c.is;
    }

-- an entry of options keeps its value
pub entry_kept : (b c : Tables) → Keeps b c → (n : ℕ) (v : value.Options Mark) → EntryStands b n v → EntryStands c n v
entry_kept b c keeps n v s =
    let on : Numbered b.types (Fits b.graph) → Numbered c.types (Fits c.graph) =
    still b.types c.types keeps.types b.graph c.graph keeps.fits in
    record {
      numbered = map_options on s.numbered;
      means = subst (MeansOptions c.graph n) (sym (options_twice on (number_of c.types (Fits c.graph)) s.numbered))
          (options_means_kept b.graph c.graph keeps.graph s.means);
      is = options_twice on (whole_of c.types (Fits c.graph)) s.numbered ∙ s.is;
    }

-- a component instance that has begun has
pub begun_kept : (g h : ComponentDfg) → graph.Grows g h → (c : ℕ) → HasBegun g c → HasBegun h c
begun_kept g h grows c begun = omega (arith, begun, grows.component_instances)

-- a core instance of a module of the host is one
pub host_made_kept : (g h : ComponentDfg) → graph.Grows g h → (i : InstanceId) → IsHostInstance g i → IsHostInstance h i
host_made_kept g h grows i x = record {
  import = x.import;
  arguments = x.arguments;
  made = kept g h grows list.instances i.0 (source.Import x.import x.arguments) x.made;
}

module _ (ms : List ModuleRecord) (g h : ComponentDfg) (grows : graph.Grows g h) where
  -- an entity of a core instance is one
  entity_kept : (i : InstanceId) (e : EntityIndex) → HasEntity ms g i e → HasEntity ms h i e
  entity_kept i e x = record {
    core_module = x.core_module;
    arguments = x.arguments;
    module_record = x.module_record;
    made = kept g h grows list.instances i.0 (source.Static x.core_module x.arguments) x.made;
    handed_in = x.handed_in;
    has = x.has;
  }

  -- a core item of a kind is one
  pub is_item_kept : (k : CoreKind) (d : CoreDef) → IsItem ms g k d → IsItem ms h k d
  is_item_kept k d (is_entity {i = i} {e = e} kind x) = is_entity kind (entity_kept i e x)
  is_item_kept k d (is_named {i = i} {name = name} x) = is_named (host_made_kept g h grows i x)
  is_item_kept k d (is_trampoline {t = t} below) = is_trampoline (within g h grows list.trampolines t.0 below)
  is_item_kept k d (is_intrinsic {s = s} {i = i} signed) =
      is_intrinsic (grows.signatures (intrinsic_place i) s signed)
  is_item_kept k d (is_adapter {a = a} below) = is_adapter (within g h grows list.adapters a.0 below)

module _ (ms : List ModuleRecord) (b c : Tables) (keeps : Keeps b c) where
  -- a core item by number
  pub item_kept : (k : CoreKind) (n : CoreId) (v : CoreValue Mark) → ItemStands ms b k n v → ItemStands ms c k n v
  item_kept k n v x = record {
    definition = x.definition;
    held = keeps.cores n.0 x.definition x.held;
    stands = core_kept b.types c.types b.graph c.graph keeps.types keeps.graph keeps.fits x.definition v x.stands;
    usable = is_item_kept ms b.graph c.graph keeps.graph k x.definition x.usable;
  }

  -- one that may be left out
  pub maybe_kept : (k : CoreKind) (n : Option CoreId) (v : MaybeValue Mark) → MaybeStands ms b k n v
      → MaybeStands ms c k n v
  maybe_kept k n v none_stands = none_stands
  maybe_kept k n v (some_stands {n = m} {v = w} x) = some_stands (item_kept k m w x)

  pub model_kept : (m : DataModel) (v : value.DataModel Mark) → ModelStands ms b m v → ModelStands ms c m v
  model_kept m v gc_stands = gc_stands
  model_kept m v (linear_stands {m = n} {r = r} {memory = x} {realloc = y} memory realloc) =
      linear_stands (maybe_kept core.Memory n x memory) (maybe_kept core.Func r y realloc)

  -- options
  pub options_kept : (o : Options) (v : value.Options Mark) → OptionsStand ms b o v → OptionsStand ms c o v
  options_kept o v (options_stand {signature = s} {callback = x} {post_return = y} {where_values_lie = m}
      begun signed callback post_return model) =
      options_stand (begun_kept b.graph c.graph keeps.graph o.instance.0 begun)
      (keeps.types.signatures o.core_type.0 s signed)
      (maybe_kept core.Func o.callback x callback) (maybe_kept core.Func o.post_return y post_return)
      (model_kept o.data_model m model)

  mutual
    -- an entry of the table of definitions
    pub definition_kept : (d : Definition) (v : Value) → DefinitionStands ms b d v → DefinitionStands ms c d v
    definition_kept d v (stands_host {p = p} {ty = ty} {path = path} {tree = tree} held given is_func) =
        stands_host (keeps.paths p.0 path held) (host_type_kept ms b c keeps path tree given)
        (type_kept ms b c keeps (type.ComponentFunc ty) tree is_func)
    definition_kept d v (stands_lifted {ty = ty} {func = f} {o = o} {tree = tree} {v = w} {os = os} is_func func
        options) =
        stands_lifted (type_kept ms b c keeps (type.ComponentFunc ty) tree is_func) (item_kept core.Func f w func)
        (options_kept o os options)
    definition_kept d v stands_intrinsic = stands_intrinsic
    definition_kept d v (stands_static {ty = ty} {tree = tree} handed_in tabled i typed) =
        stands_static handed_in (table_tree_kept ms b c keeps is_module ty tree tabled) i
        (type_kept ms b c keeps (type.Module i) tree typed)
    definition_kept d v (stands_host_module {p = p} {ty = ty} {entry = entry} {path = path} {tree = tree} held given
        tabled typed) =
        stands_host_module (keeps.paths p.0 path held) (host_type_kept ms b c keeps path tree given)
        (table_tree_kept ms b c keeps is_module entry tree tabled) (type_kept ms b c keeps (type.Module ty) tree typed)
    definition_kept d v (stands_component {s = s} {k = k} {tr = tr} {inner = inner} {body = body} {closure = closure}
        {chain = chain} there body_stands leaving held modules components) =
        stands_component (subst (λ bs. slice_get bs s.0 ≡ Some tr) (sym keeps.bodies) there)
        (subst (λ bs. BodyStands bs inner tr body) (sym keeps.bodies) body_stands) leaving
        (keeps.closures k.0 closure held) (captured_kept a_module closure.modules inner.modules chain modules)
        (captured_kept a_component closure.components inner.components chain components)
    definition_kept d v (stands_host_instance {p = p} {ty = ty} {entry = entry} {path = path} {tree = tree} held given
        tabled typed) =
        stands_host_instance (keeps.paths p.0 path held) (host_type_kept ms b c keeps path tree given)
        (table_tree_kept ms b c keeps is_instance entry tree tabled)
        (type_kept ms b c keeps (type.ComponentInstance ty) tree typed)
    definition_kept d v (stands_instance {n = n} {ty = ty} {es = es} {vs = vs} {tree = tree} held members typed) =
        stands_instance (keeps.instances n.0 es held) (members_kept es vs members)
        (type_kept ms b c keeps (type.ComponentInstance ty) tree typed)
    definition_kept d v stands_intrinsics = stands_intrinsics
    definition_kept d v (stands_type {d = e} {tree = tree} typed) = stands_type (type_kept ms b c keeps e tree typed)

    -- a definition by number
    pub stands_kept : (n : DefinitionId) (v : Value) → Stands ms b n v → Stands ms c n v
    stands_kept n v (stands {d = d} held x) = stands (keeps.definitions n.0 d held) (definition_kept d v x)

    -- captured variables
    pub captured_kept : (k : Lent) (ids : List DefinitionId) (names : List (ℕ × ℕ)) (chain : Chain)
        → Captured ms b k ids names chain → Captured ms c k ids names chain
    captured_kept k ids names chain captures_none = captures_none
    captured_kept k ids names chain (captures_more {id = id} {ids = rest} {names = others} {v = v} lent x more) =
        captures_more lent (stands_kept id v x) (captured_kept k rest others chain more)

    -- what an instance exports
    pub members_kept : (es : List (Atom × Member)) (vs : NamedValues) → MembersStand ms b es vs
        → MembersStand ms c es vs
    members_kept es vs no_members = no_members
    members_kept es vs (and_member {name = name} {n = n} {m = m} {v = v} {es = rest} {vs = others} numbered says x
        more) =
        and_member (subst (λ (names : Named). IsNumber names.texts n name.name) (sym keeps.names) numbered) says
        (stands_kept m.item v x) (members_kept rest others more)

  -- what stands under the numbers of names goes on to stand there
  named_kept : {A B : Type 0} (R S : A → B → Type 0) → ((x : A) (y : B) → R x y → S x y) → (xs : List (Atom × A))
      (ys : List (List ℕ × B)) → SameNamed b.names.texts R xs ys → SameNamed c.names.texts S xs ys
  named_kept R S on xs ys same n name is =
      both_more R S on (numbered_value n xs) (value_of name ys)
      (same n name (subst (λ (names : Named). IsNumber names.texts n name) keeps.names is))

  bag_kept : (x : CoreKind × CoreId) (i : CoreItem) → BagItemStands ms b x i → BagItemStands ms c x i
  bag_kept x i h = record { kind = h.kind; item = item_kept x.0 x.1 i.value h.item }

  instance_kept : (x : CoreInstance) (i : reading.CoreInstance) → CoreInstanceStands ms b x i
      → CoreInstanceStands ms c x i
  instance_kept x i (made_stands {i = n} {m = m} {args = args} made) =
      made_stands (kept b.graph c.graph keeps.graph list.instances n.0 (source.Static m args) made)
  instance_kept x i (host_stands {i = n} {entry = entry} {tree = tree} host tabled) =
      host_stands (host_made_kept b.graph c.graph keeps.graph n host)
      (table_tree_kept ms b c keeps is_module entry tree tabled)
  instance_kept x i (bag_stands {xs = xs} {items = items} same) =
      bag_stands (named_kept (BagItemStands ms b) (BagItemStands ms c) bag_kept xs items same)

  -- a component instance
  pub frame_kept : (f : Frame) (s : Scope) → FrameStands ms b f s → FrameStands ms c f s
  frame_kept f s h = record {
    core_funcs = zip_more (ItemStands ms b core.Func) (ItemStands ms c core.Func) (item_kept core.Func) f.core_funcs
        s.core_funcs h.core_funcs;
    memories = zip_more (ItemStands ms b core.Memory) (ItemStands ms c core.Memory) (item_kept core.Memory) f.memories
        s.memories h.memories;
    tables = zip_more (ItemStands ms b core.Table) (ItemStands ms c core.Table) (item_kept core.Table) f.tables
        s.tables h.tables;
    globals = zip_more (ItemStands ms b core.Global) (ItemStands ms c core.Global) (item_kept core.Global) f.globals
        s.globals h.globals;
    tags = zip_more (ItemStands ms b core.Tag) (ItemStands ms c core.Tag) (item_kept core.Tag) f.tags s.tags h.tags;
    modules = zip_more (ModuleStands ms b) (ModuleStands ms c) (λ n m. stands_kept n (module_value m)) f.modules
        s.modules h.modules;
    funcs = zip_more (FuncStands ms b) (FuncStands ms c) (λ n x. stands_kept n (func_value x)) f.funcs s.funcs h.funcs;
    core_instances = zip_more (CoreInstanceStands ms b) (CoreInstanceStands ms c) instance_kept f.core_instances
        s.core_instances h.core_instances;
    instances = zip_more (InstanceStands ms b) (InstanceStands ms c) (λ n i. stands_kept n (instance_value i))
        f.instances
        s.instances h.instances;
    components = zip_more (ComponentStands ms b) (ComponentStands ms c) (λ n x. stands_kept n (component_value x))
        f.components s.components h.components;
    arguments = named_kept (Stands ms b) (Stands ms c) stands_kept f.arguments s.arguments h.arguments;
    component_instance = h.component_instance;
    begun = begun_kept b.graph c.graph keeps.graph f.component_instance.0 h.begun;
  }
