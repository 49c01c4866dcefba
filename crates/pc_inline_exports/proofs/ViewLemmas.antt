-- What is exported, by the definition that it is: its node in the reading.
use Rattle.std.proofs.Common.{◌≡◌, ◌<◌, ℕ, true, List, length, Option, None, Some, refl, ap, subst, ◌∙◌}
use Rattle.std.specs.Prelude.{slice_get, option_and_then}
use Rattle.std.proofs.lemmas.Option.{none-some, same_Some}
use Rattle.pc_numbers.specs.declared.component_entity.StaticModuleIndex.{StaticModuleIndex}
use Rattle.pc_types.specs.declared.error.Unsupported.{Unsupported}
use Rattle.pc_types.specs.declared.error.Unsupported.TheVariants.{ExportedComponent, ReexportedIntrinsic}
use Rattle.pc_types.specs.declared.error.Unsupported.TheVariants.{ReexportedIntrinsics}
use Rattle.pc_types.specs.declared.module_record.ModuleRecord.{ModuleRecord}
use Rattle.pc_types.specs.declared.parsed.CoreKind.TheVariants as core
use Rattle.pc_types.specs.declared.type_index.TypeFuncIndex.{TypeFuncIndex}
use Rattle.pc_types.specs.declared.type_index.TypeModuleIndex.{TypeModuleIndex}
use Rattle.pc_types.specs.declared.types.ComponentExtern.{ComponentExtern}
use Rattle.pc_types.specs.declared.types.TypeDef.{TypeDef}
use Rattle.pc_types.specs.declared.types.TypeDef.TheVariants as type
use Rattle.pc_types.specs.Table.{is_module}
use Rattle.pc_types.specs.TypeTree as tree
use Rattle.pc_types.specs.TypeTree.{Path, TypeTree, func_of, instance_of, module_of}
use Rattle.pc_types_convert.proofs.OneTree.{one_tree}
use Rattle.pc_spec_plan.specs.CoreValue as value
use Rattle.pc_spec_plan.specs.CoreValue.{CoreValue}
use Rattle.pc_spec_plan.specs.ExportNode as node
use Rattle.pc_parsed.specs.Mark.{Mark, of_type}
use Rattle.pc_spec_reading.specs.HostTypes.{tree_along, type_at}
use Rattle.pc_spec_reading.specs.Nodes.{host_function_node, host_module_node, host_node, leaf, refused}
use Rattle.pc_spec_reading.specs.Nodes.{instance_value_node, value_node}
use Rattle.pc_spec_reading.specs.Outcome.{unsupported}
use Rattle.pc_spec_reading.specs.Value.{Value}
use Rattle.pc_spec_reading.specs.World.{HostImport, World}
use Rattle.pc_inline_paths.specs.declared.path_id.PathId.{PathId}
use Rattle.pc_inline_state.specs.declared.definition.CoreId.{CoreId}
use Rattle.pc_inline_state.specs.declared.definition.Definition.{Definition}
use Rattle.pc_inline_state.specs.declared.definition.Definition.TheVariants as definition
use Rattle.pc_inline_state.specs.declared.definition.Options.{Options}
use Rattle.pc_inline_state.specs.declared.state.State.{State}
use Rattle.pc_inline_state.specs.Holds.{Holds}
use Rattle.pc_inline_state.specs.Stands.{DefinitionStands, IsFunc, IsHostType, IsTableTree, IsType, ItemStands}
use Rattle.pc_inline_state.specs.Stands.{OptionsStand}
use Rattle.pc_inline_state.specs.Stands.{stands_component, stands_host, stands_host_instance, stands_host_module}
use Rattle.pc_inline_state.specs.Stands.{stands_instance, stands_intrinsic, stands_intrinsics, stands_lifted}
use Rattle.pc_inline_state.specs.Stands.{stands_static, stands_type}
use Rattle.pc_inline_state.specs.Tables.{tables_of}
use Rattle.pc_inline_state.specs.Worlds.{ImportStands, WorldStands}
use Rattle.pc_inline_state.proofs.FitsLemmas.{who_fits, who_of}
use Rattle.pc_inline_state.proofs.ZipLemmas.{both_there, zip_at}
use Rattle.pc_inline_hosts.specs.declared.member.HostMember.{HostMember}
use Rattle.pc_inline_hosts.specs.HostMembers.{definition_at}
use Rattle.pc_inline_hosts.specs.HostStands.{HostMemberStands, component_member, func_member, instance_member}
use Rattle.pc_inline_hosts.specs.HostStands.{is_type_tree}
use Rattle.pc_inline_hosts.specs.HostStands.{module_member, type_member}
use Rattle.pc_inline_exports.specs.Reaching.{SubjectStands, stands_at, stands_value}
use Rattle.pc_inline_exports.specs.Subjects.{Subject, a_value, of_host, subject_node}

-- why a definition can't be exported, if it can't
abbrev pub refusal_of : Definition → Option Unsupported
refusal_of (definition.Component s k) = Some ExportedComponent
refusal_of (definition.IntrinsicFunc i) = Some ReexportedIntrinsic
refusal_of definition.Intrinsics = Some ReexportedIntrinsics
refusal_of d = None

-- what the host has at a path, where its type is none of a function, an instance, a component or a module
host_type : (p : Path) (t : TypeTree) → is_type_tree t ≡ true → (w : World)
    → host_node p t w ≡ leaf (node.type_node (of_type t)) w
unfolding host_node
host_type p (tree.func_of a b c) is w = absurd (let no : ⊥ = cc in no)
host_type p (tree.instance_of a) is w = absurd (let no : ⊥ = cc in no)
host_type p (tree.component_of a b) is w = absurd (let no : ⊥ = cc in no)
host_type p (tree.module_of a b) is w = absurd (let no : ⊥ = cc in no)
host_type p (tree.primitive a) is w = refl
host_type p (tree.error_context a) is w = refl
host_type p (tree.record_of a) is w = refl
host_type p (tree.variant_of a) is w = refl
host_type p (tree.list_of a) is w = refl
host_type p (tree.tuple_of a) is w = refl
host_type p (tree.flags_of a) is w = refl
host_type p (tree.enum_of a) is w = refl
host_type p (tree.option_of a) is w = refl
host_type p (tree.result_of a b) is w = refl
host_type p (tree.own_of a) is w = refl
host_type p (tree.borrow_of a) is w = refl
host_type p (tree.stream_of a b) is w = refl
host_type p (tree.future_of a b) is w = refl
host_type p (tree.resource_of a) is w = refl

module _ (ms : List ModuleRecord) (st : State) where
  import_typed : (i : List ℕ × ComponentExtern) (h : HostImport) → ImportStands st.types st.graph i h
      → (whole : TypeTree) → IsType ms (tables_of st) i.1.ty whole → h.import_type ≡ whole
  unfolding Holds
  import_typed i h s whole is =
      let who = who_of st.graph in
      let fits = who_fits st.graph in
      one_tree st.types who i.1.ty h.import_type whole (s.typed who fits) (is who fits)

  -- the type of what the host gives at a path is the one that the reading finds there
  pub type_given : (w : World) → WorldStands st.types st.graph w → (path : Path) (t : TypeTree)
      → IsHostType ms (tables_of st) path t → type_at w.imports path ≡ Some t
  unfolding type_at
  type_given w world path t given =
      let found = both_there (ImportStands st.types st.graph) (slice_get st.graph.import_types path.import)
      (slice_get w.imports path.import) given.import
      (zip_at (ImportStands st.types st.graph) st.graph.import_types w.imports path.import world.import_types)
      given.there in
      ap (λ (o : Option HostImport). option_and_then (λ (i : HostImport). tree_along path.names i.import_type) o) found.1
      ∙ ap (tree_along path.names) (import_typed given.import found.0 found.2 given.whole given.typed) ∙ given.along

  -- a function of the host
  pub record FuncView (p : PathId) (ty : TypeFuncIndex) (x : Subject) : Type 0 where
    pub path : Path
    pub tree : TypeTree
    pub held : slice_get st.paths.held p.0 ≡ Some path
    pub typed : IsFunc ms (tables_of st) ty tree
    pub reads : (w : World) → WorldStands st.types st.graph w
        → subject_node x w ≡ host_function_node path (Some tree) w

  -- a module of the host
  pub record ModuleView (p : PathId) (ty : TypeModuleIndex) (entry : ℕ) (x : Subject) : Type 0 where
    pub path : Path
    pub tree : TypeTree
    pub held : slice_get st.paths.held p.0 ≡ Some path
    pub typed : IsType ms (tables_of st) (type.Module ty) tree
    pub reads : (w : World) → subject_node x w ≡ host_module_node path tree w

  -- a module that was handed in
  pub record StaticView (m : StaticModuleIndex) (ty : ℕ) (x : Subject) : Type 0 where
    pub tree : TypeTree
    pub number : TypeModuleIndex
    pub handed_in : m.0 < length ms
    pub tabled : IsTableTree ms (tables_of st) is_module ty tree
    pub typed : IsType ms (tables_of st) (type.Module number) tree
    pub reads : (w : World) → subject_node x w ≡ leaf (node.static_module m.0 (of_type tree)) w

  -- a function that was lifted
  pub record LiftedView (ty : TypeFuncIndex) (func : CoreId) (opts : Options) (x : Subject) : Type 0 where
    pub tree : TypeTree
    pub callee : CoreValue Mark
    pub options : value.Options Mark
    pub typed : IsFunc ms (tables_of st) ty tree
    pub item : ItemStands ms (tables_of st) core.Func func callee
    pub stand : OptionsStand ms (tables_of st) opts options
    pub reads : (w : World) → subject_node x w ≡ leaf (node.lifted (of_type tree) callee options) w

  -- a type
  pub record TypeView (d : TypeDef) (x : Subject) : Type 0 where
    pub tree : TypeTree
    pub typed : IsType ms (tables_of st) d tree
    pub reads : (w : World) → subject_node x w ≡ leaf (node.type_node (of_type tree)) w

  -- a function of the host
  func_value : (p : PathId) (ty : TypeFuncIndex) (d : Definition) (v : Value)
      → DefinitionStands ms (tables_of st) d v → d ≡ definition.HostFunc p ty
      → FuncView p ty (a_value v)
  unfolding value_node host_node
  func_value p ty d v (stands_host {p = q} {ty = u} {path = path} {tree = tree} held given typed) same =
      let one : q ≡ p = cc in
      let two : u ≡ ty = cc in
      record {
        path = path;
        tree = tree;
        held = subst (λ (k : PathId). slice_get st.paths.held k.0 ≡ Some path) one held;
        typed = subst (λ k. IsFunc ms (tables_of st) k tree) two typed;
        reads = λ w world. ap (λ o. host_function_node path o w) (type_given w world path tree given);
      }
  func_value p ty d v (stands_lifted typed func options) same = absurd (let no : ⊥ = cc in no)
  func_value p ty d v (stands_static handed_in tabled i typed) same = absurd (let no : ⊥ = cc in no)
  func_value p ty d v (stands_host_module held given tabled typed) same = absurd (let no : ⊥ = cc in no)
  func_value p ty d v stands_intrinsic same = absurd (let no : ⊥ = cc in no)
  func_value p ty d v stands_intrinsics same = absurd (let no : ⊥ = cc in no)
  func_value p ty d v (stands_component there body leaving held modules components) same =
      absurd (let no : ⊥ = cc in no)
  func_value p ty d v (stands_host_instance held given tabled typed) same = absurd (let no : ⊥ = cc in no)
  func_value p ty d v (stands_instance held members typed) same = absurd (let no : ⊥ = cc in no)
  func_value p ty d v (stands_type typed) same = absurd (let no : ⊥ = cc in no)

  func_there : (q : PathId) (ty : TypeFuncIndex) (p : PathId) (path : Path) (m : HostMember) (tree : TypeTree)
      → slice_get st.paths.held p.0 ≡ Some path → HostMemberStands ms (tables_of st) m tree
      → definition_at p m ≡ Some (definition.HostFunc q ty) → FuncView q ty (of_host path tree)
  unfolding value_node host_node
  func_there q ty p path m tree held (func_member {ty = u} {params = ps} {result = res} {is_async = a} typed) at =
      let one : p ≡ q = cc in
      let two : u ≡ ty = cc in
      record {
        path = path;
        tree = func_of ps res a;
        held = subst (λ (k : PathId). slice_get st.paths.held k.0 ≡ Some path) one held;
        typed = subst (λ k. IsFunc ms (tables_of st) k (func_of ps res a)) two typed;
        reads = λ w world. refl;
      }
  func_there q ty p path m tree held (instance_member both) at = absurd (let no : ⊥ = cc in no)
  func_there q ty p path m tree held (module_member typed tabled) at = absurd (let no : ⊥ = cc in no)
  func_there q ty p path m tree held (component_member) at = absurd (let no : ⊥ = cc in no)
  func_there q ty p path m tree held (type_member kind typed) at = absurd (let no : ⊥ = cc in no)

  pub func_view : (p : PathId) (ty : TypeFuncIndex) (x : Subject)
      → SubjectStands ms (tables_of st) (definition.HostFunc p ty) x → FuncView p ty x
  func_view p ty x (stands_value {v = v} is) = func_value p ty (definition.HostFunc p ty) v is refl
  func_view p ty x (stands_at {path = path} {tree = tree} q m held is at) =
      func_there p ty q path m tree held is at

  -- a module of the host
  module_value : (p : PathId) (ty : TypeModuleIndex) (entry : ℕ) (d : Definition) (v : Value)
      → DefinitionStands ms (tables_of st) d v → d ≡ definition.HostModule p ty entry
      → ModuleView p ty entry (a_value v)
  unfolding value_node host_node
  module_value p ty entry d v (stands_host held given typed) same = absurd (let no : ⊥ = cc in no)
  module_value p ty entry d v (stands_lifted typed func options) same = absurd (let no : ⊥ = cc in no)
  module_value p ty entry d v (stands_static handed_in tabled i typed) same = absurd (let no : ⊥ = cc in no)
  module_value p ty entry d v (stands_host_module {p =
      q} {ty = u} {entry = n} {path = path} {tree = tree} held given tabled typed) same =
      let one : q ≡ p = cc in
      let two : u ≡ ty = cc in
      record {
        path = path;
        tree = tree;
        held = subst (λ (k : PathId). slice_get st.paths.held k.0 ≡ Some path) one held;
        typed = subst (λ k. IsType ms (tables_of st) (type.Module k) tree) two typed;
        reads = λ w. refl;
      }
  module_value p ty entry d v stands_intrinsic same = absurd (let no : ⊥ = cc in no)
  module_value p ty entry d v stands_intrinsics same = absurd (let no : ⊥ = cc in no)
  module_value p ty entry d v (stands_component there body leaving held modules components) same =
      absurd (let no : ⊥ = cc in no)
  module_value p ty entry d v (stands_host_instance held given tabled typed) same = absurd (let no : ⊥ = cc in no)
  module_value p ty entry d v (stands_instance held members typed) same = absurd (let no : ⊥ = cc in no)
  module_value p ty entry d v (stands_type typed) same = absurd (let no : ⊥ = cc in no)

  module_there : (q : PathId) (ty : TypeModuleIndex) (entry : ℕ) (p : PathId) (path : Path) (m : HostMember)
      (tree : TypeTree)
      → slice_get st.paths.held p.0 ≡ Some path → HostMemberStands ms (tables_of st) m tree
      → definition_at p m ≡ Some (definition.HostModule q ty entry) → ModuleView q ty entry (of_host path tree)
  unfolding value_node host_node
  module_there q ty entry p path m tree held (func_member typed) at = absurd (let no : ⊥ = cc in no)
  module_there q ty entry p path m tree held (instance_member both) at = absurd (let no : ⊥ = cc in no)
  module_there q ty entry p path m tree held (module_member {ty =
      u} {entry = n} {imports = is} {exports = es} typed tabled) at =
      let one : p ≡ q = cc in
      let two : u ≡ ty = cc in
      record {
        path = path;
        tree = module_of is es;
        held = subst (λ (k : PathId). slice_get st.paths.held k.0 ≡ Some path) one held;
        typed = subst (λ k. IsType ms (tables_of st) (type.Module k) (module_of is es)) two typed;
        reads = λ w. refl;
      }
  module_there q ty entry p path m tree held (component_member) at = absurd (let no : ⊥ = cc in no)
  module_there q ty entry p path m tree held (type_member kind typed) at = absurd (let no : ⊥ = cc in no)

  pub module_view : (p : PathId) (ty : TypeModuleIndex) (entry : ℕ) (x : Subject)
      → SubjectStands ms (tables_of st) (definition.HostModule p ty entry) x → ModuleView p ty entry x
  module_view p ty entry x (stands_value {v =
      v} is) = module_value p ty entry (definition.HostModule p ty entry) v is refl
  module_view p ty entry x (stands_at {path = path} {tree = tree} q m held is at) =
      module_there p ty entry q path m tree held is at

  -- a module that was handed in
  static_value : (m : StaticModuleIndex) (ty : ℕ) (d : Definition) (v : Value)
      → DefinitionStands ms (tables_of st) d v → d ≡ definition.StaticModule m ty
      → StaticView m ty (a_value v)
  unfolding value_node
  static_value m ty d v (stands_host held given typed) same = absurd (let no : ⊥ = cc in no)
  static_value m ty d v (stands_lifted typed func options) same = absurd (let no : ⊥ = cc in no)
  static_value m ty d v (stands_static {m = n} {ty = u} {tree = tree} handed_in tabled i typed) same =
      let one : n ≡ m = cc in
      let two : u ≡ ty = cc in
      record {
        tree = tree;
        number = i;
        handed_in = subst (λ (k : StaticModuleIndex). k.0 < length ms) one handed_in;
        tabled = subst (λ k. IsTableTree ms (tables_of st) is_module k tree) two tabled;
        typed = typed;
        reads = λ w. ap (λ (k : StaticModuleIndex). leaf (node.static_module k.0 (of_type tree)) w) one;
      }
  static_value m ty d v (stands_host_module held given tabled typed) same = absurd (let no : ⊥ = cc in no)
  static_value m ty d v stands_intrinsic same = absurd (let no : ⊥ = cc in no)
  static_value m ty d v stands_intrinsics same = absurd (let no : ⊥ = cc in no)
  static_value m ty d v (stands_component there body leaving held modules components) same =
      absurd (let no : ⊥ = cc in no)
  static_value m ty d v (stands_host_instance held given tabled typed) same = absurd (let no : ⊥ = cc in no)
  static_value m ty d v (stands_instance held members typed) same = absurd (let no : ⊥ = cc in no)
  static_value m ty d v (stands_type typed) same = absurd (let no : ⊥ = cc in no)

  static_there : (k : StaticModuleIndex) (ty : ℕ) (p : PathId) (path : Path) (m : HostMember) (tree : TypeTree)
      → slice_get st.paths.held p.0 ≡ Some path → HostMemberStands ms (tables_of st) m tree
      → definition_at p m ≡ Some (definition.StaticModule k ty) → StaticView k ty (of_host path tree)
  unfolding value_node
  static_there k ty p path m tree held (func_member typed) at = absurd (let no : ⊥ = cc in no)
  static_there k ty p path m tree held (instance_member both) at = absurd (let no : ⊥ = cc in no)
  static_there k ty p path m tree held (module_member typed tabled) at = absurd (let no : ⊥ = cc in no)
  static_there k ty p path m tree held (component_member) at = absurd (let no : ⊥ = cc in no)
  static_there k ty p path m tree held (type_member kind typed) at = absurd (let no : ⊥ = cc in no)

  pub static_view : (m : StaticModuleIndex) (ty : ℕ) (x : Subject)
      → SubjectStands ms (tables_of st) (definition.StaticModule m ty) x → StaticView m ty x
  static_view m ty x (stands_value {v = v} is) = static_value m ty (definition.StaticModule m ty) v is refl
  static_view m ty x (stands_at {path = path} {tree = tree} q k held is at) =
      static_there m ty q path k tree held is at

  -- a function that was lifted
  lifted_value : (ty : TypeFuncIndex) (func : CoreId) (opts : Options) (d : Definition) (v : Value)
      → DefinitionStands ms (tables_of st) d v → d ≡ definition.LiftedFunc ty func opts
      → LiftedView ty func opts (a_value v)
  unfolding value_node
  lifted_value ty func opts d v (stands_host held given typed) same = absurd (let no : ⊥ = cc in no)
  lifted_value ty func opts d v (stands_lifted {ty =
      u} {func = fn} {o = o} {tree = tree} {v = callee} {os = os} typed item options) same =
      let one : u ≡ ty = cc in
      let two : fn ≡ func = cc in
      let three : o ≡ opts = cc in
      record {
        tree = tree;
        callee = callee;
        options = os;
        typed = subst (λ k. IsFunc ms (tables_of st) k tree) one typed;
        item = subst (λ k. ItemStands ms (tables_of st) core.Func k callee) two item;
        stand = subst (λ k. OptionsStand ms (tables_of st) k os) three options;
        reads = λ w. refl;
      }
  lifted_value ty func opts d v (stands_static handed_in tabled i typed) same = absurd (let no : ⊥ = cc in no)
  lifted_value ty func opts d v (stands_host_module held given tabled typed) same = absurd (let no : ⊥ = cc in no)
  lifted_value ty func opts d v stands_intrinsic same = absurd (let no : ⊥ = cc in no)
  lifted_value ty func opts d v stands_intrinsics same = absurd (let no : ⊥ = cc in no)
  lifted_value ty func opts d v (stands_component there body leaving held modules components) same =
      absurd (let no : ⊥ = cc in no)
  lifted_value ty func opts d v (stands_host_instance held given tabled typed) same = absurd (let no : ⊥ = cc in no)
  lifted_value ty func opts d v (stands_instance held members typed) same = absurd (let no : ⊥ = cc in no)
  lifted_value ty func opts d v (stands_type typed) same = absurd (let no : ⊥ = cc in no)

  lifted_there : (ty : TypeFuncIndex) (func : CoreId) (opts : Options) (p : PathId) (path : Path) (m : HostMember)
      (tree : TypeTree)
      → slice_get st.paths.held p.0 ≡ Some path → HostMemberStands ms (tables_of st) m tree
      → definition_at p m ≡ Some (definition.LiftedFunc ty func opts) → LiftedView ty func opts (of_host path tree)
  unfolding value_node
  lifted_there ty func opts p path m tree held (func_member typed) at = absurd (let no : ⊥ = cc in no)
  lifted_there ty func opts p path m tree held (instance_member both) at = absurd (let no : ⊥ = cc in no)
  lifted_there ty func opts p path m tree held (module_member typed tabled) at = absurd (let no : ⊥ = cc in no)
  lifted_there ty func opts p path m tree held (component_member) at = absurd (let no : ⊥ = cc in no)
  lifted_there ty func opts p path m tree held (type_member kind typed) at = absurd (let no : ⊥ = cc in no)

  pub lifted_view : (ty : TypeFuncIndex) (func : CoreId) (opts : Options) (x : Subject)
      → SubjectStands ms (tables_of st) (definition.LiftedFunc ty func opts) x → LiftedView ty func opts x
  lifted_view ty func opts x (stands_value {v =
      v} is) = lifted_value ty func opts (definition.LiftedFunc ty func opts) v is refl
  lifted_view ty func opts x (stands_at {path = path} {tree = tree} q m held is at) =
      lifted_there ty func opts q path m tree held is at

  -- a type
  type_is : (d : TypeDef) (f : Definition) (v : Value) → DefinitionStands ms (tables_of st) f v → f ≡ definition.Type_ d
      → TypeView d (a_value v)
  unfolding value_node
  type_is d f v (stands_host held given typed) same = absurd (let no : ⊥ = cc in no)
  type_is d f v (stands_lifted typed func options) same = absurd (let no : ⊥ = cc in no)
  type_is d f v (stands_static handed_in tabled i typed) same = absurd (let no : ⊥ = cc in no)
  type_is d f v (stands_host_module held given tabled typed) same = absurd (let no : ⊥ = cc in no)
  type_is d f v stands_intrinsic same = absurd (let no : ⊥ = cc in no)
  type_is d f v stands_intrinsics same = absurd (let no : ⊥ = cc in no)
  type_is d f v (stands_component there body leaving held modules components) same = absurd (let no : ⊥ = cc in no)
  type_is d f v (stands_host_instance held given tabled typed) same = absurd (let no : ⊥ = cc in no)
  type_is d f v (stands_instance held members typed) same = absurd (let no : ⊥ = cc in no)
  type_is d f v (stands_type {d = e} {tree = tree} typed) same =
      let one : e ≡ d = cc in
      record {
        tree = tree;
        typed = subst (λ k. IsType ms (tables_of st) k tree) one typed;
        reads = λ w. refl;
      }

  type_there : (d : TypeDef) (p : PathId) (path : Path) (m : HostMember) (tree : TypeTree)
      → slice_get st.paths.held p.0 ≡ Some path → HostMemberStands ms (tables_of st) m tree
      → definition_at p m ≡ Some (definition.Type_ d) → TypeView d (of_host path tree)
  unfolding value_node
  type_there d p path m tree held (func_member typed) at = absurd (let no : ⊥ = cc in no)
  type_there d p path m tree held (instance_member both) at = absurd (let no : ⊥ = cc in no)
  type_there d p path m tree held (module_member typed tabled) at = absurd (let no : ⊥ = cc in no)
  type_there d p path m tree held (component_member) at = absurd (let no : ⊥ = cc in no)
  type_there d p path m tree held (type_member {d = e} kind typed) at =
      let one : e ≡ d = cc in
      record {
        tree = tree;
        typed = subst (λ k. IsType ms (tables_of st) k tree) one typed;
        reads = λ w. host_type path tree kind w;
      }

  pub type_view : (d : TypeDef) (x : Subject) → SubjectStands ms (tables_of st) (definition.Type_ d) x → TypeView d x
  type_view d x (stands_value {v = v} is) = type_is d (definition.Type_ d) v is refl
  type_view d x (stands_at {path = path} {tree = tree} q m held is at) =
      type_there d q path m tree held is at

  -- what is refused
  refused_is : (d : Definition) (v : Value) → DefinitionStands ms (tables_of st) d v → (u : Unsupported)
      → refusal_of d ≡ Some u → (w : World) → value_node v w ≡ refused (unsupported u)
  unfolding value_node instance_value_node
  refused_is d v (stands_host held given typed) u same w = absurd (none-some u same)
  refused_is d v (stands_lifted typed func options) u same w = absurd (none-some u same)
  refused_is d v stands_intrinsic u same w = ap (λ x. refused (unsupported x)) (same_Some _ u same)
  refused_is d v (stands_static handed_in tabled i typed) u same w = absurd (none-some u same)
  refused_is d v (stands_host_module held given tabled typed) u same w = absurd (none-some u same)
  refused_is d v (stands_component there body leaving held modules components) u same w =
      ap (λ x. refused (unsupported x)) (same_Some _ u same)
  refused_is d v (stands_host_instance held given tabled typed) u same w = absurd (none-some u same)
  refused_is d v (stands_instance held members typed) u same w = absurd (none-some u same)
  refused_is d v stands_intrinsics u same w = ap (λ x. refused (unsupported x)) (same_Some _ u same)
  refused_is d v (stands_type typed) u same w = absurd (none-some u same)

  -- the host has nothing that is refused as a definition
  none_there : (d : Definition) (p : PathId) (m : HostMember) (tree : TypeTree)
      → HostMemberStands ms (tables_of st) m tree → definition_at p m ≡ Some d → (u : Unsupported)
      → refusal_of d ≡ Some u → ⊥
  none_there d p m tree (func_member typed) at u same =
      none-some u (ap refusal_of (same_Some _ d at) ∙ same)
  none_there d p m tree (instance_member both) at u same =
      none-some u (ap refusal_of (same_Some _ d at) ∙ same)
  none_there d p m tree (module_member typed tabled) at u same =
      none-some u (ap refusal_of (same_Some _ d at) ∙ same)
  none_there d p m tree component_member at u same = none-some d at
  none_there d p m tree (type_member sort typed) at u same =
      none-some u (ap refusal_of (same_Some _ d at) ∙ same)

  pub refused_view : (d : Definition) (x : Subject) → SubjectStands ms (tables_of st) d x → (u : Unsupported)
      → refusal_of d ≡ Some u → (w : World) → subject_node x w ≡ refused (unsupported u)
  refused_view d x (stands_value {v = v} is) u same w = refused_is d v is u same w
  refused_view d x (stands_at {path = path} {tree = tree} q m held is at) u same w =
      absurd (none_there d q m tree is at u same)
