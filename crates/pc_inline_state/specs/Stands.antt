-- What the numbers of the tables stand for: the values of the reading, with whole types.
use Rattle.std.specs.Prelude.{◌≡◌, ◌<◌, ℕ, Bool, true, [], ◌∷◌, length, List, Option, None, Some, slice_get}
use Rattle.pc_entity.specs.declared.string_pool.Atom.{Atom}
use Rattle.pc_numbers.specs.declared.component_entity.StaticComponentIndex.{StaticComponentIndex}
use Rattle.pc_numbers.specs.declared.component_entity.StaticModuleIndex.{StaticModuleIndex}
use Rattle.pc_numbers.specs.declared.runtime.ResourceIndex.{ResourceIndex}
use Rattle.pc_types.specs.declared.intrinsic.UnsafeIntrinsic.{UnsafeIntrinsic}
use Rattle.pc_types.specs.declared.module_record.ModuleRecord.{ModuleRecord}
use Rattle.pc_types.specs.declared.parsed.CoreFuncSig.{CoreFuncSig}
use Rattle.pc_types.specs.declared.parsed.CoreKind.{CoreKind}
use Rattle.pc_types.specs.declared.parsed.CoreKind.TheVariants as core
use Rattle.pc_types.specs.declared.parsed.DeclType.{DeclType}
use Rattle.pc_types.specs.declared.type_index.TypeComponentInstanceIndex.{TypeComponentInstanceIndex}
use Rattle.pc_types.specs.declared.type_index.TypeFuncIndex.{TypeFuncIndex}
use Rattle.pc_types.specs.declared.type_index.TypeModuleIndex.{TypeModuleIndex}
use Rattle.pc_types.specs.declared.types.ComponentExtern.{ComponentExtern}
use Rattle.pc_types.specs.declared.types.TypeDef.{TypeDef}
use Rattle.pc_types.specs.declared.types.TypeDef.TheVariants as type
use Rattle.pc_types.specs.IntrinsicType.{intrinsic_place}
use Rattle.pc_types.specs.Table.{is_instance, is_module}
use Rattle.pc_types.specs.TypeTree.{Identity, Path, TypeTree, tree_of}
use Rattle.pc_types_lists.specs.Types.{Types}
use Rattle.pc_types_lists.specs.Trees.{HasTree}
use Rattle.pc_spec_plan.specs.CoreValue as value
use Rattle.pc_spec_plan.specs.CoreValue.{CoreValue, MaybeValue, map_value}
use Rattle.pc_dfg.specs.declared.core_def.CoreDef.{CoreDef}
use Rattle.pc_dfg.specs.declared.dfg.ComponentDfg.{ComponentDfg}
use Rattle.pc_dfg.specs.Held.{HasBegun}
use Rattle.pc_dfg.specs.Means.{Means}
use Rattle.pc_parsed.specs.declared.payload.ExternName.{ExternName}
use Rattle.pc_parsed.specs.Mark.{Mark, of_signature}
use Rattle.pc_spec_reading.specs.Item.{Items, Lent, a_component, a_module}
use Rattle.pc_spec_reading.specs.Value.{Chain, NamedValues, Value, and_value, closed, component_value, func_value}
use Rattle.pc_spec_reading.specs.HostTypes.{tree_along}
use Rattle.pc_spec_reading.specs.Nodes.{extern_data}
use Rattle.pc_spec_reading.specs.Types.{has_entry}
use Rattle.pc_spec_reading.specs.Value.{host_function, host_instance, host_module, instance_value, intrinsic_function}
use Rattle.pc_spec_reading.specs.Value.{lent_in, lifted_function, made_instance, module_value, no_values, static_module}
use Rattle.pc_spec_reading.specs.Value.{the_intrinsics, type_value}
use Rattle.pc_local.specs.declared.item.Translation.{Translation}
use Rattle.pc_local.specs.Standing.{BodyStands, Names, OnlyLeaving}
use Rattle.pc_inline_state.specs.declared.closure.Closure.{Closure}
use Rattle.pc_inline_state.specs.declared.definition.ClosureId.{ClosureId}
use Rattle.pc_inline_state.specs.declared.definition.CoreId.{CoreId}
use Rattle.pc_inline_state.specs.declared.definition.DataModel.{DataModel}
use Rattle.pc_inline_state.specs.declared.definition.DataModel.TheVariants as model
use Rattle.pc_inline_state.specs.declared.definition.Definition.{Definition}
use Rattle.pc_inline_state.specs.declared.definition.Definition.TheVariants as definition
use Rattle.pc_inline_state.specs.declared.definition.DefinitionId.{DefinitionId}
use Rattle.pc_inline_state.specs.declared.definition.ExportsId.{ExportsId}
use Rattle.pc_inline_state.specs.declared.definition.Options.{Options}
use Rattle.pc_inline_state.specs.declared.state.Member.{Member}
use Rattle.pc_inline_names.specs.Numbers.{IsNumber}
use Rattle.pc_inline_paths.specs.declared.path_id.PathId.{PathId}
use Rattle.pc_inline_state.specs.Fits.{Fits}
use Rattle.pc_inline_state.specs.Tables.{IsItem, Tables}
use Rattle.pc_inline_state.specs.Holds.{Numbered, number_of, whole_of}

-- a definition of the graph has a value of the reading: with numbers for types it is the definition's value, with whole
-- types the reading's
pub record CoreStands (types : Types) (g : ComponentDfg) (d : CoreDef) (v : CoreValue Mark) : Type 0 where
  pub numbered : CoreValue (Numbered types (Fits g))
  pub means : Means g d (map_value (number_of types (Fits g)) numbered)
  pub is : map_value (whole_of types (Fits g)) numbered ≡ v

module _ (ms : List ModuleRecord) (b : Tables) where
  -- a core item by number, of a kind
  pub record ItemStands (k : CoreKind) (n : CoreId) (v : CoreValue Mark) : Type 0 where
    pub definition : CoreDef
    pub held : slice_get b.cores n.0 ≡ Some definition
    pub stands : CoreStands b.types b.graph definition v
    pub usable : IsItem ms b.graph k definition

  -- a core item that may be left out
  pub data MaybeStands (k : CoreKind) : Option CoreId → MaybeValue Mark → Type 0 where
    none_stands : MaybeStands k None value.no_value
    some_stands : {n : CoreId} {v : CoreValue Mark} → ItemStands k n v → MaybeStands k (Some n) (value.a_value v)

  -- where values lie
  pub data ModelStands : DataModel → value.DataModel Mark → Type 0 where
    gc_stands : ModelStands model.Gc value.gc
    linear_stands : {m r : Option CoreId} {memory realloc : MaybeValue Mark} → MaybeStands core.Memory m memory
        → MaybeStands core.Func r realloc → ModelStands (model.LinearMemory m r) (value.linear memory realloc)

  -- the options of a lifted or lowered function
  pub data OptionsStand : Options → value.Options Mark → Type 0 where
    options_stand : {o : Options} {signature : CoreFuncSig} {callback post_return : MaybeValue Mark}
        {where_values_lie : value.DataModel Mark} → HasBegun b.graph o.instance.0
        → slice_get b.types.signatures o.core_type.0 ≡ Some signature → MaybeStands core.Func o.callback callback
        → MaybeStands core.Func o.post_return post_return → ModelStands o.data_model where_values_lie
        → OptionsStand o (value.options o.instance.0 o.string_encoding o.async_ (of_signature signature) callback
        post_return where_values_lie)

  -- the type has this tree, however resource numbers are read that fits the graph
  abbrev pub IsType : TypeDef → TypeTree → Type 0
  IsType d tree = (who : ResourceIndex → Identity) → Fits b.graph who → HasTree b.types who d tree

  -- the same of a function type
  abbrev pub IsFunc : TypeFuncIndex → TypeTree → Type 0
  IsFunc ty tree = IsType (type.ComponentFunc ty) tree

  -- what the host gives at a path has this tree: the type of its import has it along the names
  pub record IsHostType (path : Path) (tree : TypeTree) : Type 0 where
    pub import : List ℕ × ComponentExtern
    pub there : slice_get b.graph.import_types path.import ≡ Some import
    pub whole : TypeTree
    pub typed : IsType import.1.ty whole
    pub along : tree_along path.names whole ≡ Some tree

  -- an entry of the type table that passes a test has this tree, under resources that were known somewhere
  pub record IsTableTree (test : DeclType → Bool) (n : ℕ) (tree : TypeTree) : Type 0 where
    pub there : has_entry b.table test n ≡ true
    pub known : List (ℕ × Identity)
    pub component_instance : ℕ
    pub is : tree_of known component_instance b.table n ≡ Some tree

  mutual
    -- a definition, by number
    pub data Stands : DefinitionId → Value → Type 0 where
      stands : {n : DefinitionId} {d : Definition} {v : Value} → slice_get b.definitions n.0 ≡ Some d
          → DefinitionStands d v → Stands n v

    -- an entry of the table of definitions
    pub data DefinitionStands : Definition → Value → Type 0 where
      stands_host : {p : PathId} {ty : TypeFuncIndex} {path : Path} {tree : TypeTree}
          → slice_get b.paths p.0 ≡ Some path → IsHostType path tree → IsFunc ty tree
          → DefinitionStands (definition.HostFunc p ty) (func_value (host_function path))
      stands_lifted : {ty : TypeFuncIndex} {func : CoreId} {o : Options} {tree : TypeTree} {v : CoreValue Mark}
          {os : value.Options Mark} → IsFunc ty tree → ItemStands core.Func func v → OptionsStand o os
          → DefinitionStands (definition.LiftedFunc ty func o) (func_value (lifted_function tree v os))
      stands_intrinsic : {i : UnsafeIntrinsic}
          → DefinitionStands (definition.IntrinsicFunc i) (func_value (intrinsic_function (intrinsic_place i)))
      stands_static : {m : StaticModuleIndex} {ty : ℕ} {tree : TypeTree} → m.0 < length ms
          → IsTableTree is_module ty tree → (i : TypeModuleIndex) → IsType (type.Module i) tree
          → DefinitionStands (definition.StaticModule m ty) (module_value (static_module m.0 tree))
      stands_host_module : {p : PathId} {ty : TypeModuleIndex} {entry : ℕ} {path : Path} {tree : TypeTree}
          → slice_get b.paths p.0 ≡ Some path → IsHostType path tree → IsTableTree is_module entry tree
          → IsType (type.Module ty) tree
          → DefinitionStands (definition.HostModule p ty entry) (module_value (host_module path tree))
      stands_component : {s : StaticComponentIndex} {k : ClosureId} {tr : Translation} {inner : Names} {body : Items}
          {closure : Closure} {chain : Chain} → slice_get b.bodies s.0 ≡ Some tr → BodyStands b.bodies inner tr body
          → OnlyLeaving inner body → slice_get b.closures k.0 ≡ Some closure
          → Captured a_module closure.modules inner.modules chain
          → Captured a_component closure.components inner.components chain
          → DefinitionStands (definition.Component s k) (component_value (closed body chain))
      stands_host_instance : {p : PathId} {ty : TypeComponentInstanceIndex} {entry : ℕ} {path : Path}
          {tree : TypeTree} → slice_get b.paths p.0 ≡ Some path → IsHostType path tree → IsTableTree is_instance entry tree
          → IsType (type.ComponentInstance ty) tree
          → DefinitionStands (definition.HostInstance p ty entry) (instance_value (host_instance path tree))
      stands_instance : {n : ExportsId} {ty : TypeComponentInstanceIndex} {es : List (Atom × Member)}
          {vs : NamedValues} {tree : TypeTree} → slice_get b.instances n.0 ≡ Some es → MembersStand es vs
          → IsType (type.ComponentInstance ty) tree
          → DefinitionStands (definition.Instance n ty) (instance_value (made_instance vs tree))
      stands_intrinsics : DefinitionStands definition.Intrinsics (instance_value the_intrinsics)
      stands_type : {d : TypeDef} {tree : TypeTree} → IsType d tree
          → DefinitionStands (definition.Type_ d) (type_value tree)

    -- captured variables, by the counts and indices that name them in a chain
    pub data Captured : Lent → List DefinitionId → List (ℕ × ℕ) → Chain → Type 0 where
      captures_none : {k : Lent} {chain : Chain} → Captured k [] [] chain
      captures_more : {k : Lent} {id : DefinitionId} {ids : List DefinitionId} {c n : ℕ} {names : List (ℕ × ℕ)}
          {chain : Chain} {v : Value} → lent_in chain k c n ≡ Some v → Stands id v → Captured k ids names chain
          → Captured k (id ∷ ids) ((c, n) ∷ names) chain

    -- what an instance exports, in order, each with what its name says of it
    pub data MembersStand : List (Atom × Member) → NamedValues → Type 0 where
      no_members : MembersStand [] no_values
      and_member : {name : ExternName} {n : Atom} {m : Member} {v : Value} {es : List (Atom × Member)}
          {vs : NamedValues} → IsNumber b.names.texts n name.name → m.data_ ≡ extern_data name → Stands m.item v
          → MembersStand es vs → MembersStand ((n, m) ∷ es) (and_value name v vs)
