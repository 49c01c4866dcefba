-- What a function is that can be lowered, and what lowering it does.
use Rattle.std.specs.Prelude.{◌≡◌, ◌<◌, List, length, Option, None, Some, slice_get}
use Rattle.pc_numbers.specs.declared.module_entity.ModuleInternedTypeIndex.{ModuleInternedTypeIndex}
use Rattle.pc_types.specs.declared.intrinsic.UnsafeIntrinsic.{UnsafeIntrinsic}
use Rattle.pc_types.specs.declared.module_record.ModuleRecord.{ModuleRecord}
use Rattle.pc_types.specs.declared.parsed.CoreFuncSig.{CoreFuncSig}
use Rattle.pc_types.specs.declared.parsed.CoreKind.TheVariants as core
use Rattle.pc_types.specs.declared.parsed.TypeTable.{TypeTable}
use Rattle.pc_types.specs.declared.type_index.TypeFuncIndex.{TypeFuncIndex}
use Rattle.pc_types.specs.IntrinsicType.{intrinsic_place}
use Rattle.pc_types.specs.TypeTree.{Path, TypeTree}
use Rattle.pc_spec_plan.specs.CoreValue.{CoreValue, Options}
use Rattle.pc_parsed.specs.Mark.{Mark}
use Rattle.pc_spec_reading.specs.Functions.{lower_to}
use Rattle.pc_spec_reading.specs.Scope.{Moment, add_intrinsic}
use Rattle.pc_spec_reading.specs.Value.{Function, host_function, intrinsic_function, lifted_function}
use Rattle.pc_inline_state.specs.declared.definition.CoreId.{CoreId}
use Rattle.pc_inline_state.specs.declared.definition.Definition.{Definition}
use Rattle.pc_inline_state.specs.declared.definition.Definition.TheVariants as definition
use Rattle.pc_inline_state.specs.declared.definition.Options.{Options as OptionsOf}
use Rattle.pc_inline_state.specs.declared.frame.Frame.{Frame}
use Rattle.pc_inline_state.specs.declared.state.State.{State}
use Rattle.pc_inline_state.specs.Lists.{with_core_id}
use Rattle.pc_inline_state.specs.Points.{PointStands}
use Rattle.pc_inline_state.specs.Slots.{IsThere, OptionsThere}
use Rattle.pc_inline_state.specs.Stands.{IsFunc, ItemStands, OptionsStand}
use Rattle.pc_inline_state.specs.Tables.{Tables, tables_of}
use Rattle.pc_inline_canon.specs.declared.callee.Callee.{Callee}
use Rattle.pc_inline_canon.specs.declared.callee.Callee.TheVariants as callee

-- what a definition is that can be lowered
abbrev pub callee_of : Definition → Option Callee
callee_of (definition.HostFunc p ty) = Some (callee.Host p)
callee_of (definition.LiftedFunc ty func o) = Some (callee.Lifted ty func o)
callee_of (definition.IntrinsicFunc i) = Some (callee.Intrinsic i)
callee_of d = None

module _ (ms : List ModuleRecord) (b : Tables) where
  -- the path of a host function is held, or the core function and the options of a lifted one are
  unfoldable pub HeldCallee : Callee → Type 0
  HeldCallee (callee.Host p) = p.0 < length b.paths
  HeldCallee (callee.Lifted ty func o) = IsThere ms b core.Func func × OptionsThere ms b o
  HeldCallee (callee.Intrinsic i) = Unit {0}

  -- a core function that was lifted, with its type and options, is this function of the reading
  pub record IsLifted (ty : TypeFuncIndex) (func : CoreId) (o : OptionsOf) (x : Function) : Type 0 where
    pub tree : TypeTree
    pub callee : CoreValue Mark
    pub options : Options Mark
    pub typed : IsFunc ms b ty tree
    pub func_stands : ItemStands ms b core.Func func callee
    pub options_stand : OptionsStand ms b o options
    pub is : x ≡ lifted_function tree callee options

  -- it is this function of the reading
  unfoldable pub IsCallee : Callee → Function → Type 0
  IsCallee (callee.Host p) x = (path : Path) × (slice_get b.paths p.0 ≡ Some path) × (x ≡ host_function path)
  IsCallee (callee.Lifted ty func o) x = IsLifted ty func o x
  IsCallee (callee.Intrinsic i) x = x ≡ intrinsic_function (intrinsic_place i)

module _ (t : TypeTable) (ms : List ModuleRecord) (old new : State) where
  -- an unsafe intrinsic is a core function, under the first signature that it was given
  unfoldable pub AddsIntrinsic : UnsafeIntrinsic → ModuleInternedTypeIndex → CoreId → Type 0
  AddsIntrinsic i n id = (f : Frame) (now : Moment) (s : CoreFuncSig) → PointStands t ms old f now
      → slice_get old.types.signatures n.0 ≡ Some s
      → PointStands t ms new (with_core_id f core.Func id) (add_intrinsic now (intrinsic_place i) s)

  -- a function is lowered to a core function
  unfoldable pub LowersTo : Callee → TypeFuncIndex → OptionsOf → CoreId → Type 0
  LowersTo c ty o id =
      (f : Frame) (now : Moment) (x : Function) (tree : TypeTree) (s : CoreFuncSig) (os : Options Mark)
      → PointStands t ms old f now → IsCallee ms (tables_of old) c x → IsFunc ms (tables_of old) ty tree
      → slice_get old.types.signatures o.core_type.0 ≡ Some s → OptionsStand ms (tables_of old) o os
      → PointStands t ms new (with_core_id f core.Func id) (lower_to now x tree s os)
