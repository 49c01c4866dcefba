-- A function that was lowered, whatever it is.
use Rattle.std.proofs.Common.{◌≡◌, ◌<◌, List, length, Some, Result, Ok, Err, refl, sym, subst}
use Rattle.std.specs.Prelude.{IfOk, slice_get}
use Rattle.pc_inline_paths.specs.declared.path_id.PathId.{PathId}
use Rattle.pc_types.specs.declared.intrinsic.UnsafeIntrinsic.{UnsafeIntrinsic}
use Rattle.pc_types.specs.declared.module_record.ModuleRecord.{ModuleRecord}
use Rattle.pc_types.specs.declared.parsed.CoreKind.TheVariants as core
use Rattle.pc_types.specs.declared.parsed.TypeTable.{TypeTable}
use Rattle.pc_types.specs.declared.type_index.TypeFuncIndex.{TypeFuncIndex}
use Rattle.pc_types.specs.TypeTree.{Path}
use Rattle.pc_spec_plan.specs.CoreValue.{lowered}
use Rattle.pc_parsed.specs.Mark.{of_type}
use Rattle.pc_spec_reading.specs.Functions.{lower_to}
use Rattle.pc_spec_reading.specs.Scope.{with_core}
use Rattle.pc_inline_state.specs.declared.definition.CoreId.{CoreId}
use Rattle.pc_inline_state.specs.declared.definition.Options.{Options}
use Rattle.pc_inline_state.specs.declared.error.ItemError.{ItemError}
use Rattle.pc_inline_state.specs.declared.state.State.{State}
use Rattle.pc_inline_state.specs.Lists.{with_core_id}
use Rattle.pc_inline_state.specs.Points.{PointStands}
use Rattle.pc_inline_state.specs.Slots.{IsThere, OptionsThere}
use Rattle.pc_inline_state.specs.Tables.{Tables, tables_of}
use Rattle.pc_inline_canon.specs.declared.callee.Callee.{Callee}
use Rattle.pc_inline_canon.specs.declared.callee.Callee.TheVariants as callee
use Rattle.pc_inline_canon.specs.Callees.{AddsIntrinsic, HeldCallee, IsCallee, LowersTo}
use Rattle.pc_inline_canon.specs.Hosts.{Lowers}
use Rattle.pc_inline_canon.proofs.FrameLemmas.{core_framed, framed_point}

module _ (ms : List ModuleRecord) (b : Tables) (c : Callee) where
  -- the path of a callee of the host is held
  pub path_held : (p : PathId) → c ≡ callee.Host p → HeldCallee ms b c → p.0 < length b.paths
  unfolding HeldCallee
  path_held p is held = subst (HeldCallee ms b) is held

  -- and the core function and the options of one that was lifted are
  pub lifted_held : (ty : TypeFuncIndex) (fn : CoreId) (o : Options) → c ≡ callee.Lifted ty fn o → HeldCallee ms b c
      → IsThere ms b core.Func fn × OptionsThere ms b o
  unfolding HeldCallee
  lifted_held ty fn o is held = subst (HeldCallee ms b) is held

module _ (t : TypeTable) (ms : List ModuleRecord) (old new : State) (ty : TypeFuncIndex) (o : Options) where
  host_done : (p : PathId) (r : Result CoreId ItemError)
      → IfOk r (λ id. (path : Path) → slice_get old.paths.held p.0 ≡ Some path → Lowers t ms old new path ty o id)
      → IfOk r (LowersTo t ms old new (callee.Host p) ty o)
  unfolding LowersTo IsCallee Lowers lower_to
  host_done p (Err e) h = tt
  host_done p (Ok id) h = λ f now x tree s os at is func signed opts.
      let v = lowered is.0 (of_type tree) os in
      let went = h is.0 is.1 f now tree os at func opts in
      subst (λ y. PointStands t ms new (with_core_id f core.Func id) (lower_to now y tree s os)) (sym is.2)
      (framed_point t ms new f (with_core_id f core.Func id) _ (with_core now.scope core.Func v) went.0 refl refl refl
      (core_framed ms (tables_of new) f now.scope went.0.frame core.Func id v went.1))

  intrinsic_done : (i : UnsafeIntrinsic) (r : Result CoreId ItemError)
      → IfOk r (AddsIntrinsic t ms old new i o.core_type) → IfOk r (LowersTo t ms old new (callee.Intrinsic i) ty o)
  unfolding LowersTo IsCallee AddsIntrinsic lower_to
  intrinsic_done i (Err e) h = tt
  intrinsic_done i (Ok id) h = λ f now x tree s os at is func signed opts.
      subst (λ y. PointStands t ms new (with_core_id f core.Func id) (lower_to now y tree s os)) (sym is)
      (h f now s at signed)

  module _ (c : Callee) (r : Result CoreId ItemError) where
    -- a function of the host
    pub host_lowers : (p : PathId) → c ≡ callee.Host p
        → IfOk r (λ id. (path : Path) → slice_get old.paths.held p.0 ≡ Some path → Lowers t ms old new path ty o id)
        → IfOk r (LowersTo t ms old new c ty o)
    host_lowers p is lowers =
        subst (λ (k : Callee). IfOk r (LowersTo t ms old new k ty o)) (sym is) (host_done p r lowers)

    -- a function that was lifted
    pub lifted_lowers : (lift_ty : TypeFuncIndex) (fn : CoreId) (lift : Options) → c ≡ callee.Lifted lift_ty fn lift
        → IfOk r (LowersTo t ms old new (callee.Lifted lift_ty fn lift) ty o) → IfOk r (LowersTo t ms old new c ty o)
    lifted_lowers lift_ty fn lift is lowers =
        subst (λ (k : Callee). IfOk r (LowersTo t ms old new k ty o)) (sym is) lowers

    -- an unsafe intrinsic
    pub intrinsic_lowers : (i : UnsafeIntrinsic) → c ≡ callee.Intrinsic i
        → IfOk r (AddsIntrinsic t ms old new i o.core_type) → IfOk r (LowersTo t ms old new c ty o)
    intrinsic_lowers i is added =
        subst (λ (k : Callee). IfOk r (LowersTo t ms old new k ty o)) (sym is) (intrinsic_done i r added)
