-- What a component instance may be given: items of its own core instances, and functions that were lowered or declared
-- in it.
use Rattle.std.specs.Prelude.{◌≡◌, ℕ, List, Contains, Some, slice_get}
use Rattle.std.specs.List.{All}
use Rattle.pc_types.specs.declared.parsed.WasmValType.{WasmValType}
use Rattle.pc_types.specs.declared.trampoline.TrampolineKind.{TrampolineKind}
use Rattle.pc_types.specs.TypeTree.{Path}
use Rattle.pc_spec_plan.specs.CoreValue.{CoreValue, Options, MaybeValue, Parts, ExportedItem, exported, lowered}
use Rattle.pc_spec_plan.specs.CoreValue.{builtin, intrinsic, adapter}
use Rattle.pc_spec_plan.specs.Log.{Entry, Owned, declared, made, declared_resource, instances_of, of_static}
use Rattle.pc_spec_plan.specs.Machine.{State, RuntimeInstance, DeclaredResource, owned_instances, adapter_from}
use Rattle.pc_spec_plan.specs.PlanView.{PlanView, AdapterRecord}
use Rattle.pc_spec_wiring.specs.Held.{arguments_of, instance_of, lifts_of, maybe_list}

-- among core instances the nth was made for a component instance
abbrev pub WasMadeFor : {τ : Type 0} → List (Owned τ) → (core_instance component_instance : ℕ) → Type 0
WasMadeFor {τ} owned n c = (o : Owned τ) × (slice_get owned n ≡ Some o) × (o.component_instance ≡ c)

-- a core value is of a component instance: an item of a core instance that was made for it, a host function or an
-- adapter that was lowered in it, or a builtin that was declared in it; an intrinsic is of each
pub data IsOf {τ : Type 0} (owned : List (Owned τ)) (c : ℕ) : CoreValue τ → Type 0 where
  item_is_of : {n : ℕ} {item : ExportedItem} → WasMadeFor owned n c → IsOf owned c (exported n item)
  lowering_is_of : {p : Path} {ty : τ} {o : Options τ} → instance_of o ≡ c → IsOf owned c (lowered p ty o)
  builtin_is_of : {k : TrampolineKind} {ps : Parts τ} → IsOf owned c (builtin k c ps)
  intrinsic_is_of : {i : ℕ} → IsOf owned c (intrinsic i)
  adapter_is_of : {lift_type lower_type : τ} {lift lower : Options τ} {callee : CoreValue τ} → instance_of lower ≡ c
      → IsOf owned c (adapter lift_type lift lower_type lower callee)

-- a log tells of a core value: a host function or a builtin was declared, an adapter was made; other values need no
-- entry
unfoldable pub Tells : {τ : Type 0} → List (Entry τ) → CoreValue τ → Type 0
Tells log (lowered p ty o) = Contains log (declared (lowered p ty o))
Tells log (builtin k c ps) = Contains log (declared (builtin k c ps))
Tells log (adapter lift_type lift lower_type lower callee) =
    Contains log (made (adapter lift_type lift lower_type lower callee))
Tells log v = Unit {0}

-- a core value belongs to a component instance: it is of that one, and the log tells of it
pub record Belongs {τ : Type 0} (log : List (Entry τ)) (c : ℕ) (v : CoreValue τ) : Type 0 where
  pub whose : IsOf (instances_of log) c v
  pub told : Tells log v

-- what a log does stays within component instances: what a core instance is given and the destructor of a resource
-- belong to the component instance for which it is made, and what an adapter lifts to the one that lifts it
pub record IsConfined {τ : Type 0} (log : List (Entry τ)) : Type 0 where
  pub arguments : (o : Owned τ) → Contains (instances_of log) o
      → All (Belongs log o.component_instance) (arguments_of o.instantiation)
  pub destructors : (r : WasmValType) (d : MaybeValue τ) (c : ℕ) → Contains log (declared_resource r d c)
      → All (Belongs log c) (maybe_list d)
  pub callees : (lift_type lower_type : τ) (lift lower : Options τ) (callee : CoreValue τ)
      → Contains log (made (adapter lift_type lift lower_type lower callee))
      → All (Belongs log (instance_of lift)) (lifts_of lift callee)

-- so does what a run of a plan has made, where an adapter is a function of an instance of an adapter module
pub record IsConfinedRun {τ : Type 0} (p : PlanView τ) (last : State τ) : Type 0 where
  pub arguments : (o : Owned τ) → Contains (owned_instances last) o
      → All (IsOf (owned_instances last) o.component_instance) (arguments_of o.instantiation)
  pub destructors : (r : DeclaredResource τ) → Contains last.resources r
      → All (IsOf (owned_instances last) r.component_instance) (maybe_list r.destructor)
  pub callees : (i : RuntimeInstance τ) (m : ℕ) (args : List (CoreValue τ)) (r : AdapterRecord τ)
      (lift_type lower_type : τ) (lift lower : Options τ) (callee : CoreValue τ) → Contains last.instances i
      → i.instantiation ≡ of_static m args → Contains p.adapters r → r.core_module ≡ m
      → adapter_from p args r ≡ Some (adapter lift_type lift lower_type lower callee)
      → All (IsOf (owned_instances last) (instance_of lift)) (lifts_of lift callee)
