-- Which component instances may see the state of a thread, and which adapters need not keep it.
use Rattle.std.specs.Prelude.{◌≡◌, ℕ, Bool, true, false, List, Contains, nat_le, ◌&&◌}
use Rattle.pc_types.specs.declared.parsed.WasmValType.{WasmValType}
use Rattle.pc_types.specs.declared.trampoline.TrampolineKind.{TrampolineKind}
use Rattle.pc_types.specs.TypeTree.{Path}
use Rattle.pc_spec_plan.specs.CoreValue.{CoreValue, Options, Parts, lowered, builtin, intrinsic, adapter, a_value}
use Rattle.pc_spec_plan.specs.ExportNode.{NamedNode}
use Rattle.pc_spec_plan.specs.Log.{Entry, Owned, declared, made, declared_resource, instances_of}
use Rattle.pc_parsed.specs.Mark.{Mark}
use Rattle.pc_spec_wiring.specs.FunctionTypes.{is_async_type, has_handle}
use Rattle.pc_spec_wiring.specs.Held.{arguments_of, instance_of, is_async_option, lifted_in, lifts_of, options_list}

-- the intrinsics that read and write the slots of a context are the last four of the list
abbrev pub is_context : (place : ℕ) → Bool
is_context place = nat_le 17 place && nat_le place 20

-- whether a core value is one of them
abbrev pub is_context_value : {τ : Type 0} → CoreValue τ → Bool
is_context_value (intrinsic place) = is_context place
is_context_value v = false

module _ {τ : Type 0} (log : List (Entry τ)) (nodes : List (NamedNode τ)) where
  -- a core value is used in a component instance: a core instance of it is given the value, an adapter lifts it or has
  -- it as an option of the lowering, a resource has it as destructor, or the root exports a function that lifts it
  pub data IsUsedIn (c : ℕ) (v : CoreValue τ) : Type 0 where
    as_argument : {o : Owned τ} → Contains (instances_of log) o → o.component_instance ≡ c
        → Contains (arguments_of o.instantiation) v → IsUsedIn c v
    as_lifted : {t u : τ} {lift lower : Options τ} {callee : CoreValue τ}
        → Contains log (made (adapter t lift u lower callee)) → instance_of lift ≡ c
        → Contains (lifts_of lift callee) v → IsUsedIn c v
    as_lower_option : {t u : τ} {lift lower : Options τ} {callee : CoreValue τ}
        → Contains log (made (adapter t lift u lower callee)) → instance_of lower ≡ c
        → Contains (options_list lower) v → IsUsedIn c v
    as_destructor : {r : WasmValType} → Contains log (declared_resource r (a_value v) c) → IsUsedIn c v
    as_export : {n : NamedNode τ} {f : CoreValue τ} {o : Options τ} → Contains nodes n
        → Contains (lifted_in n.node) (f, o) → instance_of o ≡ c → Contains (lifts_of o f) v → IsUsedIn c v

-- Over what the marks of function types tell.
module _ {τ : Type 0} (is_async : τ → Bool) (log : List (Entry τ)) (nodes : List (NamedNode τ)) where
  -- a component instance may see the state of a thread: it lowers a function of the host or an async one, declares a
  -- builtin, or uses the slots of a context
  pub data IsOpaque (c : ℕ) : Type 0 where
    lowers_host : {p : Path} {ty : τ} {o : Options τ} → Contains log (declared (lowered p ty o)) → instance_of o ≡ c
        → IsOpaque c
    declares_builtin : {k : TrampolineKind} {ps : Parts τ} → Contains log (declared (builtin k c ps)) → IsOpaque c
    lowers_async : {t u : τ} {lift lower : Options τ} {callee : CoreValue τ}
        → Contains log (made (adapter t lift u lower callee)) → instance_of lower ≡ c → is_async t ≡ true → IsOpaque c
    uses_context : {v : CoreValue τ} → IsUsedIn log nodes c v → is_context_value v ≡ true → IsOpaque c

module _ {τ : Type 0} (is_async has_handle : τ → Bool) (log : List (Entry τ)) (nodes : List (NamedNode τ)) where
  -- an adapter need not keep the state of a thread: no type and no option of either side is async, no handle stands in
  -- the types, and the component instance that lifts can't see that state
  pub data IsTransparent : CoreValue τ → Type 0 where
    transparent : {t u : τ} {lift lower : Options τ} {callee : CoreValue τ} → is_async t ≡ false
        → is_async u ≡ false → is_async_option lift ≡ false → is_async_option lower ≡ false → has_handle t ≡ false
        → has_handle u ≡ false → ¬ (IsOpaque is_async log nodes (instance_of lift))
        → IsTransparent (adapter t lift u lower callee)

-- the same of a reading, whose marks are whole types
abbrev pub IsOpaqueIn : List (Entry Mark) → List (NamedNode Mark) → (component_instance : ℕ) → Type 0
IsOpaqueIn log nodes c = IsOpaque is_async_type log nodes c

-- and of an adapter of a reading
abbrev pub IsTransparentIn : List (Entry Mark) → List (NamedNode Mark) → CoreValue Mark → Type 0
IsTransparentIn log nodes v = IsTransparent is_async_type has_handle log nodes v
