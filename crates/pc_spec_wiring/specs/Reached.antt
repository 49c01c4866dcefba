-- What may be called from an adapter while nothing keeps the state of a thread.
use Rattle.std.specs.Prelude.{◌≡◌, ℕ, Bool, false, true, List, Contains, Some, slice_get}
use Rattle.pc_parsed.specs.Mark.{Mark}
use Rattle.pc_spec_plan.specs.CoreValue.{CoreValue, Options, ExportedItem, exported, adapter, lowered, builtin}
use Rattle.pc_spec_plan.specs.CoreValue.{intrinsic}
use Rattle.pc_spec_plan.specs.ExportNode.{NamedNode}
use Rattle.pc_spec_plan.specs.Log.{Entry, Owned, instances_of, made}
use Rattle.pc_spec_wiring.specs.FunctionTypes.{is_async_type, has_handle}
use Rattle.pc_spec_wiring.specs.Held.{arguments_of, lifts_of}
use Rattle.pc_spec_wiring.specs.Opaque.{IsTransparent, is_context}

-- one step: from an adapter to what it lifts, from an item of a core instance to what that instance was given
pub data Leads {τ : Type 0} (log : List (Entry τ)) : (from to : CoreValue τ) → Type 0 where
  to_lifted : {t u : τ} {lift lower : Options τ} {callee v : CoreValue τ} → Contains (lifts_of lift callee) v
      → Leads log (adapter t lift u lower callee) v
  to_argument : {n : ℕ} {item : ExportedItem} {o : Owned τ} {v : CoreValue τ}
      → slice_get (instances_of log) n ≡ Some o → Contains (arguments_of o.instantiation) v
      → Leads log (exported n item) v

-- whether a core value may see the state of a thread: a host function, a builtin, an intrinsic that reads or writes the
-- slots of a context, an adapter over an async function
abbrev pub sees_thread : {τ : Type 0} → (is_async : τ → Bool) → CoreValue τ → Bool
sees_thread is_async (lowered p ty o) = true
sees_thread is_async (builtin k c ps) = true
sees_thread is_async (intrinsic place) = is_context place
sees_thread is_async (adapter lift_type lift lower_type lower callee) = is_async lift_type
sees_thread is_async v = false

module _ {τ : Type 0} (is_async has_handle : τ → Bool) (log : List (Entry τ)) (nodes : List (NamedNode τ)) where
  -- a core value is reached: in one step, or in one more from an item or from a transparent adapter that is reached
  pub data IsReached (from : CoreValue τ) : CoreValue τ → Type 0 where
    at_once : {v : CoreValue τ} → Leads log from v → IsReached from v
    past_item : {n : ℕ} {item : ExportedItem} {v : CoreValue τ} → IsReached from (exported n item)
        → Leads log (exported n item) v → IsReached from v
    past_adapter : {a v : CoreValue τ} → IsReached from a → IsTransparent is_async has_handle log nodes a
        → Leads log a v → IsReached from v

  -- from no transparent adapter that was made is anything reached that may see the state of a thread
  unfoldable pub KeepsThreads : Type 0
  KeepsThreads = (a v : CoreValue τ) → Contains log (made a) → IsTransparent is_async has_handle log nodes a
      → IsReached a v → sees_thread is_async v ≡ false

-- the same of a reading, whose marks are whole types
abbrev pub KeepsThreadsIn : List (Entry Mark) → List (NamedNode Mark) → Type 0
KeepsThreadsIn log nodes = KeepsThreads is_async_type has_handle log nodes
