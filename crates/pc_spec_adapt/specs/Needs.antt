-- Which adapters an adapter needs: they have to be there before its module is made.
use Rattle.std.specs.Prelude.{◌≡◌, ◌≤◌, ℕ, List, length, take, Contains, Option, None, Some, slice_get}
use Rattle.std.specs.List.{filter_map}
use Rattle.pc_spec_plan.specs.CoreValue.{CoreValue}
use Rattle.pc_spec_plan.specs.Log.{Entry, instantiated, declared_resource, declared, made, needed, instances_of, trace}
use Rattle.pc_spec_adapt.specs.Named.{an_instance, an_adapter, in_adapter, in_entry}

module _ {τ : Type 0} where
  -- the adapter that an entry makes, if it makes one
  abbrev pub made_adapter : Entry τ → Option (CoreValue τ)
  made_adapter (instantiated i c) = None
  made_adapter (declared_resource representation destructor c) = None
  made_adapter (declared v) = None
  made_adapter (made v) = Some v
  made_adapter (needed path) = None

  -- the adapters that a log makes, in order
  abbrev pub adapters_of : List (Entry τ) → List (CoreValue τ)
  adapters_of log = filter_map made_adapter log

  -- how many core instances are made before the ith entry of the trace
  abbrev pub made_before : List (Entry τ) → ℕ → ℕ
  made_before log i = length (instances_of (take i (trace log)))

  -- adapter a needs adapter b: a names b, or an entry names b that stands at or before the making of a core instance
  -- that a names
  pub data Needs (log : List (Entry τ)) (a b : ℕ) : Type 0 where
    named : {v w : CoreValue τ} → slice_get (adapters_of log) a ≡ Some v → slice_get (adapters_of log) b ≡ Some w
        → Contains (in_adapter v) (an_adapter w) → Needs log a b
    awaited : (i n : ℕ) {v w : CoreValue τ} {e : Entry τ} → slice_get (adapters_of log) a ≡ Some v
        → slice_get (adapters_of log) b ≡ Some w → Contains (in_adapter v) (an_instance n)
        → slice_get (trace log) i ≡ Some e → made_before log i ≤ n → Contains (in_entry e) (an_adapter w)
        → Needs log a b
