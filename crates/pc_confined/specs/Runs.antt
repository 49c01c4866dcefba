-- When the run of a plan does as a log tells.
use Rattle.std.specs.Prelude.{◌≡◌, ℕ, List, Some, Contains, map, option_map}
use Rattle.pc_spec_plan.specs.CoreValue.{CoreValue}
use Rattle.pc_spec_plan.specs.Log.{Entry, erase_entry, erase_owned, instances_of, made, of_static, trace}
use Rattle.pc_spec_plan.specs.Machine.{RuntimeInstance, State, adapter_from, owned_instances, run}
use Rattle.pc_spec_plan.specs.PlanView.{AdapterRecord, PlanView}
use Rattle.pc_spec_plan.specs.Trace.{run_trace}

-- a run ends in this state; but for types, the core instances of component instances that it made are those of the log,
-- its trace is that of the log, and what the records of its adapter modules stand for was made
pub record DoesAsTold {τ υ : Type 0} (p : PlanView τ) (last : State τ) (log : List (Entry υ)) : Type 0 where
  pub runs : run p ≡ Some last
  pub instances : map erase_owned (owned_instances last) ≡ map erase_owned (instances_of log)
  pub traced : option_map (map erase_entry) (run_trace p) ≡ Some (map erase_entry (trace log))
  pub adapters : (i : RuntimeInstance τ) (m : ℕ) (args : List (CoreValue τ)) (r : AdapterRecord τ) (v : CoreValue τ)
      → Contains last.instances i → i.instantiation ≡ of_static m args → Contains p.adapters r → r.core_module ≡ m
      → adapter_from p args r ≡ Some v → Contains (map erase_entry log) (erase_entry (made v))
