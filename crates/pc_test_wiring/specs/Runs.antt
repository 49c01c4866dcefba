-- The run of the plan of two adapters, with the records of its adapters.
use Rattle.std.specs.Prelude.{ℕ, false, List, [], ◌∷◌, None, Some}
use Rattle.pc_numbers.specs.declared.entity_index.EntityIndex.TheVariants as index
use Rattle.pc_types.specs.declared.encoding.StringEncoding.TheVariants.{Utf8}
use Rattle.pc_types.specs.declared.trampoline.TrampolineKind.TheVariants as trampoline
use Rattle.pc_spec_plan.specs.CoreValue as value
use Rattle.pc_spec_plan.specs.CoreValue.{CoreValue, Options, by_index}
use Rattle.pc_spec_plan.specs.Log.{of_static}
use Rattle.pc_spec_plan.specs.Machine.{State, start}
use Rattle.pc_spec_plan.specs.PlanView as plan
use Rattle.pc_spec_plan.specs.PlanView.{AdapterRecord, PlanOptions, PlanView}
use Rattle.pc_test_wiring.specs.TwoAdapters.{two_adapters}

-- one side of an adapter, without options
abbrev pub side : (component_instance : ℕ) → PlanOptions (Unit {0})
side c = record {
  component_instance = c;
  encoding = Utf8;
  is_async = false;
  signature = tt;
  callback = None;
  post_return = None;
  model = plan.linear None None;
}

-- an adapter that the third component instance lowers, by its number, its function, its callee and who lifts it
abbrev pub adapter_record : (adapter function callee component_instance : ℕ) → AdapterRecord (Unit {0})
adapter_record a f callee c = record {
  core_module = 2;
  adapter = a;
  function = f;
  callee = callee;
  lift_type = tt;
  lift = side c;
  lower_type = tt;
  lower = side 3;
}

-- the plan with both records
abbrev pub with_adapters : PlanView (Unit {0})
with_adapters = record two_adapters { adapters = adapter_record 0 4 0 1 ∷ adapter_record 1 5 4 2 ∷ [] }

-- the options that a side stands for
abbrev pub silent : (component_instance : ℕ) → Options (Unit {0})
silent c = value.options c Utf8 false tt value.no_value value.no_value (value.linear value.no_value value.no_value)

-- the function of a core instance that is lifted
abbrev pub lifted : (instance : ℕ) → CoreValue (Unit {0})
lifted n = value.exported n (by_index (index.Function (record { 0 = 0 })))

-- the adapter over it
abbrev pub adapted : (instance component_instance : ℕ) → CoreValue (Unit {0})
adapted n c = value.adapter tt (silent c) tt (silent 3) (lifted n)

-- the trap
abbrev pub trap : CoreValue (Unit {0})
trap =
    value.helper trampoline.Trap
    (value.and_part (value.number_part 1) (value.and_part (value.mark_part tt) value.no_parts))

-- what the module of adapters is given in the run
abbrev pub adapting_values : List (CoreValue (Unit {0}))
adapting_values =
    lifted 0 ∷ value.flags 3 ∷ value.flags 1 ∷ trap ∷ lifted 1 ∷ value.flags 3 ∷ value.flags 2 ∷ trap ∷ []

-- the last state
abbrev pub last : State (Unit {0})
last = record start {
  instances =
      record { instantiation = of_static 0 []; component_instance = Some 1 }
      ∷ record { instantiation = of_static 0 []; component_instance = Some 2 }
      ∷ record { instantiation = of_static 2 adapting_values; component_instance = None }
      ∷ record { instantiation = of_static 1 (adapted 0 1 ∷ adapted 1 2 ∷ []); component_instance = Some 3 }
      ∷ [];
}
