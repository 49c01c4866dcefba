-- Plans in which less is known: with a step more, or with an export more.
use Rattle.std.specs.Prelude.{[], ◌∷◌, ◌++◌, None, Some}
use Rattle.pc_spec_plan.specs.PlanView as plan
use Rattle.pc_spec_plan.specs.PlanView.{PlanView}
use Rattle.pc_test_wiring.specs.TwoAdapters.{func_of, plan_of, steps}

-- the module that lowers is instantiated a second time, with its arguments exchanged
abbrev pub making_more : PlanView (Unit {0})
making_more = plan_of (steps ++ plan.instantiate_static 1 (func_of 2 5 ∷ func_of 2 4 ∷ []) (Some 3) ∷ []) []

-- the root exports an instance that has the module inside
abbrev pub exporting : PlanView (Unit {0})
exporting =
    plan_of steps (record {
      name = [];
      extern_data = record { implements = None; external_id = None };
      item = plan.instance tt (plan.and_export [] (record { implements = None; external_id = None })
          (plan.static_module 1 tt) plan.no_exports);
    } ∷ [])
