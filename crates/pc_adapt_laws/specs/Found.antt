-- What the arguments of a module of adapters hold, so that the adapters can be told from its records.
use Rattle.std.specs.Prelude.{◌≡◌, ℕ, ◌+◌, Bool, true, ◌&&◌, List, Some, map, slice_get}
use Rattle.pc_spec_plan.specs.CoreValue as value
use Rattle.pc_spec_plan.specs.CoreValue.{CoreValue}
use Rattle.pc_spec_plan.specs.Machine.{is_counted}
use Rattle.pc_spec_plan.specs.PlanView.{PlanView}
use Rattle.pc_trampoline.specs.declared.part.Mark.{Mark}
use Rattle.pc_spec_adapt.specs.Import.{Import}

-- the values of imports
abbrev pub values_of : List (Import Mark) → List (CoreValue Mark)
values_of imports = map (λ (i : Import Mark). i.value) imports

-- arguments hold these values from this place on
abbrev pub HoldFrom : List (CoreValue Mark) → (first : ℕ) → List (CoreValue Mark) → Type 0
HoldFrom args first vs =
    (i : ℕ) (v : CoreValue Mark) → slice_get vs i ≡ Some v → slice_get args (first + i) ≡ Some v

-- the component instances of both sides of an adapter are counted
abbrev pub are_counted : PlanView Mark → CoreValue Mark → Bool
are_counted p (value.adapter lift_type (value.options c encoding is_async signature callback post_return model)
    lower_type (value.options c2 encoding2 is_async2 signature2 callback2 post_return2 model2) callee) =
    is_counted p c && is_counted p c2
are_counted p v = true
