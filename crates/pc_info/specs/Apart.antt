-- What stands in a plan once.
use Rattle.std.specs.Prelude.{◌≡◌, ℕ, Some}
use Rattle.pc_entity.specs.Lists.{AreDistinct}
use Rattle.pc_spec_plan.specs.CoreValue.{CoreValue, Options}
use Rattle.pc_spec_plan.specs.Machine as machine
use Rattle.pc_spec_plan.specs.Machine.{State, options_at, resolve}
use Rattle.pc_spec_plan.specs.PlanView as plan
use Rattle.pc_trampoline.specs.declared.part.Mark.{Mark}

-- in this state of a run no value stands twice: in the slots of a kind, as an options entry, as a trampoline
pub record AreApart (p : plan.PlanView Mark) (s : State Mark) : Type 0 where
  pub slots : (k : plan.SlotKind) → AreDistinct (machine.slots_of s k)
  pub options : (m n : ℕ) (v : Options Mark) → options_at p s m ≡ Some v → options_at p s n ≡ Some v → m ≡ n
  pub trampolines : (m n : ℕ) (v : CoreValue Mark) → resolve p s (plan.trampoline m) ≡ Some v
      → resolve p s (plan.trampoline n) ≡ Some v → m ≡ n
