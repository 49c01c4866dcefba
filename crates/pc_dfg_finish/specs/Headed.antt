-- Which trampolines are those of the component itself, and which only its modules of adapters use.
use Rattle.std.specs.Prelude.{Bool, true, false}
use Rattle.pc_spec_plan.specs.PlanView as plan

-- whether a trampoline is a lowering or a builtin; all others are helpers, which only modules of adapters use
abbrev pub is_headed : {τ : Type 0} → plan.TrampolineEntry τ → Bool
is_headed (plan.lowers index s ty o) = true
is_headed (plan.builtin k symbol c ps) = true
is_headed (plan.helper k symbol ps) = false
