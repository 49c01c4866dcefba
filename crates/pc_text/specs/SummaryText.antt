-- The line of text that says what a generated chain comes to.
use Rattle.std.specs.Prelude.{ℕ, List, ◌++◌, codes, length}
use Rattle.pc_spec_plan.specs.PlanView.{PlanView}
use Rattle.pc_spec_plan.specs.Text.{line_end, number}

-- how long the chain is, and of its plan the core instances, the adapters, the core modules that were handed in, the
-- modules of adapters, and the initializers
abbrev pub summary_text : {τ : Type 0} → (n : ℕ) → PlanView τ → List ℕ
summary_text n p =
    codes "gen" ++ number n ++ codes " instances" ++ number p.counts.runtime_instances
    ++ codes " adapters" ++ number (length p.adapters)
    ++ codes " modules" ++ number (length p.handed_in) ++ number p.adapter_modules
    ++ codes " inits" ++ number (length p.initializers) ++ line_end
