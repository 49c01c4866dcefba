use Rattle.std.proofs.Common.{◌≡◌, ◌++◌, drop}
use Rattle.pc_spec_plan.specs.Text.{numbered}
use Rattle.pc_spec_facts.specs.Text.{module_text}
use Rattle.pc_text_facts.proofs.modules.put_modules.Given as goal

abbrev pub invariant-loop-place : goal.invariant-loop-place
invariant-loop-place l =
    l.out.items ++ numbered module_text l.place (drop l.place l.modules)
    ≡ l.fn.out.items ++ numbered module_text 0 l.modules
