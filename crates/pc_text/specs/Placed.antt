-- An adapter with the place of its module.
use Rattle.pc_spec_plan.specs.PlanView as plan
use Rattle.pc_trampoline.specs.declared.part.Mark.{Mark}
use Rattle.pc_info.specs.Modules.{adapter_view}
use Rattle.pc_text.specs.declared.adapter.Placed.{Placed}

-- the adapter's record, as a plan has it
abbrev pub placed_view : Placed → plan.AdapterRecord Mark
placed_view p = adapter_view p.module p.adapter.now
