-- Trampolines and options without the numbers of what they name: what a plan has as the graph has it.
use Rattle.std.specs.Prelude.{ℕ, Option, map, option_map}
use Rattle.pc_spec_plan.specs.PlanView as plan
use Rattle.pc_trampoline.specs.declared.part.Mark.{Mark}

-- whether there is a slot, without its number
abbrev pub any_slot : Option ℕ → Option ℕ
any_slot n = option_map (λ (i : ℕ). 0) n

-- a part of a trampoline without the number of its slot or options
abbrev pub unnumbered_part : plan.TrampolinePart Mark → plan.TrampolinePart Mark
unnumbered_part (plan.slot k n) = plan.slot k (any_slot n)
unnumbered_part (plan.options o) = plan.options 0
unnumbered_part p = p

-- a trampoline without the numbers of what it names: its lowering, its options, its slots
abbrev pub unnumbered : plan.TrampolineEntry Mark → plan.TrampolineEntry Mark
unnumbered (plan.lowers index s ty o) = plan.lowers 0 s ty 0
unnumbered (plan.builtin k symbol c ps) = plan.builtin k symbol c (map unnumbered_part ps)
unnumbered (plan.helper k symbol ps) = plan.helper k symbol (map unnumbered_part ps)

-- where values lie, without the numbers of the memory and its realloc
abbrev pub unnumbered_model : plan.ModelEntry → plan.ModelEntry
unnumbered_model plan.gc = plan.gc
unnumbered_model (plan.linear m r) = plan.linear (any_slot m) (any_slot r)

-- options without the numbers of their slots
abbrev pub unnumbered_options : plan.PlanOptions Mark → plan.PlanOptions Mark
unnumbered_options o = record o {
  callback = any_slot o.callback;
  post_return = any_slot o.post_return;
  model = unnumbered_model o.model;
}
