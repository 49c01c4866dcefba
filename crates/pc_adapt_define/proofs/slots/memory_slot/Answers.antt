use Rattle.std.proofs.Common.{[], ◌∷◌, All, sym, subst}
use Rattle.std.specs.Prelude.{option_map}
use Rattle.pc_dfg.specs.Held.{IsHeld}
use Rattle.pc_dfg.specs.Names.{if_any}
use Rattle.pc_dfg.specs.Numbers.{memory_def}
use Rattle.pc_dfg.proofs.AllLemmas.{all_first}
use Rattle.pc_spec_plan.specs.PlanView as plan
use Rattle.pc_adapt.specs.declared.import.Import.TheVariants as import
use Rattle.pc_adapt_define.specs.Adds.{Adds, one_if}
use Rattle.pc_adapt_define.specs.Only.{AddsOnly}
use Rattle.pc_adapt_define.proofs.AddsLemmas.{adds_memory}
use Rattle.pc_adapt_define.proofs.OnlyLemmas.{contains_first, only_memory, slot_of}
use Rattle.pc_adapt_define.proofs.slots.memory_slot.Goals as goal

pub returns-in_ok-push_memory-in-Some-clause-adds : goal.returns-in_ok-push_memory-in-Some-clause-adds
returns-in_ok-push_memory-in-Some-clause-adds c =
    let held = subst (λ m. All (IsHeld c.args.graph.now) (if_any (option_map memory_def m))) c.in-Some.is
    c.requires.held in
    subst (λ m. Adds (one_if m) 0 0 0 c.args.graph.now c.push_memory.new.self) (sym c.in-Some.is) (
    adds_memory _ _ c.push_memory.ensures.grows
    (c.push_memory.ensures.ordered (all_first (IsHeld c.args.graph.now) _ [] held)) _ c.push_memory.ensures.rest
    c.push_memory.ensures.put)

pub returns-in_ok-push_memory-in-Some-clause-only : goal.returns-in_ok-push_memory-in-Some-clause-only
returns-in_ok-push_memory-in-Some-clause-only c =
    subst (λ m. AddsOnly (import.PrepareCall m ∷ []) c.args.graph.now c.push_memory.new.self) (sym c.in-Some.is)
    (only_memory _ _ (import.PrepareCall _ ∷ []) _ c.push_memory.ensures.rest c.push_memory.ensures.put
    (slot_of (import.PrepareCall _) plan.memory _ (contains_first _ [])))
