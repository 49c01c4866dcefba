use Rattle.std.proofs.Common.{[], ◌∷◌, All, sym, subst}
use Rattle.pc_dfg.specs.Held.{IsHeld}
use Rattle.pc_dfg.specs.Names.{if_any}
use Rattle.pc_dfg.proofs.AllLemmas.{all_first}
use Rattle.pc_spec_plan.specs.PlanView as plan
use Rattle.pc_adapt.specs.declared.import.Import.TheVariants as import
use Rattle.pc_adapt_define.specs.Adds.{Adds, one_if}
use Rattle.pc_adapt_define.specs.Only.{AddsOnly}
use Rattle.pc_adapt_define.proofs.AddsLemmas.{adds_callback}
use Rattle.pc_adapt_define.proofs.OnlyLemmas.{contains_first, only_callback, slot_of}
use Rattle.pc_adapt_define.proofs.slots.callback_slot.Goals as goal

pub returns-in_ok-push_callback-in-Some-clause-adds : goal.returns-in_ok-push_callback-in-Some-clause-adds
returns-in_ok-push_callback-in-Some-clause-adds c =
    let held = subst (λ m. All (IsHeld c.args.graph.now) (if_any m)) c.in-Some.is c.requires.held in
    subst (λ m. Adds 0 (one_if m) 0 0 c.args.graph.now c.push_callback.new.self) (sym c.in-Some.is) (
    adds_callback _ _ c.push_callback.ensures.grows
    (c.push_callback.ensures.ordered (all_first (IsHeld c.args.graph.now) _ [] held)) _ c.push_callback.ensures.rest
    c.push_callback.ensures.put)

pub returns-in_ok-push_callback-in-Some-clause-only : goal.returns-in_ok-push_callback-in-Some-clause-only
returns-in_ok-push_callback-in-Some-clause-only c p =
    subst (λ m. AddsOnly (import.StartCall m p ∷ []) c.args.graph.now c.push_callback.new.self) (sym c.in-Some.is)
    (only_callback _ _ (import.StartCall _ p ∷ []) _ c.push_callback.ensures.rest c.push_callback.ensures.put
    (slot_of (import.StartCall _ p) plan.callback _ (contains_first _ [])))
