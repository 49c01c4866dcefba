use Rattle.std.proofs.Common.{[], ◌∷◌, All, sym, subst}
use Rattle.pc_dfg.specs.Held.{IsHeld}
use Rattle.pc_dfg.specs.Names.{if_any}
use Rattle.pc_dfg.proofs.AllLemmas.{all_first}
use Rattle.pc_spec_plan.specs.PlanView as plan
use Rattle.pc_adapt.specs.declared.import.Import.TheVariants as import
use Rattle.pc_adapt_define.specs.Adds.{Adds, one_if}
use Rattle.pc_adapt_define.specs.Only.{AddsOnly}
use Rattle.pc_adapt_define.proofs.AddsLemmas.{adds_post_return}
use Rattle.pc_adapt_define.proofs.OnlyLemmas.{contains_first, only_post_return, slot_of}
use Rattle.pc_adapt_define.proofs.slots.post_return_slot.Goals as goal

pub returns-in_ok-push_post_return-in-Some-clause-adds : goal.returns-in_ok-push_post_return-in-Some-clause-adds
returns-in_ok-push_post_return-in-Some-clause-adds c =
    let held = subst (λ m. All (IsHeld c.args.graph.now) (if_any m)) c.in-Some.is c.requires.held in
    subst (λ m. Adds 0 0 (one_if m) 0 c.args.graph.now c.push_post_return.new.self) (sym c.in-Some.is) (
    adds_post_return _ _ c.push_post_return.ensures.grows
    (c.push_post_return.ensures.ordered (all_first (IsHeld c.args.graph.now) _ [] held)) _
    c.push_post_return.ensures.rest
    c.push_post_return.ensures.put)

pub returns-in_ok-push_post_return-in-Some-clause-only : goal.returns-in_ok-push_post_return-in-Some-clause-only
returns-in_ok-push_post_return-in-Some-clause-only c p =
    subst (λ m. AddsOnly (import.StartCall p m ∷ []) c.args.graph.now c.push_post_return.new.self) (sym c.in-Some.is)
    (only_post_return _ _ (import.StartCall p _ ∷ []) _ c.push_post_return.ensures.rest c.push_post_return.ensures.put
    (slot_of (import.StartCall p _) plan.post_return _ (contains_first _ [])))
