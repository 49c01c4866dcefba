use Rattle.std.proofs.Common.{Err, ap, ◌∙◌}
use Rattle.pc_types.specs.declared.parsed.CoreKind.TheVariants as core
use Rattle.pc_spec_plan.specs.PlanView as plan
use Rattle.pc_inline_state.specs.AddsEach.{in_slots}
use Rattle.pc_inline_state.proofs.AddsLemmas.{each_refl}
use Rattle.pc_inline_state.proofs.AddsPushLemmas.{callback_adds}
use Rattle.pc_inline_state.proofs.PlacedLemmas.{callback_noted, notes_callback}
use Rattle.pc_inline_state.proofs.RefusedLemmas.{memory_lacks, push_lacks}
use Rattle.pc_inline_canon.proofs.SlotLemmas.{in_callback, noted_prepares, callback_crowded, callback_prepares}
use Rattle.pc_inline_canon.proofs.SlotLemmas.{there_usable, unnoted_prepares}
use Rattle.pc_inline_canon.proofs.slots.callback_slot.Goals as goal

pub returns-in-Some-clause-slot : goal.returns-in-Some-clause-slot
returns-in-Some-clause-slot c =
    c.requires.sound.placed.slots plan.callback _ _
    (callback_noted c.args.state.now.places _ _ c.get.ensures _ c.in-Some.is)

pub returns-in-Some-clause-adds : goal.returns-in-Some-clause-adds
returns-in-Some-clause-adds c = each_refl (in_slots 1) 0 0 _

pub returns-in_err-def-clause-err : goal.returns-in_err-def-clause-err
returns-in_err-def-clause-err c = memory_lacks _ _ c.from_residual.ensures.1

pub returns-in_err-def-clause-adds : goal.returns-in_err-def-clause-adds
returns-in_err-def-clause-adds c = each_refl (in_slots 1) 0 0 _

pub returns-in_err-slot-clause-err : goal.returns-in_err-slot-clause-err
returns-in_err-slot-clause-err c =
    push_lacks _ _ _ c.from_residual-in_err-slot.ensures.1
    (λ is. callback_crowded _ _ c.push_callback.ensures.grows
    (c.push_callback.ensures.full.0 (c.in_err-slot.was ∙ ap Err is)))

pub returns-in_err-slot-clause-adds : goal.returns-in_err-slot-clause-adds
returns-in_err-slot-clause-adds c = callback_adds _ _ _ c.push_callback.ensures.rest c.push_callback.ensures.put

pub returns-in_err-set-clause-prepares : goal.returns-in_err-set-clause-prepares
returns-in_err-set-clause-prepares c =
    unnoted_prepares _ _ c.args.state.now _ _
    (λ i. record c.args.state.now.places { callbacks = c.in_err-set.ensures.err i })
    (callback_prepares _ _ _ _ c.push_callback.ensures.grows _
    (there_usable _ _ core.Func _ _ c.requires.there c.in_ok-def.ensures) c.push_callback.ensures.rest
    c.push_callback.ensures.put c.push_callback.ensures.ordered)

pub returns-in_err-set-clause-adds : goal.returns-in_err-set-clause-adds
returns-in_err-set-clause-adds c = callback_adds _ _ _ c.push_callback.ensures.rest c.push_callback.ensures.put

pub returns-in_err-set-clause-err : goal.returns-in_err-set-clause-err
returns-in_err-set-clause-err c = memory_lacks _ _ c.from_residual-in_err-set.ensures.1

pub returns-clause-prepares : goal.returns-clause-prepares
returns-clause-prepares c =
    noted_prepares _ _ c.args.state.now _ _ plan.callback _ _
    (callback_prepares _ _ _ _ c.push_callback.ensures.grows _
    (there_usable _ _ core.Func _ _ c.requires.there c.in_ok-def.ensures) c.push_callback.ensures.rest
    c.push_callback.ensures.put c.push_callback.ensures.ordered)
    (notes_callback c.args.state.now.places _ _ _ c.in_ok-set.ensures.ok)
    (in_callback _ _ _ _ c.in_ok-def.ensures c.in_ok-slot.ensures.held)

pub returns-clause-slot : goal.returns-clause-slot
returns-clause-slot c =
    in_callback _ _ _ _ c.in_ok-def.ensures c.in_ok-slot.ensures.held

pub returns-clause-adds : goal.returns-clause-adds
returns-clause-adds c = callback_adds _ _ _ c.push_callback.ensures.rest c.push_callback.ensures.put
