use Rattle.std.proofs.Common.{subst}
use Rattle.pc_types.specs.declared.parsed.CoreKind.TheVariants as core
use Rattle.pc_spec_plan.specs.PlanView as plan
use Rattle.pc_inline_state.specs.AddsEach.{in_slots}
use Rattle.pc_inline_state.specs.Slots.{MaybeThere}
use Rattle.pc_inline_state.specs.Tables.{tables_of}
use Rattle.pc_inline_state.proofs.AddsLemmas.{each_refl}
use Rattle.pc_inline_canon.proofs.SlotLemmas.{none_held, slot_held, slot_none, slot_some}
use Rattle.pc_inline_canon.proofs.slots.maybe_realloc_slot.Goals as goal

pub realloc_slot-requires-clause-there : goal.realloc_slot-requires-clause-there
realloc_slot-requires-clause-there c = subst (MaybeThere _ _ core.Func) c.in-Some.is c.requires.there

pub returns-in_ok-realloc_slot-in-Some-clause-slot : goal.returns-in_ok-realloc_slot-in-Some-clause-slot
returns-in_ok-realloc_slot-in-Some-clause-slot c v stands =
    slot_some _ (tables_of c.args.state.now) _ c.realloc_slot.ensures.prepares.keeps core.Func plan.realloc _ _
    c.in_ok-realloc_slot-in-Some.ensures.slot _ c.in-Some.is v stands

pub returns-in_ok-realloc_slot-in-Some-clause-held : goal.returns-in_ok-realloc_slot-in-Some-clause-held
returns-in_ok-realloc_slot-in-Some-clause-held c =
    slot_held _ plan.realloc _ _ c.in_ok-realloc_slot-in-Some.ensures.slot

pub returns-in-None-clause-slot : goal.returns-in-None-clause-slot
returns-in-None-clause-slot c v stands = slot_none _ _ core.Func plan.realloc _ c.in-None.is v stands

pub returns-in-None-clause-held : goal.returns-in-None-clause-held
returns-in-None-clause-held c = none_held _ plan.realloc

pub returns-in-None-clause-adds : goal.returns-in-None-clause-adds
returns-in-None-clause-adds c = each_refl (in_slots 1) 0 0 _
