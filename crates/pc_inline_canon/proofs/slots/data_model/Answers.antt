use Rattle.std.proofs.Common.{subst}
use Rattle.pc_types.specs.declared.parsed.CoreKind.TheVariants as core
use Rattle.pc_spec_plan.specs.PlanView as plan
use Rattle.pc_inline_state.specs.AddsEach.{in_slots}
use Rattle.pc_inline_state.specs.Slots.{ModelThere}
use Rattle.pc_inline_state.proofs.AddsLemmas.{each_refl, model_adds}
use Rattle.pc_inline_state.proofs.StateLemmas.{prepares_trans}
use Rattle.pc_inline_canon.proofs.KeptLemmas.{maybe_kept}
use Rattle.pc_inline_canon.proofs.OptionsEntryLemmas.{gc_held, gc_slots, held_kept, linear_held, linear_slots, slot_kept}
use Rattle.pc_inline_canon.proofs.OptionsEntryLemmas.{there_kept}
use Rattle.pc_inline_canon.proofs.slots.data_model.Goals as goal

pub maybe_realloc_slot-requires : goal.maybe_realloc_slot-requires
maybe_realloc_slot-requires c =
    let there = subst (ModelThere _ _) c.in-LinearMemory.is c.requires.there in
    record {
      sound = c.maybe_memory_slot.ensures.prepares.sound c.requires.sound;
      there = there_kept _ _ _ c.maybe_memory_slot.ensures.prepares.keeps core.Func _ there.1;
    }

pub returns-in_err-realloc-in-LinearMemory-clause-prepares : goal.returns-in_err-realloc-in-LinearMemory-clause-prepares
returns-in_err-realloc-in-LinearMemory-clause-prepares c =
    prepares_trans _ _ _ _ _ c.maybe_memory_slot.ensures.prepares c.maybe_realloc_slot.ensures.prepares

pub returns-in-Gc-clause-model : goal.returns-in-Gc-clause-model
returns-in-Gc-clause-model c v stands = gc_slots _ _ _ _ c.in-Gc.is v stands

pub returns-in-Gc-clause-held : goal.returns-in-Gc-clause-held
returns-in-Gc-clause-held c = gc_held _

pub returns-in_ok-realloc-in-LinearMemory-clause-prepares : goal.returns-in_ok-realloc-in-LinearMemory-clause-prepares
returns-in_ok-realloc-in-LinearMemory-clause-prepares c =
    prepares_trans _ _ _ _ _ c.maybe_memory_slot.ensures.prepares c.maybe_realloc_slot.ensures.prepares

pub returns-in_ok-realloc-in-LinearMemory-clause-model : goal.returns-in_ok-realloc-in-LinearMemory-clause-model
returns-in_ok-realloc-in-LinearMemory-clause-model c v stands =
    linear_slots _ _ _ _ _ _ _
    (λ w x. slot_kept c.args.context.now.modules _ _ c.maybe_realloc_slot.ensures.prepares.keeps plan.memory _ w
    (c.in_ok-memory-in-LinearMemory.ensures.slot w x))
    (λ w x. c.in_ok-realloc-in-LinearMemory.ensures.slot w
    (maybe_kept _ _ _ c.maybe_memory_slot.ensures.prepares.keeps core.Func _ w x)) _ c.in-LinearMemory.is v
    stands

pub returns-in_ok-realloc-in-LinearMemory-clause-held : goal.returns-in_ok-realloc-in-LinearMemory-clause-held
returns-in_ok-realloc-in-LinearMemory-clause-held c =
    linear_held _ _ _
    (held_kept c.args.context.now.modules _ _ c.maybe_realloc_slot.ensures.prepares.keeps plan.memory _
    c.in_ok-memory-in-LinearMemory.ensures.held) c.in_ok-realloc-in-LinearMemory.ensures.held

pub returns-in-Gc-clause-adds : goal.returns-in-Gc-clause-adds
returns-in-Gc-clause-adds c = each_refl (in_slots 2) 0 0 _

pub returns-in_err-memory-in-LinearMemory-clause-adds : goal.returns-in_err-memory-in-LinearMemory-clause-adds
returns-in_err-memory-in-LinearMemory-clause-adds c =
    model_adds _ _ _ c.maybe_memory_slot.ensures.adds (each_refl (in_slots 1) 0 0 _)

pub returns-in_err-realloc-in-LinearMemory-clause-adds : goal.returns-in_err-realloc-in-LinearMemory-clause-adds
returns-in_err-realloc-in-LinearMemory-clause-adds c =
    model_adds _ _ _ c.maybe_memory_slot.ensures.adds c.maybe_realloc_slot.ensures.adds

pub returns-in_ok-realloc-in-LinearMemory-clause-adds : goal.returns-in_ok-realloc-in-LinearMemory-clause-adds
returns-in_ok-realloc-in-LinearMemory-clause-adds c =
    model_adds _ _ _ c.maybe_memory_slot.ensures.adds c.maybe_realloc_slot.ensures.adds
