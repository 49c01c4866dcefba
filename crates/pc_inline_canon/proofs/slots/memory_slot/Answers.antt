use Rattle.std.proofs.Common.{Err, ap, sym, subst, ◌∙◌}
use Rattle.pc_types.specs.declared.parsed.CoreKind.TheVariants as core
use Rattle.pc_spec_plan.specs.PlanView as plan
use Rattle.pc_inline_state.specs.AddsEach.{in_slots}
use Rattle.pc_inline_state.specs.Tables.{IsItem}
use Rattle.pc_inline_state.proofs.AddsLemmas.{each_refl}
use Rattle.pc_inline_state.proofs.AddsPushLemmas.{memory_adds}
use Rattle.pc_inline_state.proofs.PlacedLemmas.{memory_noted, notes_memory}
use Rattle.pc_inline_state.proofs.RefusedLemmas.{memory_lacks, push_lacks}
use Rattle.pc_inline_canon.proofs.MemoryLemmas.{in_memory, memory_crowded, memory_fits, memory_prepares}
use Rattle.pc_inline_canon.proofs.SlotLemmas.{noted_prepares, there_usable, unnoted_prepares}
use Rattle.pc_inline_canon.proofs.slots.memory_slot.Goals as goal

pub memory_of-requires : goal.memory_of-requires
memory_of-requires c = record {
  memory = memory_fits _ _ _ (there_usable _ _ core.Memory _ _ c.requires.there c.index.ensures);
}

pub returns-in-Some-clause-slot : goal.returns-in-Some-clause-slot
returns-in-Some-clause-slot c =
    c.requires.sound.placed.slots plan.memory _ _
    (memory_noted c.args.state.now.places _ _ c.get.ensures _ c.in-Some.is)

pub returns-in-Some-clause-adds : goal.returns-in-Some-clause-adds
returns-in-Some-clause-adds c = each_refl (in_slots 1) 0 0 _

pub returns-in_err-memory-clause-err : goal.returns-in_err-memory-clause-err
returns-in_err-memory-clause-err c = memory_lacks _ _ c.from_residual.ensures.1

pub returns-in_err-memory-clause-adds : goal.returns-in_err-memory-clause-adds
returns-in_err-memory-clause-adds c = each_refl (in_slots 1) 0 0 _

pub returns-in_err-slot-clause-err : goal.returns-in_err-slot-clause-err
returns-in_err-slot-clause-err c =
    push_lacks _ _ _ c.from_residual-in_err-slot.ensures.1
    (λ is. memory_crowded _ _ c.push_memory.ensures.grows
    (c.push_memory.ensures.full.0 (c.in_err-slot.was ∙ ap Err is)))

pub returns-in_err-slot-clause-adds : goal.returns-in_err-slot-clause-adds
returns-in_err-slot-clause-adds c = memory_adds _ _ _ c.push_memory.ensures.rest c.push_memory.ensures.put

pub returns-in_err-set-clause-prepares : goal.returns-in_err-set-clause-prepares
returns-in_err-set-clause-prepares c =
    unnoted_prepares _ _ c.args.state.now _ _
    (λ i. record c.args.state.now.places { memories = c.in_err-set.ensures.err i })
    (memory_prepares _ _ _ _ c.push_memory.ensures.grows _
    (subst (λ d. IsItem c.args.context.now.modules c.args.state.now.graph core.Memory d)
    (sym c.in_ok-memory.ensures) (there_usable _ _ core.Memory _ _ c.requires.there c.index.ensures))
    c.push_memory.ensures.rest c.push_memory.ensures.put c.push_memory.ensures.ordered)

pub returns-in_err-set-clause-adds : goal.returns-in_err-set-clause-adds
returns-in_err-set-clause-adds c = memory_adds _ _ _ c.push_memory.ensures.rest c.push_memory.ensures.put

pub returns-in_err-set-clause-err : goal.returns-in_err-set-clause-err
returns-in_err-set-clause-err c = memory_lacks _ _ c.from_residual-in_err-set.ensures.1

pub returns-clause-prepares : goal.returns-clause-prepares
returns-clause-prepares c =
    noted_prepares _ _ c.args.state.now _ _ plan.memory _ _
    (memory_prepares _ _ _ _ c.push_memory.ensures.grows _
    (subst (λ d. IsItem c.args.context.now.modules c.args.state.now.graph core.Memory d)
    (sym c.in_ok-memory.ensures) (there_usable _ _ core.Memory _ _ c.requires.there c.index.ensures))
    c.push_memory.ensures.rest c.push_memory.ensures.put c.push_memory.ensures.ordered)
    (notes_memory c.args.state.now.places _ _ _ c.in_ok-set.ensures.ok)
    (in_memory _ _ _ _ _ c.index.ensures c.in_ok-memory.ensures c.in_ok-slot.ensures.held)

pub returns-clause-slot : goal.returns-clause-slot
returns-clause-slot c =
    in_memory _ _ _ _ _ c.index.ensures c.in_ok-memory.ensures c.in_ok-slot.ensures.held

pub returns-clause-adds : goal.returns-clause-adds
returns-clause-adds c = memory_adds _ _ _ c.push_memory.ensures.rest c.push_memory.ensures.put
