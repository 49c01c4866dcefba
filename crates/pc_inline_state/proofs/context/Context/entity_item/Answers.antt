use Rattle.std.proofs.Common.{List, refl, sym, subst}
use Rattle.pc_inline_state.specs.declared.definition.CoreId.{CoreId}
use Rattle.pc_inline_state.specs.declared.entity_items.InstanceEntity.{InstanceEntity}
use Rattle.pc_inline_state.specs.AddsEach.{nowhere}
use Rattle.pc_inline_state.specs.Prepares.{Prepares}
use Rattle.pc_inline_state.specs.Tables.{tables_of}
use Rattle.pc_inline_state.proofs.AddsLemmas.{each_refl}
use Rattle.pc_inline_state.proofs.FoundLemmas.{cores_rest, entity_item_made, noted_entity}
use Rattle.pc_inline_state.proofs.RefusedLemmas.{handed_lacks, memory_lacks}
use Rattle.pc_inline_state.proofs.StateLemmas.{core_pushed, entity_prepares, prepares_trans}
use Rattle.pc_inline_state.proofs.context.Context.entity_item.Goals as goal

pub returns-in-Some-clause-adds : goal.returns-in-Some-clause-adds
returns-in-Some-clause-adds c = each_refl nowhere 1 0 (tables_of c.args.state.now)

pub returns-in-Some-clause-item : goal.returns-in-Some-clause-item
returns-in-Some-clause-item c = noted_entity _ _ _ c.requires.sound.placed _ _ _ c.get.ensures c.in-Some.is

pub returns-in_err-id-clause-prepares : goal.returns-in_err-id-clause-prepares
returns-in_err-id-clause-prepares c =
    core_pushed c.args.self.now.table.now c.args.self.now.modules c.push_core.result c.args.state.now
    c.push_core.new.self c.entity_def.result c.push_core.ensures.ok c.push_core.ensures.err

pub returns-in_err-id-clause-adds : goal.returns-in_err-id-clause-adds
returns-in_err-id-clause-adds c = c.push_core.ensures.adds

pub returns-in_err-id-clause-rest : goal.returns-in_err-id-clause-rest
returns-in_err-id-clause-rest c =
    cores_rest c.args.state.now c.push_core.new.self _ _ c.in_err-id.ensures.err

pub returns-in_err-id-clause-err : goal.returns-in_err-id-clause-err
returns-in_err-id-clause-err c = handed_lacks _ _ _ c.from_residual.ensures.1 c.in_err-id.ensures.lacks

pub returns-in_err-insert-clause-prepares : goal.returns-in_err-insert-clause-prepares
returns-in_err-insert-clause-prepares c =
    let pushed = c.push_core.new.self in
    subst (λ (items : List (InstanceEntity × CoreId)).
    Prepares c.args.self.now.table.now c.args.self.now.modules c.args.state.now
    (record pushed { places = record pushed.places { entity_items = items } })) (sym c.in_err-insert.ensures.err)
    (core_pushed c.args.self.now.table.now c.args.self.now.modules c.push_core.result c.args.state.now pushed
    c.entity_def.result c.push_core.ensures.ok c.push_core.ensures.err)

pub returns-in_err-insert-clause-adds : goal.returns-in_err-insert-clause-adds
returns-in_err-insert-clause-adds c = c.push_core.ensures.adds

pub returns-in_err-insert-clause-rest : goal.returns-in_err-insert-clause-rest
returns-in_err-insert-clause-rest c =
    cores_rest c.args.state.now c.push_core.new.self _ _ c.in_ok-id.ensures.ok

pub returns-in_err-insert-clause-err : goal.returns-in_err-insert-clause-err
returns-in_err-insert-clause-err c = memory_lacks _ _ c.from_residual-in_err-insert.ensures.1

pub returns-clause-prepares : goal.returns-clause-prepares
returns-clause-prepares c =
    let pushed = c.push_core.new.self in
    prepares_trans c.args.self.now.table.now c.args.self.now.modules c.args.state.now pushed _
    (core_pushed c.args.self.now.table.now c.args.self.now.modules c.push_core.result c.args.state.now pushed
    c.entity_def.result c.push_core.ensures.ok c.push_core.ensures.err)
    (entity_prepares c.args.self.now.table.now c.args.self.now.modules pushed _ c.args.entity c.in_ok-id.id
    (record { entity_items = c.in_ok-insert.ensures.ok; rest = refl })
    (entity_item_made c.args.state.now pushed c.args.entity _ c.in_ok-id.id c.entity_def.ensures c.in_ok-id.ensures.key
    c.in_ok-id.ensures.ok))

pub returns-clause-adds : goal.returns-clause-adds
returns-clause-adds c = c.push_core.ensures.adds

pub returns-clause-rest : goal.returns-clause-rest
returns-clause-rest c =
    cores_rest c.args.state.now c.push_core.new.self _ _ c.in_ok-id.ensures.ok

pub returns-clause-item : goal.returns-clause-item
returns-clause-item c =
    entity_item_made c.args.state.now c.push_core.new.self c.args.entity _ c.in_ok-id.id c.entity_def.ensures
    c.in_ok-id.ensures.key c.in_ok-id.ensures.ok
