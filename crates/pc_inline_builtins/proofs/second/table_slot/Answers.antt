use Rattle.std.proofs.Common.{Err, ap, sym, subst, ◌∙◌}
use Rattle.pc_types.specs.declared.parsed.CoreKind.TheVariants as core
use Rattle.pc_spec_plan.specs.PlanView as plan
use Rattle.pc_inline_state.specs.AddsEach.{in_options}
use Rattle.pc_inline_state.specs.Tables.{IsItem}
use Rattle.pc_inline_state.proofs.AddsLemmas.{each_refl}
use Rattle.pc_inline_state.proofs.PlacedLemmas.{notes_table, table_noted}
use Rattle.pc_inline_state.proofs.RefusedLemmas.{memory_lacks, push_lacks}
use Rattle.pc_inline_canon.proofs.SlotLemmas.{noted_prepares, there_usable, unnoted_prepares}
use Rattle.pc_inline_builtins.proofs.TableLemmas.{in_table, table_adds, table_crowded, table_fits, table_prepares}
use Rattle.pc_inline_builtins.proofs.second.table_slot.Goals as goal

pub table_of-requires : goal.table_of-requires
table_of-requires c = record {
  table = table_fits _ _ _ (there_usable _ _ core.Table _ _ c.requires.there c.index.ensures);
}

pub returns-in-Some-clause-slot : goal.returns-in-Some-clause-slot
returns-in-Some-clause-slot c =
    c.requires.sound.placed.slots plan.table _ _
    (table_noted c.args.state.now.places _ _ c.get.ensures _ c.in-Some.is)

pub returns-in-Some-clause-adds : goal.returns-in-Some-clause-adds
returns-in-Some-clause-adds c = each_refl in_options 0 0 _

pub returns-in_err-table-clause-err : goal.returns-in_err-table-clause-err
returns-in_err-table-clause-err c = memory_lacks _ _ c.from_residual.ensures.1

pub returns-in_err-table-clause-adds : goal.returns-in_err-table-clause-adds
returns-in_err-table-clause-adds c = each_refl in_options 0 0 _

pub returns-in_err-slot-clause-err : goal.returns-in_err-slot-clause-err
returns-in_err-slot-clause-err c =
    push_lacks _ _ _ c.from_residual-in_err-slot.ensures.1
    (λ is. table_crowded c.args.context.now.table.now c.args.context.now.modules c.args.state.now _
    c.push_table.ensures.grows _ c.push_table.ensures.rest c.push_table.ensures.put
    (c.push_table.ensures.full.0 (c.in_err-slot.was ∙ ap Err is)))

pub returns-in_err-set-clause-prepares : goal.returns-in_err-set-clause-prepares
returns-in_err-set-clause-prepares c =
    unnoted_prepares _ _ c.args.state.now _ _
    (λ i. record c.args.state.now.places { tables = c.in_err-set.ensures.err i })
    (table_prepares _ _ c.args.state.now _ c.push_table.ensures.grows _ c.push_table.ensures.rest
    c.push_table.ensures.put
    (subst (λ d. IsItem c.args.context.now.modules c.args.state.now.graph core.Table d) (sym c.in_ok-table.ensures)
    (there_usable _ _ core.Table _ _ c.requires.there c.index.ensures)) c.push_table.ensures.ordered)

pub returns-in_err-set-clause-adds : goal.returns-in_err-set-clause-adds
returns-in_err-set-clause-adds c =
    table_adds c.args.context.now.table.now c.args.context.now.modules c.args.state.now _ c.push_table.ensures.grows _
    c.push_table.ensures.rest c.push_table.ensures.put

pub returns-in_err-set-clause-err : goal.returns-in_err-set-clause-err
returns-in_err-set-clause-err c = memory_lacks _ _ c.from_residual-in_err-set.ensures.1

pub returns-clause-prepares : goal.returns-clause-prepares
returns-clause-prepares c =
    noted_prepares _ _ c.args.state.now _ _ plan.table _ _
    (table_prepares _ _ c.args.state.now _ c.push_table.ensures.grows _ c.push_table.ensures.rest
    c.push_table.ensures.put
    (subst (λ d. IsItem c.args.context.now.modules c.args.state.now.graph core.Table d) (sym c.in_ok-table.ensures)
    (there_usable _ _ core.Table _ _ c.requires.there c.index.ensures)) c.push_table.ensures.ordered)
    (notes_table c.args.state.now.places _ _ _ c.in_ok-set.ensures.ok)
    (in_table _ _ _ _ _ c.index.ensures c.in_ok-table.ensures c.in_ok-slot.ensures.held)

pub returns-clause-slot : goal.returns-clause-slot
returns-clause-slot c = in_table _ _ _ _ _ c.index.ensures c.in_ok-table.ensures c.in_ok-slot.ensures.held

pub returns-clause-adds : goal.returns-clause-adds
returns-clause-adds c =
    table_adds c.args.context.now.table.now c.args.context.now.modules c.args.state.now _ c.push_table.ensures.grows _
    c.push_table.ensures.rest c.push_table.ensures.put
