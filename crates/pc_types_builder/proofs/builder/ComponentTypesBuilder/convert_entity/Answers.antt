use Rattle.pc_types_lists.proofs.ErrorLemmas.{told}
use Rattle.pc_types_lists.proofs.Growth.{too_full}
use Rattle.pc_types_builder.proofs.TreeLemmas.{entity_is, entity_was}
use Rattle.std.proofs.Common.{subst}
use Rattle.pc_types_builder.specs.Asked.{AddsAsked}
use Rattle.pc_types_builder.proofs.AskedLemmas.{entity_asked}
use Rattle.pc_types_builder.proofs.builder.ComponentTypesBuilder.convert_entity.Goals as goal

pub returns-in_ok-entry_type-clause-tree : goal.returns-in_ok-entry_type-clause-tree
returns-in_ok-entry_type-clause-tree c =
    entity_is c.entry_type.new.interned c.args.table.now c.args.e.now c.number_of.result c.in_ok-entry_type.field-0
    c.number_of.ensures
    c.in_ok-entry_type.ensures.tree

pub returns-in_err-entry_type-clause-full : goal.returns-in_err-entry_type-clause-full
returns-in_err-entry_type-clause-full c h =
    too_full _ _ _
    (λ next g is q.
    (q.0, entity_was next c.args.table.now c.args.e.now c.number_of.result q.0 c.number_of.ensures q.1))
    (told c.from_residual.result c.in_err-entry_type.field-0.0 c.from_residual.ensures.1
    c.in_err-entry_type.ensures.full h)

pub returns-in_ok-entry_type-clause-adds : goal.returns-in_ok-entry_type-clause-adds
returns-in_ok-entry_type-clause-adds c =
    entity_asked c.args.table.now c.args.e.now c.number_of.result _ _ c.number_of.ensures
    (subst (λ b. AddsAsked c.args.table.now c.number_of.result b c.entry_type.new.interned) c.self.view_is
    c.entry_type.ensures.adds)

pub returns-in_err-entry_type-clause-adds : goal.returns-in_err-entry_type-clause-adds
returns-in_err-entry_type-clause-adds c =
    entity_asked c.args.table.now c.args.e.now c.number_of.result _ _ c.number_of.ensures
    (subst (λ b. AddsAsked c.args.table.now c.number_of.result b c.entry_type.new.interned) c.self.view_is
    c.entry_type.ensures.adds)
