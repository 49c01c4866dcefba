use Rattle.std.proofs.Common.{arith, sym, ◌∙◌}
use Rattle.pc_inline_canon.proofs.PassedLemmas.{passed_lacking}
use Rattle.pc_inline_canon.proofs.StepLemmas.{steps_on, steps_stuck}
use Rattle.pc_inline_state.specs.declared.error.ItemFault.TheVariants as item_fault
use Rattle.pc_inline_state.proofs.AddsLemmas.{adds_weaken}
use Rattle.pc_inline_imports.proofs.MomentLemmas.{defined_goes, prepare_untyped}
use Rattle.pc_inline_imports.proofs.imports.prepare.Goals as goal

pub returns-then-not-names_entry-clause-steps : goal.returns-then-not-names_entry-clause-steps
returns-then-not-names_entry-clause-steps c numbered =
    steps_stuck _ _ _ _ _ _ _ item_fault.BadType (λ now at.
    prepare_untyped _ c.args.name.now c.args.entity now (sym c.names_entry.ensures ∙ c.if-not-names_entry.true))

pub returns-in_err-entity_type-clause-steps : goal.returns-in_err-entity_type-clause-steps
returns-in_err-entity_type-clause-steps c numbered =
    passed_lacking _ _ _ _ _ _ _ _ _ c.from_residual.ensures.1 c.in_err-entity_type.ensures.err

pub returns-in_err-entity_type-clause-adds : goal.returns-in_err-entity_type-clause-adds
returns-in_err-entity_type-clause-adds c = adds_weaken _ _ _ _ _ (omega arith) c.entity_type.ensures.adds

pub returns-then-is_defined_entity-clause-steps : goal.returns-then-is_defined_entity-clause-steps
returns-then-is_defined_entity-clause-steps c numbered =
    steps_on _ _ _ _ _ _ _ tt (λ now at.
    defined_goes _ _ _ c.args.frame.now _ _ c.entity_type.ensures.converts c.args.name.now c.args.entity
    (sym c.names_entry.ensures ∙ c.if-not-names_entry.false)
    (sym c.is_defined_entity.ensures ∙ c.if-is_defined_entity.true) now at)

pub returns-then-is_defined_entity-clause-adds : goal.returns-then-is_defined_entity-clause-adds
returns-then-is_defined_entity-clause-adds c = adds_weaken _ _ _ _ _ (omega arith) c.entity_type.ensures.adds
