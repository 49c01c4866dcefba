use Rattle.std.proofs.Common.{sym, ◌∙◌}
use Rattle.pc_inline_canon.proofs.PassedLemmas.{passed_unfed}
use Rattle.pc_inline_items.proofs.ExportStepLemmas.{export_misses, export_steps, export_type, export_untyped}
use Rattle.pc_inline_items.proofs.ItemLemmas.{other_kind}
use Rattle.pc_inline_items.proofs.instances.step_export.Goals as goal

pub returns-then-not-is_typed-clause-steps : goal.returns-then-not-is_typed-clause-steps
returns-then-not-is_typed-clause-steps c ms st name =
    export_untyped c.args.table.now ms st c.args.frame.now name c.args.kind c.args.index c.args.frame.now
    (sym c.is_typed.ensures ∙ c.if-not-is_typed.true)

pub returns-in-Type_-clause-steps : goal.returns-in-Type_-clause-steps
returns-in-Type_-clause-steps c ms st name =
    export_type c.args.table.now ms st c.args.frame.now name c.args.kind c.args.index
    (sym c.is_typed.ensures ∙ c.if-not-is_typed.false) c.requires.sound c.in-Type_.is tt

pub returns-in_err-push_item-in-Some-clause-steps : goal.returns-in_err-push_item-in-Some-clause-steps
returns-in_err-push_item-in-Some-clause-steps c ms st name = passed_unfed _ _ _ _ _ _ _ _ c.from_residual.ensures.1

pub returns-in_ok-push_item-in-Some-clause-steps : goal.returns-in_ok-push_item-in-Some-clause-steps
returns-in_ok-push_item-in-Some-clause-steps c ms st name =
    export_steps c.args.table.now ms st c.args.frame.now name c.args.kind c.args.index
    (sym c.is_typed.ensures ∙ c.if-not-is_typed.false) (other_kind c.args.kind c.in_default.not-Type_) c.in-Some.id _
    (sym c.item.ensures ∙ c.in-Some.is) c.in_ok-push_item-in-Some.ensures.ok tt

pub returns-in-None-clause-steps : goal.returns-in-None-clause-steps
returns-in-None-clause-steps c ms st name =
    export_misses c.args.table.now ms st c.args.frame.now name c.args.kind c.args.index
    (sym c.is_typed.ensures ∙ c.if-not-is_typed.false) (other_kind c.args.kind c.in_default.not-Type_)
    c.args.frame.now (sym c.item.ensures ∙ c.in-None.is)
