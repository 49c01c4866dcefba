use Rattle.std.proofs.Common.{ap, sym, ◌∙◌}
use Rattle.std.specs.Prelude.{slice_get}
use Rattle.pc_types.specs.Table.{is_some_and}
use Rattle.pc_inline_state.specs.Definitions.{is_of_kind}
use Rattle.pc_inline_state.specs.Lists.{with_item_id}
use Rattle.pc_inline_canon.proofs.PassedLemmas.{passed_unfed}
use Rattle.pc_inline_items.proofs.TakenLemmas.{argument_stands, import_absent, import_other, import_plain, import_refused, import_taken}
use Rattle.pc_inline_items.proofs.TakenLemmas.{import_untyped}
use Rattle.pc_inline_items.proofs.imports.step_import.Goals as goal

pub returns-then-not-names_entry-clause-steps : goal.returns-then-not-names_entry-clause-steps
returns-then-not-names_entry-clause-steps c name number =
    import_untyped c.args.context.now.table.now c.args.context.now.modules c.args.state.now c.args.frame.now
    name c.args.entity c.args.state.now c.args.frame.now
    (sym c.names_entry.ensures ∙ c.if-not-names_entry.true)

pub returns-then-is_plain_type-clause-steps : goal.returns-then-is_plain_type-clause-steps
returns-then-is_plain_type-clause-steps c name number =
    import_plain c.args.context.now.table.now c.args.context.now.modules c.args.state.now c.args.frame.now
    name c.args.entity (sym c.names_entry.ensures ∙ c.if-not-names_entry.false)
    c.args.number number (sym c.get.ensures ∙ sym c.copied.ensures ∙ c.in_default.is) (sym c.is_plain_type.ensures ∙ c.if-is_plain_type.true) tt

pub returns-in_default-clause-steps : goal.returns-in_default-clause-steps
returns-in_default-clause-steps c name number =
    import_absent c.args.context.now.table.now c.args.context.now.modules c.args.state.now c.args.frame.now
    name c.args.entity (sym c.names_entry.ensures ∙ c.if-not-names_entry.false)
    c.args.number number (sym c.get.ensures ∙ sym c.copied.ensures ∙ c.in_default.is) c.args.state.now c.args.frame.now (sym c.is_plain_type.ensures ∙ c.if-is_plain_type.false)

pub returns-then-not-is_of_kind-clause-steps : goal.returns-then-not-is_of_kind-clause-steps
returns-then-not-is_of_kind-clause-steps c name number =
    import_other c.args.context.now.table.now c.args.context.now.modules c.args.state.now c.args.frame.now
    name c.args.entity (sym c.names_entry.ensures ∙ c.if-not-names_entry.false) c.args.number
    number c.in-Some.id (sym c.get.ensures ∙ sym c.copied.ensures ∙ c.in-Some.is) c.args.state.now c.args.frame.now
    (ap (λ k. is_some_and (is_of_kind k) (slice_get c.args.state.now.definitions c.in-Some.id.0))
    (sym c.kind_of-kind.ensures)
    ∙ sym c.is_of_kind.ensures ∙ c.if-not-is_of_kind.true)

pub take_resources-requires-clause-value : goal.take_resources-requires-clause-value
take_resources-requires-clause-value c =
    argument_stands c.args.context.now.table.now c.args.context.now.modules c.args.state.now c.args.frame.now
    c.requires.here.0 c.requires.here.1 c.args.number c.requires.named c.in-Some.id
    (sym c.get.ensures ∙ sym c.copied.ensures ∙ c.in-Some.is)

pub returns-in_err-take_resources-clause-steps : goal.returns-in_err-take_resources-clause-steps
returns-in_err-take_resources-clause-steps c name number =
    import_refused c.args.context.now.table.now c.args.context.now.modules c.args.state.now c.args.frame.now
    name c.args.entity (sym c.names_entry.ensures ∙ c.if-not-names_entry.false) c.args.number
    number c.in-Some.id (sym c.get.ensures ∙ sym c.copied.ensures ∙ c.in-Some.is)
    (ap (λ k. is_some_and (is_of_kind k) (slice_get c.args.state.now.definitions c.in-Some.id.0))
    (sym c.kind_of-kind.ensures)
    ∙ sym c.is_of_kind.ensures ∙ c.if-not-is_of_kind.false) _ _ _ _ c.from_residual.ensures.1
    c.in_err-take_resources.ensures.steps

pub returns-in_err-push_item-clause-steps : goal.returns-in_err-push_item-clause-steps
returns-in_err-push_item-clause-steps c name number = passed_unfed _ _ _ _ _ _ _ _ c.from_residual-in_err-push_item.ensures.1

pub returns-clause-steps : goal.returns-clause-steps
returns-clause-steps c name number =
    import_taken c.args.context.now.table.now c.args.context.now.modules c.args.state.now c.args.frame.now
    name c.args.entity (sym c.names_entry.ensures ∙ c.if-not-names_entry.false) c.args.number
    number c.in-Some.id (sym c.get.ensures ∙ sym c.copied.ensures ∙ c.in-Some.is)
    (ap (λ k. is_some_and (is_of_kind k) (slice_get c.args.state.now.definitions c.in-Some.id.0))
    (sym c.kind_of-kind.ensures)
    ∙ sym c.is_of_kind.ensures ∙ c.if-not-is_of_kind.false) _ _ _ _ tt c.take_resources.ensures.keeps
    c.in_ok-take_resources.ensures.steps
    (c.in_ok-push_item.ensures.ok ∙ ap
    (λ k. with_item_id c.take_resources.new.frame k c.in-Some.id) c.kind_of-kind.ensures)
