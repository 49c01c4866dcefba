use Rattle.std.proofs.Common.{sym, subst, ◌∙◌}
use Rattle.pc_types_builder.specs.Trees.{IsEntry}
use Rattle.pc_inline_builtins.proofs.TypeLemmas.{defined_answer, defined_lacks, defined_refused, entry_held}
use Rattle.pc_inline_builtins.proofs.ValueLemmas.{defined_interface}
use Rattle.pc_inline_builtins.proofs.values.defined_type.Goals as goal

pub returns-then-not-is_defined_type-clause-answers :
    goal.returns-then-not-is_defined_type-clause-answers
returns-then-not-is_defined_type-clause-answers c s knows =
    defined_refused c.args.state.now _ s knows _ (sym c.is_defined_type.ensures ∙ c.if-not-is_defined_type.true)

pub returns-in_err-ty-clause-answers : goal.returns-in_err-ty-clause-answers
returns-in_err-ty-clause-answers c s knows =
    defined_lacks c.entry_type.new.state _ s knows _ _ _ c.from_residual.ensures.1 c.in_err-ty.ensures.err

pub unreachable-requires : goal.unreachable-requires
unreachable-requires c =
    let x = defined_interface c.entry_type.new.state.types c.args.context.now.table.now c.requires.sound c.args.n _
    (sym c.is_defined_type.ensures ∙ c.if-not-is_defined_type.false) c.in_ok-ty.ensures.is in
    c.in_default.not-Interface x.0 x.1

pub returns-clause-answers : goal.returns-clause-answers
returns-clause-answers c s knows =
    defined_answer c.entry_type.new.state _ s knows _ (sym c.is_defined_type.ensures ∙ c.if-not-is_defined_type.false) _
    (subst (IsEntry c.entry_type.new.state.types c.args.context.now.table.now c.args.n) c.in-Interface.is
    c.in_ok-ty.ensures.is)

pub returns-clause-held : goal.returns-clause-held
returns-clause-held c =
    entry_held _ c.args.context.now.table.now c.args.n _
    (subst (IsEntry c.entry_type.new.state.types c.args.context.now.table.now c.args.n) c.in-Interface.is
    c.in_ok-ty.ensures.is)
