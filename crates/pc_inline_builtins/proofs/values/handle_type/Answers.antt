use Rattle.std.proofs.Common.{sym, ◌∙◌}
use Rattle.pc_numbers.specs.declared.runtime.ResourceIndex.{ResourceIndex}
use Rattle.pc_types.specs.TypeTree.{declared}
use Rattle.pc_inline_builtins.proofs.HandleLemmas.{wanted_shape}
use Rattle.pc_inline_builtins.proofs.TypeLemmas.{handle_answer, handle_lacks, handle_refused}
use Rattle.pc_inline_builtins.proofs.values.handle_type.Goals as goal

pub returns-in_err-ty-clause-answers : goal.returns-in_err-ty-clause-answers
returns-in_err-ty-clause-answers c s knows =
    handle_lacks c.entry_type.new.state _ s knows _ _ _ _ c.from_residual.ensures.1 c.in_err-ty.ensures.err

pub is_of-requires : goal.is_of-requires
is_of-requires c =
    let who = λ (r : ResourceIndex). declared 0 in
    let x = c.in_ok-ty.ensures.is who in record { typed = (who, x.0, x.2) }

pub returns-then-is_of-clause-shape : goal.returns-then-is_of-clause-shape
returns-then-is_of-clause-shape c =
    let who = λ (r : ResourceIndex). declared 0 in
    let x = c.in_ok-ty.ensures.is who in
    wanted_shape c.entry_type.new.state.types who _ _ x.0 x.2 (sym (c.is_of.ensures who x.0 x.2) ∙ c.if-is_of.true)

pub returns-then-is_of-clause-answers : goal.returns-then-is_of-clause-answers
returns-then-is_of-clause-answers c s knows =
    handle_answer c.entry_type.new.state _ s knows _ _ _ c.in_ok-ty.ensures.is _ c.is_of.ensures c.if-is_of.true

pub returns-else-is_of-clause-answers : goal.returns-else-is_of-clause-answers
returns-else-is_of-clause-answers c s knows =
    handle_refused c.entry_type.new.state _ s knows _ _ _ c.in_ok-ty.ensures.is _ c.is_of.ensures c.if-is_of.false
