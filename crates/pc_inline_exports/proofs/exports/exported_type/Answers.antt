use Rattle.pc_inline_exports.proofs.FoundLemmas.{finds_converted, finds_no_room, finds_no_type, no_entry, some_entry}
use Rattle.pc_inline_exports.proofs.exports.exported_type.Goals as goal

pub returns-then-is_none : goal.returns-then-is_none
returns-then-is_none c =
    finds_no_type _ _ _ _ _ (no_entry _ _ c.entry.ensures _ c.is_none.ensures c.if-is_none.true)

pub returns-in_err-ty : goal.returns-in_err-ty
returns-in_err-ty c =
    finds_no_room _ _ _ _ _ _ _ c.entry_type.ensures.converts c.entry_type.ensures.adds _ _ c.from_residual.ensures.1
    c.in_err-ty.ensures.err (some_entry _ _ c.entry.ensures _ c.is_none.ensures c.if-is_none.false)

pub returns : goal.returns
returns c =
    finds_converted _ _ _ _ _ _ _ c.entry_type.ensures.converts c.entry_type.ensures.adds _ c.in_ok-ty.ensures.is
