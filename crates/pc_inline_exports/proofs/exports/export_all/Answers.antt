use Rattle.pc_inline_exports.proofs.CountedLemmas.{counts_end_so, few_made, few_of}
use Rattle.pc_inline_exports.proofs.exports.export_all.Goals as goal

pub returns : goal.returns
returns c =
    few_made _ _ _ _ _ _ (few_of _ _ _ _ _ _ c.in_ok-count_exports.ensures) c.requires.root _ _ _ c.make_exports.ensures

pub returns-in_err-count_exports : goal.returns-in_err-count_exports
returns-in_err-count_exports c =
    counts_end_so _ _ _ _ _ _ _ c.in_err-count_exports.ensures _ c.from_residual.ensures.1
