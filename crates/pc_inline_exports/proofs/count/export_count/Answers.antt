use Rattle.std.proofs.Common.{sym, ◌∙◌}
use Rattle.pc_inline_exports.proofs.CountedLemmas.{counts_item, counts_missing, counts_type}
use Rattle.pc_inline_exports.proofs.FoundLemmas.{other_kind}
use Rattle.pc_inline_exports.proofs.count.export_count.Goals as goal

pub returns-in-Type_ : goal.returns-in-Type_
returns-in-Type_ c = counts_type _ _ _ _ _ _ c.in-Type_.is c.requires.input _ c.type_count.ensures

pub returns-in-Some : goal.returns-in-Some
returns-in-Some c =
    counts_item _ _ _ _ _ (other_kind _ c.in_default.not-Type_) _ _ (sym c.in-Some.is ∙ c.item_definition.ensures) _
    c.requires.counts c.requires.input _ c.of.ensures.nodes

pub returns-in-None : goal.returns-in-None
returns-in-None c =
    counts_missing _ _ _ _ _ (other_kind _ c.in_default.not-Type_) _ (sym c.in-None.is ∙ c.item_definition.ensures)
