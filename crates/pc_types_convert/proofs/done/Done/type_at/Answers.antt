use Rattle.std.proofs.Common.{◌∙◌, sym}
use Rattle.std.proofs.lemmas.Option.{none-some}
use Rattle.pc_types_convert.proofs.TabulatedLemmas.{found_there, stands_there}
use Rattle.pc_types_convert.proofs.done.Done.type_at.Goals as goal

pub unreachable-requires : goal.unreachable-requires
unreachable-requires c = none-some _ (sym c.in-None.is ∙ found_there _ _ _ c.get.ensures c.requires.1)

pub returns : goal.returns
returns c = stands_there _ _ (sym c.get.ensures ∙ c.in-Some.is)
