use Rattle.std.proofs.Common.{◌∙◌, sym}
use Rattle.pc_types_convert.proofs.TabulatedLemmas.{done_there, none_there}
use Rattle.pc_types_convert.proofs.parts.is_done.Goals as goal

pub returns-clause-yes : goal.returns-clause-yes
returns-clause-yes c h = done_there c.args.done.now.all c.args.n _ c.get.ensures (sym c.is_some.ensures ∙ h)

pub returns-clause-no : goal.returns-clause-no
returns-clause-no c h = none_there c.args.done.now.all c.args.n _ c.get.ensures (sym c.is_some.ensures ∙ h)
