use Rattle.pc_adapt_marks.proofs.NamedLemmas.{needs_carried}
use Rattle.pc_adapt_marks.proofs.needs_follow_marks.Goals as goal

pub returns : goal.returns
returns c f h one adapters effects l m first second third fourth =
    needs_carried f h one adapters effects l m first second third fourth
