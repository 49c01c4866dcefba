use Rattle.pc_tool.specs.Headline.{Explains}
use Rattle.pc_tool.proofs.answer.explain.Goals as goal

pub returns : goal.returns
unfolding Explains
returns c = c.fault_text.ensures
