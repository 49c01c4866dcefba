use Rattle.pc_tool.proofs.ChainEndLemmas.{chain_said}
use Rattle.pc_tool.proofs.command.write_chain.Goals as goal

pub returns-in-Ok : goal.returns-in-Ok
returns-in-Ok g c =
    chain_said _ _ _ _ _ _ _ _ _ c.in-Ok.ensures c.deref.ensures.value c.say.ensures.said c.say.ensures.never_falls
