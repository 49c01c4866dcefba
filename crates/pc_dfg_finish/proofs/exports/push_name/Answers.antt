use Rattle.pc_dfg_finish.proofs.NamingLemmas.{err_has, ok_has}
use Rattle.pc_dfg_finish.proofs.exports.push_name.Goals as goal
use Rattle.pc_dfg_finish.proofs.exports.push_name.Goals.{in-Ok, in-Err-NoMemory}

pub returns : goal.returns
returns c = elim c.match-insert.branch [
  | in-Ok w ↦ ok_has c.match-insert.result _ _ w.result-is w.in-Ok.ensures.ok
  | in-Err-NoMemory w ↦ err_has c.match-insert.result _ _ w.result-is
]
