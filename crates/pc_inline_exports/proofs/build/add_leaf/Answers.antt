use Rattle.pc_inline_exports.proofs.GoesLemmas.{puts_ok, puts_unfed, puts_unmade}
use Rattle.pc_inline_exports.proofs.build.add_leaf.Goals as goal

pub returns-in_err-item : goal.returns-in_err-item
returns-in_err-item c = record {
  made = c.reach_leaf.result;
  reaches = c.reach_leaf.ensures;
  puts = puts_unmade _ _ _ _ _ _ c.in_err-item.was _ c.from_residual.ensures.0 c.from_residual.ensures.1;
}

pub returns-in_err-put : goal.returns-in_err-put
returns-in_err-put c = record {
  made = c.reach_leaf.result;
  reaches = c.reach_leaf.ensures;
  puts = puts_unfed _ _ _ _ _ _ c.from_residual-in_err-put.ensures.0 c.from_residual-in_err-put.ensures.1;
}

pub returns : goal.returns
returns c = record {
  made = c.reach_leaf.result;
  reaches = c.reach_leaf.ensures;
  puts = puts_ok _ _ _ _ _ _ c.in_ok-item.was c.in_ok-put.ensures;
}
