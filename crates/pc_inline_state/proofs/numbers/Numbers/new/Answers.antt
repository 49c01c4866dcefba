use Rattle.pc_inline_state.proofs.NumberLemmas.{no_signatures}
use Rattle.pc_inline_state.proofs.numbers.Numbers.new.Goals as goal

pub returns : goal.returns
returns c types = record {
  signatures = no_signatures types c.args.table.now _ _ c.in_ok-signatures.ensures;
}
