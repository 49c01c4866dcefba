use Rattle.std.proofs.Common.{sym, ◌∙◌, arith}
use Rattle.pc_entity.proofs.LookupLemmas.{left_here}
use Rattle.pc_parsed.proofs.NameLemmas.{exports_step}
use Rattle.pc_parsed.proofs.named.exports_fault.Goals as goal

pub loop-n-preserved : goal.loop-n-preserved
loop-n-preserved c =
    let n = c.loop-n.n in
    let xs = c.args.entries.now in
    let x = c.index-entries-n.result in
    let at = left_here xs n x (omega arith) c.index-entries-n.is in
    let none = c.in-None.is in
    exports_step xs n x c.loop-n.names c.export_fault.new.names _ _ at (sym c.in_ok-fault.ensures.fault ∙ none)
    (c.in_ok-fault.ensures.gains none) c.loop-n.invariant
