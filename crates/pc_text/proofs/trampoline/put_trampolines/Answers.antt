use Rattle.pc_text.proofs.TrampolineLemmas.{line_done, lines_end}
use Rattle.pc_text.proofs.trampoline.put_trampolines.Goals as goal

pub loop-n-preserved : goal.loop-n-preserved
loop-n-preserved c = λ signatures.
    line_done c.loop-n.n signatures c.args.trampolines.now _ _ _ _ c.loop-n-test.true
    c.in_ok-put_trampoline.ensures (c.loop-n.invariant signatures)

pub returns : goal.returns
returns c = λ signatures.
    lines_end c.loop-n.n signatures c.args.trampolines.now _ _ c.loop-n-test.false (c.loop-n.invariant signatures)
