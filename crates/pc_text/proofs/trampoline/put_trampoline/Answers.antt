use Rattle.pc_text.proofs.Appending.{then_holds}
use Rattle.pc_text.proofs.TrampolineLemmas.{line_of}
use Rattle.pc_text.proofs.trampoline.put_trampoline.Goals as goal

pub returns : goal.returns
returns c = λ signature.
    then_holds c.put-4.result c.put-4.ensures
    (λ e. rw (
      e,
      c.in_ok-put_made.ensures,
      c.in_ok-put-3.ensures,
      c.as_str.ensures.value,
      c.in_ok-symbol.ensures,
      c.in_ok-put-2.ensures,
      c.in_ok-put_number.ensures,
      c.in_ok-put.ensures,
    )
    (line_of signature c.args.trampoline.now c.parts.result _ c.args.n c.parts.ensures.parts c.parts.ensures.shaped))
