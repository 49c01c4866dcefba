use Rattle.std.proofs.Common.{◌∙◌, arith, subst, sym, take, true≢false, ◌+◌}
use Rattle.pc_types_convert.proofs.NotedLemmas.{NotesEach, notes_next}
use Rattle.pc_types_convert.proofs.users.note_parts.Goals as goal
use Rattle.pc_types_convert.proofs.users.note_parts.Goals.{then-contains_key+in_ok-note, else-contains_key}

pub returns-in_err-note-clause-kept : goal.returns-in_err-note-clause-kept
returns-in_err-note-clause-kept c =
    λ p k among. c.in_err-note.ensures.kept p k (c.loop-p.invariant.kept p k among)

pub loop-p-preserved : goal.loop-p-preserved
loop-p-preserved c =
    let l = c.loop-p in
    let ps = c.args.parts.now in
    elim c.if-contains_key.branch [
      | then-contains_key+in_ok-note w ↦
          subst (NotesEach c.args.own.now c.args.k (take (l.p-index + 1) ps) c.args.users.now) (sym w.users-is)
          (notes_next c.args.own.now c.args.k ps l.p-index 0 c.args.users.now l.users _ (omega arith) l.invariant
          w.in_ok-note.ensures.kept (λ has. w.in_ok-note.ensures.noted))
      | else-contains_key w ↦
          subst (NotesEach c.args.own.now c.args.k (take (l.p-index + 1) ps) c.args.users.now) (sym w.users-is)
          (notes_next c.args.own.now c.args.k ps l.p-index 0 c.args.users.now l.users l.users (omega arith) l.invariant
          (λ p m among. among)
          (λ has. absurd (true≢false (sym (c.contains_key.ensures ∙ has) ∙ w.if-contains_key.false))))
    ]
