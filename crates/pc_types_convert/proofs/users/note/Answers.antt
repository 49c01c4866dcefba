use Rattle.std.proofs.Common.{[], ◌∷◌, ap, is_some, sym}
use Rattle.pc_types_convert.proofs.NotedLemmas.{kept_written, pushed_has, pushed_last, written_noted}
use Rattle.pc_types_convert.proofs.users.note.Goals as goal

pub returns-in_ok-push-in-Some-clause-noted : goal.returns-in_ok-push-in-Some-clause-noted
returns-in_ok-push-in-Some-clause-noted c =
    written_noted c.args.users.now (c.get_mut.follows.lender c.push.new.self) c.args.p c.args.k c.push.new.self
    ((c.get_mut.follows.holds c.push.new.self).3 (sym (ap is_some c.in-Some.ensures.value)))
    (pushed_last c.args.k _ _ c.in_ok-push-in-Some.ensures.items)

pub returns-in_ok-push-in-Some-clause-kept : goal.returns-in_ok-push-in-Some-clause-kept
returns-in_ok-push-in-Some-clause-kept c =
    kept_written c.args.users.now (c.get_mut.follows.lender c.push.new.self) c.args.p c.push.new.self
    ((c.get_mut.follows.holds c.push.new.self).3 (sym (ap is_some c.in-Some.ensures.value)))
    (λ k among. pushed_has c.args.users.now c.args.p k c.in-Some.named.now c.push.new.self (c.args.k ∷ [])
    c.in-Some.ensures.value c.in_ok-push-in-Some.ensures.items among)
