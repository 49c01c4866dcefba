use Rattle.std.proofs.Common.{subst, sym, inl, inr}
use Rattle.pc_types_convert.specs.Needed.{IsAmong, IsDone}
use Rattle.pc_types_convert.proofs.AmongLemmas.{among_from, among_inserted, among_kept}
use Rattle.pc_types_convert.proofs.parts.open_entry.Goals as goal

pub returns-in_ok-insert-clause-kept : goal.returns-in_ok-insert-clause-kept
returns-in_ok-insert-clause-kept c =
    λ m among. subst (λ ks. IsAmong m ks) (sym c.in_ok-insert.ensures.keys)
    (among_kept c.args.opened.now.keys c.args.n m among)

pub returns-in_ok-insert-clause-met : goal.returns-in_ok-insert-clause-met
returns-in_ok-insert-clause-met c =
    inr
    (subst (λ ks. IsAmong c.args.n ks) (sym c.in_ok-insert.ensures.keys)
    (among_inserted c.args.opened.now.keys c.args.n))

pub returns-in_ok-insert-clause-only : goal.returns-in_ok-insert-clause-only
returns-in_ok-insert-clause-only c =
    λ m among. among_from c.args.opened.now.keys c.args.n m
    (subst (λ ks. IsAmong m ks) c.in_ok-insert.ensures.keys among)

pub returns-in_ok-insert-clause-fresh : goal.returns-in_ok-insert-clause-fresh
returns-in_ok-insert-clause-fresh c =
    λ m among done. elim (among_from c.args.opened.now.keys c.args.n m
    (subst (λ ks. IsAmong m ks) c.in_ok-insert.ensures.keys among)) as (λ _. IsAmong m c.args.opened.now.keys) [
      | inl before ↦ before
      | inr same ↦
          absurd (c.is_done.ensures.no c.if-not-is_done.true (subst (IsDone c.args.done.now.all) same done))
    ]
