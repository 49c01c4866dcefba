use Rattle.std.proofs.Common.{sym, ◌∙◌}
use Rattle.pc_inline_items.proofs.AliasLemmas.{made_follows, made_misses, made_other}
use Rattle.pc_inline_items.proofs.FollowLemmas.{follows_unfed}
use Rattle.pc_inline_items.proofs.instances.alias_made.Goals as goal

pub returns-in_err-push_item-in-Some-clause-follows : goal.returns-in_err-push_item-in-Some-clause-follows
returns-in_err-push_item-in-Some-clause-follows c t ms name number now es vs tree at held stand =
    follows_unfed _ _ _ _ _ _ c.from_residual.ensures.1

pub returns-in_ok-push_item-in-Some-clause-follows : goal.returns-in_ok-push_item-in-Some-clause-follows
returns-in_ok-push_item-in-Some-clause-follows c t ms name number now es vs tree at held stand =
    made_follows t ms c.args.state.now c.args.frame.now c.args.kind c.args.exports c.args.number name number now es vs
    tree at held stand c.member.result c.member.ensures c.in-Some.id c.in-Some.is _ tt
    (sym c.is_of_kind.ensures ∙ c.if-is_of_kind.true) c.in_ok-push_item-in-Some.ensures.ok

pub returns-in_default-clause-follows : goal.returns-in_default-clause-follows
returns-in_default-clause-follows c t ms name number now es vs tree at held stand =
    made_other t ms c.args.state.now c.args.frame.now c.args.kind c.args.exports c.args.number name number now es vs
    tree at held stand c.member.result c.member.ensures c.in-Some.id c.in-Some.is _
    (sym c.is_of_kind.ensures ∙ c.if-is_of_kind.false)

pub returns-in_default-2-clause-follows : goal.returns-in_default-2-clause-follows
returns-in_default-2-clause-follows c t ms name number now es vs tree at held stand =
    made_misses t ms c.args.state.now c.args.frame.now c.args.kind c.args.exports c.args.number name number now es vs
    tree at held stand c.member.result c.member.ensures c.in_default.is _
