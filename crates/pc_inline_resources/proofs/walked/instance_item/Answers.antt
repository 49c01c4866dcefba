use Rattle.std.proofs.Common.{sym, ap, subst, ◌∙◌}
use Rattle.std.specs.Prelude.{option_and_then}
use Rattle.pc_spec_reading.specs.Member.{value_in}
use Rattle.pc_inline_state.specs.Tables.{tables_of}
use Rattle.pc_inline_resources.specs.Walked.{ItemIs, found_item}
use Rattle.pc_inline_resources.proofs.WalkedLemmas.{exports_named, host_is, nothing_named}
use Rattle.pc_inline_resources.proofs.walked.instance_item.Goals as goal

pub host_item-requires-clause-typed : goal.host_item-requires-clause-typed
host_item-requires-clause-typed c =
    let h = host_is _ _ _ _ _ c.in-Host.is c.requires.is.0 c.requires.is.1 in
    (h.tree, h.typed)

pub returns-in-Nothing : goal.returns-in-Nothing
returns-in-Nothing c name number v is = nothing_named _ _ _ c.in-Nothing.is v is _

pub returns-in-Exports : goal.returns-in-Exports
returns-in-Exports c name number v is =
    subst (λ r. ItemIs c.args.context.now.modules (tables_of c.args.state.now) r
    (option_and_then (value_in name) v)) (sym (c.found_item.ensures ∙ ap found_item c.member.ensures))
    (exports_named _ _ c.requires.sound.names.distinct c.args.number name number _ _ c.in-Exports.is v is)

pub returns-in-Host : goal.returns-in-Host
returns-in-Host c name number v is =
    let h = host_is _ _ _ _ _ c.in-Host.is v is in
    subst (λ w. ItemIs c.args.context.now.modules (tables_of c.args.state.now) c.host_item.result
    (option_and_then (value_in name) w)) (sym h.is) (c.host_item.ensures name number h.tree h.path h.typed)
