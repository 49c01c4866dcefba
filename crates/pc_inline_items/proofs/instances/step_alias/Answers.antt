use Rattle.std.proofs.Common.{Some, ap, sym, ◌∙◌}
use Rattle.std.proofs.lemmas.Option.{slice_get_within}
use Rattle.pc_inline_state.proofs.TrailLemmas.{trails_same}
use Rattle.pc_inline_items.proofs.AliasLemmas.{alias_of_host, alias_of_intrinsics, alias_of_made, alias_of_none}
use Rattle.pc_inline_items.proofs.AliasLemmas.{host_stands, instance_misses}
use Rattle.pc_inline_items.proofs.instances.step_alias.Goals as goal

pub returns-in_default-clause-steps : goal.returns-in_default-clause-steps
returns-in_default-clause-steps c =
    instance_misses c.args.context.now.table.now c.args.context.now.modules c.args.state.now c.args.frame.now
    c.args.kind c.args.instance c.args.name.now c.args.state.now c.args.frame.now (sym c.item.ensures ∙ c.in_default.is)

pub alias_host-requires-clause-stands : goal.alias_host-requires-clause-stands
alias_host-requires-clause-stands c =
    host_stands c.args.context.now.table.now c.args.context.now.modules c.args.state.now c.args.frame.now
    c.args.kind c.args.instance c.args.name.now c.in-Some.id (sym c.item.ensures ∙ c.in-Some.is)
    c.in-Some-Host.path c.in-Some-Host.ty c.in-Some-Host.entry
    (sym c.source_of.ensures ∙ c.in-Some-Host.is
    ∙ ap Some c.in-Some-Host.field-0-is) c.requires.here.0 c.requires.here.1

pub alias_host-requires-clause-named : goal.alias_host-requires-clause-named
alias_host-requires-clause-named c =
    slice_get_within c.args.state.now.names.now.texts c.args.number.0 c.args.name.now c.requires.named

pub returns-in-Some-Made-clause-steps : goal.returns-in-Some-Made-clause-steps
returns-in-Some-Made-clause-steps c =
    alias_of_made c.args.context.now.table.now c.args.context.now.modules c.args.state.now c.args.frame.now
    c.args.kind c.args.instance c.args.name.now c.in-Some.id (sym c.item.ensures ∙ c.in-Some.is) c.in-Some-Made.exports
    (sym c.source_of.ensures ∙ c.in-Some-Made.is ∙ ap Some c.in-Some-Made.field-0-is) _ _ _
    (c.alias_made.ensures.follows c.args.context.now.table.now c.args.context.now.modules c.args.name.now
    c.requires.named)

pub returns-in-Some-Host-clause-steps : goal.returns-in-Some-Host-clause-steps
returns-in-Some-Host-clause-steps c =
    alias_of_host c.args.context.now.table.now c.args.context.now.modules c.args.state.now c.args.frame.now
    c.args.kind c.args.instance c.args.name.now c.in-Some.id (sym c.item.ensures ∙ c.in-Some.is) _ _ _
    (sym c.source_of.ensures ∙ c.in-Some-Host.is ∙ ap Some c.in-Some-Host.field-0-is) _ _ _
    (c.alias_host.ensures.follows c.args.name.now c.requires.named)

pub returns-in-Some-Intrinsics-clause-adds : goal.returns-in-Some-Intrinsics-clause-adds
returns-in-Some-Intrinsics-clause-adds c = c.alias_intrinsic.ensures.adds c.args.context.now.table.now

pub returns-in-Some-Intrinsics-clause-trail : goal.returns-in-Some-Intrinsics-clause-trail
returns-in-Some-Intrinsics-clause-trail c =
    trails_same _ _ _ _ c.alias_intrinsic.ensures.changes c.alias_intrinsic.ensures.resources

pub returns-in-Some-Intrinsics-clause-steps : goal.returns-in-Some-Intrinsics-clause-steps
returns-in-Some-Intrinsics-clause-steps c =
    alias_of_intrinsics c.args.context.now.table.now c.args.context.now.modules c.args.state.now c.args.frame.now
    c.args.kind c.args.instance c.args.name.now c.in-Some.id (sym c.item.ensures ∙ c.in-Some.is)
    (sym c.source_of.ensures ∙ c.in-Some-Intrinsics.is ∙ ap Some c.in-Some-Intrinsics.field-0-is) _ _ _
    (c.alias_intrinsic.ensures.follows c.args.context.now.table.now c.args.context.now.modules)

pub returns-in-None-clause-steps : goal.returns-in-None-clause-steps
returns-in-None-clause-steps c =
    alias_of_none c.args.context.now.table.now c.args.context.now.modules c.args.state.now c.args.frame.now
    c.args.kind c.args.instance c.args.name.now c.in-Some.id (sym c.item.ensures ∙ c.in-Some.is)
    (sym c.source_of.ensures ∙ c.in-None.is) _ _ _
