use Rattle.std.proofs.Common.{None, Some, ap, refl, sym, ◌∙◌}
use Rattle.pc_types_walk.specs.Names.{export_place}
use Rattle.pc_inline_state.specs.Tables.{tables_of}
use Rattle.pc_inline_hosts.proofs.HostLemmas.{found_under}
use Rattle.pc_inline_hosts.proofs.exports.host_export.Goals as goal

pub returns-in-Some : goal.returns-in-Some
returns-in-Some c name is_number ms tree is =
    found_under ms (tables_of c.args.state.now) c.args.context.now.table.now c.requires.table c.requires.sound
    c.args.ty c.args.entry tree is name (Some c.in-Some.place)
    (sym c.in-Some.is ∙ c.type_export.ensures name is_number
    ∙ ap (λ x. export_place x c.args.entry name) c.requires.named) c.member_at.result c.member_at.ensures

pub returns-in-None : goal.returns-in-None
returns-in-None c name is_number ms tree is =
    found_under ms (tables_of c.args.state.now) c.args.context.now.table.now c.requires.table c.requires.sound
    c.args.ty c.args.entry tree is name None
    (sym c.in-None.is ∙ c.type_export.ensures name is_number
    ∙ ap (λ x. export_place x c.args.entry name) c.requires.named) None refl
