use Rattle.pc_inline_state.specs.Tables.{tables_of}
use Rattle.pc_inline_hosts.proofs.HostLemmas.{found_at_place}
use Rattle.pc_inline_hosts.proofs.exports.host_member.Goals as goal

pub returns : goal.returns
returns c ms tree is =
    found_at_place ms (tables_of c.args.state.now) c.args.context.now.table.now c.requires.table c.requires.sound
    c.args.ty c.args.entry tree is c.args.place c.member_at.result c.member_at.ensures
