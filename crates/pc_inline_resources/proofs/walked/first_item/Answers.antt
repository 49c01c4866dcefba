use Rattle.std.proofs.Common.{Some, sym, subst}
use Rattle.pc_spec_reading.specs.Member.{value_in}
use Rattle.pc_inline_state.specs.Tables.{tables_of}
use Rattle.pc_inline_resources.specs.Walked.{ItemIs}
use Rattle.pc_inline_resources.proofs.WalkedLemmas.{start_exports, start_instance}
use Rattle.pc_inline_resources.proofs.walked.first_item.Goals as goal

pub instance_item-requires-clause-is : goal.instance_item-requires-clause-is
instance_item-requires-clause-is c =
    (Some c.requires.is.0, start_instance _ _ _ _ c.in-Value.is _ c.instance_at.ensures c.requires.is.0 c.requires.is.1)

pub returns-in-Value : goal.returns-in-Value
returns-in-Value c name number v is =
    c.instance_item.ensures name number (Some v) (start_instance _ _ _ _ c.in-Value.is _ c.instance_at.ensures v is)

pub returns-in-Exports : goal.returns-in-Exports
returns-in-Exports c name number v is =
    subst (λ r. ItemIs c.args.context.now.modules (tables_of c.args.state.now) r (value_in name v))
    (sym c.exported_item.ensures)
    (start_exports _ _ c.requires.sound.names.distinct c.args.number name number _ _ c.in-Exports.is v is)
