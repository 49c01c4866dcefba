use Rattle.std.proofs.Common.{subst, sym}
use Rattle.pc_spec_reading.specs.Items.{value_at}
use Rattle.pc_inline_state.specs.Frames.{Both}
use Rattle.pc_inline_state.specs.Stands.{Stands}
use Rattle.pc_inline_state.specs.Tables.{tables_of}
use Rattle.pc_inline_items.proofs.ItemLemmas.{item_there, other_kind}
use Rattle.pc_inline_items.proofs.TakesLemmas.{takes_none}
use Rattle.pc_inline_items.proofs.members.value_id.Goals as goal

pub returns-in_default : goal.returns-in_default
returns-in_default c = record {
  takes = takes_none _ _ _ _ _;
  lacks = tt;
  value = λ now at. subst (λ o. Both (Stands c.args.context.now.modules (tables_of c.args.state.now)) o
      (value_at c.args.context.now.table.now now.scope c.args.kind c.args.index)) (sym c.item.ensures)
      (item_there c.args.context.now.table.now c.args.context.now.modules (tables_of c.args.state.now)
      c.args.frame.now now.scope at.frame c.args.kind (other_kind c.args.kind c.in_default.not-Type_) c.args.index);
}
