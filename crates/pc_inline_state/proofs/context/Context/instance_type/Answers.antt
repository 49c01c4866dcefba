use Rattle.std.proofs.Common.{subst}
use Rattle.pc_types.specs.Table.{is_instance}
use Rattle.pc_types_builder.specs.Trees.{IsEntry}
use Rattle.pc_inline_state.proofs.EntryLemmas.{instance_entry, no_entry}
use Rattle.pc_inline_state.proofs.RefusedLemmas.{free_lacks}
use Rattle.pc_inline_state.proofs.context.Context.instance_type.Goals as goal

pub returns-in_err-i-clause-err : goal.returns-in_err-i-clause-err
returns-in_err-i-clause-err c =
    free_lacks _ _ _ _ _ c.from_residual.ensures.1
    (no_entry is_instance c.args.self.now.table.now c.args.ty c.requires.there) c.in_err-i.ensures.err

pub unreachable-requires : goal.unreachable-requires
unreachable-requires c =
    let x = instance_entry c.entry_type.new.state.types c.args.self.now.table.now c.args.ty c.in_ok-i.field-0 c.requires.there
    c.in_ok-i.ensures.is in
    c.in_default.not-ComponentInstance x.0 x.1

pub returns-clause-is : goal.returns-clause-is
returns-clause-is c =
    subst (IsEntry c.entry_type.new.state.types c.args.self.now.table.now c.args.ty) c.in-ComponentInstance.is
    c.in_ok-i.ensures.is
