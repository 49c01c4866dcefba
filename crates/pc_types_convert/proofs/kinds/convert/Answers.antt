use Rattle.std.proofs.Common.{List, ℕ, subst, sym}
use Rattle.std.specs.Prelude.{IfSome}
use Rattle.std.specs.List.{All}
use Rattle.pc_types.specs.declared.parsed.DeclType.TheVariants as entry
use Rattle.pc_types.specs.declared.parsed.Entity.{Entity}
use Rattle.pc_types_convert.specs.Labels.{IsLike}
use Rattle.pc_types_convert.specs.Parts.{IsThere}
use Rattle.pc_types_convert.specs.Steps.{IsReadyEntry}
use Rattle.std.proofs.Common.{refl}
use Rattle.pc_types_convert.proofs.KindAdds.{borrow_read, component_read, enum_read, flags_read, func_read, future_read}
use Rattle.pc_types_convert.proofs.KindAdds.{instance_read, list_read, module_read, option_read, own_read, record_read}
use Rattle.pc_types_convert.proofs.KindAdds.{resource_read, result_read, stream_read}
use Rattle.pc_types_convert.proofs.KindAdds.{tuple_read, val_read, variant_read}
use Rattle.pc_types_convert.proofs.kinds.convert.Goals as goal

pub instance_entry-requires : goal.instance_entry-requires
instance_entry-requires c = record {
  ready =
      subst (All (λ (e : List ℕ × Entity). IsThere c.args.done.now e.1)) (sym c.as_slice-in-Instance.ensures)
      (subst (IsReadyEntry c.args.table.now c.args.done.now) c.in-Instance.is c.requires.ready);
  like =
      subst (λ es. IfSome c.args.like (IsLike c.args.interned.now (entry.Instance es)))
      (sym c.as_slice-in-Instance.ensures)
      (subst (λ e. IfSome c.args.like (IsLike c.args.interned.now e)) c.in-Instance.is c.requires.like);
}

pub component_entry-requires-clause-imports_ready : goal.component_entry-requires-clause-imports_ready
component_entry-requires-clause-imports_ready c =
    subst (All (λ (e : List ℕ × Entity). IsThere c.args.done.now e.1)) (sym c.as_slice-in-Component.ensures)
    (subst (IsReadyEntry c.args.table.now c.args.done.now) c.in-Component.is c.requires.ready).0

pub component_entry-requires-clause-exports_ready : goal.component_entry-requires-clause-exports_ready
component_entry-requires-clause-exports_ready c =
    subst (All (λ (e : List ℕ × Entity). IsThere c.args.done.now e.1)) (sym c.as_slice-in-Component-2.ensures)
    (subst (IsReadyEntry c.args.table.now c.args.done.now) c.in-Component.is c.requires.ready).1

pub returns-in-Resource-clause-adds : goal.returns-in-Resource-clause-adds
returns-in-Resource-clause-adds c =
    resource_read c.args.done.now c.args.table.now c.args.n _ _ _ c.in-Resource.is
    c.resource_entry.ensures.adds

pub returns-in-Val-clause-adds : goal.returns-in-Val-clause-adds
returns-in-Val-clause-adds c =
    val_read c.args.done.now c.args.table.now c.args.n _ _ _ _ c.in-Val.is c.val_entry.ensures.contexts

pub returns-in-Record-clause-adds : goal.returns-in-Record-clause-adds
returns-in-Record-clause-adds c =
    record_read c.args.done.now c.args.table.now c.args.n _ _ _ _ _ c.in-Record.is c.as_slice-in-Record.ensures
    c.record_entry.ensures.adds

pub returns-in-Variant-clause-adds : goal.returns-in-Variant-clause-adds
returns-in-Variant-clause-adds c =
    variant_read c.args.done.now c.args.table.now c.args.n _ _ _ _ _ c.in-Variant.is c.as_slice-in-Variant.ensures
    c.variant_entry.ensures.adds

pub returns-in-List-clause-adds : goal.returns-in-List-clause-adds
returns-in-List-clause-adds c =
    list_read c.args.done.now c.args.table.now c.args.n _ _ _ _ c.in-List.is c.list_entry.ensures.adds

pub returns-in-Tuple-clause-adds : goal.returns-in-Tuple-clause-adds
returns-in-Tuple-clause-adds c =
    tuple_read c.args.done.now c.args.table.now c.args.n _ _ _ _ _ c.in-Tuple.is c.as_slice-in-Tuple.ensures
    c.tuple_entry.ensures.adds

pub returns-in-Flags-clause-adds : goal.returns-in-Flags-clause-adds
returns-in-Flags-clause-adds c =
    flags_read c.args.done.now c.args.table.now c.args.n _ _ _ _ c.in-Flags.is c.flags_entry.ensures.adds

pub returns-in-Enum-clause-adds : goal.returns-in-Enum-clause-adds
returns-in-Enum-clause-adds c =
    enum_read c.args.done.now c.args.table.now c.args.n _ _ _ _ c.in-Enum.is c.enum_entry.ensures.adds

pub returns-in-Option-clause-adds : goal.returns-in-Option-clause-adds
returns-in-Option-clause-adds c =
    option_read c.args.done.now c.args.table.now c.args.n _ _ _ _ c.in-Option.is c.option_entry.ensures.adds

pub returns-in-Result-clause-adds : goal.returns-in-Result-clause-adds
returns-in-Result-clause-adds c =
    result_read c.args.done.now c.args.table.now c.args.n _ _ _ _ _ c.in-Result.is c.result_entry.ensures.adds

pub returns-in-Own-clause-adds : goal.returns-in-Own-clause-adds
returns-in-Own-clause-adds c =
    own_read c.args.done.now c.args.table.now c.args.n _ _ _ _ c.in-Own.is refl

pub returns-in-Borrow-clause-adds : goal.returns-in-Borrow-clause-adds
returns-in-Borrow-clause-adds c =
    borrow_read c.args.done.now c.args.table.now c.args.n _ _ _ _ c.in-Borrow.is refl

pub returns-in-Stream-clause-adds : goal.returns-in-Stream-clause-adds
returns-in-Stream-clause-adds c =
    stream_read c.args.done.now c.args.table.now c.args.n _ _ _ _ c.in-Stream.is c.stream_entry.ensures.adds

pub returns-in-Future-clause-adds : goal.returns-in-Future-clause-adds
returns-in-Future-clause-adds c =
    future_read c.args.done.now c.args.table.now c.args.n _ _ _ _ c.in-Future.is c.future_entry.ensures.adds

pub returns-in-Instance-clause-adds : goal.returns-in-Instance-clause-adds
returns-in-Instance-clause-adds c =
    instance_read c.args.done.now c.args.table.now c.args.n _ _ _ _ _ c.in-Instance.is c.as_slice-in-Instance.ensures
    c.instance_entry.ensures.adds

pub returns-in-Component-clause-adds : goal.returns-in-Component-clause-adds
returns-in-Component-clause-adds c =
    component_read c.args.done.now c.args.table.now c.args.n _ _ _ _ _ _ _ c.in-Component.is
    c.as_slice-in-Component.ensures c.as_slice-in-Component-2.ensures c.component_entry.ensures.adds

pub returns-in-Module-clause-adds : goal.returns-in-Module-clause-adds
returns-in-Module-clause-adds c =
    module_read c.args.done.now c.args.table.now c.args.n _ _ _ _ _ _ _ c.in-Module.is c.as_slice-in-Module.ensures
    c.as_slice-in-Module-2.ensures c.module_entry.ensures.adds

pub returns-in-Func-clause-adds : goal.returns-in-Func-clause-adds
returns-in-Func-clause-adds c =
    func_read c.args.done.now c.args.table.now c.args.n _ _ _ _ _ _ _ c.in-Func.is c.as_slice.ensures
    c.func_type_entry.ensures.adds
