use Rattle.std.proofs.Common.{refl}
use Rattle.pc_dfg.specs.Lists as list
use Rattle.pc_inline_state.specs.AddsEach.{in_adapters}
use Rattle.pc_inline_state.specs.Tables.{tables_of}
use Rattle.pc_inline_state.proofs.AddsLemmas.{each_refl}
use Rattle.pc_inline_state.proofs.AddsPushLemmas.{adapter_adds}
use Rattle.pc_inline_state.proofs.RefusedLemmas.{memory_lacks}
use Rattle.pc_inline_canon.proofs.GottenLemmas.{gets_again}
use Rattle.pc_inline_canon.proofs.LiftedLemmas.{adapter_keeps}
use Rattle.pc_inline_canon.proofs.RoomLemmas.{list_lacks}
use Rattle.pc_inline_canon.proofs.adapters.adapter_of.Goals as goal

pub returns-in-Some-clause-has : goal.returns-in-Some-clause-has
returns-in-Some-clause-has c = gets_again _ _ _ c.requires.sound _ _ _ c.get.ensures c.in-Some.is

pub returns-in-Some-clause-adds : goal.returns-in-Some-clause-adds
returns-in-Some-clause-adds c = each_refl in_adapters 0 0 _

pub returns-in_err-side_options-clause-err : goal.returns-in_err-side_options-clause-err
returns-in_err-side_options-clause-err c = memory_lacks _ _ c.from_residual.ensures.1

pub returns-in_err-side_options-2-clause-err : goal.returns-in_err-side_options-2-clause-err
returns-in_err-side_options-2-clause-err c = memory_lacks _ _ c.from_residual-in_err-side_options-2.ensures.1

pub returns-in_err-definition-clause-err : goal.returns-in_err-definition-clause-err
returns-in_err-definition-clause-err c = memory_lacks _ _ c.from_residual-in_err-definition.ensures.1

pub returns-in_err-number-clause-err : goal.returns-in_err-number-clause-err
returns-in_err-number-clause-err c =
    list_lacks list.adapters _ _ c.push_adapter.ensures.grows _ _ c.in_err-number.was c.push_adapter.ensures.full.0 _
    c.from_residual-in_err-number.ensures.1

pub returns-clause-keeps : goal.returns-clause-keeps
returns-clause-keeps c =
    adapter_keeps (tables_of c.args.state.now) _ c.push_adapter.ensures.grows c.push_adapter.ensures.rest

pub returns-clause-adds : goal.returns-clause-adds
returns-clause-adds c =
    adapter_adds (tables_of c.args.state.now) _ _ c.push_adapter.ensures.rest c.push_adapter.ensures.put

pub returns-clause-has : goal.returns-clause-has
returns-clause-has c = record {
  adapter = _;
  made = record {
    lift_ty = refl;
    lift = c.in_ok-side_options.ensures;
    lower_ty = refl;
    lower = c.in_ok-side_options-2.ensures;
    func = c.in_ok-definition.ensures;
  };
  held = c.in_ok-number.ensures.held;
  put = c.push_adapter.ensures.put;
  grows = c.push_adapter.ensures.grows;
  ordered = c.push_adapter.ensures.ordered;
  notes = record { adapters = c.in_ok-insert.ensures.ok; slots = refl };
}

pub returns-in_err-insert-clause-keeps : goal.returns-in_err-insert-clause-keeps
returns-in_err-insert-clause-keeps c =
    adapter_keeps (tables_of c.args.state.now) _ c.push_adapter.ensures.grows c.push_adapter.ensures.rest

pub returns-in_err-insert-clause-adds : goal.returns-in_err-insert-clause-adds
returns-in_err-insert-clause-adds c =
    adapter_adds (tables_of c.args.state.now) _ _ c.push_adapter.ensures.rest c.push_adapter.ensures.put

pub returns-in_err-insert-clause-err : goal.returns-in_err-insert-clause-err
returns-in_err-insert-clause-err c = memory_lacks _ _ c.from_residual-in_err-insert.ensures.1
