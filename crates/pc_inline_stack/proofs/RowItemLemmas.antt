-- An item as it is read: a row at its place, or the instantiation of a component.
use Rattle.std.proofs.Common.{◌≡◌, ℕ, Bool, true, false, List, Result, ap, refl}
use Rattle.pc_types.specs.declared.module_record.ModuleRecord.{ModuleRecord}
use Rattle.pc_types.specs.declared.parsed.TypeTable.{TypeTable}
use Rattle.pc_spec_reading.specs.Item
use Rattle.pc_spec_reading.specs.Item.{ArgumentOf}
use Rattle.pc_spec_reading.specs.Outcome.{Fault, at_item, and_then}
use Rattle.pc_spec_reading.specs.Reading.{Enter, instantiate, read_item, Return}
use Rattle.pc_spec_reading.specs.Scope.{Moment}
use Rattle.pc_spec_reading.specs.Components.{Call, read_return, read_call}
use Rattle.pc_spec_reading.specs.Rows.{read_row}

-- whether an item instantiates a component
abbrev pub is_instantiation : Item.Item → Bool
is_instantiation (Item.instantiate_component_item n args ty) = true
is_instantiation _ = false

module _ (t : TypeTable) (ms : List ModuleRecord) (enter : Enter) (n : ℕ) where
  -- another item is a row at its place
  pub item_is_row : (i : Item.Item) (now : Moment) → is_instantiation i ≡ false
      → read_item t ms enter n i now ≡ at_item now.scope.component_instance n (read_row t ms now i)
  unfolding read_item
  item_is_row (Item.import_item a b) now is = refl
  item_is_row Item.intrinsics_import now is = refl
  item_is_row (Item.resource_item a b d) now is = refl
  item_is_row (Item.lift_item a b d e) now is = refl
  item_is_row (Item.lower_item a b d e) now is = refl
  item_is_row (Item.builtin_item a b d) now is = refl
  item_is_row (Item.waitable_item a b d) now is = refl
  item_is_row (Item.task_return_item a b d) now is = refl
  item_is_row (Item.error_context_item a b d) now is = refl
  item_is_row (Item.context_item a b d) now is = refl
  item_is_row (Item.new_thread_item a b d) now is = refl
  item_is_row (Item.module_item a b) now is = refl
  item_is_row (Item.instantiate_module_item a b) now is = refl
  item_is_row (Item.core_exports_item a) now is = refl
  item_is_row (Item.component_item a) now is = refl
  item_is_row (Item.instantiate_component_item a b d) now is = cc
  item_is_row (Item.component_exports_item a b) now is = refl
  item_is_row (Item.core_alias_item a b d) now is = refl
  item_is_row (Item.alias_item a b d) now is = refl
  item_is_row (Item.outer_item a b d) now is = refl
  item_is_row (Item.export_item a) now is = refl

  -- the instantiation of a component, from what its child begins with
  pub call_item : (component : ℕ) (args : List ArgumentOf) (ty : ℕ) (now : Moment) (x : Result Call Fault)
      → read_call t now.scope component args ty ≡ x
      → read_item t ms enter n (Item.instantiate_component_item component args ty) now
      ≡ and_then (at_item now.scope.component_instance n x) (λ (c : Call).
      and_then (enter c now.scope.known now.world) (λ (b : Return).
      at_item now.scope.component_instance n (read_return t (record now { world = b.world }) b.exports ty)))
  unfolding read_item instantiate
  call_item component args ty now x called =
      ap (λ r. and_then (at_item now.scope.component_instance n r) (λ (c : Call).
      and_then (enter c now.scope.known now.world) (λ (b : Return).
      at_item now.scope.component_instance n (read_return t (record now { world = b.world }) b.exports ty)))) called
