-- The imports of the root, one after the other.
use Rattle.std.proofs.Common.{◌≡◌, ◌+◌, ℕ, List, refl}
use Rattle.pc_types.specs.declared.module_record.ModuleRecord.{ModuleRecord}
use Rattle.pc_types.specs.declared.parsed.TypeTable.{TypeTable}
use Rattle.pc_spec_reading.specs.Item.{Item, Items, and_item, no_items}
use Rattle.pc_spec_reading.specs.Outcome.{and_then, at_item, done}
use Rattle.pc_spec_reading.specs.Scope.{Moment}
use Rattle.pc_inline_items.specs.StepsLocal.{prepare_row}
use Rattle.pc_spec_reading.specs.Reading.{prepare_all}

module _ (t : TypeTable) (ms : List ModuleRecord) where
  -- an item of the root, and the rest
  pub prepare_first : (n : ℕ) (i : Item) (is : Items) (now : Moment)
      → prepare_all t n (and_item i is) now
      ≡ and_then (at_item now.scope.component_instance n (prepare_row t ms i now)) (prepare_all t (n + 1) is)
  unfolding prepare_all
  prepare_first n (Item.import_item a b) is now = refl
  prepare_first n Item.intrinsics_import is now = refl
  prepare_first n (Item.resource_item a b d) is now = refl
  prepare_first n (Item.lift_item a b d e) is now = refl
  prepare_first n (Item.lower_item a b d e) is now = refl
  prepare_first n (Item.builtin_item a b d) is now = refl
  prepare_first n (Item.waitable_item a b d) is now = refl
  prepare_first n (Item.task_return_item a b d) is now = refl
  prepare_first n (Item.error_context_item a b d) is now = refl
  prepare_first n (Item.context_item a b d) is now = refl
  prepare_first n (Item.new_thread_item a b d) is now = refl
  prepare_first n (Item.module_item a b) is now = refl
  prepare_first n (Item.instantiate_module_item a b) is now = refl
  prepare_first n (Item.core_exports_item a) is now = refl
  prepare_first n (Item.component_item a) is now = refl
  prepare_first n (Item.instantiate_component_item a b d) is now = refl
  prepare_first n (Item.component_exports_item a b) is now = refl
  prepare_first n (Item.core_alias_item a b d) is now = refl
  prepare_first n (Item.alias_item a b d) is now = refl
  prepare_first n (Item.outer_item a b d) is now = refl
  prepare_first n (Item.export_item a) is now = refl

  -- the imports end where the items do
  pub prepares_end : (n : ℕ) (now : Moment) → prepare_all t n no_items now ≡ done now
  unfolding prepare_all
  prepares_end n now = refl
