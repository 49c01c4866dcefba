-- One item: each row of the table of items but the instantiation of a component, whose child the driver reads.
use Rattle.std.specs.Prelude.{ℕ, List, Option, Result, Ok, Err}
use Rattle.pc_types.specs.declared.module_record.ModuleRecord.{ModuleRecord}
use Rattle.pc_types.specs.declared.parsed.TypeTable.{TypeTable}
use Rattle.pc_types.specs.declared.parsed.WasmValType.{WasmValType}
use Rattle.pc_types.specs.Table.{is_resource}
use Rattle.pc_types.specs.TypeTree.{declared}
use Rattle.pc_spec_plan.specs.CoreValue.{MaybeValue}
use Rattle.pc_spec_plan.specs.Log.{declared_resource}
use Rattle.pc_spec_plan.specs.Machine.{chosen}
use Rattle.pc_parsed.specs.Mark.{Mark}
use Rattle.pc_spec_reading.specs.Builtins.{read_builtin, read_waitable, read_task_return, read_error_context}
use Rattle.pc_spec_reading.specs.Builtins.{read_new_thread}
use Rattle.pc_spec_reading.specs.Components.{read_component, read_outer}
use Rattle.pc_spec_reading.specs.Functions.{read_lift, read_lower, read_context}
use Rattle.pc_spec_reading.specs.Imports.{read_import, read_intrinsics}
use Rattle.pc_spec_reading.specs.Instances.{read_component_exports, read_alias, read_export}
use Rattle.pc_spec_reading.specs.Item
use Rattle.pc_spec_reading.specs.Modules.{read_module, read_core_instance, read_core_exports, read_core_alias}
use Rattle.pc_spec_reading.specs.Outcome.{Fault, invalid, bad_type, found, held}
use Rattle.pc_spec_reading.specs.Resource.{knowing}
use Rattle.pc_spec_reading.specs.Scope.{Moment, add_entry, with_known}
use Rattle.pc_spec_reading.specs.Types.{has_entry}
use Rattle.pc_spec_reading.specs.World.{resources_declared}

-- the next declared resource, which its number stands for from now on
abbrev pub add_resource : Moment → (id : ℕ) → WasmValType → MaybeValue Mark → Moment
add_resource now id representation destructor =
    add_entry (with_known now (knowing now.scope.known id (declared (resources_declared now.world))))
    (declared_resource representation destructor now.scope.component_instance)

module _ (t : TypeTable) (ms : List ModuleRecord) where
  -- a resource: `BadType` where its number is that of none; then `Invalid` where there is no such destructor
  unfoldable pub read_resource : Moment → (id : ℕ) → WasmValType → Option ℕ → Result Moment Fault
  read_resource now id representation destructor =
      held bad_type (has_entry t is_resource id) (
      found invalid (chosen now.scope.core_funcs destructor) (λ (d : MaybeValue Mark).
      Ok (add_resource now id representation d)))

  -- what an item makes of a moment, or why it is stuck
  unfoldable pub read_row : Moment → Item.Item → Result Moment Fault
  read_row now (Item.import_item name e) = read_import t now name e
  read_row now Item.intrinsics_import = read_intrinsics now
  read_row now (Item.resource_item id representation destructor) = read_resource now id representation destructor
  read_row now (Item.lift_item func ty signature opts) = read_lift t now func ty signature opts
  read_row now (Item.lower_item func ty signature opts) = read_lower t now func ty signature opts
  read_row now (Item.builtin_item k signature operands) = read_builtin t now k signature operands
  read_row now (Item.waitable_item k signature memory) = read_waitable t now k signature memory
  read_row now (Item.task_return_item signature result opts) = read_task_return t now signature result opts
  read_row now (Item.error_context_item k signature opts) = read_error_context t now k signature opts
  read_row now (Item.context_item access signature slot) = read_context t now access signature slot
  read_row now (Item.new_thread_item signature start table) = read_new_thread t now signature start table
  read_row now (Item.module_item number ty) = read_module t ms now number ty
  read_row now (Item.instantiate_module_item n args) = read_core_instance t ms now n args
  read_row now (Item.core_exports_item items) = read_core_exports t ms now items
  read_row now (Item.component_item body) = read_component now body
  read_row now (Item.component_exports_item es ty) = read_component_exports t now es ty
  read_row now (Item.core_alias_item k n name) = read_core_alias t ms now k n name
  read_row now (Item.alias_item k n name) = read_alias now k n name
  read_row now (Item.outer_item k count n) = read_outer now k count n
  read_row now (Item.export_item e) = read_export t now e
  -- the driver reads it: it is no row
  read_row now (Item.instantiate_component_item n args ty) = Err invalid
