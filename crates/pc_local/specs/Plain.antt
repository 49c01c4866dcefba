-- Local items that say the same as items of the reading whatever is around them: one equation a row.
use Rattle.std.specs.Prelude.{Option, Some, None, map}
use Rattle.pc_types.specs.declared.parsed.WasmValType.TheVariants.{I32}
use Rattle.pc_parsed.specs.declared.canon.CanonItem.{CanonItem}
use Rattle.pc_parsed.specs.declared.canon.CanonItem.TheVariants as canon
use Rattle.pc_spec_reading.specs.Canonical.{canonical_item}
use Rattle.pc_spec_reading.specs.Item
use Rattle.pc_spec_reading.specs.Section.{argument_of, named_item}
use Rattle.pc_local.specs.declared.item.LocalInitializer.{LocalInitializer}
use Rattle.pc_local.specs.declared.item.LocalInitializer.TheVariants as local

-- The items of canonical functions are told apart: each kind of local item holds functions of its kind alone.

-- an item, if it is a builtin of no kind of its own
abbrev pub if_builtin : Option Item.Item → Option Item.Item
if_builtin (Some (Item.builtin_item k s operands)) = Some (Item.builtin_item k s operands)
if_builtin _ = None

-- an item, if it waits for or polls a waitable set
abbrev pub if_waitable : Option Item.Item → Option Item.Item
if_waitable (Some (Item.waitable_item k s memory)) = Some (Item.waitable_item k s memory)
if_waitable _ = None

-- an item, if it is on error contexts
abbrev pub if_error_context : Option Item.Item → Option Item.Item
if_error_context (Some (Item.error_context_item k s opts)) = Some (Item.error_context_item k s opts)
if_error_context _ = None

-- the item of a canonical function, if it reads or writes a context slot; the only type of one is `i32`
abbrev pub context_of : CanonItem → Option Item.Item
context_of (canon.ContextGet s I32 slot) = Some (Item.context_item Item.getting s slot)
context_of (canon.ContextSet s I32 slot) = Some (Item.context_item Item.setting s slot)
context_of _ = None

-- the item of the reading that a local item is, if that hangs on nothing around it
unfoldable pub plain_item : LocalInitializer → Option Item.Item
plain_item (local.Import name ty) = Some (Item.import_item name ty)
plain_item local.IntrinsicsImport = Some Item.intrinsics_import
plain_item (local.Resource id representation destructor) = Some (Item.resource_item id representation destructor)
plain_item (local.Lift func ty signature opts) = Some (Item.lift_item func ty signature opts)
plain_item (local.Lower func ty signature opts) = Some (Item.lower_item func ty signature opts)
plain_item (local.Builtin c) = if_builtin (canonical_item c)
plain_item (local.WaitableSet c) = if_waitable (canonical_item c)
plain_item (local.TaskReturn signature result opts) = Some (Item.task_return_item signature result opts)
plain_item (local.ErrorContext c) = if_error_context (canonical_item c)
plain_item (local.Context c) = context_of c
plain_item (local.ThreadNewIndirect signature start table) = Some (Item.new_thread_item signature start table)
plain_item (local.ModuleStatic index ty) = Some (Item.module_item index.0 ty)
plain_item (local.ModuleInstantiate m args) = Some (Item.instantiate_module_item m args)
plain_item (local.ModuleSynthetic items) = Some (Item.core_exports_item items)
plain_item (local.ComponentInstantiate c args ty) = Some (Item.instantiate_component_item c (map argument_of args) ty)
plain_item (local.ComponentSynthetic exports ty) = Some (Item.component_exports_item (map named_item exports) ty)
plain_item (local.AliasCoreExport k n name) = Some (Item.core_alias_item k n name)
plain_item (local.AliasComponentExport k n name) = Some (Item.alias_item k n name)
plain_item (local.Export name k n) = Some (Item.export_item (record { name = name; kind = k; index = n }))
plain_item (local.ComponentStatic index vars) = None
plain_item (local.AliasModule v) = None
plain_item (local.AliasComponent v) = None
