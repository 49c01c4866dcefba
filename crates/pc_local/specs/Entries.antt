-- What the code makes of the entries of sections.
use Rattle.std.specs.Prelude.{ℕ, List, Option, Some, None, if◌then◌else◌}
use Rattle.pc_parsed.specs.declared.canon.CanonItem.{CanonItem}
use Rattle.pc_parsed.specs.declared.canon.CanonItem.TheVariants as canon
use Rattle.pc_parsed.specs.declared.payload.ComponentInstanceItem.{ComponentInstanceItem}
use Rattle.pc_parsed.specs.declared.payload.ComponentInstanceItem.TheVariants as component_instance
use Rattle.pc_parsed.specs.declared.payload.ExportEntry.{ExportEntry}
use Rattle.pc_parsed.specs.declared.payload.ExternName.{ExternName}
use Rattle.pc_parsed.specs.declared.payload.ImportItem.{ImportItem}
use Rattle.pc_parsed.specs.declared.payload.InstanceItem.{InstanceItem}
use Rattle.pc_parsed.specs.declared.payload.InstanceItem.TheVariants as instance
use Rattle.pc_parsed.specs.declared.payload.ItemKind.{ItemKind}
use Rattle.pc_parsed.specs.declared.payload.TypeItem.{TypeItem}
use Rattle.pc_parsed.specs.declared.payload.TypeItem.TheVariants as type_
use Rattle.pc_spec_reading.specs.Nest.{is_exposed}
use Rattle.pc_local.specs.declared.item.LocalInitializer.{LocalInitializer}
use Rattle.pc_local.specs.declared.item.LocalInitializer.TheVariants as local

-- a resource; any other type is no item
abbrev pub type_local : TypeItem → Option LocalInitializer
type_local (type_.Resource id representation destructor) = Some (local.Resource id representation destructor)
type_local type_.Other = None

-- a core instance
abbrev pub instance_local : InstanceItem → Option LocalInitializer
instance_local (instance.Instantiate m args) = Some (local.ModuleInstantiate m args)
instance_local (instance.FromExports items) = Some (local.ModuleSynthetic items)

-- a component instance
abbrev pub component_instance_local : ComponentInstanceItem → Option LocalInitializer
component_instance_local (component_instance.Instantiate c args ty) = Some (local.ComponentInstantiate c args ty)
component_instance_local (component_instance.FromExports exports ty) = Some (local.ComponentSynthetic exports ty)

-- an import, where the unsafe intrinsics may be imported under the exposed name
abbrev pub import_local : (exposed : Option (List ℕ)) → ImportItem → LocalInitializer
import_local exposed i = if is_exposed exposed i.name then local.IntrinsicsImport else local.Import i.name i.ty

-- an export
abbrev pub export_local : ExportEntry → LocalInitializer
export_local e = local.Export e.name e.kind e.index

-- what it exports
abbrev pub export_entry : ExportEntry → ExternName × ItemKind × ℕ
export_entry e = (e.name, e.kind, e.index)

-- a canonical function; one that isn't supported is none
abbrev pub canon_local : CanonItem → Option LocalInitializer
canon_local (canon.Lift func ty s opts) = Some (local.Lift func ty s opts)
canon_local (canon.Lower func ty s opts) = Some (local.Lower func ty s opts)
canon_local (canon.TaskReturn s result opts) = Some (local.TaskReturn s result opts)
canon_local (canon.WaitableSetWait s memory) = Some (local.WaitableSet (canon.WaitableSetWait s memory))
canon_local (canon.WaitableSetPoll s memory) = Some (local.WaitableSet (canon.WaitableSetPoll s memory))
canon_local (canon.ErrorContextNew s opts) = Some (local.ErrorContext (canon.ErrorContextNew s opts))
canon_local (canon.ErrorContextDebugMessage s opts) = Some (local.ErrorContext (canon.ErrorContextDebugMessage s opts))
canon_local (canon.ErrorContextDrop s) = Some (local.ErrorContext (canon.ErrorContextDrop s))
canon_local (canon.ContextGet s ty slot) = Some (local.Context (canon.ContextGet s ty slot))
canon_local (canon.ContextSet s ty slot) = Some (local.Context (canon.ContextSet s ty slot))
canon_local (canon.ThreadNewIndirect s start table) = Some (local.ThreadNewIndirect s start table)
canon_local canon.ThreadSpawnRef = None
canon_local canon.ThreadSpawnIndirect = None
canon_local canon.ThreadAvailableParallelism = None
canon_local canon.StreamForward = None
canon_local canon.FutureForward = None
canon_local c = Some (local.Builtin c)
