-- How the plan machine sees definitions and steps.
use Rattle.std.specs.Prelude.{List, ℕ, map, Option, option_map}
use Rattle.std.specs.List.{flat_map}
use Rattle.pc_numbers.specs.declared.entity_index.EntityIndex.{EntityIndex}
use Rattle.pc_numbers.specs.declared.entity_index.EntityIndex.TheVariants as entity
use Rattle.pc_numbers.specs.declared.runtime.RuntimeComponentInstanceIndex.{RuntimeComponentInstanceIndex}
use Rattle.pc_spec_plan.specs.CoreValue.{ExportedItem, by_index, by_name}
use Rattle.pc_spec_plan.specs.PlanView as plan
use Rattle.pc_types.specs.IntrinsicType.{intrinsic_place}
use Rattle.pc_info.specs.declared.core_def.CoreDef.{CoreDef}
use Rattle.pc_info.specs.declared.core_def.CoreDef.TheVariants as def
use Rattle.pc_info.specs.declared.core_def.CoreExport.{CoreExport}
use Rattle.pc_info.specs.declared.core_def.ExportItem.{ExportItem}
use Rattle.pc_info.specs.declared.core_def.ExportItem.TheVariants as item
use Rattle.pc_info.specs.declared.initializer.GlobalInitializer.{GlobalInitializer}
use Rattle.pc_info.specs.declared.initializer.GlobalInitializer.TheVariants as init
use Rattle.pc_info.specs.declared.initializer.InstantiateModule.{InstantiateModule}
use Rattle.pc_info.specs.declared.initializer.InstantiateModule.TheVariants as source
use Rattle.pc_info.specs.declared.initializer.Resource.{Resource}
use Rattle.pc_info.specs.Mapped.{map_export}

-- an item of a core instance: by its entity, or by its name
abbrev pub item_view : ExportItem EntityIndex → ExportedItem
item_view (item.Index e) = by_index e
item_view (item.Name name) = by_name name

-- an item of a core instance that was made before
abbrev pub core_export_view : CoreExport EntityIndex → plan.Definition
core_export_view e = plan.export e.instance.0 (item_view e.item)

-- a definition
abbrev pub def_view : CoreDef → plan.Definition
def_view (def.Export e) = core_export_view e
def_view (def.InstanceFlags c) = plan.flags c.0
def_view (def.Trampoline t) = plan.trampoline t.0
def_view (def.UnsafeIntrinsic i) = plan.intrinsic (intrinsic_place i)

-- an argument of a host module, under a module name
abbrev pub argument_view : (module_name : List ℕ) → List ℕ × CoreDef → plan.NamedDefinition
argument_view module_name a = record { module_name = module_name; name = a.0; definition = def_view a.1 }

-- the arguments of a host module under one module name
abbrev pub arguments_view : List ℕ × List (List ℕ × CoreDef) → List plan.NamedDefinition
arguments_view m = map (argument_view m.0) m.1

-- a component instance that a core instance is made for, if any
abbrev pub owner_view : Option RuntimeComponentInstanceIndex → Option ℕ
owner_view c = option_map (λ (i : RuntimeComponentInstanceIndex). i.0) c

-- a module with its arguments, and the component instance that it is made for
abbrev pub source_view : InstantiateModule → Option RuntimeComponentInstanceIndex → plan.Initializer
source_view (source.Static m args) c = plan.instantiate_static m.0 (map def_view args) (owner_view c)
source_view (source.Import r args) c = plan.instantiate_import r.0 (flat_map arguments_view args) (owner_view c)

-- a resource that is declared
abbrev pub resource_view : Resource → plan.Initializer
resource_view r = plan.declare_resource r.index.0 r.rep (option_map def_view r.dtor) r.instance.0

-- a step
abbrev pub initializer_view : GlobalInitializer → plan.Initializer
initializer_view (init.InstantiateModule m c) = source_view m c
initializer_view (init.LowerImport index r) = plan.lower_import index.0 r.0
initializer_view (init.ExtractMemory e) =
    plan.extract plan.memory e.index.0 (core_export_view (map_export entity.Memory e.export))
initializer_view (init.ExtractRealloc e) = plan.extract plan.realloc e.index.0 (def_view e.def)
initializer_view (init.ExtractCallback e) = plan.extract plan.callback e.index.0 (def_view e.def)
initializer_view (init.ExtractPostReturn e) = plan.extract plan.post_return e.index.0 (def_view e.def)
initializer_view (init.ExtractTable e) =
    plan.extract plan.table e.index.0 (core_export_view (map_export entity.Table e.export))
initializer_view (init.Resource r) = resource_view r
