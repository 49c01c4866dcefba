use Rattle.std.proofs.Common.{refl}
use Rattle.std.proofs.lemmas.Option.{slice_get_within}
use Rattle.pc_inline_names.proofs.NumberedLemmas.{one_number}
use Rattle.pc_inline_items.proofs.BuiltinLemmas.{builtin_local, context_local, error_context_local, new_thread_local}
use Rattle.pc_inline_items.proofs.BuiltinLemmas.{task_return_local, waitable_local}
use Rattle.pc_inline_items.proofs.KindLemmas.{added, intrinsics_local}
use Rattle.pc_inline_items.proofs.KindLemmas.{alias_local, component_exports_local, core_alias_local}
use Rattle.pc_inline_items.proofs.KindLemmas.{core_exports_local}
use Rattle.pc_inline_items.proofs.KindLemmas.{core_instance_local, export_local, import_local, lift_local, lower_local}
use Rattle.pc_inline_items.proofs.KindLemmas.{exported, exports_sound, module_local, module_sound, moved}
use Rattle.pc_inline_items.proofs.KindLemmas.{resource_local}
use Rattle.pc_inline_items.proofs.KindLemmas.{alias_numbers, component_exports_numbers, core_alias_numbers}
use Rattle.pc_inline_items.proofs.KindLemmas.{core_exports_numbers, core_instance_numbers, import_numbers}
use Rattle.pc_inline_items.proofs.KindLemmas.{same_local, still}
use Rattle.pc_inline_items.proofs.LocalLemmas.{local_instantiated}
use Rattle.pc_inline_items.proofs.WholeLemmas.{unmoved}
use Rattle.pc_inline_items.proofs.item.step.Goals as goal

pub bounds-numbers-0 : goal.bounds-numbers-0
bounds-numbers-0 c = (one_number _ _ _ (import_numbers _ _ _ c.requires.numbered c.in-Import.is)).0

pub bounds-numbers-0-in-AliasCoreExport : goal.bounds-numbers-0-in-AliasCoreExport
bounds-numbers-0-in-AliasCoreExport c =
    (one_number _ _ _ (core_alias_numbers _ _ _ c.requires.numbered c.in-AliasCoreExport.is)).0

pub bounds-numbers-0-in-AliasComponentExport : goal.bounds-numbers-0-in-AliasComponentExport
bounds-numbers-0-in-AliasComponentExport c =
    (one_number _ _ _ (alias_numbers _ _ _ c.requires.numbered c.in-AliasComponentExport.is)).0

pub step_import-requires-clause-named : goal.step_import-requires-clause-named
step_import-requires-clause-named c =
    slice_get_within _ _ _
    ((one_number _ _ _ (import_numbers _ _ _ c.requires.numbered c.in-Import.is)).1 _ _ refl)

pub step_core_alias-requires-clause-named : goal.step_core_alias-requires-clause-named
step_core_alias-requires-clause-named c =
    slice_get_within _ _ _
    ((one_number _ _ _ (core_alias_numbers _ _ _ c.requires.numbered c.in-AliasCoreExport.is)).1 _ _ refl)

pub step_alias-requires-clause-named : goal.step_alias-requires-clause-named
step_alias-requires-clause-named c =
    (one_number _ _ _ (alias_numbers _ _ _ c.requires.numbered c.in-AliasComponentExport.is)).1 _ _ refl

pub step_core_instance-requires-clause-numbered : goal.step_core_instance-requires-clause-numbered
step_core_instance-requires-clause-numbered c =
    core_instance_numbers _ _ _ c.requires.numbered c.in-ModuleInstantiate.is
    c.as_slice-in-ModuleInstantiate.ensures

pub step_core_exports-requires : goal.step_core_exports-requires
step_core_exports-requires c =
    record {
      numbered = core_exports_numbers _ _ _ c.requires.numbered c.in-ModuleSynthetic.is
          c.as_slice-in-ModuleSynthetic.ensures;
    }

pub step_component_exports-requires-clause-numbered : goal.step_component_exports-requires-clause-numbered
step_component_exports-requires-clause-numbered c =
    component_exports_numbers _ _ _ c.requires.numbered c.in-ComponentSynthetic.is
    c.as_slice-in-ComponentSynthetic.ensures

pub returns-in-Import : goal.returns-in-Import
returns-in-Import c =
    moved c.in-Import.is c.step_import.ensures
    (λ h. import_local _ _ _ _ _ _ _ _ c.in-Import.is
    (h _ ((one_number _ _ _ (import_numbers _ _ _ c.requires.numbered c.in-Import.is)).1 _ _ refl)))

pub returns-in-IntrinsicsImport : goal.returns-in-IntrinsicsImport
returns-in-IntrinsicsImport c =
    added c.in-IntrinsicsImport.is refl c.step_intrinsics.ensures
    (λ h. intrinsics_local _ _ _ _ _ _ _ _ c.in-IntrinsicsImport.is (h _ _))

pub returns-in-Resource : goal.returns-in-Resource
returns-in-Resource c =
    moved c.in-Resource.is c.step_resource.ensures (resource_local _ _ _ _ _ _ _ _ c.in-Resource.is)

pub step_module-requires-clause-handed_in : goal.step_module-requires-clause-handed_in
step_module-requires-clause-handed_in c = module_sound _ _ c.in-ModuleStatic.is c.requires.sound

pub step_component_exports-requires-clause-named : goal.step_component_exports-requires-clause-named
step_component_exports-requires-clause-named c =
    exports_sound _ _ c.in-ComponentSynthetic.is c.as_slice-in-ComponentSynthetic.ensures c.requires.sound

pub returns-in-Lift : goal.returns-in-Lift
returns-in-Lift c = moved c.in-Lift.is c.step_lift.ensures (lift_local _ _ _ _ _ _ _ _ c.in-Lift.is c.as_slice.ensures)

pub returns-in-Lower : goal.returns-in-Lower
returns-in-Lower c =
    moved c.in-Lower.is c.step_lower.ensures (lower_local _ _ _ _ _ _ _ _ c.in-Lower.is c.as_slice-in-Lower.ensures)

pub returns-in-ModuleStatic : goal.returns-in-ModuleStatic
returns-in-ModuleStatic c =
    moved c.in-ModuleStatic.is c.step_module.ensures (module_local _ _ _ _ _ _ _ _ c.in-ModuleStatic.is)

pub returns-in-ModuleInstantiate : goal.returns-in-ModuleInstantiate
returns-in-ModuleInstantiate c =
    moved c.in-ModuleInstantiate.is c.step_core_instance.ensures
    (core_instance_local _ _ _ _ _ _ _ _ c.in-ModuleInstantiate.is c.as_slice-in-ModuleInstantiate.ensures)

pub returns-in-ModuleSynthetic : goal.returns-in-ModuleSynthetic
returns-in-ModuleSynthetic c =
    still c.step_core_exports.ensures
    (λ h. core_exports_local _ _ _ _ _ _ _ _ c.in-ModuleSynthetic.is c.as_slice-in-ModuleSynthetic.ensures h)

pub returns-in-ComponentStatic : goal.returns-in-ComponentStatic
returns-in-ComponentStatic c =
    moved c.in-ComponentStatic.is c.step_component.ensures (same_local _ _ _ _ _ _ _ _ c.in-ComponentStatic.is)

pub returns-in-AliasCoreExport : goal.returns-in-AliasCoreExport
returns-in-AliasCoreExport c =
    moved c.in-AliasCoreExport.is c.step_core_alias.ensures
    (λ h. core_alias_local _ _ _ _ _ _ _ _ c.in-AliasCoreExport.is
    (h _ ((one_number _ _ _ (core_alias_numbers _ _ _ c.requires.numbered c.in-AliasCoreExport.is)).1 _ _ refl)))

pub returns-in-ComponentInstantiate : goal.returns-in-ComponentInstantiate
returns-in-ComponentInstantiate c =
    unmoved (local_instantiated _ _ _ _ _ _ _ _ _ _ _ c.in-ComponentInstantiate.is)

pub returns-in-ComponentSynthetic : goal.returns-in-ComponentSynthetic
returns-in-ComponentSynthetic c =
    moved c.in-ComponentSynthetic.is
    (exported c.as_slice-in-ComponentSynthetic.ensures c.step_component_exports.ensures)
    (component_exports_local _ _ _ _ _ _ _ _ c.in-ComponentSynthetic.is c.as_slice-in-ComponentSynthetic.ensures)

pub returns-in-AliasComponentExport : goal.returns-in-AliasComponentExport
returns-in-AliasComponentExport c =
    moved c.in-AliasComponentExport.is c.step_alias.ensures
    (alias_local _ _ _ _ _ _ _ _ c.in-AliasComponentExport.is)

pub returns-in-AliasModule : goal.returns-in-AliasModule
returns-in-AliasModule c =
    still c.step_alias_module.ensures (λ h. same_local _ _ _ _ _ _ _ _ c.in-AliasModule.is (h _ _ _ refl))

pub returns-in-AliasComponent : goal.returns-in-AliasComponent
returns-in-AliasComponent c =
    still c.step_alias_component.ensures (λ h. same_local _ _ _ _ _ _ _ _ c.in-AliasComponent.is (h _ _ _ refl))

pub returns-in-Export : goal.returns-in-Export
returns-in-Export c = still c.step_export.ensures (λ h. export_local _ _ _ _ _ _ _ _ c.in-Export.is (h _ _ _))

pub returns-in-Builtin : goal.returns-in-Builtin
returns-in-Builtin c =
    moved c.in-Builtin.is c.step_builtin.ensures (builtin_local _ _ _ _ _ _ _ _ c.in-Builtin.is)

pub returns-in-WaitableSet : goal.returns-in-WaitableSet
returns-in-WaitableSet c =
    moved c.in-WaitableSet.is c.step_builtin-in-WaitableSet.ensures (waitable_local _ _ _ _ _ _ _ _ c.in-WaitableSet.is)

pub returns-in-ErrorContext : goal.returns-in-ErrorContext
returns-in-ErrorContext c =
    moved c.in-ErrorContext.is c.step_builtin-in-ErrorContext.ensures (error_context_local _ _ _ _ _ _ _ _ c.in-ErrorContext.is)

pub returns-in-TaskReturn : goal.returns-in-TaskReturn
returns-in-TaskReturn c =
    moved c.in-TaskReturn.is c.step_task_return.ensures (task_return_local _ _ _ _ _ _ _ _ c.in-TaskReturn.is)

pub returns-in-ThreadNewIndirect : goal.returns-in-ThreadNewIndirect
returns-in-ThreadNewIndirect c =
    moved c.in-ThreadNewIndirect.is c.step_new_thread.ensures
    (new_thread_local _ _ _ _ _ _ _ _ c.in-ThreadNewIndirect.is)

pub returns-in-Context : goal.returns-in-Context
returns-in-Context c =
    moved c.in-Context.is c.step_context.ensures (context_local _ _ _ _ _ _ _ _ c.in-Context.is)
