-- Each item keeps a moment sound.
use Rattle.std.proofs.Common.{ℕ, List, Option, None, Some, Ok, IfSome, IfOk}
use Rattle.std.specs.Prelude.{All, slice_get, option_and_then}
use Rattle.std.specs.List.{list_all}
use Rattle.pc_entity.specs.Lists.{map_all, value_of}
use Rattle.pc_types.specs.declared.module_record.ModuleRecord.{ModuleRecord}
use Rattle.pc_types.specs.declared.parsed.CoreKind.TheVariants as core
use Rattle.pc_types.specs.declared.parsed.Entity.{Entity}
use Rattle.pc_types.specs.declared.parsed.Entity.TheVariants as entity
use Rattle.pc_types.specs.declared.parsed.TypeTable.{TypeTable}
use Rattle.pc_types.specs.declared.trampoline.TrampolineKind.TheVariants as kind
use Rattle.pc_types.specs.Table.{is_func, is_instance, is_module, is_resource}
use Rattle.pc_spec_plan.specs.CoreValue.{MaybeValue}
use Rattle.pc_spec_plan.specs.Log.{NamedArgument}
use Rattle.pc_spec_plan.specs.Machine.{chosen}
use Rattle.pc_parsed.specs.declared.payload.ItemKind.{ItemKind}
use Rattle.pc_parsed.specs.Mark.{Mark}
use Rattle.pc_spec_reading.specs.Arguments.{core_export, host_arguments, static_arguments}
use Rattle.pc_spec_reading.specs.Builtins.{optional_options, parts_from, read_builtin, read_error_context}
use Rattle.pc_spec_reading.specs.Builtins.{read_new_thread, read_task_return, read_waitable}
use Rattle.pc_spec_reading.specs.Components.{add_child, is_definable, outer_of, read_component, read_outer}
use Rattle.pc_spec_reading.specs.Components.{read_return}
use Rattle.pc_spec_reading.specs.Functions.{read_context, read_lift, read_lower, slot_place}
use Rattle.pc_spec_reading.specs.Imports.{is_of_entity}
use Rattle.pc_spec_reading.specs.Imports.{read_import, read_intrinsics, take_if}
use Rattle.pc_spec_reading.specs.Instances.{alias_member, is_of_kind, missing_name, read_alias}
use Rattle.pc_spec_reading.specs.Instances.{read_component_exports, read_export}
use Rattle.pc_spec_reading.specs.Item
use Rattle.pc_spec_reading.specs.Items.{exported_value, is_typed_export, value_at}
use Rattle.pc_spec_reading.specs.Member.{Member, a_host_component, a_value, member, resource_among, resource_at}
use Rattle.pc_spec_reading.specs.Modules.{bag_entry, instantiate_module, read_core_alias}
use Rattle.pc_spec_reading.specs.Modules.{read_core_exports, read_core_instance, read_module}
use Rattle.pc_spec_reading.specs.Options.{options_of}
use Rattle.pc_spec_reading.specs.Outcome.{bad_type, invalid}
use Rattle.pc_spec_reading.specs.Resource.{registered, resource_paths}
use Rattle.pc_spec_reading.specs.Rows.{read_resource, read_row}
use Rattle.pc_spec_reading.specs.Scope.{CoreItem, Moment, add_value, bag, chain_of}
use Rattle.pc_spec_reading.specs.Scope.{with_known}
use Rattle.pc_spec_reading.specs.Types.{has_entry, is_plain_type, names_entry}
use Rattle.pc_spec_reading.specs.Types.{results_tree, signature_at, tree_if}
use Rattle.pc_spec_reading.specs.Value.{Module, NamedValue, Value, closed, component_value, func_value}
use Rattle.pc_spec_reading.specs.Value.{host_module}
use Rattle.pc_spec_reading.specs.Value.{instance_value, lifted_function, made_instance, module_value}
use Rattle.pc_spec_reading.specs.Value.{pack_values, static_module, the_intrinsics}
use Rattle.pc_spec_wiring.specs.Confined.{Belongs}
use Rattle.pc_spec_wiring.specs.Held.{maybe_list}
use Rattle.pc_confined.proofs.FoundLemmas.{bag_found, destructor_all, host_found, item_found, options_found}
use Rattle.pc_confined.proofs.FoundLemmas.{static_found}
use Rattle.pc_confined.proofs.ScopeLemmas.{both_follow, core_added, instance_added}
use Rattle.pc_confined.proofs.ScopeLemmas.{intrinsic_added, known_follows, now_follows, value_added}
use Rattle.pc_confined.proofs.Sound.{AreOptionsOf, AreSoundValues, Follows, IsSoundFunction}
use Rattle.pc_confined.proofs.Sound.{IsSoundInstance, IsSoundMember, IsSoundMoment, IsSoundValue}
use Rattle.pc_confined.proofs.Steps.{after_ok, all_some, at_some, each_some, found_ok, held_ok, named_some, with_ok}
use Rattle.pc_confined.proofs.ValueLemmas.{export_found, member_found, outer_found, packed, value_found}
use Rattle.pc_confined.proofs.AddLemmas.{declared_keeps, host_keeps, lifted_sound, lowered_keeps}
use Rattle.pc_confined.proofs.AddLemmas.{resource_keeps, static_keeps}

module _ (t : TypeTable) (now : Moment) (sound : IsSoundMoment now) where
  abbrev Keeps : Moment → Type 0
  Keeps later = Follows now later

  -- an argument is taken
  taken_keeps : (e : Entity) (o : Option Value) → IfSome o (IsSoundValue now.world.log)
      → IfOk (take_if t now e o) Keeps
  taken_keeps e None h = held_ok Keeps invalid (is_plain_type t e) (Ok now) (now_follows now sound)
  taken_keeps e (Some v) h =
      held_ok Keeps invalid (is_of_entity e v) _ (
      after_ok Keeps (registered (λ names. resource_at names v) (resource_paths t e) now.scope.known) _ (λ known.
      let first = known_follows now sound known in
      both_follow now (with_known now known) (add_value (with_known now known) v) first
      (value_added (with_known now known) first.sound v h)))

  -- a member is aliased
  member_keeps : (k : ItemKind) (m : Member) → IsSoundMember now.world.log m → IfOk (alias_member now k m) Keeps
  member_keeps k (a_value v) h = held_ok Keeps invalid (is_of_kind k v) _ (value_added now sound v h)
  member_keeps k a_host_component h = tt

  -- what the return of a child makes of a moment
  pub return_keeps : (exports : List NamedValue) (ty : ℕ) → AreSoundValues now.world.log (pack_values exports)
      → IfOk (read_return t now exports ty) Keeps
  unfolding read_return add_child
  return_keeps exports ty h =
      after_ok Keeps
      (registered (resource_among (pack_values exports)) (resource_paths t (entity.Instance ty)) now.scope.known) _
      (λ known.
      found_ok Keeps bad_type (tree_if t is_instance (with_known now known).scope ty) _ (λ x.
      let first = known_follows now sound known in
      let v : Value = instance_value (made_instance (pack_values exports) x) in
      both_follow now (with_known now known) (add_value (with_known now known) v) first
      (value_added (with_known now known) first.sound v h)))

  module _ (ms : List ModuleRecord) where
    -- a core module is instantiated
    module_keeps : (args : List (List ℕ × ℕ)) (m : Module) → IfOk (instantiate_module t ms now args m) Keeps
    module_keeps args (static_module m x) =
        with_ok Keeps (All (Belongs now.world.log now.scope.component_instance)) invalid
        (option_and_then (static_arguments ms now.scope args) (slice_get ms m)) _
        (each_some (All (Belongs now.world.log now.scope.component_instance)) (static_arguments ms now.scope args)
        (slice_get ms m) (static_found now.world.log ms now.scope sound.scope args))
        (static_keeps now sound m)
    module_keeps args (host_module p x) =
        with_ok Keeps (All (λ (a : NamedArgument Mark). Belongs now.world.log now.scope.component_instance a.value))
        invalid (host_arguments ms now.scope args x) _ (host_found now.world.log ms now.scope sound.scope args x)
        (host_keeps now sound p x)

    -- an item
    pub row_keeps : (i : Item.Item) → IfOk (read_row t ms now i) Keeps
    unfolding read_row read_import read_intrinsics read_resource read_lift read_lower read_builtin read_waitable
        read_task_return read_error_context read_context read_new_thread read_module read_core_instance
        read_core_exports read_component read_component_exports read_core_alias read_alias read_outer read_export
    row_keeps (Item.import_item name e) =
        held_ok Keeps bad_type (names_entry t e) _ (
        taken_keeps e (value_of name.name now.scope.arguments)
        (named_some (IsSoundValue now.world.log) now.scope.arguments sound.scope.arguments name.name))
    row_keeps Item.intrinsics_import = value_added now sound (instance_value the_intrinsics) tt
    row_keeps (Item.resource_item id representation destructor) =
        held_ok Keeps bad_type (has_entry t is_resource id) _ (
        with_ok Keeps
        (λ (d : MaybeValue Mark). All (Belongs now.world.log now.scope.component_instance) (maybe_list d)) invalid
        (chosen now.scope.core_funcs destructor) _
        (destructor_all (Belongs now.world.log now.scope.component_instance) now.scope.core_funcs
        (sound.scope.cores core.Func) destructor)
        (resource_keeps now sound id representation))
    row_keeps (Item.lift_item func ty signature opts) =
        found_ok Keeps bad_type (tree_if t is_func now.scope ty) _ (λ x.
        found_ok Keeps bad_type (signature_at t signature) _ (λ s.
        with_ok Keeps (Belongs now.world.log now.scope.component_instance) invalid
        (slice_get now.scope.core_funcs func) _
        (at_some (Belongs now.world.log now.scope.component_instance) now.scope.core_funcs (sound.scope.cores core.Func)
        func) (λ v b.
        with_ok Keeps (AreOptionsOf now.world.log now.scope.component_instance) invalid (options_of now.scope s opts) _
        (options_found now.world.log now.scope sound.scope s opts) (λ o own.
        value_added now sound (func_value (lifted_function x v o)) (lifted_sound now sound x v o b own)))))
    row_keeps (Item.lower_item func ty signature opts) =
        found_ok Keeps bad_type (tree_if t is_func now.scope ty) _ (λ x.
        found_ok Keeps bad_type (signature_at t signature) _ (λ s.
        with_ok Keeps (IsSoundFunction now.world.log) invalid (slice_get now.scope.funcs func) _
        (at_some (IsSoundFunction now.world.log) now.scope.funcs sound.scope.funcs func) (λ f b.
        with_ok Keeps (AreOptionsOf now.world.log now.scope.component_instance) invalid (options_of now.scope s opts) _
        (options_found now.world.log now.scope sound.scope s opts) (λ o own.
        lowered_keeps now sound f x s o b own.whose))))
    row_keeps (Item.builtin_item k signature operands) =
        found_ok Keeps bad_type (signature_at t signature) _ (λ s.
        after_ok Keeps (parts_from t now.scope s operands) _ (λ parts. declared_keeps now sound k _))
    row_keeps (Item.waitable_item k signature memory) =
        found_ok Keeps bad_type (signature_at t signature) _ (λ s.
        found_ok Keeps invalid (slice_get now.scope.memories memory) _ (λ v. declared_keeps now sound k _))
    row_keeps (Item.task_return_item signature result opts) =
        found_ok Keeps bad_type (signature_at t signature) _ (λ s.
        found_ok Keeps bad_type (results_tree t now.scope result) _ (λ x.
        found_ok Keeps invalid (options_of now.scope s opts) _ (λ o. declared_keeps now sound kind.TaskReturn _)))
    row_keeps (Item.error_context_item k signature opts) =
        found_ok Keeps bad_type (signature_at t signature) _ (λ s.
        found_ok Keeps invalid (optional_options now.scope s opts) _ (λ more. declared_keeps now sound k _))
    row_keeps (Item.context_item access signature slot) =
        found_ok Keeps bad_type (signature_at t signature) _ (λ s.
        found_ok Keeps invalid (slot_place access slot) _ (λ place. intrinsic_added now sound place s))
    row_keeps (Item.new_thread_item signature start table) =
        found_ok Keeps bad_type (signature_at t signature) _ (λ s.
        found_ok Keeps invalid (slice_get now.scope.tables table) _ (λ v.
        declared_keeps now sound kind.ThreadNewIndirect _))
    row_keeps (Item.module_item number ty) =
        found_ok Keeps bad_type (tree_if t is_module now.scope ty) _ (λ x.
        value_added now sound (module_value (static_module number x)) tt)
    row_keeps (Item.instantiate_module_item n args) =
        found_ok Keeps invalid (slice_get now.scope.modules n) _ (module_keeps args)
    row_keeps (Item.core_exports_item items) =
        with_ok Keeps (All (λ (e : List ℕ × CoreItem). Belongs now.world.log now.scope.component_instance e.1.value))
        invalid (map_all (bag_entry now.scope) items) _ (bag_found now.world.log ms now.scope sound.scope items)
        (λ es h. instance_added now sound (bag es) h)
    row_keeps (Item.component_item body) =
        held_ok Keeps invalid (is_definable (chain_of now.scope) 0 body) _ (
        value_added now sound (component_value (closed body (chain_of now.scope))) tt)
    row_keeps (Item.instantiate_component_item n args ty) = tt
    row_keeps (Item.component_exports_item es ty) =
        found_ok Keeps bad_type (tree_if t is_instance now.scope ty) _ (λ x.
        held_ok Keeps bad_type (list_all (is_typed_export t) es) _ (
        with_ok Keeps (All (λ (v : NamedValue). IsSoundValue now.world.log v.value)) invalid
        (map_all (exported_value t now.scope) es) _
        (all_some (λ (v : NamedValue). IsSoundValue now.world.log v.value) (exported_value t now.scope)
        (export_found now.world.log t now.scope sound.scope) es) (λ vs h.
        value_added now sound (instance_value (made_instance (pack_values vs) x)) (packed now.world.log vs h))))
    row_keeps (Item.core_alias_item k n name) =
        with_ok Keeps (Belongs now.world.log now.scope.component_instance) invalid
        (option_and_then (core_export ms k name) (slice_get now.scope.core_instances n)) _
        (item_found now.world.log ms now.scope sound.scope k name n) (core_added now sound k)
    row_keeps (Item.alias_item k n name) =
        with_ok Keeps (IsSoundInstance now.world.log) invalid (slice_get now.scope.instances n) _
        (at_some (IsSoundInstance now.world.log) now.scope.instances sound.scope.instances n) (λ i b.
        with_ok Keeps (IsSoundMember now.world.log) (missing_name i) (member i name) _
        (member_found now.world.log i b name) (member_keeps k))
    row_keeps (Item.outer_item k count n) =
        with_ok Keeps (IsSoundValue now.world.log) invalid (outer_of now.scope k count n) _
        (outer_found now.world.log now.scope k count n) (value_added now sound)
    row_keeps (Item.export_item e) =
        held_ok Keeps bad_type (is_typed_export t e) _ (
        with_ok Keeps (IsSoundValue now.world.log) invalid (value_at t now.scope e.kind e.index) _
        (value_found now.world.log t now.scope sound.scope e.kind e.index) (value_added now sound))
