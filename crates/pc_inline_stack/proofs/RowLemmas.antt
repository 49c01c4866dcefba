-- What an item keeps of a moment.
use Rattle.std.proofs.Common.{◌≡◌, ℕ, Bool, true, false, List, Option, None, Some, Result, Ok, Err, refl}
use Rattle.std.proofs.Common.{subst, ◌∙◌, if◌then◌else◌}
use Rattle.std.specs.Prelude.{IfOk, slice_get, option_and_then}
use Rattle.std.specs.List.{list_all}
use Rattle.pc_entity.specs.Lists.{map_all, value_of}
use Rattle.pc_types.specs.declared.module_record.ModuleRecord.{ModuleRecord}
use Rattle.pc_types.specs.declared.parsed.CoreFuncSig.{CoreFuncSig}
use Rattle.pc_types.specs.declared.parsed.CoreKind.{CoreKind}
use Rattle.pc_types.specs.declared.parsed.CoreKind.TheVariants as core
use Rattle.pc_types.specs.declared.parsed.Entity.{Entity}
use Rattle.pc_types.specs.declared.parsed.Entity.TheVariants as entity
use Rattle.pc_types.specs.declared.parsed.TypeTable.{TypeTable}
use Rattle.pc_types.specs.Table.{is_func, is_instance, is_module, is_resource}
use Rattle.pc_types.specs.TypeTree.{Identity, TypeTree}
use Rattle.pc_spec_plan.specs.CoreValue.{CoreValue, Options, adapter}
use Rattle.pc_spec_plan.specs.Log.{Entry, declared, made}
use Rattle.pc_spec_plan.specs.Machine.{chosen}
use Rattle.pc_parsed.specs.declared.payload.ItemKind.{ItemKind}
use Rattle.pc_parsed.specs.Mark.{Mark, of_type}
use Rattle.pc_spec_reading.specs.Arguments.{core_export, host_arguments, static_arguments}
use Rattle.pc_spec_reading.specs.Builtins.{declaring, optional_options, parts_from, read_builtin, read_error_context}
use Rattle.pc_spec_reading.specs.Builtins.{read_new_thread, read_task_return, read_waitable}
use Rattle.pc_spec_reading.specs.Components.{add_child, is_definable, outer_of, read_component, read_outer, read_return}
use Rattle.pc_spec_reading.specs.Functions.{lower_to, making, read_context, read_lift, read_lower, slot_place}
use Rattle.pc_spec_reading.specs.Imports.{is_of_entity, read_import, read_intrinsics, take_if}
use Rattle.pc_spec_reading.specs.Instances.{alias_member, is_of_kind, missing_name, read_alias}
use Rattle.pc_spec_reading.specs.Instances.{read_component_exports, read_export}
use Rattle.pc_spec_reading.specs.Item
use Rattle.pc_spec_reading.specs.Items.{exported_value, is_typed_export, value_at}
use Rattle.pc_spec_reading.specs.Member.{Member, a_host_component, a_value, member, resource_among, resource_at}
use Rattle.pc_spec_reading.specs.Modules.{bag_entry, instantiate_module, read_core_alias}
use Rattle.pc_spec_reading.specs.Modules.{read_core_exports, read_core_instance, read_module}
use Rattle.pc_spec_reading.specs.Options.{options_of}
use Rattle.pc_spec_reading.specs.Outcome.{Fault, after, bad_type, found, held, invalid}
use Rattle.pc_spec_reading.specs.Resource.{registered, resource_paths}
use Rattle.pc_spec_reading.specs.Rows.{read_resource, read_row}
use Rattle.pc_spec_reading.specs.SameValues.{was_made}
use Rattle.pc_spec_reading.specs.Scope.{CoreInstance, Moment, Scope, add_core, add_core_instance, add_entry}
use Rattle.pc_spec_reading.specs.Scope.{add_intrinsic, add_value, chain_of, with_core}
use Rattle.pc_spec_reading.specs.Scope.{with_known, with_value}
use Rattle.pc_spec_reading.specs.Types.{has_entry, is_plain_type, names_entry, results_tree, signature_at, tree_if}
use Rattle.pc_spec_reading.specs.Value.{Function, Module, NamedValue, Value, closed, component_value}
use Rattle.pc_spec_reading.specs.Value.{func_value, host_function, host_module, instance_value, intrinsic_function}
use Rattle.pc_spec_reading.specs.Value.{lifted_function, made_instance, module_value, pack_values, static_module}
use Rattle.pc_spec_reading.specs.Value.{the_intrinsics, type_value}

-- the scopes around the component, its number, the total and how many component instances began are as before
pub record RowKeeps (now next : Moment) : Type 0 where
  pub chain : next.scope.chain ≡ now.scope.chain
  pub component_instance : next.scope.component_instance ≡ now.scope.component_instance
  pub total : next.world.total ≡ now.world.total
  pub begun : next.world.begun ≡ now.world.begun

value_chain : (s : Scope) (v : Value) → (with_value s v).chain ≡ s.chain
value_chain s (func_value f) = refl
value_chain s (module_value m) = refl
value_chain s (instance_value i) = refl
value_chain s (component_value c) = refl
value_chain s (type_value tree) = refl

value_number : (s : Scope) (v : Value) → (with_value s v).component_instance ≡ s.component_instance
value_number s (func_value f) = refl
value_number s (module_value m) = refl
value_number s (instance_value i) = refl
value_number s (component_value c) = refl
value_number s (type_value tree) = refl

core_chain : (s : Scope) (k : CoreKind) (v : CoreValue Mark) → (with_core s k v).chain ≡ s.chain
core_chain s core.Func v = refl
core_chain s core.Table v = refl
core_chain s core.Memory v = refl
core_chain s core.Global v = refl
core_chain s core.Tag v = refl

core_number : (s : Scope) (k : CoreKind) (v : CoreValue Mark)
    → (with_core s k v).component_instance ≡ s.component_instance
core_number s core.Func v = refl
core_number s core.Table v = refl
core_number s core.Memory v = refl
core_number s core.Global v = refl
core_number s core.Tag v = refl

module _ (old : Moment) where
  same_keeps : RowKeeps old old
  same_keeps = record { chain = refl; component_instance = refl; total = refl; begun = refl }

  -- one more item
  value_keeps : (now : Moment) (v : Value) → RowKeeps old now → RowKeeps old (add_value now v)
  value_keeps now v keeps = record {
    chain = value_chain now.scope v ∙ keeps.chain;
    component_instance = value_number now.scope v ∙ keeps.component_instance;
    total = keeps.total;
    begun = keeps.begun;
  }

  -- one more core item
  core_keeps : (now : Moment) (k : CoreKind) (v : CoreValue Mark) → RowKeeps old now → RowKeeps old (add_core now k v)
  core_keeps now k v keeps = record {
    chain = core_chain now.scope k v ∙ keeps.chain;
    component_instance = core_number now.scope k v ∙ keeps.component_instance;
    total = keeps.total;
    begun = keeps.begun;
  }

  -- one more core instance
  instance_keeps : (now : Moment) (i : CoreInstance) → RowKeeps old now → RowKeeps old (add_core_instance now i)
  instance_keeps now i keeps = record {
    chain = keeps.chain;
    component_instance = keeps.component_instance;
    total = keeps.total;
    begun = keeps.begun;
  }

  -- one more entry
  entry_keeps : (now : Moment) (e : Entry Mark) → RowKeeps old now → RowKeeps old (add_entry now e)
  entry_keeps now e keeps = record {
    chain = keeps.chain;
    component_instance = keeps.component_instance;
    total = keeps.total;
    begun = keeps.begun;
  }

  -- other resources are known
  known_keeps : (now : Moment) (known : List (ℕ × Identity)) → RowKeeps old now → RowKeeps old (with_known now known)
  known_keeps now known keeps = record {
    chain = keeps.chain;
    component_instance = keeps.component_instance;
    total = keeps.total;
    begun = keeps.begun;
  }

  -- one more intrinsic
  intrinsic_keeps : (now : Moment) (place : ℕ) (s : CoreFuncSig) → RowKeeps old now
      → RowKeeps old (add_intrinsic now place s)
  intrinsic_keeps now place s keeps = record {
    chain = keeps.chain;
    component_instance = keeps.component_instance;
    total = keeps.total;
    begun = keeps.begun;
  }

  choice_keeps : (b : Bool) (x y : Moment) → RowKeeps old x → RowKeeps old y → RowKeeps old (if b then x else y)
  choice_keeps true x y this other = this
  choice_keeps false x y this other = other

  -- what a result keeps
  abbrev Keeping : Result Moment Fault → Type 0
  Keeping r = IfOk r (RowKeeps old)

  found_keeps : {A : Type 0} (f : Fault) (o : Option A) (go : A → Result Moment Fault) → ((x : A) → Keeping (go x))
      → Keeping (found f o go)
  found_keeps f None go each = tt
  found_keeps f (Some x) go each = each x

  after_keeps : {A : Type 0} (r : Result A Fault) (go : A → Result Moment Fault) → ((x : A) → Keeping (go x))
      → Keeping (after r go)
  after_keeps (Ok x) go each = each x
  after_keeps (Err f) go each = tt

  held_keeps : (f : Fault) (test : Bool) (r : Result Moment Fault) → Keeping r → Keeping (held f test r)
  held_keeps f true r keeps = keeps
  held_keeps f false r keeps = tt

  -- a function is lowered
  lower_keeps : (f : Function) (tree : TypeTree) (s : CoreFuncSig) (o : Options Mark)
      → RowKeeps old (lower_to old f tree s o)
  unfolding lower_to making
  lower_keeps (host_function p) tree s o = core_keeps _ core.Func _ (entry_keeps _ _ (entry_keeps _ _ same_keeps))
  lower_keeps (lifted_function lift_type v lift) tree s o =
      let a = adapter (of_type lift_type) lift (of_type tree) o v in
      core_keeps _ core.Func a
      (choice_keeps (was_made a old.world.log) old _ same_keeps (entry_keeps old (made a) same_keeps))
  lower_keeps (intrinsic_function place) tree s o = intrinsic_keeps _ place s same_keeps

  -- a member is aliased
  member_keeps : (k : ItemKind) (m : Member) → Keeping (alias_member old k m)
  member_keeps k (a_value v) = held_keeps invalid (is_of_kind k v) _ (value_keeps old v same_keeps)
  member_keeps k a_host_component = tt

module _ (t : TypeTable) (ms : List ModuleRecord) (now : Moment) where
  -- an argument is taken
  import_keeps : (e : Entity) (o : Option Value) → Keeping now (take_if t now e o)
  import_keeps e None = held_keeps now invalid (is_plain_type t e) (Ok now) (same_keeps now)
  import_keeps e (Some v) =
      held_keeps now invalid (is_of_entity e v) _ (after_keeps now
      (registered (λ names. resource_at names v) (resource_paths t e) now.scope.known) _
      (λ known. value_keeps now _ v (known_keeps now now known (same_keeps now))))

  -- a core module is instantiated
  module_keeps : (args : List (List ℕ × ℕ)) (m : Module) → Keeping now (instantiate_module t ms now args m)
  module_keeps args (static_module m tree) =
      found_keeps now invalid (option_and_then (static_arguments ms now.scope args) (slice_get ms m)) _
      (λ vs. instance_keeps now _ _ (entry_keeps now now _ (same_keeps now)))
  module_keeps args (host_module p tree) =
      found_keeps now invalid (host_arguments ms now.scope args tree) _
      (λ vs. instance_keeps now _ _ (entry_keeps now _ _ (entry_keeps now now _ (same_keeps now))))

  -- a builtin
  builtin_keeps : (v : CoreValue Mark) → RowKeeps now (declaring now v)
  builtin_keeps v = core_keeps now _ core.Func v (entry_keeps now now (declared v) (same_keeps now))

  -- an item
  item_keeps : (i : Item.Item) → Keeping now (read_row t ms now i)
  unfolding read_row read_import read_lift read_lower read_module read_core_instance read_core_exports read_component
      read_component_exports read_core_alias read_alias read_outer read_export read_resource read_intrinsics read_builtin
      read_waitable read_task_return read_error_context read_context read_new_thread
  item_keeps (Item.import_item name e) =
      held_keeps now bad_type (names_entry t e) _ (import_keeps e (value_of name.name now.scope.arguments))
  item_keeps Item.intrinsics_import = value_keeps now now (instance_value the_intrinsics) (same_keeps now)
  item_keeps (Item.resource_item id representation destructor) =
      held_keeps now bad_type (has_entry t is_resource id) _ (
      found_keeps now invalid (chosen now.scope.core_funcs destructor) _
      (λ d. entry_keeps now _ _ (known_keeps now now _ (same_keeps now))))
  item_keeps (Item.lift_item func ty signature opts) =
      found_keeps now bad_type (tree_if t is_func now.scope ty) _ (λ tree.
      found_keeps now bad_type (signature_at t signature) _ (λ s.
      found_keeps now invalid (slice_get now.scope.core_funcs func) _ (λ v.
      found_keeps now invalid (options_of now.scope s opts) _ (λ o.
      value_keeps now now (func_value (lifted_function tree v o)) (same_keeps now)))))
  item_keeps (Item.lower_item func ty signature opts) =
      found_keeps now bad_type (tree_if t is_func now.scope ty) _ (λ tree.
      found_keeps now bad_type (signature_at t signature) _ (λ s.
      found_keeps now invalid (slice_get now.scope.funcs func) _ (λ f.
      found_keeps now invalid (options_of now.scope s opts) _ (λ o. lower_keeps now f tree s o))))
  item_keeps (Item.builtin_item k signature operands) =
      found_keeps now bad_type (signature_at t signature) _ (λ s.
      after_keeps now (parts_from t now.scope s operands) _ (λ parts. builtin_keeps _))
  item_keeps (Item.waitable_item k signature memory) =
      found_keeps now bad_type (signature_at t signature) _ (λ s.
      found_keeps now invalid (slice_get now.scope.memories memory) _ (λ v. builtin_keeps _))
  item_keeps (Item.task_return_item signature result_ opts) =
      found_keeps now bad_type (signature_at t signature) _ (λ s.
      found_keeps now bad_type (results_tree t now.scope result_) _ (λ tree.
      found_keeps now invalid (options_of now.scope s opts) _ (λ o. builtin_keeps _)))
  item_keeps (Item.error_context_item k signature opts) =
      found_keeps now bad_type (signature_at t signature) _ (λ s.
      found_keeps now invalid (optional_options now.scope s opts) _ (λ more. builtin_keeps _))
  item_keeps (Item.context_item access signature slot) =
      found_keeps now bad_type (signature_at t signature) _ (λ s.
      found_keeps now invalid (slot_place access slot) _ (λ place. intrinsic_keeps now now place s (same_keeps now)))
  item_keeps (Item.new_thread_item signature start table) =
      found_keeps now bad_type (signature_at t signature) _ (λ s.
      found_keeps now invalid (slice_get now.scope.tables table) _ (λ v. builtin_keeps _))
  item_keeps (Item.module_item number ty) =
      found_keeps now bad_type (tree_if t is_module now.scope ty) _ (λ tree.
      value_keeps now now (module_value (static_module number tree)) (same_keeps now))
  item_keeps (Item.instantiate_module_item n args) =
      found_keeps now invalid (slice_get now.scope.modules n) _ (module_keeps args)
  item_keeps (Item.core_exports_item items) =
      found_keeps now invalid (map_all (bag_entry now.scope) items) _ (λ es. instance_keeps now now _ (same_keeps now))
  item_keeps (Item.component_item body) =
      held_keeps now invalid (is_definable (chain_of now.scope) 0 body) _
      (value_keeps now now (component_value (closed body (chain_of now.scope))) (same_keeps now))
  item_keeps (Item.instantiate_component_item a b d) = tt
  item_keeps (Item.component_exports_item es ty) =
      found_keeps now bad_type (tree_if t is_instance now.scope ty) _ (λ tree.
      held_keeps now bad_type (list_all (is_typed_export t) es) _ (
      found_keeps now invalid (map_all (exported_value t now.scope) es) _
      (λ vs. value_keeps now now (instance_value (made_instance (pack_values vs) tree)) (same_keeps now))))
  item_keeps (Item.core_alias_item k n name) =
      found_keeps now invalid (option_and_then (core_export ms k name) (slice_get now.scope.core_instances n)) _
      (λ v. core_keeps now now k v (same_keeps now))
  item_keeps (Item.alias_item k n name) =
      found_keeps now invalid (slice_get now.scope.instances n) _ (λ i.
      found_keeps now (missing_name i) (member i name) _ (member_keeps now k))
  item_keeps (Item.outer_item k count n) =
      found_keeps now invalid (outer_of now.scope k count n) _ (λ v. value_keeps now now v (same_keeps now))
  item_keeps (Item.export_item e) =
      held_keeps now bad_type (is_typed_export t e) _ (
      found_keeps now invalid (value_at t now.scope e.kind e.index) _ (λ v. value_keeps now now v (same_keeps now)))

module _ (t : TypeTable) (ms : List ModuleRecord) (now next : Moment) where
  -- what an item keeps of a moment
  pub row_keeps : (i : Item.Item) → read_row t ms now i ≡ Ok next → RowKeeps now next
  row_keeps i done = subst (λ r. IfOk r (RowKeeps now)) done (item_keeps t ms now i)

  -- what the return of a child keeps of a moment
  pub return_keeps : (exports : List NamedValue) (ty : ℕ) → read_return t now exports ty ≡ Ok next → RowKeeps now next
  unfolding read_return add_child
  return_keeps exports ty done =
      subst (λ r. IfOk r (RowKeeps now)) done (
      after_keeps now
      (registered (resource_among (pack_values exports)) (resource_paths t (entity.Instance ty)) now.scope.known) _
      (λ known. found_keeps now bad_type (tree_if t is_instance (with_known now known).scope ty) _ (λ tree.
      value_keeps now _ (instance_value (made_instance (pack_values exports) tree))
      (known_keeps now now known (same_keeps now)))))
