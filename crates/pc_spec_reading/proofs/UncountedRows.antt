-- No item looks at the total.
use Rattle.std.proofs.Common.{◌≡◌, ℕ, Bool, true, false, List, [], ◌∷◌, Option, None, Some, Result, Ok, Err, refl, ap, ◌∙◌}
use Rattle.std.proofs.Common.{if◌then◌else◌}
use Rattle.std.specs.Prelude.{slice_get, option_and_then}
use Rattle.std.specs.List.{fold, list_all}
use Rattle.pc_entity.specs.Lists.{map_all, value_of}
use Rattle.pc_types.specs.declared.error.Unsupported.TheVariants.{ComponentImport}
use Rattle.pc_types.specs.declared.module_record.ModuleRecord.{ModuleRecord}
use Rattle.pc_types.specs.declared.parsed.CoreFuncSig.{CoreFuncSig}
use Rattle.pc_types.specs.declared.parsed.CoreKind.TheVariants as core
use Rattle.pc_types.specs.declared.parsed.Entity.{Entity}
use Rattle.pc_types.specs.declared.parsed.Entity.TheVariants as entity
use Rattle.pc_types.specs.declared.parsed.TypeTable.{TypeTable}
use Rattle.pc_types.specs.Table.{is_func, is_instance, is_module, is_resource}
use Rattle.pc_types.specs.TypeTree.{TypeTree}
use Rattle.pc_spec_plan.specs.CoreValue.{CoreValue, Options, adapter}
use Rattle.pc_spec_plan.specs.Log.{Entry, made}
use Rattle.pc_spec_plan.specs.Machine.{chosen}
use Rattle.pc_parsed.specs.declared.payload.ExternName.{ExternName}
use Rattle.pc_parsed.specs.declared.payload.ItemKind.{ItemKind}
use Rattle.pc_parsed.specs.Mark.{Mark, of_type}
use Rattle.pc_spec_reading.specs.Arguments.{core_export, host_arguments, static_arguments}
use Rattle.pc_spec_reading.specs.Builtins.{optional_options, parts_from, read_builtin, read_error_context, read_new_thread}
use Rattle.pc_spec_reading.specs.Builtins.{read_task_return, read_waitable}
use Rattle.pc_spec_reading.specs.Components.{add_child, is_definable, outer_of, read_component, read_outer, read_return}
use Rattle.pc_spec_reading.specs.Functions.{lower_to, making, read_context, read_lift, read_lower, slot_place}
use Rattle.pc_spec_reading.specs.Imports.{give, host_value, import_resources, importing, is_of_entity, next_import}
use Rattle.pc_spec_reading.specs.Imports.{prepare, read_import, read_intrinsics, take_if}
use Rattle.pc_spec_reading.specs.Instances.{alias_member, is_of_kind, missing_name, read_alias}
use Rattle.pc_spec_reading.specs.Instances.{read_component_exports, read_export}
use Rattle.pc_spec_reading.specs.Item
use Rattle.pc_spec_reading.specs.Items.{exported_value, is_typed_export, value_at}
use Rattle.pc_spec_reading.specs.Member.{Member, a_host_component, a_value, member, resource_among, resource_at}
use Rattle.pc_spec_reading.specs.Modules.{bag_entry, instantiate_module, read_core_alias}
use Rattle.pc_spec_reading.specs.Modules.{read_core_exports, read_core_instance, read_module}
use Rattle.pc_spec_reading.specs.Options.{options_of}
use Rattle.pc_spec_reading.specs.Outcome.{Fault, after, bad_type, found, held, invalid, unsupported}
use Rattle.pc_spec_reading.specs.Resource.{ResourcePath, newly, registered, resource_paths}
use Rattle.pc_spec_reading.specs.Rows.{read_resource, read_row}
use Rattle.pc_spec_reading.specs.SameValues.{was_made}
use Rattle.pc_spec_reading.specs.Scope.{Moment, add_core, add_entry, chain_of, with_known}
use Rattle.pc_spec_reading.specs.Types.{declared_tree, has_entry, is_defined_entity, is_plain_type, names_entry}
use Rattle.pc_spec_reading.specs.Types.{results_tree, signature_at, tree_if}
use Rattle.pc_spec_reading.specs.Uncounted.{bare}
use Rattle.pc_spec_reading.specs.Value.{Function, Module, NamedValue, Value, host_function, host_module}
use Rattle.pc_spec_reading.specs.Value.{intrinsic_function, lifted_function, pack_values, static_module}

-- a result in a world whose total isn't counted
abbrev pub bare_result : Result Moment Fault → Result Moment Fault
bare_result (Ok now) = Ok (bare now)
bare_result (Err f) = Err f

pub found_bare : {A : Type 0} (f : Fault) (o : Option A) (go other : A → Result Moment Fault)
    → ((x : A) → other x ≡ bare_result (go x)) → found f o other ≡ bare_result (found f o go)
found_bare f None go other each = refl
found_bare f (Some x) go other each = each x

pub after_bare : {A : Type 0} (r : Result A Fault) (go other : A → Result Moment Fault)
    → ((x : A) → other x ≡ bare_result (go x)) → after r other ≡ bare_result (after r go)
after_bare (Ok x) go other each = each x
after_bare (Err f) go other each = refl

pub held_bare : (f : Fault) (test : Bool) (r other : Result Moment Fault) → other ≡ bare_result r
    → held f test other ≡ bare_result (held f test r)
held_bare f true r other same = same
held_bare f false r other same = refl

choice_bare : (b : Bool) (r s other more : Result Moment Fault) → other ≡ bare_result r → more ≡ bare_result s
    → (if b then other else more) ≡ bare_result (if b then r else s)
choice_bare true r s other more first second = first
choice_bare false r s other more first second = second

-- an adapter is made, or was
made_bare : (now : Moment) (b : Bool) (e : Entry Mark) (v : CoreValue Mark)
    → add_core (if b then bare now else add_entry (bare now) e) core.Func v
    ≡ bare (add_core (if b then now else add_entry now e) core.Func v)
made_bare now true e v = refl
made_bare now false e v = refl

-- a function is lowered
lowered_bare : (now : Moment) (f : Function) (tree : TypeTree) (s : CoreFuncSig) (o : Options Mark)
    → lower_to (bare now) f tree s o ≡ bare (lower_to now f tree s o)
unfolding lower_to making
lowered_bare now (host_function p) tree s o = refl
lowered_bare now (lifted_function lift_type v lift) tree s o =
    let a = adapter (of_type lift_type) lift (of_type tree) o v in
    made_bare now (was_made a now.world.log) (made a) a
lowered_bare now (intrinsic_function place) tree s o = refl

-- a member is aliased
member_bare : (now : Moment) (k : ItemKind) (m : Member) → alias_member (bare now) k m ≡ bare_result (alias_member now k m)
member_bare now k (a_value v) = held_bare invalid (is_of_kind k v) _ _ refl
member_bare now k a_host_component = refl

module _ (t : TypeTable) where
  -- an argument is taken
  taken_bare : (now : Moment) (e : Entity) (o : Option Value) → take_if t (bare now) e o ≡ bare_result (take_if t now e o)
  taken_bare now e None = held_bare invalid (is_plain_type t e) _ _ refl
  taken_bare now e (Some v) =
      held_bare invalid (is_of_entity e v) _ _ (
      after_bare (registered (λ names. resource_at names v) (resource_paths t e) now.scope.known) _ _ (λ known. refl))

  -- resources that come with an import
  resources_bare : (now : Moment) (i : ℕ) (ps : List ResourcePath)
      → import_resources (bare now) i ps ≡ bare (import_resources now i ps)
  unfolding import_resources
  resources_bare now i ps = each (newly now.scope.known ps) now
    where
      each : (qs : List ResourcePath) (m : Moment)
          → fold (λ (x : Moment) (p : ResourcePath). importing x i p) (bare m) qs
          ≡ bare (fold (λ (x : Moment) (p : ResourcePath). importing x i p) m qs)
      each [] m = refl
      each (q ∷ qs) m = each qs (importing m i q)

  given_bare : (name : ExternName) (e : Entity) (now : Moment) → give t name e (bare now) ≡ bare_result (give t name e now)
  given_bare name e now =
      found_bare bad_type (declared_tree t now.scope e) _ _ (λ tree.
      found_bare (unsupported ComponentImport) (host_value (next_import now) e tree) _ _ (λ v. refl))

  -- an import of the root is prepared
  pub prepare_bare : (name : ExternName) (e : Entity) (now : Moment)
      → prepare t name e (bare now) ≡ bare_result (prepare t name e now)
  unfolding prepare
  prepare_bare name e now =
      let more = import_resources now _ (resource_paths t e) in
      held_bare bad_type (names_entry t e) _ _ (
      choice_bare (is_defined_entity t e) _ _ _ _ refl
      (ap (give t name e) (resources_bare now _ (resource_paths t e)) ∙ given_bare name e more))

  -- what the return of a child makes of a moment
  pub return_bare : (now : Moment) (exports : List NamedValue) (ty : ℕ)
      → read_return t (bare now) exports ty ≡ bare_result (read_return t now exports ty)
  unfolding read_return add_child
  return_bare now exports ty =
      after_bare (registered (resource_among (pack_values exports)) (resource_paths t (entity.Instance ty)) now.scope.known)
      _ _ (λ known. found_bare bad_type (tree_if t is_instance (with_known now known).scope ty) _ _ (λ tree. refl))

module _ (t : TypeTable) (ms : List ModuleRecord) (now : Moment) where
  -- a core module is instantiated
  module_bare : (args : List (List ℕ × ℕ)) (m : Module)
      → instantiate_module t ms (bare now) args m ≡ bare_result (instantiate_module t ms now args m)
  module_bare args (static_module m tree) =
      found_bare invalid (option_and_then (static_arguments ms now.scope args) (slice_get ms m)) _ _ (λ vs. refl)
  module_bare args (host_module p tree) = found_bare invalid (host_arguments ms now.scope args tree) _ _ (λ vs. refl)

  -- an item
  pub row_bare : (i : Item.Item) → read_row t ms (bare now) i ≡ bare_result (read_row t ms now i)
  unfolding read_row read_import read_intrinsics read_resource read_lift read_lower read_builtin read_waitable
      read_task_return read_error_context read_context read_new_thread read_module read_core_instance
      read_core_exports read_component read_component_exports read_core_alias read_alias read_outer read_export
  row_bare (Item.import_item name e) =
      held_bare bad_type (names_entry t e) _ _ (taken_bare t now e (value_of name.name now.scope.arguments))
  row_bare Item.intrinsics_import = refl
  row_bare (Item.resource_item id representation destructor) =
      held_bare bad_type (has_entry t is_resource id) _ _ (
      found_bare invalid (chosen now.scope.core_funcs destructor) _ _ (λ d. refl))
  row_bare (Item.lift_item func ty signature opts) =
      found_bare bad_type (tree_if t is_func now.scope ty) _ _ (λ tree.
      found_bare bad_type (signature_at t signature) _ _ (λ s.
      found_bare invalid (slice_get now.scope.core_funcs func) _ _ (λ v.
      found_bare invalid (options_of now.scope s opts) _ _ (λ o. refl))))
  row_bare (Item.lower_item func ty signature opts) =
      found_bare bad_type (tree_if t is_func now.scope ty) _ _ (λ tree.
      found_bare bad_type (signature_at t signature) _ _ (λ s.
      found_bare invalid (slice_get now.scope.funcs func) _ _ (λ f.
      found_bare invalid (options_of now.scope s opts) _ _ (λ o. ap Ok (lowered_bare now f tree s o)))))
  row_bare (Item.builtin_item k signature operands) =
      found_bare bad_type (signature_at t signature) _ _ (λ s.
      after_bare (parts_from t now.scope s operands) _ _ (λ parts. refl))
  row_bare (Item.waitable_item k signature memory) =
      found_bare bad_type (signature_at t signature) _ _ (λ s.
      found_bare invalid (slice_get now.scope.memories memory) _ _ (λ v. refl))
  row_bare (Item.task_return_item signature result opts) =
      found_bare bad_type (signature_at t signature) _ _ (λ s.
      found_bare bad_type (results_tree t now.scope result) _ _ (λ tree.
      found_bare invalid (options_of now.scope s opts) _ _ (λ o. refl)))
  row_bare (Item.error_context_item k signature opts) =
      found_bare bad_type (signature_at t signature) _ _ (λ s.
      found_bare invalid (optional_options now.scope s opts) _ _ (λ more. refl))
  row_bare (Item.context_item access signature slot) =
      found_bare bad_type (signature_at t signature) _ _ (λ s.
      found_bare invalid (slot_place access slot) _ _ (λ place. refl))
  row_bare (Item.new_thread_item signature start table) =
      found_bare bad_type (signature_at t signature) _ _ (λ s.
      found_bare invalid (slice_get now.scope.tables table) _ _ (λ v. refl))
  row_bare (Item.module_item number ty) = found_bare bad_type (tree_if t is_module now.scope ty) _ _ (λ tree. refl)
  row_bare (Item.instantiate_module_item n args) =
      found_bare invalid (slice_get now.scope.modules n) _ _ (module_bare args)
  row_bare (Item.core_exports_item items) =
      found_bare invalid (map_all (bag_entry now.scope) items) _ _ (λ es. refl)
  row_bare (Item.component_item body) =
      held_bare invalid (is_definable (chain_of now.scope) 0 body) _ _ refl
  row_bare (Item.instantiate_component_item n args ty) = refl
  row_bare (Item.component_exports_item es ty) =
      found_bare bad_type (tree_if t is_instance now.scope ty) _ _ (λ tree.
      held_bare bad_type (list_all (is_typed_export t) es) _ _ (
      found_bare invalid (map_all (exported_value t now.scope) es) _ _ (λ vs. refl)))
  row_bare (Item.core_alias_item k n name) =
      found_bare invalid (option_and_then (core_export ms k name) (slice_get now.scope.core_instances n)) _ _ (λ v. refl)
  row_bare (Item.alias_item k n name) =
      found_bare invalid (slice_get now.scope.instances n) _ _ (λ i.
      found_bare (missing_name i) (member i name) _ _ (member_bare now k))
  row_bare (Item.outer_item k count n) = found_bare invalid (outer_of now.scope k count n) _ _ (λ v. refl)
  row_bare (Item.export_item e) =
      held_bare bad_type (is_typed_export t e) _ _ (
      found_bare invalid (value_at t now.scope e.kind e.index) _ _ (λ v. refl))
