-- Component instances from items, aliases of what an instance exports, and exports.
use Rattle.std.specs.Prelude.{ℕ, Bool, true, false, List, Result, Ok, Err, slice_get}
use Rattle.std.specs.List.{list_all}
use Rattle.pc_entity.specs.Lists.{map_all}
use Rattle.pc_types.specs.declared.error.Unsupported.TheVariants.{ComponentImport}
use Rattle.pc_types.specs.declared.parsed.TypeTable.{TypeTable}
use Rattle.pc_types.specs.Table.{is_instance}
use Rattle.pc_types.specs.TypeTree.{TypeTree}
use Rattle.pc_parsed.specs.declared.payload.ItemKind.{ItemKind}
use Rattle.pc_parsed.specs.declared.payload.ItemKind.TheVariants as item
use Rattle.pc_spec_reading.specs.Item.{ExportOf}
use Rattle.pc_spec_reading.specs.Items.{value_at, is_typed_export, exported_value}
use Rattle.pc_spec_reading.specs.Member.{Member, a_value, a_host_component, member}
use Rattle.pc_spec_reading.specs.Outcome.{Fault, invalid, bad_type, unknown_intrinsic, unsupported, found, held}
use Rattle.pc_spec_reading.specs.Scope.{Moment, add_value}
use Rattle.pc_spec_reading.specs.Types.{tree_if}
use Rattle.pc_spec_reading.specs.Value.{Value, NamedValue, Instance, func_value, module_value, instance_value}
use Rattle.pc_spec_reading.specs.Value.{component_value, type_value, made_instance, host_instance, the_intrinsics}
use Rattle.pc_spec_reading.specs.Value.{pack_values}

-- whether a value is of a kind
abbrev pub is_of_kind : ItemKind → Value → Bool
is_of_kind item.Func (func_value f) = true
is_of_kind item.Module (module_value m) = true
is_of_kind item.Instance (instance_value i) = true
is_of_kind item.Component (component_value c) = true
is_of_kind item.Type_ (type_value tree) = true
is_of_kind k v = false

-- an alias of a member: a component of a host instance is never supported; then `Invalid` where it is of another kind
abbrev pub alias_member : Moment → ItemKind → Member → Result Moment Fault
alias_member now k (a_value v) = held invalid (is_of_kind k v) (Ok (add_value now v))
alias_member now k a_host_component = Err (unsupported ComponentImport)

-- what a name is refused with that an instance doesn't have
abbrev pub missing_name : Instance → Fault
missing_name the_intrinsics = unknown_intrinsic
missing_name (made_instance vs tree) = invalid
missing_name (host_instance p tree) = invalid

-- an alias of what an instance exports: the name is looked at, then the kind
abbrev pub alias_in : Moment → ItemKind → List ℕ → Instance → Result Moment Fault
alias_in now k name i = found (missing_name i) (member i name) (alias_member now k)

-- `Invalid` where the instance is missing
unfoldable pub read_alias : Moment → ItemKind → (instance : ℕ) → List ℕ → Result Moment Fault
read_alias now k n name = found invalid (slice_get now.scope.instances n) (alias_in now k name)

module _ (t : TypeTable) where
  -- a component instance from items: `BadType` where its type is no instance type or the number of a type is missing;
  -- then `Invalid` where an index is
  unfoldable pub read_component_exports : Moment → List ExportOf → (ty : ℕ) → Result Moment Fault
  read_component_exports now es ty =
      found bad_type (tree_if t is_instance now.scope ty) (λ (tree : TypeTree).
      held bad_type (list_all (is_typed_export t) es) (
      found invalid (map_all (exported_value t now.scope) es) (λ (vs : List NamedValue).
      Ok (add_value now (instance_value (made_instance (pack_values vs) tree))))))

  -- an export is a copy of its item, at the end of its list: `BadType` or `Invalid` where it names nothing
  unfoldable pub read_export : Moment → ExportOf → Result Moment Fault
  read_export now e =
      held bad_type (is_typed_export t e) (
      found invalid (value_at t now.scope e.kind e.index) (λ (v : Value). Ok (add_value now v)))
