-- The items that an item names by kind and index, for exports, arguments and instances from items.
use Rattle.std.specs.Prelude.{ℕ, Bool, true, List, length, Option, None, nat_lt, slice_get, option_map}
use Rattle.std.specs.List.{filter_map}
use Rattle.pc_types.specs.declared.parsed.TypeTable.{TypeTable}
use Rattle.pc_parsed.specs.declared.payload.ItemKind.{ItemKind}
use Rattle.pc_parsed.specs.declared.payload.ItemKind.TheVariants as item
use Rattle.pc_spec_reading.specs.Item.{ExportOf, ArgumentOf}
use Rattle.pc_spec_reading.specs.Scope.{Scope}
use Rattle.pc_spec_reading.specs.Types.{type_tree}
use Rattle.pc_spec_reading.specs.Value.{Value, NamedValue, func_value, module_value, instance_value, component_value}
use Rattle.pc_spec_reading.specs.Value.{type_value}

module _ (t : TypeTable) where
  -- what a kind and an index name: an item of the scope, or the tree of a type as the scope sees it now
  unfoldable pub value_at : Scope → ItemKind → ℕ → Option Value
  value_at s item.Func n = option_map func_value (slice_get s.funcs n)
  value_at s item.Module n = option_map module_value (slice_get s.modules n)
  value_at s item.Instance n = option_map instance_value (slice_get s.instances n)
  value_at s item.Component n = option_map component_value (slice_get s.components n)
  value_at s item.Type_ n = option_map type_value (type_tree t s n)
  value_at s item.Value n = None

  -- whether the number of a type is held; an index of another kind is looked at later
  abbrev pub is_typed_item : ItemKind → ℕ → Bool
  is_typed_item item.Type_ n = nat_lt n (length t.types)
  is_typed_item _ n = true

  -- the same of an export
  abbrev pub is_typed_export : ExportOf → Bool
  is_typed_export e = is_typed_item e.kind e.index

  -- the same of an argument
  abbrev pub is_typed_argument : ArgumentOf → Bool
  is_typed_argument a = is_typed_item a.kind a.index

  -- the value of an export, under its name
  unfoldable pub exported_value : Scope → ExportOf → Option NamedValue
  exported_value s e = option_map (λ (v : Value). record { name = e.name; value = v }) (value_at s e.kind e.index)

  -- the value of an argument, under the name that it is given for
  unfoldable pub argument_value : Scope → ArgumentOf → Option (List ℕ × Value)
  argument_value s a = option_map {U = List ℕ × Value} (λ (v : Value). (a.name, v)) (value_at s a.kind a.index)

  -- the exports of a component when its body has been read. Each was sound when it was read, and lists only grow
  unfoldable pub exports_at : Scope → List ExportOf → List NamedValue
  exports_at s es = filter_map (exported_value s) es
