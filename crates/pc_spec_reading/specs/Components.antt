-- Nested components, outer aliases, and what an instantiation of a component asks for before its child begins.
use Rattle.std.specs.Prelude.{ℕ, zero, suc, ◌+◌, ◌-◌, Bool, true, ◌&&◌, List, Option, Result, Ok, nat_lt, is_some}
use Rattle.std.specs.Prelude.{slice_get, option_map, if◌then◌else◌}
use Rattle.std.specs.List.{list_all}
use Rattle.pc_entity.specs.Lists.{map_all}
use Rattle.pc_types.specs.declared.parsed.Entity.TheVariants as entity
use Rattle.pc_types.specs.declared.parsed.TypeTable.{TypeTable}
use Rattle.pc_types.specs.Table.{is_instance}
use Rattle.pc_types.specs.TypeTree.{TypeTree, Identity}
use Rattle.pc_spec_reading.specs.Item.{Item, Items, ArgumentOf, no_items, and_item, component_item, outer_item, Lent}
use Rattle.pc_spec_reading.specs.Item.{a_module, a_component}
use Rattle.pc_spec_reading.specs.Items.{is_typed_argument, argument_value}
use Rattle.pc_spec_reading.specs.Member.{resource_among}
use Rattle.pc_spec_reading.specs.Outcome.{Fault, invalid, bad_type, found, held, after}
use Rattle.pc_spec_reading.specs.Resource.{resource_paths, registered}
use Rattle.pc_spec_reading.specs.Scope.{Scope, Moment, chain_of, add_value, with_known}
use Rattle.pc_spec_reading.specs.Types.{has_entry, tree_if}
use Rattle.pc_spec_reading.specs.Value.{Value, NamedValue, Component, Chain, closed, instance_value, component_value}
use Rattle.pc_spec_reading.specs.Value.{module_value, made_instance, lent_in, pack_values}

-- whether an outer alias that stands inside so many bodies names something, where it leads out of them
abbrev pub leads : Chain → (depth : ℕ) → Lent → (count index : ℕ) → Bool
leads chain depth k count n =
    if nat_lt depth count then is_some (lent_in chain k (count - (depth + 1)) n) else true

-- a body can be defined in a scope where each outer alias in it, however deep, that leads out of it names something in
-- the chain
unfoldable mutual
  -- each item of a body
  pub is_definable : Chain → (depth : ℕ) → Items → Bool
  is_definable chain depth no_items = true
  is_definable chain depth (and_item i is) = is_definable_item chain depth i && is_definable chain depth is

  -- an item, with the bodies inside it
  pub is_definable_item : Chain → (depth : ℕ) → Item → Bool
  is_definable_item chain depth (component_item body) = is_definable chain (suc depth) body
  is_definable_item chain depth (outer_item k count n) = leads chain depth k count n
  is_definable_item chain depth _ = true

-- a nested component, with the scopes as they stand now: `Invalid` where it can't be defined
unfoldable pub read_component : Moment → Items → Result Moment Fault
read_component now body =
    held invalid (is_definable (chain_of now.scope) zero body) (
    Ok (add_value now (component_value (closed body (chain_of now.scope)))))

-- what an outer alias names: with count 0 in the scope itself, else in the chain
unfoldable pub outer_of : Scope → Lent → (count index : ℕ) → Option Value
outer_of s a_module zero n = option_map module_value (slice_get s.modules n)
outer_of s a_component zero n = option_map component_value (slice_get s.components n)
outer_of s k (suc c) n = lent_in s.chain k c n

-- an outer alias: `Invalid` where nothing stands there, which with a count above 0 was found out before
unfoldable pub read_outer : Moment → Lent → (count index : ℕ) → Result Moment Fault
read_outer now k count n = found invalid (outer_of now.scope k count n) (λ (v : Value). Ok (add_value now v))

-- what a child begins with: its component and its arguments
pub record Call : Type 0 where
  pub component : Component
  pub arguments : List (List ℕ × Value)

module _ (t : TypeTable) where
  -- before the child: `BadType` where the type is no instance type or the number of a type is missing; then `Invalid`
  -- where the component or an argument is
  unfoldable pub read_call : Scope → (component : ℕ) → List ArgumentOf → (ty : ℕ) → Result Call Fault
  read_call s n args ty =
      held bad_type (list_all (is_typed_argument t) args && has_entry t is_instance ty) (
      found invalid (slice_get s.components n) (λ (c : Component).
      found invalid (map_all (argument_value t s) args) (λ (vs : List (List ℕ × Value)).
      Ok (record { component = c; arguments = vs }))))

  -- after the child, an instance of what it exports, of the type as the caller sees it now
  unfoldable pub add_child : Moment → List NamedValue → (ty : ℕ) → List (ℕ × Identity) → Result Moment Fault
  add_child now exports ty known =
      found bad_type (tree_if t is_instance (with_known now known).scope ty) (λ (tree : TypeTree).
      Ok (add_value (with_known now known) (instance_value (made_instance (pack_values exports) tree))))

  -- first the resources of the type become known to the caller, by their paths in what the child exports: `BadType`
  -- where a path doesn't end at one that is known
  unfoldable pub read_return : Moment → List NamedValue → (ty : ℕ) → Result Moment Fault
  read_return now exports ty =
      after
      (registered (resource_among (pack_values exports)) (resource_paths t (entity.Instance ty)) now.scope.known)
      (add_child now exports ty)
