-- Component values: what the items of a component stand for, as whole trees.
use Rattle.std.specs.Prelude.{ℕ, zero, suc, List, [], ◌∷◌, Option, None, Some, slice_get, option_map}
use Rattle.std.specs.Str.{bytes_eq}
use Rattle.std.specs.Prelude.{if◌then◌else◌}
use Rattle.pc_types.specs.TypeTree.{TypeTree, Path}
use Rattle.pc_spec_plan.specs.CoreValue.{CoreValue, Options}
use Rattle.pc_parsed.specs.declared.payload.ExternName.{ExternName}
use Rattle.pc_parsed.specs.Mark.{Mark}
use Rattle.pc_spec_reading.specs.Item.{Items, Lent, a_module, a_component}

-- a component function: one of the host, by its path; one lifted from a core function; or an unsafe intrinsic, by its
-- place in the list of them
pub data Function : Type 0 where
  host_function : Path → Function
  lifted_function : (function_type : TypeTree) → CoreValue Mark → Options Mark → Function
  intrinsic_function : (place : ℕ) → Function

-- a core module: one that was handed in, by number, or one of the host, by its path
pub data Module : Type 0 where
  static_module : (number : ℕ) → (module_type : TypeTree) → Module
  host_module : Path → (module_type : TypeTree) → Module

mutual
  -- a value, of any kind of item
  pub data Value : Type 0 where
    func_value : Function → Value
    module_value : Module → Value
    instance_value : Instance → Value
    component_value : Component → Value
    type_value : TypeTree → Value

  -- a component instance: named values, one of the host, or the unsafe intrinsics
  pub data Instance : Type 0 where
    made_instance : NamedValues → (instance_type : TypeTree) → Instance
    host_instance : Path → (instance_type : TypeTree) → Instance
    the_intrinsics : Instance

  -- names with what they say of themselves and their values, in order
  pub data NamedValues : Type 0 where
    no_values : NamedValues
    and_value : ExternName → Value → NamedValues → NamedValues

  -- a component: its body, and the scopes around the place where it was defined, as they stood then
  pub data Component : Type 0 where
    closed : Items → Chain → Component

  -- scopes from the innermost out. A scope lends its modules and components alone
  pub data Chain : Type 0 where
    outermost : Chain
    inside : List Module → Components → Chain → Chain

  -- components, in order
  pub data Components : Type 0 where
    no_components : Components
    and_component : Component → Components → Components

-- a value under its name
pub record NamedValue : Type 0 where
  pub name : ExternName
  pub value : Value

-- lists as they stand inside values
abbrev pub pack_values : List NamedValue → NamedValues
pack_values [] = no_values
pack_values (v ∷ vs) = and_value v.name v.value (pack_values vs)

-- the same of components
abbrev pub pack_components : List Component → Components
pack_components [] = no_components
pack_components (c ∷ cs) = and_component c (pack_components cs)

-- a component by its place
abbrev pub component_of : Components → ℕ → Option Component
component_of no_components n = None
component_of (and_component c cs) zero = Some c
component_of (and_component c cs) (suc n) = component_of cs n

-- the value under a name
abbrev pub value_named : List ℕ → NamedValues → Option Value
value_named name no_values = None
value_named name (and_value n v vs) = if bytes_eq name n.name then Some v else value_named name vs

-- what a chain lends: of the scope that so many others stand inside of
abbrev pub lent_in : Chain → Lent → (scope index : ℕ) → Option Value
lent_in outermost k c n = None
lent_in (inside ms cs chain) a_module zero n = option_map module_value (slice_get ms n)
lent_in (inside ms cs chain) a_component zero n = option_map component_value (component_of cs n)
lent_in (inside ms cs chain) k (suc c) n = lent_in chain k c n
