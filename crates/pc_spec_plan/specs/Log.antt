-- The log of a reading: what instantiating a component does, in order.
use Rattle.std.specs.Prelude.{ℕ, Bool, true, false, List, map, filter, Option, Some, None}
use Rattle.std.specs.List.{filter_map}
use Rattle.pc_types.specs.declared.parsed.WasmValType.{WasmValType}
use Rattle.pc_types.specs.TypeTree.{Path}
use Rattle.pc_spec_plan.specs.CoreValue.{CoreValue, MaybeValue, map_value, map_maybe, erased}

-- an argument of a host module: the module name and the name that its type imports, and what is given
pub record NamedArgument (τ : Type 0) : Type 0 where
  pub module_name : List ℕ
  pub name : List ℕ
  pub value : CoreValue τ

-- a core module with its arguments: a handed-in module with one for each of its imports, in their order, or a
-- host module with one for each import of its type, those of one module name together, where it first stands
pub data Instantiation (τ : Type 0) : Type 0 where
  of_static : (number : ℕ) → List (CoreValue τ) → Instantiation τ
  of_host : Path → List (NamedArgument τ) → Instantiation τ

-- what a reading does that a plan has to do too
pub data Entry (τ : Type 0) : Type 0 where
  -- a core instance is made for a component instance
  instantiated : Instantiation τ → (component_instance : ℕ) → Entry τ
  -- a resource is declared
  declared_resource : (representation : WasmValType) → (destructor : MaybeValue τ) → (component_instance : ℕ) → Entry τ
  -- a host lowering or a builtin is declared
  declared : CoreValue τ → Entry τ
  -- an adapter is made, where no equal one was made before
  made : CoreValue τ → Entry τ
  -- a host item is needed
  needed : Path → Entry τ

-- a core instance that was made, with the component instance that it was made for
pub record Owned (τ : Type 0) : Type 0 where
  pub instantiation : Instantiation τ
  pub component_instance : ℕ

-- the core instance that an entry makes, if it makes one
abbrev pub owned_of : {τ : Type 0} → Entry τ → Option (Owned τ)
owned_of (instantiated i c) = Some (record { instantiation = i; component_instance = c })
owned_of (declared_resource representation destructor c) = None
owned_of (declared v) = None
owned_of (made v) = None
owned_of (needed path) = None

-- whether an entry has an effect of its own: a core instance or a resource
abbrev pub is_effect : {τ : Type 0} → Entry τ → Bool
is_effect (instantiated i c) = true
is_effect (declared_resource representation destructor c) = true
is_effect _ = false

-- the core instances and resources of a log, in order
abbrev pub trace : {τ : Type 0} → List (Entry τ) → List (Entry τ)
trace log = filter is_effect log

-- the core instances that a log makes, in order
abbrev pub instances_of : {τ : Type 0} → List (Entry τ) → List (Owned τ)
instances_of log = filter_map owned_of log

-- entries and instances with their marks mapped
module _ {τ υ : Type 0} (f : τ → υ) where
  -- the parts of an instance likewise
  abbrev pub map_argument : NamedArgument τ → NamedArgument υ
  map_argument a = record { module_name = a.module_name; name = a.name; value = map_value f a.value }

  -- what makes an instance likewise
  abbrev pub map_instantiation : Instantiation τ → Instantiation υ
  map_instantiation (of_static n args) = of_static n (map (map_value f) args)
  map_instantiation (of_host path args) = of_host path (map map_argument args)

  -- a made instance likewise
  abbrev pub map_owned : Owned τ → Owned υ
  map_owned o = record { instantiation = map_instantiation o.instantiation; component_instance = o.component_instance }

  -- an entry of a log likewise
  abbrev pub map_entry : Entry τ → Entry υ
  map_entry (instantiated i c) = instantiated (map_instantiation i) c
  map_entry (declared_resource representation destructor c) =
      declared_resource representation (map_maybe f destructor) c
  map_entry (declared v) = declared (map_value f v)
  map_entry (made v) = made (map_value f v)
  map_entry (needed path) = needed path

-- an entry with its types erased
abbrev pub erase_entry : {τ : Type 0} → Entry τ → Entry (Unit {0})
erase_entry e = map_entry erased e

-- an instance with its types erased
abbrev pub erase_owned : {τ : Type 0} → Owned τ → Owned (Unit {0})
erase_owned o = map_owned erased o
