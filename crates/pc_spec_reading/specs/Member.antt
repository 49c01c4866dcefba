-- What an instance has under a name.
use Rattle.std.specs.Prelude.{ℕ, ◌+◌, List, [], ◌∷◌, ◌++◌, Option, Some, None, option_map, option_and_then}
use Rattle.std.specs.Prelude.{if◌then◌else◌}
use Rattle.std.specs.Str.{bytes_eq}
use Rattle.pc_types.specs.Intrinsic.{intrinsic_names}
use Rattle.pc_types.specs.TypeTree.{TypeTree, Fields, Path, Identity, no_fields, and_field, func_of, instance_of}
use Rattle.pc_types.specs.TypeTree.{component_of, module_of}
use Rattle.pc_spec_reading.specs.Types.{instance_fields, known_identity}
use Rattle.pc_spec_reading.specs.Value

-- what stands under a name: a value, or a component of a host instance, which nothing can be made of
pub data Member : Type 0 where
  a_value : Value.Value → Member
  a_host_component : Member

-- the path one name further
abbrev pub further : Path → List ℕ → Path
further p name = record { import = p.import; names = p.names ++ name ∷ [] }

-- the tree under a name
abbrev pub field_under : List ℕ → Fields → Option TypeTree
field_under name no_fields = None
field_under name (and_field n tree fs) = if bytes_eq name n then Some tree else field_under name fs

-- the place of a name in a list
abbrev pub place_from : ℕ → List ℕ → List (List ℕ) → Option ℕ
place_from n name [] = None
place_from n name (x ∷ xs) = if bytes_eq name x then Some n else place_from (n + 1) name xs

-- an unsafe intrinsic, by name
abbrev pub intrinsic_named : List ℕ → Option Value.Function
intrinsic_named name = option_map Value.intrinsic_function (place_from 0 name intrinsic_names)

-- the host item at a path: of the kind that its type is, where every type that is no other kind is a type
abbrev pub host_member : Path → TypeTree → Member
host_member p (func_of params result is_async) = a_value (Value.func_value (Value.host_function p))
host_member p (instance_of fields) = a_value (Value.instance_value (Value.host_instance p (instance_of fields)))
host_member p (component_of imports exports) = a_host_component
host_member p (module_of imports exports) =
    a_value (Value.module_value (Value.host_module p (module_of imports exports)))
host_member p tree = a_value (Value.type_value tree)

-- what an instance has under a name
unfoldable pub member : Value.Instance → List ℕ → Option Member
member (Value.made_instance vs tree) name = option_map a_value (Value.value_named name vs)
member (Value.host_instance p tree) name =
    option_map (host_member (further p name)) (field_under name (instance_fields tree))
member Value.the_intrinsics name = option_map (λ f. a_value (Value.func_value f)) (intrinsic_named name)

-- a member that is a value
abbrev pub value_of_member : Member → Option Value.Value
value_of_member (a_value v) = Some v
value_of_member a_host_component = None

-- the value that an instance has under a name
abbrev pub value_in : List ℕ → Value.Value → Option Value.Value
value_in name (Value.instance_value i) = option_and_then value_of_member (member i name)
value_in name _ = None

-- the identity of the resource that a value is
abbrev pub type_identity : Value.Value → Option Identity
type_identity (Value.type_value tree) = known_identity tree
type_identity _ = None

-- the resource at the end of a path from a value, if it is one that is known
unfoldable pub resource_at : List (List ℕ) → Value.Value → Option Identity
resource_at [] v = type_identity v
resource_at (name ∷ names) v = option_and_then (resource_at names) (value_in name v)

-- the same from the values of an instance
unfoldable pub resource_among : Value.NamedValues → List (List ℕ) → Option Identity
resource_among vs [] = None
resource_among vs (name ∷ names) = option_and_then (resource_at names) (Value.value_named name vs)
