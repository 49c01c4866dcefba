-- What the root exports, as nodes. A node is reached before what is under it, and counts 8 in the total; what no plan
-- can export is refused before it counts.
use Rattle.std.specs.Prelude.{ℕ, List, ◌∷◌, Option, None, if◌then◌else◌, Some}
use Rattle.pc_types.specs.declared.error.Place.TheVariants as place
use Rattle.pc_types.specs.declared.error.Unsupported.TheVariants as refusal
use Rattle.pc_types.specs.declared.types.ComponentExternData.{ComponentExternData}
use Rattle.pc_types.specs.TypeTree.{TypeTree, Fields, Path, no_fields, and_field, func_of, instance_of, component_of}
use Rattle.pc_types.specs.TypeTree.{module_of}
use Rattle.pc_spec_plan.specs.ExportNode as node
use Rattle.pc_spec_plan.specs.ExportNode.{ExportNode, ExportNodes, NamedNode, no_nodes, and_node}
use Rattle.pc_spec_plan.specs.Log.{needed}
use Rattle.pc_parsed.specs.declared.payload.ExternName.{ExternName}
use Rattle.pc_parsed.specs.Mark.{Mark, of_type}
use Rattle.pc_spec_reading.specs.HostTypes.{type_at}
use Rattle.pc_spec_reading.specs.Member.{further}
use Rattle.pc_spec_reading.specs.Outcome.{Outcome, done, fault, past, unsupported, Fault, invalid}
use Rattle.pc_spec_reading.specs.Value.{Value, Function, Module, Instance, NamedValues, NamedValue, func_value, module_value}
use Rattle.pc_spec_reading.specs.Value.{instance_value, component_value, type_value, host_function, lifted_function}
use Rattle.pc_spec_reading.specs.Value.{intrinsic_function, static_module, host_module, made_instance, host_instance}
use Rattle.pc_spec_reading.specs.Value.{the_intrinsics, no_values, and_value}
use Rattle.pc_spec_reading.specs.World.{World, grown, has_room, logging}

-- what is reached: something, in the world then; or it is refused; or the total is past
pub data Reached (A : Type 0) : Type 0 where
  reached : A → World → Reached A
  refused : Fault → Reached A
  passed : Reached A

-- goes on with what was reached
abbrev pub then_reach : {A B : Type 0} → Reached A → (A → World → Reached B) → Reached B
then_reach (reached x w) go = go x w
then_reach (refused f) go = refused f
then_reach passed go = passed

-- goes on with a total, if it isn't past
abbrev pub within_total : {A : Type 0} → (total : Option ℕ) → Reached A → Reached A
within_total total go = if has_room total then go else passed

-- a node counts 8
abbrev pub counting : {A : Type 0} → World → (World → Reached A) → Reached A
counting w go = within_total (grown w.total 8) (go (record w { total = grown w.total 8 }))

-- what a name says of itself; what a host instance exports says nothing
abbrev pub extern_data : ExternName → ComponentExternData
extern_data name = record { implements = name.implements; external_id = name.external_id }

-- nothing is said
abbrev pub no_data : ComponentExternData
no_data = record { implements = None; external_id = None }

-- a node with nothing under it
abbrev pub leaf : ExportNode Mark → World → Reached (ExportNode Mark)
leaf n w = counting w (reached n)

-- what the host gives, whose path is needed where its node is reached
abbrev pub host_leaf : Path → ExportNode Mark → World → Reached (ExportNode Mark)
host_leaf p n w = counting w (λ v. reached n (logging v (needed p)))

-- a module of the host
abbrev pub host_module_node : Path → TypeTree → World → Reached (ExportNode Mark)
host_module_node p tree w = host_leaf p (node.host_module p (of_type tree)) w

-- a function of the host, with the type that its path has. There always is one, since a path leads along the imports
abbrev pub host_function_node : Path → Option TypeTree → World → Reached (ExportNode Mark)
host_function_node p None w = refused invalid
host_function_node p (Some tree) w = host_leaf p (node.imported_function (of_type tree) p) w

-- a function: one that was lifted, or one of the host. An intrinsic is refused
abbrev pub function_node : Function → World → Reached (ExportNode Mark)
function_node (lifted_function tree v o) w = leaf (node.lifted (of_type tree) v o) w
function_node (host_function p) w = host_function_node p (type_at w.imports p) w
function_node (intrinsic_function n) w = refused (unsupported refusal.ReexportedIntrinsic)

-- a module, of either sort
abbrev pub module_node : Module → World → Reached (ExportNode Mark)
module_node (static_module n tree) w = leaf (node.static_module n (of_type tree)) w
module_node (host_module p tree) w = host_module_node p tree w

-- nodes under names, put together
abbrev pub more : List ℕ → ComponentExternData → ExportNode Mark → ExportNodes Mark → World → Reached (ExportNodes Mark)
more name meta n ns w = reached (and_node name meta n ns) w

-- an instance over the nodes of what it exports
abbrev pub instance_node : TypeTree → ExportNodes Mark → World → Reached (ExportNode Mark)
instance_node tree ns w = reached (node.instance (of_type tree) ns) w

unfoldable mutual
  -- what a host instance has at a path, by its type: a type, where it is no function, instance, component or module
  pub host_node : Path → TypeTree → World → Reached (ExportNode Mark)
  host_node p (func_of params result is_async) w = host_function_node p (Some (func_of params result is_async)) w
  host_node p (instance_of fields) w =
      counting w (λ v. then_reach (host_nodes p fields v) (instance_node (instance_of fields)))
  host_node p (component_of imports exports) w = refused (unsupported refusal.ComponentImport)
  host_node p (module_of imports exports) w = host_module_node p (module_of imports exports) w
  host_node p tree w = leaf (node.type_node (of_type tree)) w

  -- the nodes of what its type exports
  pub host_nodes : Path → Fields → World → Reached (ExportNodes Mark)
  host_nodes p no_fields w = reached no_nodes w
  host_nodes p (and_field name tree fs) w =
      then_reach (host_node (further p name) tree w) (λ n v. then_reach (host_nodes p fs v) (more name no_data n))

unfoldable mutual
  -- a value that the root exports: a component is refused
  pub value_node : Value → World → Reached (ExportNode Mark)
  value_node (func_value f) w = function_node f w
  value_node (module_value m) w = module_node m w
  value_node (instance_value i) w = instance_value_node i w
  value_node (component_value c) w = refused (unsupported refusal.ExportedComponent)
  value_node (type_value tree) w = leaf (node.type_node (of_type tree)) w

  -- an instance with what it exports: the unsafe intrinsics are refused
  pub instance_value_node : Instance → World → Reached (ExportNode Mark)
  instance_value_node (made_instance vs tree) w = counting w (λ v. then_reach (value_nodes vs v) (instance_node tree))
  instance_value_node (host_instance p tree) w = host_node p tree w
  instance_value_node the_intrinsics w = refused (unsupported refusal.ReexportedIntrinsics)

  -- named values, in order
  pub value_nodes : NamedValues → World → Reached (ExportNodes Mark)
  value_nodes no_values w = reached no_nodes w
  value_nodes (and_value name value rest) w =
      then_reach (value_node value w) (λ n v. then_reach (value_nodes rest v) (more name.name (extern_data name) n))

-- the nodes of the root, and the world then
abbrev pub Finish : Type 0
Finish = List (NamedNode Mark) × World

-- a refusal has the number of the root's export as its place
abbrev pub at_export : {A : Type 0} → (export : ℕ) → Reached A → (A → World → Outcome Finish) → Outcome Finish
at_export n (reached x w) go = go x w
at_export n (refused f) go = fault f (place.Export n)
at_export n passed go = past

-- an export of the root with its node
abbrev pub named_node : NamedValue → ExportNode Mark → NamedNode Mark
named_node e n = record { name = e.name.name; extern_data = extern_data e.name; node = n }

-- a node in front of others
abbrev pub in_front : NamedNode Mark → Finish → Outcome Finish
in_front n rest = done (n ∷ rest.0, rest.1)
