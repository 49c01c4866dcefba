-- Whether the total is past is all that a node looks at it for.
use Rattle.std.proofs.Common.{◌≡◌, ◌⊎◌, inl, inr, Bool, true, false, refl, sym, ap, subst, if◌then◌else◌}
use Rattle.std.specs.Prelude.{Option, None, Some}
use Rattle.pc_types.specs.TypeTree.{TypeTree, Fields, Path, and_field, no_fields}
use Rattle.pc_types.specs.TypeTree as tree
use Rattle.pc_spec_plan.specs.ExportNode.{ExportNode}
use Rattle.pc_spec_plan.specs.Log.{needed}
use Rattle.pc_parsed.specs.Mark.{Mark}
use Rattle.pc_spec_reading.specs.HostTypes.{type_at}
use Rattle.pc_spec_reading.specs.Member.{further}
use Rattle.pc_spec_reading.specs.Nodes.{Reached, counting, function_node, host_function_node, host_leaf}
use Rattle.pc_spec_reading.specs.Nodes.{extern_data, host_node, host_nodes, instance_node, instance_value_node, leaf}
use Rattle.pc_spec_reading.specs.Nodes.{module_node, more, no_data}
use Rattle.pc_spec_reading.specs.Nodes.{passed, reached, refused, then_reach, value_node, value_nodes}
use Rattle.pc_spec_reading.specs.Uncounted.{bare_world}
use Rattle.pc_spec_reading.specs.Value.{Function, Instance, Module, NamedValues, Value, and_value, component_value}
use Rattle.pc_spec_reading.specs.Value.{func_value, host_function, host_instance, host_module, instance_value}
use Rattle.pc_spec_reading.specs.Value.{intrinsic_function, lifted_function, made_instance, module_value, no_values}
use Rattle.pc_spec_reading.specs.Value.{static_module, the_intrinsics, type_value}
use Rattle.pc_spec_reading.specs.World.{World, grown, has_room, logging}

-- the same is reached, in a world whose total isn't counted
abbrev bare_reached : {A : Type 0} → Reached A → Reached A
bare_reached (reached x w) = reached x (bare_world w)
bare_reached (refused f) = refused f
bare_reached passed = passed

-- the total is past, or the other is the same but for it
abbrev pub ReachesAs : {A : Type 0} → Reached A → Reached A → Type 0
ReachesAs r other = (r ≡ passed) ⊎ (other ≡ bare_reached r)

-- what goes on
then_as : {A B : Type 0} (r other : Reached A) (go : A → World → Reached B) → ReachesAs r other
    → ((x : A) (w : World) → ReachesAs (go x w) (go x (bare_world w)))
    → ReachesAs (then_reach r go) (then_reach other go)
then_as (reached x w) other go (inl is) each = absurd (let no : ⊥ = cc in no)
then_as (reached x w) other go (inr is) each =
    subst (λ o. ReachesAs (go x w) (then_reach o go)) (sym is) (each x w)
then_as (refused f) other go (inl is) each = absurd (let no : ⊥ = cc in no)
then_as (refused f) other go (inr is) each = inr (ap (λ o. then_reach o go) is)
then_as passed other go is each = inl refl

-- a node counts
counting_as : {A : Type 0} (w : World) (go : World → Reached A)
    → ((v : World) → ReachesAs (go v) (go (bare_world v))) → ReachesAs (counting w go) (counting (bare_world w) go)
counting_as {A} w go each = by (has_room (grown w.total 8))
  where
    by : (b : Bool) → ReachesAs (if b then go (record w { total = grown w.total 8 }) else passed) (go (bare_world w))
    by true = each (record w { total = grown w.total 8 })
    by false = inl refl

leaf_as : (n : ExportNode Mark) (w : World) → ReachesAs (leaf n w) (leaf n (bare_world w))
leaf_as n w = counting_as w (reached n) (λ v. inr refl)

host_leaf_as : (p : Path) (n : ExportNode Mark) (w : World)
    → ReachesAs (host_leaf p n w) (host_leaf p n (bare_world w))
host_leaf_as p n w = counting_as w (λ v. reached n (logging v (needed p))) (λ v. inr refl)

host_function_as : (p : Path) (o : Option TypeTree) (w : World)
    → ReachesAs (host_function_node p o w) (host_function_node p o (bare_world w))
host_function_as p None w = inr refl
host_function_as p (Some t) w = host_leaf_as p _ w

function_as : (f : Function) (w : World) → ReachesAs (function_node f w) (function_node f (bare_world w))
function_as (lifted_function t v o) w = leaf_as _ w
function_as (host_function p) w = host_function_as p (type_at w.imports p) w
function_as (intrinsic_function n) w = inr refl

module_as : (m : Module) (w : World) → ReachesAs (module_node m w) (module_node m (bare_world w))
module_as (static_module n t) w = leaf_as _ w
module_as (host_module p t) w = host_leaf_as p _ w

mutual
  unfolding host_node host_nodes

  host_as : (p : Path) (t : TypeTree) (w : World) → ReachesAs (host_node p t w) (host_node p t (bare_world w))
  host_as p (tree.func_of a b c) w = host_function_as p (Some (tree.func_of a b c)) w
  host_as p (tree.instance_of fields) w =
      let over = instance_node (tree.instance_of fields) in
      counting_as w (λ v. then_reach (host_nodes p fields v) over) (λ v.
      then_as (host_nodes p fields v) (host_nodes p fields (bare_world v)) over (host_each p fields v) (λ ns u. inr refl))
  host_as p (tree.component_of a b) w = inr refl
  host_as p (tree.module_of a b) w = host_leaf_as p _ w
  host_as p (tree.primitive a) w = leaf_as _ w
  host_as p (tree.error_context a) w = leaf_as _ w
  host_as p (tree.record_of a) w = leaf_as _ w
  host_as p (tree.variant_of a) w = leaf_as _ w
  host_as p (tree.list_of a) w = leaf_as _ w
  host_as p (tree.tuple_of a) w = leaf_as _ w
  host_as p (tree.flags_of a) w = leaf_as _ w
  host_as p (tree.enum_of a) w = leaf_as _ w
  host_as p (tree.option_of a) w = leaf_as _ w
  host_as p (tree.result_of a b) w = leaf_as _ w
  host_as p (tree.own_of a) w = leaf_as _ w
  host_as p (tree.borrow_of a) w = leaf_as _ w
  host_as p (tree.stream_of a b) w = leaf_as _ w
  host_as p (tree.future_of a b) w = leaf_as _ w
  host_as p (tree.resource_of a) w = leaf_as _ w

  host_each : (p : Path) (fs : Fields) (w : World) → ReachesAs (host_nodes p fs w) (host_nodes p fs (bare_world w))
  host_each p no_fields w = inr refl
  host_each p (and_field name t fs) w =
      then_as (host_node (further p name) t w) (host_node (further p name) t (bare_world w))
      (λ n v. then_reach (host_nodes p fs v) (more name no_data n)) (host_as (further p name) t w) (λ n v.
      then_as (host_nodes p fs v) (host_nodes p fs (bare_world v)) (more name no_data n) (host_each p fs v)
      (λ ns u. inr refl))

mutual
  unfolding value_node instance_value_node value_nodes

  -- a value that the root exports
  pub value_as : (v : Value) (w : World) → ReachesAs (value_node v w) (value_node v (bare_world w))
  value_as (func_value f) w = function_as f w
  value_as (module_value m) w = module_as m w
  value_as (instance_value i) w = instance_as i w
  value_as (component_value c) w = inr refl
  value_as (type_value t) w = leaf_as _ w

  instance_as : (i : Instance) (w : World) → ReachesAs (instance_value_node i w) (instance_value_node i (bare_world w))
  instance_as (made_instance vs t) w =
      counting_as w (λ v. then_reach (value_nodes vs v) (instance_node t)) (λ v.
      then_as (value_nodes vs v) (value_nodes vs (bare_world v)) (instance_node t) (values_as vs v) (λ ns u. inr refl))
  instance_as (host_instance p t) w = host_as p t w
  instance_as the_intrinsics w = inr refl

  values_as : (vs : NamedValues) (w : World) → ReachesAs (value_nodes vs w) (value_nodes vs (bare_world w))
  values_as no_values w = inr refl
  values_as (and_value name v rest) w =
      then_as (value_node v w) (value_node v (bare_world w))
      (λ n u. then_reach (value_nodes rest u) (more name.name (extern_data name) n)) (value_as v w) (λ n u.
      then_as (value_nodes rest u) (value_nodes rest (bare_world u)) (more name.name (extern_data name) n)
      (values_as rest u) (λ ns x. inr refl))
