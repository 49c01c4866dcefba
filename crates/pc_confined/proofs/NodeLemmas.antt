-- The exports of the root only add what is needed to a log.
use Rattle.std.proofs.Common.{ℕ, ◌+◌, Bool, true, false, List, [], ◌∷◌, Option, None, Some, if◌then◌else◌}
use Rattle.pc_types.specs.declared.parsed.TypeTable.{TypeTable}
use Rattle.pc_types.specs.TypeTree.{Fields, Path, TypeTree, and_field, no_fields}
use Rattle.pc_types.specs.TypeTree as tree
use Rattle.pc_spec_plan.specs.ExportNode.{ExportNode}
use Rattle.pc_spec_plan.specs.Log.{needed}
use Rattle.pc_parsed.specs.Mark.{Mark}
use Rattle.pc_spec_reading.specs.HostTypes.{type_at}
use Rattle.pc_spec_reading.specs.Item.{ExportOf}
use Rattle.pc_spec_reading.specs.Items.{exported_value}
use Rattle.pc_spec_reading.specs.Member.{further}
use Rattle.pc_spec_reading.specs.Nodes.{Finish, Reached, at_export, counting, extern_data, function_node}
use Rattle.pc_spec_reading.specs.Nodes.{host_function_node, host_leaf, host_node, host_nodes, instance_node}
use Rattle.pc_spec_reading.specs.Nodes.{instance_value_node, leaf, module_node, more, no_data, passed, reached}
use Rattle.pc_spec_reading.specs.Nodes.{refused}
use Rattle.pc_spec_reading.specs.Nodes.{then_reach, value_node, value_nodes}
use Rattle.pc_spec_reading.specs.Outcome.{Outcome}
use Rattle.pc_spec_reading.specs.Reading.{exporting, root_exports}
use Rattle.pc_spec_reading.specs.Scope.{Scope}
use Rattle.pc_spec_reading.specs.Value.{Function, Instance, Module, NamedValue, NamedValues, Value, and_value}
use Rattle.pc_spec_reading.specs.Value.{component_value, func_value, host_function, host_instance, host_module}
use Rattle.pc_spec_reading.specs.Value.{instance_value, intrinsic_function, lifted_function, made_instance}
use Rattle.pc_spec_reading.specs.Value.{module_value}
use Rattle.pc_spec_reading.specs.Value.{no_values, static_module, the_intrinsics, type_value}
use Rattle.pc_spec_reading.specs.World.{World, grown, has_room, logging}
use Rattle.pc_confined.proofs.GrowthLemmas.{confined_more}
use Rattle.pc_confined.proofs.Sound.{AreConfined}
use Rattle.pc_confined.proofs.Steps.{IfDone, then_done}

-- what is reached is reached with a confined log
abbrev IfReached : {A : Type 0} → Reached A → Type 0
IfReached (reached x w) = AreConfined w.log
IfReached (refused f) = Unit {0}
IfReached passed = Unit {0}

-- what goes on
then_confined : {A B : Type 0} (r : Reached A) (go : A → World → Reached B) → IfReached r
    → ((x : A) (w : World) → AreConfined w.log → IfReached (go x w)) → IfReached (then_reach r go)
then_confined (reached x w) go h each = each x w h
then_confined (refused f) go h each = tt
then_confined passed go h each = tt

-- a node counts
counting_confined : {A : Type 0} (w : World) (go : World → Reached A) → AreConfined w.log
    → ((v : World) → AreConfined v.log → IfReached (go v)) → IfReached (counting w go)
counting_confined {A} w go h each = by (has_room (grown w.total 8))
  where
    by : (b : Bool) → IfReached (if b then go (record w { total = grown w.total 8 }) else passed)
    by true = each (record w { total = grown w.total 8 }) h
    by false = tt

leaf_confined : (n : ExportNode Mark) (w : World) → AreConfined w.log → IfReached (leaf n w)
leaf_confined n w h = counting_confined w (reached n) h (λ v c. c)

host_leaf_confined : (p : Path) (n : ExportNode Mark) (w : World) → AreConfined w.log → IfReached (host_leaf p n w)
host_leaf_confined p n w h =
    counting_confined w (λ v. reached n (logging v (needed p))) h (λ v c. confined_more v.log (needed p) c tt)

host_function_confined : (p : Path) (o : Option TypeTree) (w : World) → AreConfined w.log
    → IfReached (host_function_node p o w)
host_function_confined p None w h = tt
host_function_confined p (Some t) w h = host_leaf_confined p _ w h

function_confined : (f : Function) (w : World) → AreConfined w.log → IfReached (function_node f w)
function_confined (lifted_function t v o) w h = leaf_confined _ w h
function_confined (host_function p) w h = host_function_confined p (type_at w.imports p) w h
function_confined (intrinsic_function n) w h = tt

module_confined : (m : Module) (w : World) → AreConfined w.log → IfReached (module_node m w)
module_confined (static_module n t) w h = leaf_confined _ w h
module_confined (host_module p t) w h = host_leaf_confined p _ w h

mutual
  unfolding host_node host_nodes

  host_confined : (p : Path) (t : TypeTree) (w : World) → AreConfined w.log → IfReached (host_node p t w)
  host_confined p (tree.func_of a b c) w h = host_function_confined p (Some (tree.func_of a b c)) w h
  host_confined p (tree.instance_of fields) w h =
      counting_confined w (λ v. then_reach (host_nodes p fields v) (instance_node (tree.instance_of fields))) h (λ v c.
      then_confined (host_nodes p fields v) (instance_node (tree.instance_of fields)) (fields_confined p fields v c)
      (λ ns u d. d))
  host_confined p (tree.component_of a b) w h = tt
  host_confined p (tree.module_of a b) w h = host_leaf_confined p _ w h
  host_confined p t w h = leaf_confined _ w h

  fields_confined : (p : Path) (fs : Fields) (w : World) → AreConfined w.log → IfReached (host_nodes p fs w)
  fields_confined p no_fields w h = h
  fields_confined p (and_field name t fs) w h =
      then_confined (host_node (further p name) t w) (λ n v. then_reach (host_nodes p fs v) (more name no_data n))
      (host_confined (further p name) t w h) (λ n v c.
      then_confined (host_nodes p fs v) (more name no_data n) (fields_confined p fs v c) (λ ns u d. d))

mutual
  unfolding value_node instance_value_node value_nodes

  -- a value that the root exports
  value_confined : (v : Value) (w : World) → AreConfined w.log → IfReached (value_node v w)
  value_confined (func_value f) w h = function_confined f w h
  value_confined (module_value m) w h = module_confined m w h
  value_confined (instance_value i) w h = instance_confined i w h
  value_confined (component_value c) w h = tt
  value_confined (type_value t) w h = leaf_confined _ w h

  instance_confined : (i : Instance) (w : World) → AreConfined w.log → IfReached (instance_value_node i w)
  instance_confined (made_instance vs t) w h =
      counting_confined w (λ v. then_reach (value_nodes vs v) (instance_node t)) h (λ v c.
      then_confined (value_nodes vs v) (instance_node t) (values_confined vs v c) (λ ns u d. d))
  instance_confined (host_instance p t) w h = host_confined p t w h
  instance_confined the_intrinsics w h = tt

  values_confined : (vs : NamedValues) (w : World) → AreConfined w.log → IfReached (value_nodes vs w)
  values_confined no_values w h = h
  values_confined (and_value name v rest) w h =
      then_confined (value_node v w) (λ n u. then_reach (value_nodes rest u) (more name.name (extern_data name) n))
      (value_confined v w h) (λ n u c.
      then_confined (value_nodes rest u) (more name.name (extern_data name) n) (values_confined rest u c)
      (λ ns x d. d))

-- the nodes of the root come with a confined log
abbrev pub IsConfinedFinish : Finish → Type 0
IsConfinedFinish f = AreConfined f.1.log

-- an export of the root
export_confined : {A : Type 0} (n : ℕ) (r : Reached A) (go : A → World → Outcome Finish) → IfReached r
    → ((x : A) (w : World) → AreConfined w.log → IfDone (go x w) IsConfinedFinish)
    → IfDone (at_export n r go) IsConfinedFinish
export_confined n (reached x w) go h each = each x w h
export_confined n (refused f) go h each = tt
export_confined n passed go h each = tt

exporting_confined : (n : ℕ) (o : Option NamedValue) (w : World) (skip : Outcome Finish)
    (go : ℕ → World → Outcome Finish) → AreConfined w.log → IfDone skip IsConfinedFinish
    → ((m : ℕ) (v : World) → AreConfined v.log → IfDone (go m v) IsConfinedFinish)
    → IfDone (exporting n o w skip go) IsConfinedFinish
exporting_confined n None w skip go h rest each = rest
exporting_confined n (Some e) w skip go h rest each =
    export_confined n (value_node e.value w) _ (value_confined e.value w h) (λ x v c.
    then_done IsConfinedFinish IsConfinedFinish (go (n + 1) v) _ (each (n + 1) v c) (λ f d. d))

-- the exports of the root
pub exports_confined : (t : TypeTable) (s : Scope) (es : List ExportOf) (n : ℕ) (w : World)
    → AreConfined w.log → IfDone (root_exports t s es n w) IsConfinedFinish
unfolding root_exports
exports_confined t s [] n w h = h
exports_confined t s (e ∷ es) n w h =
    exporting_confined n (exported_value t s e) w _ (root_exports t s es) h (exports_confined t s es n w h)
    (exports_confined t s es)
