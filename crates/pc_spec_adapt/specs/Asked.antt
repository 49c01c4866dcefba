-- Which options an adapter is asked for, by the types of its two sides.
use Rattle.std.specs.Prelude.{Bool, true, false, not, ◌&&◌, ◌||◌}
use Rattle.pc_types.specs.TypeTree.{TypeTree, func_of}
use Rattle.pc_types_lists.specs.declared.facts.TypeFacts.{TypeFacts}
use Rattle.pc_types_lists.specs.Facts.{facts_of_fields, facts_of_maybe, no_facts}
use Rattle.pc_spec_plan.specs.CoreValue as value
use Rattle.pc_spec_plan.specs.CoreValue.{CoreValue, Options, DataModel, MaybeValue}

-- what stands in the parameters and in the result of a function type, and whether the type is async
pub record FunctionFacts : Type 0 where
  pub params : TypeFacts
  pub results : TypeFacts
  pub is_async : Bool

-- the facts of a function type; of another type nothing stands there
abbrev pub function_facts : TypeTree → FunctionFacts
function_facts (func_of params result is_async) = record {
  params = facts_of_fields params;
  results = facts_of_maybe result;
  is_async = is_async;
}
function_facts tree = record { params = no_facts; results = no_facts; is_async = false }

-- whether values of these types go through a memory
abbrev pub in_memory : TypeFacts → Bool
in_memory x = x.string || x.list

-- whether a value is there
abbrev pub is_there : {τ : Type 0} → MaybeValue τ → Bool
is_there value.no_value = false
is_there (value.a_value v) = true

-- whether a side has what it is asked for: in linear memory a memory, where it takes or gives values through one, and a
-- realloc, where it takes some
abbrev pub has_asked : {τ : Type 0} → (taken given : TypeFacts) → DataModel τ → Bool
has_asked taken given value.gc = true
has_asked taken given (value.linear memory realloc) =
    (not (in_memory taken || in_memory given) || is_there memory) && (not (in_memory taken) || is_there realloc)

-- where the values of a side lie
abbrev pub model_of : {τ : Type 0} → Options τ → DataModel τ
model_of (value.options c encoding is_async signature callback post_return model) = model

-- whether both sides of an adapter have what their types ask for: the lift takes parameters, the lowering results
abbrev pub has_options : {τ : Type 0} → (lift lower : FunctionFacts) → CoreValue τ → Bool
has_options lift lower (value.adapter lift_type lift_options lower_type lower_options callee) =
    has_asked lift.params lift.results (model_of lift_options)
    && has_asked lower.results lower.params (model_of lower_options)
has_options lift lower v = true
