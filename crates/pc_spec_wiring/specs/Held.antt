-- The core values that options, core instances and exports hold, as lists.
use Rattle.std.specs.Prelude.{ℕ, Bool, List, [], ◌∷◌, ◌++◌, map}
use Rattle.pc_spec_plan.specs.CoreValue.{CoreValue, Options, DataModel, MaybeValue, options, gc, linear, no_value}
use Rattle.pc_spec_plan.specs.CoreValue.{a_value}
use Rattle.pc_spec_plan.specs.ExportNode.{ExportNode, ExportNodes, lifted, instance, no_nodes, and_node}
use Rattle.pc_spec_plan.specs.Log.{Instantiation, NamedArgument, of_static, of_host}

-- the component instance of options
abbrev pub instance_of : {τ : Type 0} → Options τ → ℕ
instance_of (options c encoding is_async signature callback post_return model) = c

-- whether options say that a function is async
abbrev pub is_async_option : {τ : Type 0} → Options τ → Bool
is_async_option (options c encoding is_async signature callback post_return model) = is_async

-- a value that may be left out: none, or the one
abbrev pub maybe_list : {τ : Type 0} → MaybeValue τ → List (CoreValue τ)
maybe_list no_value = []
maybe_list (a_value v) = v ∷ []

-- memory and realloc, as far as they are there
abbrev pub model_list : {τ : Type 0} → DataModel τ → List (CoreValue τ)
model_list gc = []
model_list (linear memory realloc) = maybe_list memory ++ maybe_list realloc

-- all that options hold: callback, post-return, memory and realloc
abbrev pub options_list : {τ : Type 0} → Options τ → List (CoreValue τ)
options_list (options c encoding is_async signature callback post_return model) =
    maybe_list callback ++ maybe_list post_return ++ model_list model

-- what is lifted with options: the core function, and all that the options hold
abbrev pub lifts_of : {τ : Type 0} → Options τ → (callee : CoreValue τ) → List (CoreValue τ)
lifts_of lift callee = callee ∷ options_list lift

-- what a core instance is given
abbrev pub arguments_of : {τ : Type 0} → Instantiation τ → List (CoreValue τ)
arguments_of (of_static n args) = args
arguments_of {τ} (of_host path args) = map (λ (a : NamedArgument τ). a.value) args

abbrev mutual
  -- the lifted functions that an export is or has inside, at whatever depth: core function and options of each
  pub lifted_in : {τ : Type 0} → ExportNode τ → List (CoreValue τ × Options τ)
  lifted_in (lifted ty v o) = (v, o) ∷ []
  lifted_in (instance ty nodes) = lifted_among nodes
  lifted_in node = []

  -- those of all these exports
  pub lifted_among : {τ : Type 0} → ExportNodes τ → List (CoreValue τ × Options τ)
  lifted_among no_nodes = []
  lifted_among (and_node name extern_data node rest) = lifted_in node ++ lifted_among rest
