-- Which core instances and adapters a core value names.
use Rattle.std.specs.Prelude.{ℕ, List, [], ◌∷◌, ◌++◌, map}
use Rattle.std.specs.List.{flat_map}
use Rattle.pc_spec_plan.specs.CoreValue as value
use Rattle.pc_spec_plan.specs.CoreValue.{CoreValue, Options, DataModel, MaybeValue, Parts, Part}
use Rattle.pc_spec_plan.specs.Log.{Instantiation, NamedArgument, of_static, of_host, Entry, instantiated}
use Rattle.pc_spec_plan.specs.Log.{declared_resource}

-- what a value names: a core instance, by its number among those of component instances, or an adapter
pub data Named (τ : Type 0) : Type 0 where
  an_instance : (number : ℕ) → Named τ
  an_adapter : CoreValue τ → Named τ

module _ {τ : Type 0} where
  abbrev mutual
    -- the instances and adapters that occur in a value: options and parts are looked through, adapters aren't
    pub named : CoreValue τ → List (Named τ)
    named (value.exported n item) = an_instance n ∷ []
    named (value.lowered path ty o) = named_options o
    named (value.builtin kind c parts) = named_parts parts
    named (value.intrinsic i) = []
    named (value.adapter lift_type lift lower_type lower callee) =
        an_adapter (value.adapter lift_type lift lower_type lower callee) ∷ []
    named (value.flags c) = []
    named (value.helper kind parts) = named_parts parts

    -- those in options: in the callback, the post-return function, the memory and the realloc
    pub named_options : Options τ → List (Named τ)
    named_options (value.options c encoding is_async signature callback post_return model) =
        named_maybe callback ++ named_maybe post_return ++ named_model model

    -- those in a memory and a realloc
    pub named_model : DataModel τ → List (Named τ)
    named_model value.gc = []
    named_model (value.linear memory realloc) = named_maybe memory ++ named_maybe realloc

    -- those in a value that may be left out
    pub named_maybe : MaybeValue τ → List (Named τ)
    named_maybe value.no_value = []
    named_maybe (value.a_value v) = named v

    -- those in the parts of a builtin or helper
    pub named_parts : Parts τ → List (Named τ)
    named_parts value.no_parts = []
    named_parts (value.and_part p ps) = named_part p ++ named_parts ps

    -- those in one of these parts
    pub named_part : Part τ → List (Named τ)
    named_part (value.mark_part m) = []
    named_part (value.number_part n) = []
    named_part (value.flag_part b) = []
    named_part (value.value_part v) = named_maybe v
    named_part (value.options_part o) = named_options o

  -- what an adapter names: what its callee and the options of both sides name
  abbrev pub in_adapter : CoreValue τ → List (Named τ)
  in_adapter (value.adapter lift_type lift lower_type lower callee) =
      named callee ++ named_options lift ++ named_options lower
  in_adapter v = []

  -- the arguments of a core module
  abbrev pub arguments_of : Instantiation τ → List (CoreValue τ)
  arguments_of (of_static n args) = args
  arguments_of (of_host path args) = map (λ (a : NamedArgument τ). a.value) args

  -- what an entry of a log names: an instance by its arguments, a resource by its destructor
  abbrev pub in_entry : Entry τ → List (Named τ)
  in_entry (instantiated i c) = flat_map named (arguments_of i)
  in_entry (declared_resource representation destructor c) = named_maybe destructor
  in_entry e = []
