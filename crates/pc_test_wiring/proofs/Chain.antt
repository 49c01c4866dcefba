-- What is reached in a chain of two adapters.
use Rattle.std.proofs.Common.{[], ◌∷◌, refl, arith, All}
use Rattle.std.proofs.lemmas.List.Elements.{All-cons, All-nil}
use Rattle.pc_spec_plan.specs.Log.{Owned, instances_of, instantiated, made, of_static}
use Rattle.pc_parsed.specs.Mark.{Mark}
use Rattle.pc_spec_wiring.specs.FunctionTypes.{has_handle, is_async_type}
use Rattle.pc_spec_wiring.specs.Opaque.{IsTransparentIn, transparent}
use Rattle.pc_spec_wiring.specs.Reached.{IsReached, at_once, past_adapter, past_item, to_argument, to_lifted}
use Rattle.pc_test_wiring.specs.Logs.{chain, inner_adapter, lifted_function, outer_adapter}
use Rattle.pc_test_wiring.proofs.Quiet.{GivenPlain, Plain, Quiet, none_is_opaque, one}

-- the core instances, each with its component instance
abbrev first : Owned Mark
first = record { instantiation = of_static 0 []; component_instance = 1 }

abbrev second : Owned Mark
second = record { instantiation = of_static 1 (inner_adapter ∷ []); component_instance = 2 }

abbrev third : Owned Mark
third = record { instantiation = of_static 1 (outer_adapter ∷ []); component_instance = 3 }

all_plain : All GivenPlain (instances_of chain)
all_plain =
    All-cons GivenPlain first (second ∷ third ∷ []) (All-nil Plain)
    (All-cons GivenPlain second (third ∷ []) (one Plain inner_adapter refl)
    (one GivenPlain third (one Plain outer_adapter refl)))

all_quiet : All Quiet chain
all_quiet =
    All-cons Quiet (instantiated (of_static 0 []) 1)
    (made inner_adapter ∷ instantiated (of_static 1 (inner_adapter ∷ [])) 2 ∷ made outer_adapter
    ∷ instantiated (of_static 1 (outer_adapter ∷ [])) 3 ∷ []) tt
    (All-cons Quiet (made inner_adapter)
    (instantiated (of_static 1 (inner_adapter ∷ [])) 2 ∷ made outer_adapter
    ∷ instantiated (of_static 1 (outer_adapter ∷ [])) 3 ∷ [])
    (refl, one Plain (lifted_function 0) refl, All-nil Plain)
    (All-cons Quiet (instantiated (of_static 1 (inner_adapter ∷ [])) 2)
    (made outer_adapter ∷ instantiated (of_static 1 (outer_adapter ∷ [])) 3 ∷ []) tt
    (All-cons Quiet (made outer_adapter) (instantiated (of_static 1 (outer_adapter ∷ [])) 3 ∷ [])
    (refl, one Plain (lifted_function 1) refl, All-nil Plain)
    (one Quiet (instantiated (of_static 1 (outer_adapter ∷ [])) 3) tt))))

inner_is_transparent : IsTransparentIn chain [] inner_adapter
inner_is_transparent = transparent refl refl refl refl refl refl (none_is_opaque chain all_quiet all_plain 1)

pub callee : IsReached is_async_type has_handle chain [] outer_adapter (lifted_function 1)
callee = at_once (to_lifted (0, omega arith, refl))

pub argument : IsReached is_async_type has_handle chain [] outer_adapter inner_adapter
argument = past_item callee (to_argument {o = second} refl (0, omega arith, refl))

pub further : IsReached is_async_type has_handle chain [] outer_adapter (lifted_function 0)
further = past_adapter argument inner_is_transparent (to_lifted (0, omega arith, refl))
