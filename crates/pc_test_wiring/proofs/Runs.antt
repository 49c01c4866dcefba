-- The run of the plan of two adapters stays within component instances.
use Rattle.std.proofs.Common.{◌≡◌, ℕ, List, [], ◌∷◌, Some, None, refl, sym, ap, ◌∙◌, arith, All, Contains, subst}
use Rattle.std.proofs.lemmas.List.Elements.{All-cons, All-contains, All-nil}
use Rattle.std.proofs.lemmas.Option.{same_Some}
use Rattle.pc_spec_plan.specs.CoreValue as value
use Rattle.pc_spec_plan.specs.CoreValue.{CoreValue, Options}
use Rattle.pc_spec_plan.specs.Log.{Instantiation, Owned, of_host, of_static}
use Rattle.pc_spec_plan.specs.Machine.{RuntimeInstance, adapter_from}
use Rattle.pc_spec_plan.specs.PlanView.{AdapterRecord}
use Rattle.pc_spec_wiring.specs.Confined.{IsConfinedRun, IsOf, adapter_is_of, item_is_of}
use Rattle.pc_spec_wiring.specs.Held.{arguments_of, instance_of, lifts_of}
use Rattle.pc_test_wiring.specs.Runs.{adapted, adapter_record, adapting_values, last, lifted, with_adapters}
use Rattle.pc_test_wiring.proofs.Quiet.{one}

-- the core instances that have a component instance
abbrev first : Owned (Unit {0})
first = record { instantiation = of_static 0 []; component_instance = 1 }

abbrev second : Owned (Unit {0})
second = record { instantiation = of_static 0 []; component_instance = 2 }

abbrev third : Owned (Unit {0})
third = record { instantiation = of_static 1 (adapted 0 1 ∷ adapted 1 2 ∷ []); component_instance = 3 }

abbrev owned : List (Owned (Unit {0}))
owned = first ∷ second ∷ third ∷ []

-- what a core instance is given is of its component instance
abbrev GivenOwn : Owned (Unit {0}) → Type 0
GivenOwn o = All (IsOf owned o.component_instance) (arguments_of o.instantiation)

all_own : All GivenOwn owned
all_own =
    All-cons GivenOwn first (second ∷ third ∷ []) (All-nil (IsOf owned 1))
    (All-cons GivenOwn second (third ∷ []) (All-nil (IsOf owned 2))
    (one GivenOwn third
    (All-cons (IsOf owned 3) (adapted 0 1) (adapted 1 2 ∷ []) (adapter_is_of refl)
    (one (IsOf owned 3) (adapted 1 2) (adapter_is_of refl)))))

-- the number and the arguments of a module
abbrev number_in : Instantiation (Unit {0}) → ℕ
number_in (of_static m args) = m
number_in (of_host path args) = 9

abbrev values_in : Instantiation (Unit {0}) → List (CoreValue (Unit {0}))
values_in (of_static m args) = args
values_in (of_host path args) = []

-- an instance of the module of adapters is given these values
abbrev GivesValues : RuntimeInstance (Unit {0}) → Type 0
GivesValues i = number_in i.instantiation ≡ 2 → values_in i.instantiation ≡ adapting_values

all_give : All GivesValues last.instances
all_give =
    All-cons GivesValues (record { instantiation = of_static 0 []; component_instance = Some 1 })
    (record { instantiation = of_static 0 []; component_instance = Some 2 }
    ∷ record { instantiation = of_static 2 adapting_values; component_instance = None }
    ∷ record { instantiation = of_static 1 (adapted 0 1 ∷ adapted 1 2 ∷ []); component_instance = Some 3 } ∷ [])
    (λ e. absurd (omega (arith, e)))
    (All-cons GivesValues (record { instantiation = of_static 0 []; component_instance = Some 2 })
    (record { instantiation = of_static 2 adapting_values; component_instance = None }
    ∷ record { instantiation = of_static 1 (adapted 0 1 ∷ adapted 1 2 ∷ []); component_instance = Some 3 } ∷ [])
    (λ e. absurd (omega (arith, e)))
    (All-cons GivesValues (record { instantiation = of_static 2 adapting_values; component_instance = None })
    (record { instantiation = of_static 1 (adapted 0 1 ∷ adapted 1 2 ∷ []); component_instance = Some 3 } ∷ [])
    (λ e. refl)
    (one GivesValues
    (record { instantiation = of_static 1 (adapted 0 1 ∷ adapted 1 2 ∷ []); component_instance = Some 3 })
    (λ e. absurd (omega (arith, e))))))

-- what an adapter lifts is of the component instance that lifts it
abbrev LiftsOwn : CoreValue (Unit {0}) → Type 0
LiftsOwn (value.adapter t lift u lower callee) = All (IsOf owned (instance_of lift)) (lifts_of lift callee)
LiftsOwn v = Unit {0}

-- the adapter of a record does, and it is one of the module of adapters
abbrev IsOwn : AdapterRecord (Unit {0}) → Type 0
IsOwn r =
    (r.core_module ≡ 2)
    × ((v : CoreValue (Unit {0})) → adapter_from with_adapters adapting_values r ≡ Some v → LiftsOwn v)

all_records_own : All IsOwn with_adapters.adapters
all_records_own =
    All-cons IsOwn (adapter_record 0 4 0 1) (adapter_record 1 5 4 2 ∷ []) (
      refl,
      λ v e. subst LiftsOwn (same_Some (adapted 0 1) v e)
          (one (IsOf owned 1) (lifted 0) (item_is_of (first, refl, refl))),
    )
    (one IsOwn (adapter_record 1 5 4 2) (
      refl,
      λ v e. subst LiftsOwn (same_Some (adapted 1 2) v e)
          (one (IsOf owned 2) (lifted 1) (item_is_of (second, refl, refl))),
    ))

callees_own : (i : RuntimeInstance (Unit {0})) (m : ℕ) (args : List (CoreValue (Unit {0})))
    (r : AdapterRecord (Unit {0})) (v : CoreValue (Unit {0})) → Contains last.instances i
    → i.instantiation ≡ of_static m args → Contains with_adapters.adapters r → r.core_module ≡ m
    → adapter_from with_adapters args r ≡ Some v → LiftsOwn v
callees_own i m args r v at is among «module» from =
    let own : IsOwn r = All-contains IsOwn with_adapters.adapters r all_records_own among in
    let same : args ≡ adapting_values =
    sym (ap values_in is)
    ∙ All-contains GivesValues last.instances i all_give at (ap number_in is ∙ (sym «module» ∙ own.0)) in
    own.1 v
    (subst (λ (vs : List (CoreValue (Unit {0}))). adapter_from with_adapters vs r ≡ Some v) same from)

pub confined : IsConfinedRun with_adapters last
confined = record {
  arguments = λ o at. All-contains GivenOwn owned o all_own at;
  destructors = λ r at. absurd (All-contains (λ x. ⊥) [] r (All-nil (λ x. ⊥)) at);
  callees = λ i m args r t u lift lower callee at is among number from.
      callees_own i m args r (value.adapter t lift u lower callee) at is among number from;
}
