-- In the plan of two adapters each module is instantiated one way, so nothing is ambiguous.
use Rattle.std.proofs.Common.{◌≡◌, ℕ, List, [], ◌∷◌, Some, None, refl, sym, ap, ◌∙◌, arith, All, true≢false}
use Rattle.std.proofs.lemmas.List.Elements.{All-cons, All-contains, All-nil}
use Rattle.pc_types.specs.declared.parsed.CoreKind.TheVariants as kind
use Rattle.pc_types.specs.Record.{index_number}
use Rattle.pc_spec_plan.specs.CoreValue.{by_index}
use Rattle.pc_spec_plan.specs.PlanView as plan
use Rattle.pc_spec_wiring.specs.Exported.{is_exported}
use Rattle.pc_spec_wiring.specs.Known.{IsGiven, IsOneWay, Known, KnownFunction, given_to_host, given_variously}
use Rattle.pc_spec_wiring.specs.Known.{known_enter, known_exit, known_function, known_intrinsic, known_trap}
use Rattle.pc_test_wiring.specs.OtherPlans.{exporting, making_more}
use Rattle.pc_test_wiring.specs.TwoAdapters.{IsAmbiguousIn, IsFunctionIn, adapting_arguments, func_of}
use Rattle.pc_test_wiring.specs.TwoAdapters.{lowering_arguments}
use Rattle.pc_test_wiring.specs.TwoAdapters.{records, steps, two_adapters}

-- what holds of one holds of a list of it
one : {X : Type 0} (P : X → Type 0) (x : X) → P x → All P (x ∷ [])
one P x p = All-cons P x [] p (All-nil P)

-- a module of the plan is instantiated one way
abbrev OneWay : ℕ → List plan.Definition → Type 0
OneWay m args = IsOneWay records steps (is_exported two_adapters) m args

-- a list is this one
abbrev Same : List plan.Definition → List plan.Definition → Type 0
Same args others = others ≡ args

pub lifting_one_way : OneWay 0 []
lifting_one_way = record {
  given = (0, omega arith, refl);
  only = λ others h. All-contains (Same []) ([] ∷ [] ∷ []) others
      (All-cons (Same []) [] ([] ∷ []) refl (one (Same []) [] refl)) h;
  kept = refl;
}

pub lowering_one_way : OneWay 1 lowering_arguments
lowering_one_way = record {
  given = (0, omega arith, refl);
  only = λ others h. All-contains (Same lowering_arguments) (lowering_arguments ∷ []) others
      (one (Same lowering_arguments) lowering_arguments refl) h;
  kept = refl;
}

pub adapting_one_way : OneWay 2 adapting_arguments
adapting_one_way = record {
  given = (0, omega arith, refl);
  only = λ others h. All-contains (Same adapting_arguments) (adapting_arguments ∷ []) others
      (one (Same adapting_arguments) adapting_arguments refl) h;
  kept = refl;
}

-- a step makes an instance of a module that is instantiated one way, and of no module of the host
abbrev OneWayStep : plan.Initializer → Type 0
OneWayStep (plan.instantiate_static m args c) = OneWay m args
OneWayStep (plan.instantiate_import r args c) = ⊥
OneWayStep step = Unit {0}

-- so does each
all_one_way : All OneWayStep steps
all_one_way =
    All-cons OneWayStep (plan.instantiate_static 0 [] (Some 1))
    (plan.instantiate_static 0 [] (Some 2) ∷ plan.instantiate_static 2 adapting_arguments None
    ∷ plan.instantiate_static 1 lowering_arguments (Some 3) ∷ []) lifting_one_way
    (All-cons OneWayStep (plan.instantiate_static 0 [] (Some 2))
    (plan.instantiate_static 2 adapting_arguments None ∷ plan.instantiate_static 1 lowering_arguments (Some 3) ∷ [])
    lifting_one_way
    (All-cons OneWayStep (plan.instantiate_static 2 adapting_arguments None)
    (plan.instantiate_static 1 lowering_arguments (Some 3) ∷ []) adapting_one_way
    (one OneWayStep (plan.instantiate_static 1 lowering_arguments (Some 3)) lowering_one_way)))

pub none_is_ambiguous : (x : Known) → ¬ (IsAmbiguousIn two_adapters x)
none_is_ambiguous x (given_to_host {r} {args} {c} {a} at among refers) =
    All-contains OneWayStep steps (plan.instantiate_import r args c) all_one_way at
none_is_ambiguous x (given_variously {m} {args} {c} {d} at various among refers) =
    various (All-contains OneWayStep steps (plan.instantiate_static m args c) all_one_way at)

-- the number of the first function among arguments
abbrev first_number : List plan.Definition → ℕ
first_number (plan.export r (by_index e) ∷ ds) = index_number e
first_number ds = 0

-- a module that is made two ways isn't given anything in every instance
two_ways : (d : plan.Definition)
    → ¬ (IsGiven records making_more.initializers (is_exported making_more) 1 kind.Func 0 d)
two_ways d g =
    let first : lowering_arguments ≡ g.args = g.one_way.only lowering_arguments (0, omega arith, refl) in
    let second : func_of 2 5 ∷ func_of 2 4 ∷ [] ≡ g.args =
    g.one_way.only (func_of 2 5 ∷ func_of 2 4 ∷ []) (1, omega arith, refl) in
    let same : 4 ≡ 5 = ap first_number (first ∙ sym second) in
    omega (arith, same)

-- nor is one that the root exports
exported : (d : plan.Definition)
    → ¬ (IsGiven records exporting.initializers (is_exported exporting) 1 kind.Func 0 d)
exported d g = true≢false g.one_way.kept

pub made_two_ways : (x : KnownFunction) → ¬ (IsFunctionIn making_more 1 0 x)
made_two_ways x (known_enter {t} g at) = two_ways (plan.trampoline t) g
made_two_ways x (known_exit {t} g at) = two_ways (plan.trampoline t) g
made_two_ways x (known_trap {t} g at) = two_ways (plan.trampoline t) g
made_two_ways x (known_intrinsic {i} g) = two_ways (plan.intrinsic i) g
made_two_ways x (known_function {d} g refers) = two_ways d g

pub none_if_exported : (x : KnownFunction) → ¬ (IsFunctionIn exporting 1 0 x)
none_if_exported x (known_enter {t} g at) = exported (plan.trampoline t) g
none_if_exported x (known_exit {t} g at) = exported (plan.trampoline t) g
none_if_exported x (known_trap {t} g at) = exported (plan.trampoline t) g
none_if_exported x (known_intrinsic {i} g) = exported (plan.intrinsic i) g
none_if_exported x (known_function {d} g refers) = exported d g
