-- A memory that is exported again is known where no module of the host sees it.
use Rattle.std.proofs.Common.{◌≡◌, List, [], ◌∷◌, Some, refl, arith, All}
use Rattle.std.proofs.lemmas.List.Elements.{All-cons, All-contains}
use Rattle.pc_numbers.specs.declared.entity_index.EntityIndex.TheVariants as index
use Rattle.pc_types.specs.declared.parsed.CoreKind.TheVariants as kind
use Rattle.pc_spec_plan.specs.PlanView as plan
use Rattle.pc_spec_wiring.specs.Known.{IsAmbiguous, IsOneWay, Known, a_defined, given_to_host, given_variously}
use Rattle.pc_spec_wiring.specs.Known.{refers_to_defined}
use Rattle.pc_spec_wiring.specs.Origin.{cores_in, defined_in, from_item, imported_there, its_own}
use Rattle.pc_test_wiring.specs.Memories.{IsFirstKnown, IsMemoryIn, MemoryComesFrom, defining, importing, kept}
use Rattle.pc_test_wiring.specs.Memories.{memory_of}
use Rattle.pc_test_wiring.specs.Memories.{of_second, records, steps, steps_with_host}
use Rattle.pc_test_wiring.proofs.Quiet.{one}

-- a list is this one
abbrev Same : List plan.Definition → List plan.Definition → Type 0
Same args others = others ≡ args

-- each module is instantiated one way
first_one_way : IsOneWay records steps kept 0 []
first_one_way = record {
  given = (0, omega arith, refl);
  only = λ others h. All-contains (Same []) ([] ∷ []) others (one (Same []) [] refl) h;
  kept = refl;
}

second_one_way : IsOneWay records steps kept 1 (memory_of 0 ∷ [])
second_one_way = record {
  given = (0, omega arith, refl);
  only = λ others h. All-contains (Same (memory_of 0 ∷ [])) ((memory_of 0 ∷ []) ∷ []) others
      (one (Same (memory_of 0 ∷ [])) (memory_of 0 ∷ []) refl) h;
  kept = refl;
}

third_one_way : IsOneWay records steps kept 2 (memory_of 1 ∷ [])
third_one_way = record {
  given = (0, omega arith, refl);
  only = λ others h. All-contains (Same (memory_of 1 ∷ [])) ((memory_of 1 ∷ []) ∷ []) others
      (one (Same (memory_of 1 ∷ [])) (memory_of 1 ∷ []) refl) h;
  kept = refl;
}

-- a step makes an instance of a module that is instantiated one way, and of no module of the host
abbrev OneWayStep : plan.Initializer → Type 0
OneWayStep (plan.instantiate_static m args c) = IsOneWay records steps kept m args
OneWayStep (plan.instantiate_import r args c) = ⊥
OneWayStep step = Unit {0}

all_one_way : All OneWayStep steps
all_one_way =
    All-cons OneWayStep (plan.instantiate_static 0 [] (Some 0))
    (plan.instantiate_static 1 (memory_of 0 ∷ []) (Some 0) ∷ plan.instantiate_static 2 (memory_of 1 ∷ []) (Some 0) ∷ [])
    first_one_way
    (All-cons OneWayStep (plan.instantiate_static 1 (memory_of 0 ∷ []) (Some 0))
    (plan.instantiate_static 2 (memory_of 1 ∷ []) (Some 0) ∷ []) second_one_way
    (one OneWayStep (plan.instantiate_static 2 (memory_of 1 ∷ []) (Some 0)) third_one_way))

none_is_ambiguous : (x : Known) → ¬ (IsAmbiguous records steps kept x)
none_is_ambiguous x (given_to_host {r} {args} {c} {a} at among refers) =
    All-contains OneWayStep steps (plan.instantiate_import r args c) all_one_way at
none_is_ambiguous x (given_variously {m} {args} {c} {d} at various among refers) =
    various (All-contains OneWayStep steps (plan.instantiate_static m args c) all_one_way at)

pub origin : MemoryComesFrom 1 (defined_in 0 0 (index.Memory (record { 0 = 0 })))
unfolding cores_in
origin = imported_there refl refl refl (from_item (its_own refl refl refl))

pub known : IsMemoryIn steps 2 (a_defined 0 kind.Memory 0)
unfolding cores_in
known = record {
  definition = memory_of 1;
  data_kind = refl;
  same_kind = refl;
  given = record {
    core_module = importing;
    args = memory_of 1 ∷ [];
    place = 0;
    is = refl;
    one_way = third_one_way;
    imports = refl;
    gets = refl;
  };
  refers = refers_to_defined {instance = 0} {r = defining} refl (from_item origin);
  plain = none_is_ambiguous (a_defined 0 kind.Memory 0);
}

pub to_importers : IsFirstKnown steps
to_importers = record {
  core_module = defining;
  is = refl;
  data_kind = refl;
  defines = omega arith;
  plain = none_is_ambiguous (a_defined 0 kind.Memory 0);
}

-- the host sees the memory
ambiguous : IsAmbiguous records steps_with_host kept (a_defined 0 kind.Memory 0)
unfolding cores_in
ambiguous =
    given_to_host {r = 0} {args = of_second ∷ []} {c = Some 0} {a = of_second} (3, omega arith, refl)
    (0, omega arith, refl)
    (refers_to_defined {instance = 0} {r = defining} refl
    (from_item (imported_there refl refl refl (from_item (its_own refl refl refl)))))

pub seen_by_host : ¬ (IsMemoryIn steps_with_host 2 (a_defined 0 kind.Memory 0))
seen_by_host is_known = is_known.plain ambiguous

pub not_to_importers : ¬ (IsFirstKnown steps_with_host)
not_to_importers is_known = is_known.plain ambiguous
