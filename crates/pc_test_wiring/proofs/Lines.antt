-- What is known of the plan of two adapters: each line of its facts.
use Rattle.pc_types.specs.declared.parsed.CoreKind.TheVariants as kind
use Rattle.pc_spec_wiring.specs.Known.{a_function, traps}
use Rattle.pc_test_wiring.specs.TwoAdapters.{IsFunctionIn, IsKnownIn, two_adapters}
use Rattle.std.proofs.Common.{refl}
use Rattle.pc_spec_wiring.specs.Known.{known_function, known_trap, refers_to_defined, refers_to_flags, the_flags}
use Rattle.pc_spec_wiring.specs.Origin.{cores_in, from_item, its_own}
use Rattle.pc_spec_plan.specs.PlanView as plan
use Rattle.pc_test_wiring.specs.TwoAdapters.{adapting, adapting_arguments, func_of, lifting, lowering}
use Rattle.pc_test_wiring.specs.TwoAdapters.{lowering_arguments}
use Rattle.pc_test_wiring.proofs.OneWay.{adapting_one_way, lowering_one_way, none_is_ambiguous}

pub lowered_0 : IsFunctionIn two_adapters 1 0 (a_function 2 0)
unfolding cores_in
lowered_0 =
    known_function {d = func_of 2 4} (record {
      core_module = lowering;
      args = lowering_arguments;
      place = 0;
      is = refl;
      one_way = lowering_one_way;
      imports = refl;
      gets = refl;
    })
    (refers_to_defined {instance = 2} {r = adapting} refl (from_item (its_own refl refl refl)))

pub lowered_1 : IsFunctionIn two_adapters 1 1 (a_function 2 1)
unfolding cores_in
lowered_1 =
    known_function {d = func_of 2 5} (record {
      core_module = lowering;
      args = lowering_arguments;
      place = 1;
      is = refl;
      one_way = lowering_one_way;
      imports = refl;
      gets = refl;
    })
    (refers_to_defined {instance = 2} {r = adapting} refl (from_item (its_own refl refl refl)))

pub callee_0 : IsFunctionIn two_adapters 2 0 (a_function 0 0)
unfolding cores_in
callee_0 =
    known_function {d = func_of 0 0} (record {
      core_module = adapting;
      args = adapting_arguments;
      place = 0;
      is = refl;
      one_way = adapting_one_way;
      imports = refl;
      gets = refl;
    })
    (refers_to_defined {instance = 0} {r = lifting} refl (from_item (its_own refl refl refl)))

pub trap_0 : IsFunctionIn two_adapters 2 1 (traps 1)
trap_0 =
    known_trap {t = 0} (record {
      core_module = adapting;
      args = adapting_arguments;
      place = 3;
      is = refl;
      one_way = adapting_one_way;
      imports = refl;
      gets = refl;
    }) refl

pub callee_1 : IsFunctionIn two_adapters 2 2 (a_function 0 0)
unfolding cores_in
callee_1 =
    known_function {d = func_of 1 0} (record {
      core_module = adapting;
      args = adapting_arguments;
      place = 4;
      is = refl;
      one_way = adapting_one_way;
      imports = refl;
      gets = refl;
    })
    (refers_to_defined {instance = 1} {r = lifting} refl (from_item (its_own refl refl refl)))

pub trap_1 : IsFunctionIn two_adapters 2 3 (traps 1)
trap_1 =
    known_trap {t = 0} (record {
      core_module = adapting;
      args = adapting_arguments;
      place = 7;
      is = refl;
      one_way = adapting_one_way;
      imports = refl;
      gets = refl;
    }) refl

pub lower_flags_0 : IsKnownIn two_adapters 2 kind.Global 0 (the_flags 3)
lower_flags_0 =
    record {
      definition = plan.flags 3;
      data_kind = refl;
      same_kind = refl;
      given = record {
        core_module = adapting;
        args = adapting_arguments;
        place = 1;
        is = refl;
        one_way = adapting_one_way;
        imports = refl;
        gets = refl;
      };
      refers = refers_to_flags;
      plain = none_is_ambiguous (the_flags 3);
    }

pub lift_flags_0 : IsKnownIn two_adapters 2 kind.Global 1 (the_flags 1)
lift_flags_0 =
    record {
      definition = plan.flags 1;
      data_kind = refl;
      same_kind = refl;
      given = record {
        core_module = adapting;
        args = adapting_arguments;
        place = 2;
        is = refl;
        one_way = adapting_one_way;
        imports = refl;
        gets = refl;
      };
      refers = refers_to_flags;
      plain = none_is_ambiguous (the_flags 1);
    }

pub lower_flags_1 : IsKnownIn two_adapters 2 kind.Global 2 (the_flags 3)
lower_flags_1 =
    record {
      definition = plan.flags 3;
      data_kind = refl;
      same_kind = refl;
      given = record {
        core_module = adapting;
        args = adapting_arguments;
        place = 5;
        is = refl;
        one_way = adapting_one_way;
        imports = refl;
        gets = refl;
      };
      refers = refers_to_flags;
      plain = none_is_ambiguous (the_flags 3);
    }

pub lift_flags_1 : IsKnownIn two_adapters 2 kind.Global 3 (the_flags 2)
lift_flags_1 =
    record {
      definition = plan.flags 2;
      data_kind = refl;
      same_kind = refl;
      given = record {
        core_module = adapting;
        args = adapting_arguments;
        place = 6;
        is = refl;
        one_way = adapting_one_way;
        imports = refl;
        gets = refl;
      };
      refers = refers_to_flags;
      plain = none_is_ambiguous (the_flags 2);
    }
