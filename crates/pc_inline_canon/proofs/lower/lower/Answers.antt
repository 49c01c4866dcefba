use Rattle.std.proofs.Common.{ap, arith}
use Rattle.pc_types_lists.specs.Types.{Types}
use Rattle.pc_inline_state.proofs.AddsLemmas.{adds_weaken, core_few}
use Rattle.pc_inline_canon.proofs.CalleeLemmas.{host_lowers, intrinsic_lowers, lifted_held, lifted_lowers, path_held}
use Rattle.pc_inline_canon.proofs.lower.lower.Goals as goal

pub lower_host-requires-clause-there : goal.lower_host-requires-clause-there
lower_host-requires-clause-there c = path_held _ _ _ _ c.in-Host.is c.requires.there

pub lower_lifted-requires : goal.lower_lifted-requires
lower_lifted-requires c =
    let held = lifted_held _ _ _ _ _ _ c.in-Lifted.is c.requires.there in
    record {
      sound = c.requires.sound;
      there = held.0;
      lift = held.1;
      lower = c.requires.options;
    }

pub add_intrinsic-requires : goal.add_intrinsic-requires
add_intrinsic-requires c = record { places = c.requires.sound.plain.unsafe_intrinsics }

pub returns-in-Host-clause-lowers : goal.returns-in-Host-clause-lowers
returns-in-Host-clause-lowers c = host_lowers _ _ _ _ _ _ _ _ _ c.in-Host.is c.lower_host.ensures.lowers

pub returns-in-Host-clause-adds : goal.returns-in-Host-clause-adds
returns-in-Host-clause-adds c = adds_weaken _ 4 36 _ _ (omega arith) c.lower_host.ensures.adds

pub returns-in-Lifted-clause-lowers : goal.returns-in-Lifted-clause-lowers
returns-in-Lifted-clause-lowers c = lifted_lowers _ _ _ _ _ _ _ _ _ _ _ c.in-Lifted.is c.lower_lifted.ensures.lowers

pub returns-in-Intrinsic-clause-lowers : goal.returns-in-Intrinsic-clause-lowers
returns-in-Intrinsic-clause-lowers c =
    intrinsic_lowers _ _ _ _ _ _ _ _ _ c.in-Intrinsic.is (c.add_intrinsic.ensures.added _ _)

pub returns-in-Intrinsic-clause-adds : goal.returns-in-Intrinsic-clause-adds
returns-in-Intrinsic-clause-adds c = adds_weaken _ 4 36 _ _ (omega arith) (core_few _ _ _ c.add_intrinsic.ensures.adds)

pub returns-in-Intrinsic-clause-resources : goal.returns-in-Intrinsic-clause-resources
returns-in-Intrinsic-clause-resources c = ap (λ (t : Types). t.resources) c.add_intrinsic.ensures.adds.types
