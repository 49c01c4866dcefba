use Rattle.std.proofs.Common.{inl, inr, length, ap, ◌∙◌, subst, arith}
use Rattle.pc_adapt.specs.Imports.{is_transparent}
use Rattle.pc_adapt_groups.specs.Needs.{Needs}
use Rattle.pc_adapt_partition.specs.Made.{HasLong, cut, sum_of}
use Rattle.pc_adapt_partition.specs.Partitions.{past, long}
use Rattle.pc_adapt_partition.proofs.SplitLemmas.{all_lengths}
use Rattle.pc_adapt_partition.proofs.MostLemmas.{most_fewer, nothing_made}
use Rattle.pc_adapt_partition.proofs.SplitLemmas.{few_lengths}
use Rattle.pc_adapt_partition.proofs.partition.make.Goals as goal

pub make_modules-requires-clause-all : goal.make_modules-requires-clause-all
make_modules-requires-clause-all c =
    ap sum_of c.deref.ensures.value
    ∙ all_lengths (Needs c.args.graph.now) (length c.args.graph.now.adapters) c.in_ok-groups.groups.items
    c.in_ok-groups.ensures.fewest

pub returns-in_err-make_modules-clause-full : goal.returns-in_err-make_modules-clause-full
returns-in_err-make_modules-clause-full c is lift lower facts =
    let too_many = rw is at c.from_residual-in_err-make_modules.ensures.1 in
    elim (c.in_err-make_modules.ensures.full (cc too_many)) [
      | inl full ↦ past full
      | inr far ↦
          long c.in_ok-groups.groups.items c.in_ok-groups.ensures.fewest
          (subst (λ ls. HasLong lift lower (is_transparent c.args.graph.now) 0
          (cut ls 0 c.args.graph.now.adapters)) c.deref.ensures.value
          (far lift lower facts))
    ]

pub returns-in_err-groups-clause-most : goal.returns-in_err-groups-clause-most
returns-in_err-groups-clause-most c = nothing_made _ _ c.args.graph.now c.args.modules.now

pub returns-in_err-make_modules-clause-most : goal.returns-in_err-make_modules-clause-most
returns-in_err-make_modules-clause-most c =
    most_fewer (length c.args.graph.now.adapters) (length c.deref.result.now) (length c.args.graph.now.adapters)
    c.args.graph.now c.make_modules.new.graph c.args.modules.now c.make_modules.new.modules
    (omega (
      arith,
      ap length c.deref.ensures.value,
      few_lengths (Needs c.args.graph.now) (length c.args.graph.now.adapters) c.in_ok-groups.groups.items
          c.in_ok-groups.ensures.fewest,
    ))
    c.make_modules.ensures.few

pub returns-then-is_past-clause-most : goal.returns-then-is_past-clause-most
returns-then-is_past-clause-most c =
    most_fewer (length c.args.graph.now.adapters) (length c.deref.result.now) (length c.args.graph.now.adapters)
    c.args.graph.now c.make_modules.new.graph c.args.modules.now c.make_modules.new.modules
    (omega (
      arith,
      ap length c.deref.ensures.value,
      few_lengths (Needs c.args.graph.now) (length c.args.graph.now.adapters) c.in_ok-groups.groups.items
          c.in_ok-groups.ensures.fewest,
    ))
    c.make_modules.ensures.few

pub returns-clause-most : goal.returns-clause-most
returns-clause-most c =
    most_fewer (length c.args.graph.now.adapters) (length c.deref.result.now) (length c.args.graph.now.adapters)
    c.args.graph.now c.make_modules.new.graph c.args.modules.now c.make_modules.new.modules
    (omega (
      arith,
      ap length c.deref.ensures.value,
      few_lengths (Needs c.args.graph.now) (length c.args.graph.now.adapters) c.in_ok-groups.groups.items
          c.in_ok-groups.ensures.fewest,
    ))
    c.make_modules.ensures.few
