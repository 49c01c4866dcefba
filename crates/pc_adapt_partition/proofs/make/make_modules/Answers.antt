use Rattle.std.proofs.Common.{inl, inr, ap, arith, length, take}
use Rattle.pc_adapt_partition.specs.Made.{sum_of}
use Rattle.pc_adapt_partition.proofs.CutLemmas.{sum_step}
use Rattle.pc_adapt_partition.proofs.MakeLemmas.{same_adapters}
use Rattle.pc_adapt_partition.proofs.StepLemmas.{make_full, make_step, sum_next}
use Rattle.pc_adapt_partition.proofs.MostLemmas.{made_front, made_next}
use Rattle.pc_adapt_partition.proofs.make.make_modules.Goals as goal

pub overflow_cast-many : goal.overflow_cast-many
overflow_cast-many c =
    omega (
      arith,
      sum_step c.args.lengths.now c.loop-place.place 0 c.loop-place-test.true,
      c.requires.all,
      c.requires.numbers,
    )

pub make_module-requires-clause-range : goal.make_module-requires-clause-range
make_module-requires-clause-range c =
    let known = c.requires.known in
    let makes = c.loop-place.invariant.1 known.lift known.lower known.facts in
    let same = same_adapters (sum_of (take c.loop-place.place c.args.lengths.now)) c.args.graph.now
    c.loop-place.graph makes.keeps in
    omega (
      arith,
      ap length same,
      sum_step c.args.lengths.now c.loop-place.place 0 c.loop-place-test.true,
      c.requires.all,
      c.loop-place.invariant.0,
    )

pub make_module-requires-clause-numbers : goal.make_module-requires-clause-numbers
make_module-requires-clause-numbers c =
    omega (
      arith,
      sum_step c.args.lengths.now c.loop-place.place 0 c.loop-place-test.true,
      c.requires.all,
      c.requires.numbers,
      c.loop-place.invariant.0,
    )

pub returns-in_err-make_module-clause-full : goal.returns-in_err-make_module-clause-full
returns-in_err-make_module-clause-full c is =
    let too_many = rw is at c.from_residual.ensures.1 in
    elim (c.in_err-make_module.ensures.full (cc too_many)) [
      | inl past ↦ inl past
      | inr long ↦
          inr (λ lift lower facts.
          make_full c.args.types.now lift lower c.args.graph.now c.loop-place.graph c.args.modules.now
          c.loop-place.modules c.args.lengths.now c.loop-place.place 0 c.loop-place.first facts
          c.loop-place-test.true c.requires.all c.loop-place.invariant.0
          (c.loop-place.invariant.1 lift lower facts) long)
    ]

pub overflow_add-first : goal.overflow_add-first
overflow_add-first c =
    omega (
      arith,
      sum_step c.args.lengths.now c.loop-place.place 0 c.loop-place-test.true,
      c.requires.all,
      c.requires.numbers,
      c.loop-place.invariant.0,
    )

pub loop-place-preserved : goal.loop-place-preserved
loop-place-preserved c = (
  sum_next c.args.lengths.now c.loop-place.place 0 c.loop-place.first c.loop-place-test.true
      c.loop-place.invariant.0,
  λ lift lower facts.
      make_step c.args.types.now lift lower c.args.graph.now c.loop-place.graph c.make_module.new.graph
      c.args.modules.now c.loop-place.modules c.make_module.new.modules c.args.lengths.now c.loop-place.place 0
      c.loop-place.first c.requires.ordered facts c.loop-place-test.true c.requires.all c.loop-place.invariant.0
      (c.loop-place.invariant.1 lift lower facts) c.in_ok-make_module.ensures.adds,
)

pub returns-in_err-make_module-clause-few : goal.returns-in_err-make_module-clause-few
returns-in_err-make_module-clause-few c =
    made_next c.args.types.now c.args.graph.now c.loop-place.graph c.args.modules.now c.loop-place.modules
    c.args.lengths.now c.loop-place.place c.requires.known c.requires.all c.loop-place.invariant.1
    c.make_module.new.graph c.make_module.new.modules 0 c.loop-place-test.true c.make_module.ensures.few

pub returns-clause-few : goal.returns-clause-few
returns-clause-few c =
    made_front c.args.types.now c.args.graph.now c.loop-place.graph c.args.modules.now c.loop-place.modules
    c.args.lengths.now c.loop-place.place c.requires.known c.requires.all c.loop-place.invariant.1
