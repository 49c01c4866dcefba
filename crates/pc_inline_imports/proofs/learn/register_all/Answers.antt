use Rattle.std.proofs.Common.{◌≡◌, ◌<◌, ◌+◌, arith, length, subst}
use Rattle.std.proofs.lemmas.List.{take_all}
use Rattle.std.proofs.lemmas.Option.{slice_get-get_or}
use Rattle.pc_inline_imports.specs.Learns.{IsRegistered}
use Rattle.pc_inline_imports.proofs.LearnLemmas.{registered_more, registered_none, registers_refl, registers_trans}
use Rattle.pc_inline_imports.proofs.learn.register_all.Goals as goal

pub loop-one-init : goal.loop-one-init
loop-one-init c =
    let zero_more : c.args.first ≡ c.args.first + 0 = omega arith in (
      registers_refl c.args.context.now.table.now c.args.state.now c.args.frame.now c.requires.converted,
      registered_none c.args.state.now c.args.first c.args.found.now,
      zero_more,
    )

pub register_one-requires-clause-converted : goal.register_one-requires-clause-converted
register_one-requires-clause-converted c = c.loop-one.invariant.0.converted

pub loop-one-preserved : goal.loop-one-preserved
loop-one-preserved c =
    let far = c.loop-one.invariant in
    let within : c.loop-one.one-index < length c.args.found.now = omega (arith, c.loop-one-test.true) in
    let next : c.loop-one.number + 1 ≡ c.args.first + (c.loop-one.one-index + 1) = omega (arith, far.2) in (
      registers_trans _ _ _ _ _ _ _ far.0 c.register_one.ensures.registers,
      registered_more c.args.state.now c.loop-one.state c.register_one.new.state c.args.first c.args.found.now
          c.loop-one.one-index _ within (slice_get-get_or c.args.found.now c.loop-one.one-index _ within) far.1 _ far.2
          c.in_ok-register_one.ensures.known,
      next,
    )

pub returns-clause-registers : goal.returns-clause-registers
returns-clause-registers c = c.loop-one.invariant.0

pub returns-clause-known : goal.returns-clause-known
returns-clause-known c =
    subst (λ xs. IsRegistered c.args.first xs c.args.state.now c.loop-one.state)
    (take_all c.loop-one.one-index c.args.found.now c.loop-one-test.false) c.loop-one.invariant.1

pub returns-in_err-register_one-clause-registers : goal.returns-in_err-register_one-clause-registers
returns-in_err-register_one-clause-registers c =
    registers_trans _ _ _ _ _ _ _ c.loop-one.invariant.0 c.register_one.ensures.registers
