use Rattle.std.proofs.Common.{arith}
use Rattle.std.proofs.lemmas.Option.{slice_get-get_or}
use Rattle.pc_inline_resources.proofs.EachLemmas.{each_begins, each_ends, each_goes, each_here, each_learns, each_stops}
use Rattle.pc_inline_resources.proofs.arguments.register_each.Goals as goal

pub loop-one-init : goal.loop-one-init
loop-one-init c = each_begins _ _ _ _ _

pub register_met-requires-clause-here : goal.register_met-requires-clause-here
register_met-requires-clause-here c = each_here _ _ _ _ _ _ _ _ c.loop-one.invariant c.requires.met c.requires.here

pub loop-one-preserved : goal.loop-one-preserved
loop-one-preserved c =
    each_goes _ _ _ _ _ _ _ _ c.loop-one.invariant _ (slice_get-get_or _ _ _ c.loop-one-test.true) _ _
    c.register_met.ensures.learns _ c.register_met.ensures.steps c.in_ok-register_met.field-0 c.in_ok-register_met.was

pub returns-in_err-register_met-clause-learns : goal.returns-in_err-register_met-clause-learns
returns-in_err-register_met-clause-learns c =
    each_learns _ _ _ _ _ _ _ _ c.loop-one.invariant _ (slice_get-get_or _ _ _ c.loop-one-test.true) _ _
    c.register_met.ensures.learns _ c.register_met.ensures.steps

pub returns-in_err-register_met-clause-follows : goal.returns-in_err-register_met-clause-follows
returns-in_err-register_met-clause-follows c =
    each_stops _ _ _ _ _ _ _ _ c.loop-one.invariant _ (slice_get-get_or _ _ _ c.loop-one-test.true) _ _
    c.register_met.ensures.learns _ c.register_met.ensures.steps _ c.in_err-register_met.was _ c.from_residual.ensures.1

pub returns-clause-follows : goal.returns-clause-follows
returns-clause-follows c =
    let past = c.loop-one-test.false in
    let end = c.loop-one.auto.one-index-end in
    each_ends _ _ _ _ _ _ _ _ c.loop-one.invariant (omega (arith, past, end)) tt
