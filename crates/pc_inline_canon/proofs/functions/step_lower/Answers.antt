use Rattle.std.proofs.Common.{sym, ◌∙◌}
use Rattle.pc_inline_canon.proofs.ConvertedLemmas.{lower_adds, lower_keeps, lower_trail}
use Rattle.pc_inline_canon.proofs.GotLemmas.{got_by}
use Rattle.pc_inline_canon.proofs.LowerLemmas.{lower_callee, lower_lacks, lower_misses, lower_misses_option, lower_ready}
use Rattle.pc_inline_canon.proofs.LowerLemmas.{lower_steps}
use Rattle.pc_inline_canon.proofs.PassedLemmas.{passed_lacking, passed_unfed}
use Rattle.pc_inline_state.proofs.GainedLemmas.{current_begun}
use Rattle.pc_inline_canon.proofs.functions.step_lower.Goals as goal

pub returns-in_err-ty-clause-steps : goal.returns-in_err-ty-clause-steps
returns-in_err-ty-clause-steps c =
    lower_lacks _ _ _ _ _ _ _ _ _ _ _ _ c.from_residual.ensures.1 c.in_err-ty.ensures.err

pub returns-in_default-clause-steps : goal.returns-in_default-clause-steps
returns-in_default-clause-steps c =
    lower_misses _ _ _ _ _ _ _ _ _ _ c.in_ok-ty.ensures.converts _ _ c.in_ok-ty.ensures.are
    (got_by _ _ _ c.as_slice.ensures _ _ c.at.ensures c.in_default.is)

pub returns-in_default-options_in-clause-steps : goal.returns-in_default-options_in-clause-steps
returns-in_default-options_in-clause-steps c =
    lower_misses_option _ _ _ _ _ _ _ _ _ _ c.in_ok-ty.ensures.converts _ _ c.in_ok-ty.ensures.are _
    (got_by _ _ _ c.as_slice.ensures _ _ c.at.ensures c.in-Some.is)
    (sym c.options_in.ensures ∙ c.in_default-options_in.is)

pub lower-requires : goal.lower-requires
lower-requires c =
    let ready = lower_ready _ _ c.args.func c.args.ty c.args.core c.args.opts.now _ c.args.frame.now _ _
    c.in_ok-ty.ensures.converts _ _ c.in_ok-ty.ensures.are c.requires.here c.in-Some.func
    (got_by _ _ _ c.as_slice.ensures _ _ c.at.ensures c.in-Some.is) c.in-Some-options_in.options
    (sym c.options_in.ensures ∙ c.in-Some-options_in.is) c.in-Some-callee_of.callee
    (sym c.callee_of.ensures ∙ c.in-Some-callee_of.is) in
    record { sound = ready.0; there = ready.1; options = ready.2 }

pub unreachable-requires : goal.unreachable-requires
unreachable-requires c =
    lower_callee _ _ c.args.func c.args.ty c.args.core c.args.opts.now _ c.args.frame.now _ _
    c.in_ok-ty.ensures.converts _ _ c.in_ok-ty.ensures.are c.requires.here c.in-Some.func
    (got_by _ _ _ c.as_slice.ensures _ _ c.at.ensures c.in-Some.is)
    (sym c.callee_of.ensures ∙ c.in_default-callee_of.is)

pub returns-in_err-id-clause-steps : goal.returns-in_err-id-clause-steps
returns-in_err-id-clause-steps c =
    passed_lacking _ _ _ _ _ _ _ _ _ c.from_residual-in_err-id.ensures.1 c.in_err-id.ensures.err

pub returns-in_err-push-clause-steps : goal.returns-in_err-push-clause-steps
returns-in_err-push-clause-steps c = passed_unfed _ _ _ _ _ _ _ _ c.from_residual-in_err-push.ensures.1

pub returns-clause-steps : goal.returns-clause-steps
returns-clause-steps c =
    lower_steps _ _ _ _ _ _ _ _ _ _ c.in_ok-ty.ensures.converts _ _ c.in_ok-ty.ensures.are _
    (got_by _ _ _ c.as_slice.ensures _ _ c.at.ensures c.in-Some.is) _
    (sym c.options_in.ensures ∙ c.in-Some-options_in.is) c.in-Some-callee_of.callee
    (sym c.callee_of.ensures ∙ c.in-Some-callee_of.is) c.lower.new.state c.in_ok-id.id c.in_ok-id.ensures.lowers _
    (λ i. record c.args.frame.now {
      core_funcs = c.in_ok-push.ensures.ok i;
      converted = c.function_types.new.converted;
    })
    tt

pub returns-in_err-id-clause-keeps : goal.returns-in_err-id-clause-keeps
returns-in_err-id-clause-keeps c = lower_keeps _ _ _ _ _ _ c.in_ok-ty.ensures.converts c.lower.ensures.keeps

pub returns-in_err-push-clause-keeps : goal.returns-in_err-push-clause-keeps
returns-in_err-push-clause-keeps c = lower_keeps _ _ _ _ _ _ c.in_ok-ty.ensures.converts c.lower.ensures.keeps

pub returns-clause-keeps : goal.returns-clause-keeps
returns-clause-keeps c = lower_keeps _ _ _ _ _ _ c.in_ok-ty.ensures.converts c.lower.ensures.keeps

pub returns-in_err-id-clause-adds : goal.returns-in_err-id-clause-adds
returns-in_err-id-clause-adds c = lower_adds _ _ _ _ c.function_types.ensures.adds c.lower.ensures.adds

pub returns-in_err-push-clause-adds : goal.returns-in_err-push-clause-adds
returns-in_err-push-clause-adds c = lower_adds _ _ _ _ c.function_types.ensures.adds c.lower.ensures.adds

pub returns-clause-adds : goal.returns-clause-adds
returns-clause-adds c = lower_adds _ _ _ _ c.function_types.ensures.adds c.lower.ensures.adds

pub returns-in_err-id-clause-trail : goal.returns-in_err-id-clause-trail
returns-in_err-id-clause-trail c =
    lower_trail _ c.args.state.now c.function_types.new.state c.lower.new.state _ _ _ c.in_ok-ty.ensures.converts c.lower.ensures.resources

pub returns-in_err-push-clause-trail : goal.returns-in_err-push-clause-trail
returns-in_err-push-clause-trail c =
    lower_trail _ c.args.state.now c.function_types.new.state c.lower.new.state _ _ _ c.in_ok-ty.ensures.converts c.lower.ensures.resources

pub returns-clause-trail : goal.returns-clause-trail
returns-clause-trail c =
    lower_trail _ c.args.state.now c.function_types.new.state c.lower.new.state _ _ _ c.in_ok-ty.ensures.converts c.lower.ensures.resources

-- what a step asks for is there at a point
pub function_types-requires : goal.function_types-requires
function_types-requires c =
    let at = c.requires.here.1 in
    record {
      sound = c.requires.input.table;
      numbers = at.sound.numbers;
      converted = at.converted;
      begun = current_begun _ _ _ _ _ at;
    }
