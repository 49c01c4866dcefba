use Rattle.std.proofs.Common.{sym, arith, ◌∙◌}
use Rattle.pc_inline_state.proofs.AddsLemmas.{adds_both, everywhere_few}
use Rattle.pc_inline_canon.proofs.StepLemmas.{steps_lacking}
use Rattle.pc_inline_resources.proofs.StepLemmas.{resource_goes, resource_here, resource_unfound, resource_untyped}
use Rattle.pc_inline_resources.proofs.declare.step_resource.Goals as goal

pub returns-then-not-is_resource_type-clause-steps : goal.returns-then-not-is_resource_type-clause-steps
returns-then-not-is_resource_type-clause-steps c =
    resource_untyped _ _ _ _ _ _ _ _ _ (sym c.is_resource_type.ensures ∙ c.if-not-is_resource_type.true)

pub returns-in_err-dtor-clause-steps : goal.returns-in_err-dtor-clause-steps
returns-in_err-dtor-clause-steps c =
    resource_unfound _ _ _ _ _ _ _ (sym c.is_resource_type.ensures ∙ c.if-not-is_resource_type.false) _ _ _ _
    c.from_residual.ensures.1 c.in_err-dtor.ensures

pub returns-in_err-r-clause-adds : goal.returns-in_err-r-clause-adds
returns-in_err-r-clause-adds c = everywhere_few _ _ _ c.declare.ensures.adds

pub returns-in_err-r-clause-steps : goal.returns-in_err-r-clause-steps
returns-in_err-r-clause-steps c =
    steps_lacking _ _ _ _ _ _ _ _ _ c.from_residual-in_err-r.ensures.1 c.in_err-r.ensures.lacks

pub register-requires-clause-here : goal.register-requires-clause-here
register-requires-clause-here c =
    resource_here _ _ c.args.id c.args.rep c.args.dtor _ _ _ c.in_ok-dtor.ensures _ c.in_ok-r.ensures.ok
    c.declare.ensures.keeps c.in_ok-r.ensures.ordered c.requires.here.0 c.requires.here.1

pub returns-clause-adds : goal.returns-clause-adds
returns-clause-adds c =
    adds_both _ 4 0 4 _ _ _ (omega arith) (everywhere_few _ _ _ c.declare.ensures.adds) c.register.ensures.adds

pub returns-clause-steps : goal.returns-clause-steps
returns-clause-steps c =
    resource_goes _ _ c.args.id c.args.rep c.args.dtor _ _ _ c.in_ok-dtor.ensures
    (sym c.is_resource_type.ensures ∙ c.if-not-is_resource_type.false) _ c.in_ok-r.ensures.ok c.declare.ensures.keeps
    c.in_ok-r.ensures.ordered _ c.in_ok-r.ensures.key _ _ _ c.register.ensures.steps
