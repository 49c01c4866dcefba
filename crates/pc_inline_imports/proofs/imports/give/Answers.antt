use Rattle.std.proofs.Common.{ap, arith, sym, ◌∙◌}
use Rattle.pc_types.specs.declared.error.Unsupported.TheVariants.{ComponentImport}
use Rattle.pc_inline_canon.proofs.PassedLemmas.{passed_lacking, passed_unfed}
use Rattle.pc_inline_canon.proofs.StepLemmas.{steps_on, steps_stuck}
use Rattle.pc_inline_state.specs.declared.error.ItemFault.TheVariants as item_fault
use Rattle.pc_inline_state.proofs.AddsLemmas.{adds_weaken}
use Rattle.pc_inline_state.proofs.StateLemmas.{keeps_trans}
use Rattle.pc_inline_imports.proofs.MomentLemmas.{component_refused, given_goes, given_undeclared, learnt_named}
use Rattle.pc_inline_imports.proofs.MomentLemmas.{learnt_undeclared, prepared_few}
use Rattle.pc_inline_imports.proofs.imports.give.Goals as goal

pub returns-in_err-learnt-clause-steps : goal.returns-in_err-learnt-clause-steps
returns-in_err-learnt-clause-steps c numbered =
    passed_lacking _ _ _ _ _ _ _ _ _ c.from_residual.ensures.1 c.in_err-learnt.ensures.err

pub returns-in_err-learnt-clause-adds : goal.returns-in_err-learnt-clause-adds
returns-in_err-learnt-clause-adds c = adds_weaken _ _ _ _ _ (omega arith) c.learn.ensures.adds

pub returns-then-is_component-clause-steps : goal.returns-then-is_component-clause-steps
returns-then-is_component-clause-steps c numbered =
    steps_stuck _ _ _ _ _ _ _ (item_fault.Unsupported ComponentImport) (λ now at.
    component_refused _ _ c.args.entity _ _ _ _ _ c.in_ok-learnt.ensures.learns now at c.args.name.now c.requires.named
    c.requires.given (sym c.is_component.ensures ∙ c.if-is_component.true))

pub returns-then-is_component-clause-adds : goal.returns-then-is_component-clause-adds
returns-then-is_component-clause-adds c = adds_weaken _ _ _ _ _ (omega arith) c.learn.ensures.adds

pub push_given-requires-clause-sound : goal.push_given-requires-clause-sound
push_given-requires-clause-sound c = c.in_ok-learnt.ensures.learns.sound c.requires.here.1.sound

pub push_given-requires-clause-undeclared : goal.push_given-requires-clause-undeclared
push_given-requires-clause-undeclared c =
    learnt_undeclared _ _ c.args.entity _ _ _ _ _ c.in_ok-learnt.ensures.learns c.requires.undeclared

pub push_given-requires-clause-named : goal.push_given-requires-clause-named
push_given-requires-clause-named c =
    learnt_named _ _ c.args.entity _ _ _ _ _ c.in_ok-learnt.ensures.learns _ c.requires.here.1

pub returns-in_err-id-clause-adds : goal.returns-in_err-id-clause-adds
returns-in_err-id-clause-adds c =
    prepared_few _ _ c.args.entity _ _ _ _ _ c.in_ok-learnt.ensures.learns _ c.push_given.ensures.adds
    (keeps_trans _ _ _ c.learn.ensures.keeps c.push_given.ensures.keeps)

pub returns-in_err-id-clause-steps : goal.returns-in_err-id-clause-steps
returns-in_err-id-clause-steps c numbered =
    passed_lacking _ _ _ _ _ _ _ _ _ c.from_residual-in_err-id.ensures.1 c.in_err-id.ensures.err

pub returns-in_err-insert_first-clause-adds : goal.returns-in_err-insert_first-clause-adds
returns-in_err-insert_first-clause-adds c =
    prepared_few _ _ c.args.entity _ _ _ _ _ c.in_ok-learnt.ensures.learns _ c.push_given.ensures.adds
    (keeps_trans _ _ _ c.learn.ensures.keeps c.push_given.ensures.keeps)

pub returns-in_err-insert_first-clause-steps : goal.returns-in_err-insert_first-clause-steps
returns-in_err-insert_first-clause-steps c numbered =
    passed_unfed _ _ _ _ _ _ _ _ c.from_residual-in_err-insert_first.ensures.1

pub returns-clause-adds : goal.returns-clause-adds
returns-clause-adds c =
    prepared_few _ _ c.args.entity _ _ _ _ _ c.in_ok-learnt.ensures.learns _ c.push_given.ensures.adds
    (keeps_trans _ _ _ c.learn.ensures.keeps c.push_given.ensures.keeps)

pub returns-clause-undeclared : goal.returns-clause-undeclared
returns-clause-undeclared c =
    given_undeclared _ _ c.args.entity _ _ _ _ _ c.in_ok-learnt.ensures.learns c.args.name.now c.in_ok-id.id _
    c.in_ok-id.ensures.gives c.requires.undeclared

pub returns-clause-steps : goal.returns-clause-steps
returns-clause-steps c numbered =
    steps_on _ _ _ _ _ _ _ tt (λ now at.
    given_goes _ _ c.args.entity _ _ _ _ _ c.in_ok-learnt.ensures.learns now at c.args.name.now c.in_ok-id.id _
    c.in_ok-id.ensures.gives (keeps_trans _ _ _ c.learn.ensures.keeps c.push_given.ensures.keeps) c.requires.named
    c.requires.given (sym c.is_component.ensures ∙ c.if-is_component.false) c.requires.input.table c.args.number numbered _
    (ap (λ xs. record c.learn.new.frame { arguments = xs }) c.in_ok-insert_first.ensures.ok))
