use Rattle.std.proofs.Common.{◌<◌, Some, length, ap, sym, ◌∙◌, arith}
use Rattle.std.proofs.lemmas.List.{take_all}
use Rattle.pc_inline_items.specs.Captures.{captured_id, captured_ids}
use Rattle.pc_inline_items.proofs.CaptureLemmas.{captured_more, captured_none}
use Rattle.pc_inline_items.proofs.components.captured_ids.Goals as goal

pub returns : goal.returns
returns g c =
    c.loop-variable.invariant ∙ ap (captured_ids g.V.AsVariable.variable_of c.args.ids.now c.args.captured.now)
    (take_all c.loop-variable.variable-index c.args.variables.now c.loop-variable-test.false)

pub loop-variable-init : goal.loop-variable-init
loop-variable-init g c = ap Some c.new-found.ensures

pub loop-variable-preserved : goal.loop-variable-preserved
loop-variable-preserved g c =
    let xs = c.args.variables.now in
    let within : c.loop-variable.variable-index < length xs = omega (arith, c.loop-variable-test.true) in
    ap Some c.in_ok-push.ensures.ok
    ∙ captured_more g.V.AsVariable.variable_of c.args.ids.now c.args.captured.now xs c.loop-variable.variable-index
    c.variable-item.result within c.loop-variable.found c.in-Some.id c.loop-variable.invariant
    (ap (λ v. captured_id c.args.ids.now c.args.captured.now (g.V.AsVariable.variable_of v)) (sym c.variable-item.is)
    ∙ ap (captured_id c.args.ids.now c.args.captured.now) (sym c.variable.ensures) ∙ sym c.captured_id.ensures
    ∙ c.in-Some.is)

pub returns-in_default : goal.returns-in_default
returns-in_default g c =
    let xs = c.args.variables.now in
    let within : c.loop-variable.variable-index < length xs = omega (arith, c.loop-variable-test.true) in
    captured_none g.V.AsVariable.variable_of c.args.ids.now c.args.captured.now xs c.loop-variable.variable-index
    c.variable-item.result within
    (ap (λ v. captured_id c.args.ids.now c.args.captured.now (g.V.AsVariable.variable_of v)) (sym c.variable-item.is)
    ∙ ap (captured_id c.args.ids.now c.args.captured.now) (sym c.variable.ensures) ∙ sym c.captured_id.ensures
    ∙ c.in_default.is)
