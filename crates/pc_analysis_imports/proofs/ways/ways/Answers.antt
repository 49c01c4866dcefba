use Rattle.std.proofs.Common.{◌≤◌, ap, arith, refl, subst, sym, ◌∙◌}
use Rattle.std.specs.Prelude.{length, slice_get}
use Rattle.std.proofs.lemmas.Option.{slice_get_read}
use Rattle.pc_analysis_imports.proofs.WaysLemmas.{all_steps, export_count, step_count, ways_export, ways_step}
use Rattle.pc_analysis_imports.proofs.ways.ways.Goals as goal

pub loop-step-preserved : goal.loop-step-preserved
loop-step-preserved c =
    let k = c.loop-step.step-index in
    let xs = c.as_slice-step-items.result.now in
    let x = c.step-item.result in
    let at = sym (ap (λ ys. slice_get ys k) c.as_slice-step-items.ensures)
    ∙ slice_get_read xs (length xs) k x refl c.loop-step-test.true c.step-item.is in (
      step_count _ _ _ c.join_step.ensures ∙ c.loop-step.invariant.0,
      ways_step c.args.component.now.initializers k x _ _ at c.loop-step.invariant.1 c.join_step.ensures,
    )

pub loop-item-init : goal.loop-item-init
loop-item-init c = (
  c.loop-step.invariant.0,
  all_steps c.args.component.now.initializers c.loop-step.step-index _
      (subst (λ (ys : _). length ys ≤ c.loop-step.step-index) c.as_slice-step-items.ensures (omega (arith, c.loop-step-test.false)))
      c.loop-step.invariant.1,
)

pub loop-item-preserved : goal.loop-item-preserved
loop-item-preserved c =
    let k = c.loop-item.item-index in
    let xs = c.as_slice-item-items.result.now in
    let x = c.item-item.result in
    let at = sym (ap (λ ys. slice_get ys k) c.as_slice-item-items.ensures)
    ∙ slice_get_read xs (length xs) k x refl c.loop-item-test.true c.item-item.is in (
      export_count _ _ _ c.join_export.ensures ∙ c.loop-item.invariant.0,
      ways_export c.args.component.now.initializers c.args.component.now.export_items k x _ _ at
          c.loop-item.invariant.1 c.join_export.ensures,
    )
