use Rattle.std.proofs.Common.{◌+◌, sym, subst, ◌∙◌}
use Rattle.pc_partition.specs.Partition.{representative}
use Rattle.pc_spec_wiring.specs.Sharing.{AreRecorded}
use Rattle.pc_analysis_contexts.specs.Shared.{recorded_in}
use Rattle.pc_analysis_contexts.proofs.RecordLemmas.{more_recorded, none_recorded, own_recorded}
use Rattle.pc_analysis_contexts.proofs.vmctx.representatives.Goals as goal
use Rattle.pc_analysis_contexts.proofs.vmctx.representatives.Goals.{else-representative-import}
use Rattle.pc_analysis_contexts.proofs.vmctx.representatives.Goals.{then-representative-import+in_ok-set}

pub loop-place-init : goal.loop-place-init
loop-place-init c =
    let least = representative c.args.partition.now in
    subst (λ m. AreRecorded 0 least (recorded_in m)) (sym c.new-facts.ensures) (none_recorded least)

pub loop-place-preserved : goal.loop-place-preserved
loop-place-preserved c =
    let least = representative c.args.partition.now in
    let k = c.loop-place.place in
    let facts = c.loop-place.facts in
    let is = c.representative-representative.ensures in
    elim c.if-representative-import.branch [
      | then-representative-import+in_ok-set w ↦
          subst (λ m. AreRecorded (k + 1) least (recorded_in m)) (sym (w.facts-is ∙ w.in_ok-set.ensures.ok))
          (more_recorded least k facts c.loop-place.invariant c.representative-representative.result is
          w.if-representative-import.true)
      | else-representative-import w ↦
          subst (λ m. AreRecorded (k + 1) least (recorded_in m)) (sym w.facts-is)
          (own_recorded least k facts c.loop-place.invariant (sym is ∙ w.if-representative-import.false))
    ]
