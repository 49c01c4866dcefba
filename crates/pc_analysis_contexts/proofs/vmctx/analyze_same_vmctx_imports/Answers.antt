use Rattle.std.proofs.Common.{◌≡◌, ◌<◌, length, refl, arith}
use Rattle.std.specs.Prelude.{Some, slice_get}
use Rattle.std.proofs.lemmas.List.{length-map}
use Rattle.std.proofs.lemmas.Option.{slice_get_read}
use Rattle.pc_info.specs.Modules.{module_view}
use Rattle.pc_analysis_contexts.proofs.RecordLemmas.{all_written, few_kept, more_written}
use Rattle.pc_analysis_contexts.proofs.vmctx.analyze_same_vmctx_imports.Goals as goal

pub write_facts_at-requires-clause-few : goal.write_facts_at-requires-clause-few
write_facts_at-requires-clause-few c =
    few_kept c.args.modules.now c.loop-place.modules c.loop-place.invariant.kept c.requires.few

pub loop-place-preserved : goal.loop-place-preserved
loop-place-preserved c =
    let old = c.args.modules.now in
    let k = c.loop-place.place in
    let ps = c.in_ok-partitions.partitions.items in
    let p = c.index.result.now in
    let within : k < length ps =
    omega (
      arith,
      c.loop-place-test.true,
      c.len-place-end.ensures,
      c.in_ok-partitions.ensures.count,
      length-map old module_view,
    ) in
    let at : slice_get ps k ≡ Some p = slice_get_read ps (length ps) k p refl within c.index.ensures in
    more_written c.args.dfg.now old k p c.loop-place.modules c.write_facts_at.new.modules c.loop-place.invariant
    c.in_ok-write_facts_at.ensures.ok (λ r held. c.in_ok-partitions.ensures.each k r p held at)

pub returns-clause-recorded : goal.returns-clause-recorded
returns-clause-recorded c =
    all_written c.args.dfg.now c.args.modules.now c.loop-place.place c.loop-place.modules c.loop-place.invariant
    (omega (arith, c.loop-place-test.false, c.len-place-end.ensures))
