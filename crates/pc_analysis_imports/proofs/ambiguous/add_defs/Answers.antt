use Rattle.std.proofs.Common.{ap, refl, sym, ◌∙◌}
use Rattle.std.specs.Prelude.{length}
use Rattle.std.proofs.lemmas.Option.{slice_get_read}
use Rattle.pc_analysis_imports.specs.Followed.{source_of}
use Rattle.pc_analysis_imports.specs.Marked.{with_source}
use Rattle.pc_analysis_imports.proofs.FoldLemmas.{marked_next, marked_none}
use Rattle.pc_analysis_imports.proofs.ambiguous.add_defs.Goals as goal

pub loop-def-init : goal.loop-def-init
loop-def-init c = sym (marked_none c.args.ambiguous.now)

pub loop-def-preserved : goal.loop-def-preserved
loop-def-preserved c =
    let xs = c.args.defs.now in
    let k = c.loop-def.def-index in
    let x = c.def-item.result in
    marked_next (source_of c.args.records.now c.args.instances.now) xs k x _ _ _
    (slice_get_read xs (length xs) k x refl c.loop-def-test.true c.def-item.is)
    c.loop-def.invariant (c.in_ok-add.ensures ∙ ap (with_source c.loop-def.ambiguous) c.of_def.ensures)
