use Rattle.std.proofs.Common.{ap, sym, ◌∙◌, List, ℕ}
use Rattle.pc_info.specs.declared.core_def.CoreDef.{CoreDef}
use Rattle.pc_analysis_imports.specs.Followed.{source_of}
use Rattle.pc_analysis_imports.specs.Marked.{with_source}
use Rattle.pc_analysis_imports.proofs.FoldLemmas.{marked_next, marked_none}
use Rattle.pc_analysis_imports.proofs.ambiguous.add_named.Goals as goal

pub loop-place-init : goal.loop-place-init
loop-place-init c = sym (marked_none c.args.ambiguous.now)

pub loop-place-preserved : goal.loop-place-preserved
loop-place-preserved c =
    marked_next (λ (d : List ℕ × CoreDef). source_of c.args.records.now c.args.instances.now d.1) c.args.defs.now
    c.loop-place.place (c.entry_at.result.0.now, c.entry_at.result.1.now) _ _ _ c.entry_at.ensures
    c.loop-place.invariant (c.in_ok-add.ensures ∙ ap (with_source c.loop-place.ambiguous) c.of_def.ensures)
