use Rattle.std.proofs.Common.{ap, ◌∙◌}
use Rattle.std.specs.Prelude.{length}
use Rattle.pc_analysis_imports.specs.Marked.{none_marked, shown_in_all, with_sources}
use Rattle.pc_analysis_imports.proofs.known.find_by.Goals as goal

pub returns : goal.returns
returns c = record {
  marks = c.in_ok-ambiguous.ambiguous;
  are_marks = c.in_ok-ambiguous.ensures
      ∙ ap (λ steps. with_sources (none_marked (length c.args.records.now))
      (shown_in_all c.args.records.now c.args.instances.now c.args.ways.now steps)) c.as_slice-steps.ensures;
  imports_count = c.in_ok-imports.ensures.count;
  are_imports = c.in_ok-imports.ensures.imports;
  are_hidden = c.into_modules.ensures;
}
