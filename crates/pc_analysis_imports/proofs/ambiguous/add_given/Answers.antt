use Rattle.std.proofs.Common.{ap, sym, ◌∙◌, []}
use Rattle.std.specs.Prelude.{map, if◌then◌else◌}
use Rattle.pc_analysis_imports.specs.Followed.{source_of}
use Rattle.pc_analysis_imports.specs.Marked.{shown_by, with_sources}
use Rattle.pc_analysis_imports.proofs.FoldLemmas.{marked_none}
use Rattle.pc_analysis_imports.proofs.ambiguous.add_given.Goals as goal

pub returns-then-is_always_given_the_same : goal.returns-then-is_always_given_the_same
returns-then-is_always_given_the_same c =
    sym (ap (with_sources c.args.ambiguous.now)
    (ap (shown_by c.args.records.now c.args.instances.now c.args.ways.now) c.in-Static.is
    ∙ ap (λ b. if b then [] else map (source_of c.args.records.now c.args.instances.now) c.in-Static.args)
    (sym c.is_always_given_the_same.ensures ∙ c.if-is_always_given_the_same.true))
    ∙ marked_none c.args.ambiguous.now)
