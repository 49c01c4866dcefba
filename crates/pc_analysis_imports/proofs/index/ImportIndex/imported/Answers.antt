use Rattle.std.proofs.Common.{ap, length, ◌∙◌}
use Rattle.pc_types.specs.Record.{imported}
use Rattle.pc_analysis_imports.proofs.FollowedLemmas.{places_count}
use Rattle.pc_analysis_imports.proofs.index.ImportIndex.imported.Goals as goal

pub returns : goal.returns
returns c =
    let kind = c.args.kind in
    c.count.ensures
    ∙ ap length (c.self.invariant kind)
    ∙ places_count kind 0 c.self.inside.core_module.now.imports
    ∙ ap (λ r. imported r kind) c.self.view_is
