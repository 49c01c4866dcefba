use Rattle.std.proofs.Common.{ap, ◌∙◌}
use Rattle.indexmap.specs.IndexMap.{keys}
use Rattle.pc_names.proofs.PlaceLemmas.{position-place_by}
use Rattle.pc_names.specs.Definitions.{place_in}
use Rattle.pc_names.proofs.entries.Entries.place_of.Goals as goal

pub returns : goal.returns
returns g c =
    c.get_index_of.ensures.index
    ∙ position-place_by (g.K.PartialEq.eq c.args.key.now) (keys c.self.inside.entries)
    ∙ ap (λ es. place_in g.K.PartialEq.eq es c.args.key.now) c.self.view_is
