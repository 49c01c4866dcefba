use Rattle.std.proofs.Common.{sym, ◌∙◌, ap}
use Rattle.pc_types_lists.specs.Known.{resource_of}
use Rattle.pc_types_lists.proofs.KnownLemmas.{resource_of-get}
use Rattle.pc_types_lists.proofs.resources.ResourcesBuilder.lookup.Goals as goal

pub returns : goal.returns
returns c =
    c.copied.ensures ∙ c.get.ensures.value ∙ sym (resource_of-get c.self.inside.known.entries c.args.n)
    ∙ ap (λ r. resource_of r.known c.args.n) c.self.view_is
